-- Commands that processes send to the command line interpreter: function 150, and function 47, whose process ends then. (MP/M II
-- Programmer's Guide, "Function 150: Send CLI Command", "Function 47: Chain to Program".)
use Rattle.std.specs.Prelude.{ℕ, ◌+◌, ◌*◌, ◌%◌, ◌==◌, ◌&&◌, ◌||◌, Bool, nat_lt, if◌then◌else◌, List, ◌∷◌, ◌++◌, length, Some}
use Rattle.mpm_base.specs.Lists.{zeros, in_width}
use Rattle.mpm_base.specs.Calls.{Taken, Answer, answering, byte_in}
use Rattle.mpm_base.specs.declared.call.Outcome.{Outcome}
use Rattle.mpm_base.specs.declared.call.Outcome.TheVariants.{Done, Held, Retry, Ended}
use Rattle.mpm_base.specs.declared.functions.TheConstants.{WRITE_QUEUE, SEND_CLI_COMMAND, CHAIN_TO_PROGRAM}
use Rattle.mpm_procs.specs.Table.{lives, Lives, process_in, call_of}
use Rattle.mpm_procs.specs.declared.process.Process.{Process}
use Rattle.mpm_dispatcher.specs.Dispatch.{IsReady}
use Rattle.mpm_kernel.specs.Kernel.{Kernel}
use Rattle.mpm_kernel.specs.Called.{Called, valued, failure_code}
use Rattle.mpm_kernel.specs.Calls.{called}
use Rattle.mpm_kernel.specs.Consoling.{given}
use Rattle.mpm_residents.specs.Natives.{native_in, interprets_if_there}
use Rattle.mpm_system.specs.declared.system.System.{System}
use Rattle.mpm_system.specs.Whole.{IsWhole}
use Rattle.mpm_system.specs.Calling.{with_kept}

-- a process of a whole system is ready, and may send a command
pub record IsReadyWithin (p : ℕ) (system : System) : Type 0 where
  pub whole : IsWhole system
  pub lives : Lives system.kernel.dispatcher.procs p
  pub ready : IsReady system.kernel.dispatcher p

-- a message of the command queue has 130 bytes: the user and the drive in one, the console, the text, and zeros; what function 47
-- sends has the user, the drive and the console of its process
abbrev pub chained : Process → List ℕ → List ℕ
chained process text = (16 * (process.user % 16) + process.drive % 16) ∷ process.console ∷ in_width 128 text

-- the call as it is written to the command queue, which is queue 0, so that its pointer is 1: the message after the block
abbrev pub framed : List ℕ → Taken → Taken
framed message call = record { function = WRITE_QUEUE; word = call.word; dma = call.dma; fcb = zeros 36; bytes = 1 ∷ 0 ∷ (zeros 10 ++ message) }

-- the call that a process keeps has another function
abbrev pub renamed : ℕ → ℕ → Kernel → Kernel
renamed function p kernel = with_kept p (record (call_of kernel.dispatcher.procs p) { function = function }) kernel

-- where the process that sent a command owns the console of the command, the interpreter, in slot 0, becomes its owner
abbrev pub console_sent : ℕ → Kernel → ℕ
console_sent p kernel = byte_in (call_of kernel.dispatcher.procs p) 13

abbrev pub may_pass : ℕ → Kernel → Bool
may_pass p kernel = nat_lt (console_sent p kernel) (length kernel.units.consoles) && lives kernel.dispatcher.procs 0

abbrev pub passed : ℕ → Kernel → Kernel
passed p kernel = if may_pass p kernel then given (console_sent p kernel) (Some p) (Some 0) kernel else kernel

-- so it does in the step in which the message goes in
abbrev pub passed_after : Outcome → Answer → ℕ → Kernel → Kernel
passed_after Done reply p kernel = if reply.hl == 0 then passed p kernel else kernel
passed_after Held reply p kernel = kernel
passed_after Retry reply p kernel = kernel
passed_after Ended reply p kernel = kernel

-- a message goes into the command queue, or the call is held while that is full; the process keeps the call by its own function
unfoldable pub sent : ℕ → List ℕ → ℕ → Kernel → Called
sent function message p kernel =
    let done = called p (with_kept p (framed message (call_of kernel.dispatcher.procs p)) kernel) in
    record done { kernel = passed_after done.outcome done.reply p (renamed function p done.kernel) }

-- a command line interpreter acts in the lowest slot
abbrev pub has_interpreter : System → Bool
has_interpreter system = interprets_if_there (native_in system.residents 0)

-- function 150: a console that isn't there is refused, and so is every command where no interpreter acts
abbrev pub may_send : Bool → Taken → Kernel → Bool
may_send interprets call kernel = interprets && nat_lt (byte_in call 1) (length kernel.units.consoles)

unfoldable pub sending : Bool → ℕ → Kernel → Called
sending interprets p kernel =
    let call = call_of kernel.dispatcher.procs p in
    if may_send interprets call kernel then sent SEND_CLI_COMMAND (in_width 130 call.bytes) p kernel else valued failure_code kernel

-- function 47: its process ends as the message goes in, and at once where no interpreter acts
abbrev pub ended_if_done : Outcome → Outcome
ended_if_done Done = Ended
ended_if_done Held = Held
ended_if_done Retry = Retry
ended_if_done Ended = Ended

unfoldable pub chaining : Bool → ℕ → Kernel → Called
chaining interprets p kernel =
    let message = chained (process_in kernel.dispatcher.procs p) (call_of kernel.dispatcher.procs p).bytes in
    let done = sent CHAIN_TO_PROGRAM message p kernel in
    if interprets then record done { outcome = ended_if_done done.outcome } else record { kernel = kernel; outcome = Ended; reply = answering 0 }

-- a command that was held went in, as its call was completed: by function 150, or by function 47
abbrev pub chains : ℕ → Kernel → Bool
chains p kernel = (call_of kernel.dispatcher.procs p).function == CHAIN_TO_PROGRAM

abbrev pub is_command : ℕ → Kernel → Bool
is_command p kernel = (call_of kernel.dispatcher.procs p).function == SEND_CLI_COMMAND || chains p kernel

abbrev pub let_in : ℕ → Kernel → Kernel
let_in p kernel = if is_command p kernel then passed p kernel else kernel
