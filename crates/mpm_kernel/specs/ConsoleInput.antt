-- The calls that read from a console and write to it. Each attaches the caller's console first. (MP/M II Programmer's Guide,
-- "Function 1: Console Input", "Function 2: Console Output", "Function 3: Raw Console Input", "Function 4: Raw Console
-- Output", "Function 6: Direct Console I/O", "Function 9: Print String", "Function 10: Read Console Buffer", "Function 11: Get
-- Console Status".)
use Rattle.std.specs.Prelude.{ℕ, ◌<◌, Bool, true, false, List, length, Option, Some, None, ◌&&◌, ◌==◌, nat_lt, if◌then◌else◌}
use Rattle.mpm_base.specs.Calls.{Taken, answering, byte_in}
use Rattle.mpm_base.specs.declared.call.Outcome.TheVariants.{Done, Retry}
use Rattle.mpm_base.specs.declared.functions.TheConstants.{CONSOLE_INPUT, RAW_CONSOLE_INPUT, DIRECT_CONSOLE_IO, READ_CONSOLE_BUFFER, GET_CONSOLE_STATUS}
use Rattle.mpm_procs.specs.Table.{Lives, process_in, call_of}
use Rattle.mpm_procs.specs.declared.process.Process.{Process}
use Rattle.mpm_consoles.specs.Console.{first_key}
use Rattle.mpm_consoles.specs.Consoles.{console_at}
use Rattle.mpm_consoles.specs.Handling.{may_attach, raw_set, first_taken}
use Rattle.mpm_base.specs.declared.unit.Unit.TheVariants.{Console as ConsoleUnit}
use Rattle.mpm_consoles.specs.declared.modes.TheConstants.{POLL_KEY, TELL_STATUS, AWAIT_KEY}
pub use Rattle.mpm_consoles.specs.Modes.{is_cooked, is_raw}
unfoldable pub use Rattle.mpm_consoles.specs.Modes.{writes}
use Rattle.mpm_line_input.specs.Echoes.{key_echo}
use Rattle.mpm_line_input.specs.Keys.{line_after}
use Rattle.mpm_line_input.specs.Lines.{so_far, stored, is_full, ends, written_by, line_end, line_answer}
use Rattle.mpm_kernel.specs.Kernel.{Kernel, IsConsole, with_changed}
use Rattle.mpm_kernel.specs.Columns.{column_of}
use Rattle.mpm_kernel.specs.Called.{Called, valued, done, low_parameter}
use Rattle.mpm_kernel.specs.Consoling.{attaching, retried, awaited, echoed}

-- a console is made raw, or not, if it is at all
abbrev pub raw_if : Bool → ℕ → Bool → Kernel → Kernel
raw_if b console raw kernel =
    record kernel { units = if b then raw_set kernel.units console raw else kernel.units }

-- the oldest key is taken
abbrev pub key_taken : ℕ → Kernel → Kernel
key_taken console kernel = record kernel { units = first_taken kernel.units console }

abbrev pub next_key : ℕ → Kernel → Option ℕ
next_key console kernel = first_key (console_at kernel.units console)

abbrev pub has_key : ℕ → Kernel → Bool
has_key console kernel = nat_lt 0 (length (console_at kernel.units console).keys)

-- function 1 shows the key that it takes
abbrev pub key_shown : ℕ → ℕ → Kernel → Kernel
key_shown key console kernel = echoed console (key_echo key (column_of kernel console)) kernel

unfoldable pub shown_key : Option ℕ → ℕ → ℕ → Kernel → Called
shown_key None p console kernel = awaited p console true kernel
shown_key (Some key) p console kernel = valued key (key_shown key console (key_taken console kernel))

-- function 3, and 6 with FDh
unfoldable pub read_key : Option ℕ → ℕ → ℕ → Kernel → Called
read_key None p console kernel = awaited p console true kernel
read_key (Some key) p console kernel = valued key (key_taken console kernel)

-- function 6 with FFh
unfoldable pub polled_key : Option ℕ → ℕ → Kernel → Called
polled_key None console kernel = done kernel
polled_key (Some key) console kernel = valued key (key_taken console kernel)

unfoldable pub direct : Taken → ℕ → ℕ → Kernel → Called
direct call p console kernel =
    if low_parameter call == POLL_KEY then polled_key (next_key console kernel) console kernel
    else (if low_parameter call == TELL_STATUS then valued (if has_key console kernel then 255 else 0) kernel
    else (if low_parameter call == AWAIT_KEY then read_key (next_key console kernel) p console kernel
    else (done kernel)))

-- function 10: a line is read, a key in each step at the gate; the process keeps the line so far
abbrev pub line_of : Process → List ℕ
line_of process = so_far process.line process.line_length

abbrev pub keeping : List ℕ → Process → Process
keeping line process = record process { line = stored line process.line; line_length = length line }

-- the greatest length is the first byte of the buffer
abbrev pub greatest : Taken → ℕ
greatest call = byte_in call 0

-- a line ends, and the process keeps none
unfoldable pub line_done : Taken → ℕ → Kernel → Called
line_done call p kernel =
    let process = process_in kernel.dispatcher.procs p in
    record {
      kernel = with_changed kernel p (record process { line_length = 0 });
      outcome = Done;
      reply = line_answer (line_of process) call.word;
    }

-- a key that was taken joins the line, or changes it; the line goes on or ends
unfoldable pub key_joined : Taken → ℕ → ℕ → ℕ → Kernel → Kernel
key_joined call p console key kernel =
    let process = process_in kernel.dispatcher.procs p in
    echoed console (written_by (line_of process) (greatest call) key)
    (with_changed kernel p (keeping (line_after (line_of process) key) process))

unfoldable pub line_with : ℕ → Taken → ℕ → ℕ → Kernel → Called
line_with key call p console kernel =
    let afterwards = key_joined call p console key kernel in
    if ends (line_of (process_in kernel.dispatcher.procs p)) (greatest call) key then line_done call p afterwards
    else (record { kernel = afterwards; outcome = Retry; reply = answering 0 })

abbrev pub line_by : Option ℕ → Taken → ℕ → ℕ → Kernel → Called
line_by None call p console kernel = awaited p console true kernel
line_by (Some key) call p console kernel = line_with key call p console (key_taken console kernel)

unfoldable pub line_read : Taken → ℕ → ℕ → Kernel → Called
line_read call p console kernel =
    if is_full (process_in kernel.dispatcher.procs p).line_length (greatest call) then line_done call p (echoed console line_end kernel)
    else (line_by (next_key console kernel) call p console kernel)

-- the caller owns the console, and output isn't stopped where it writes; what functions 2, 4, 6 and 9 write comes after this
unfoldable pub console_served : Taken → ℕ → ℕ → Kernel → Called
console_served call p console kernel =
    if call.function == CONSOLE_INPUT then shown_key (next_key console kernel) p console kernel
    else (if call.function == RAW_CONSOLE_INPUT then read_key (next_key console kernel) p console kernel
    else (if call.function == DIRECT_CONSOLE_IO then direct call p console kernel
    else (if call.function == READ_CONSOLE_BUFFER then line_read call p console kernel
    else (if call.function == GET_CONSOLE_STATUS then valued (if has_key console kernel then 1 else 0) kernel
    else (done kernel)))))

-- output waits until it isn't stopped any more
unfoldable pub unless_stopped : Taken → ℕ → ℕ → Kernel → Called
unless_stopped call p console kernel =
    if writes call && (console_at kernel.units console).stopped then awaited p console false kernel
    else (console_served call p console (raw_if (is_raw call.function) console true kernel))

unfoldable pub console_called : Taken → ℕ → Kernel → Called
console_called call p kernel =
    let console = (process_in kernel.dispatcher.procs p).console in
    let afterwards = attaching p (ConsoleUnit console) true kernel in
    if may_attach kernel.units p (ConsoleUnit console)
    then unless_stopped call p console (raw_if (is_cooked call.function) console false afterwards)
    else (retried p afterwards)

-- a key may join the line that a living process keeps: there is room for it
pub record MayJoinLine (p console : ℕ) (kernel : Kernel) : Type 0 where
  pub lives : Lives kernel.dispatcher.procs p
  pub has : IsConsole kernel console
  pub room : (process_in kernel.dispatcher.procs p).line_length < greatest (call_of kernel.dispatcher.procs p)
