-- Consoles and printers: attached, detached, changed and assigned by processes, and the keys that come to consoles. (MP/M II
-- Programmer's Guide, "Function 146: Attach Console", "Function 147: Detach Console", "Function 148: Set Console", "Function
-- 149: Assign Console", "Function 153: Get Console Number", "Function 158: Attach List", "Function 159: Detach List",
-- "Function 160: Set List", "Function 161: Conditional Attach List", "Function 162: Conditional Attach Console", "Function 164:
-- Get List Number"; User's Guide, control characters of a console.)
use Rattle.std.specs.Prelude.{ℕ, Bool, true, false, not, [], ◌∷◌, List, length, Option, Some, None, ◌&&◌, ◌||◌, ◌==◌, nat_lt, is_some, ⊤, IfSome, if◌then◌else◌}
use Rattle.mpm_base.specs.Calls.{Taken, answering, byte_in, name_at}
use Rattle.mpm_base.specs.declared.call.Outcome.TheVariants.{Retry}
use Rattle.mpm_base.specs.declared.functions.TheConstants.{LIST_OUTPUT, ATTACH_CONSOLE, DETACH_CONSOLE, SET_CONSOLE, ASSIGN_CONSOLE, GET_CONSOLE_NUMBER, ATTACH_LIST, DETACH_LIST, SET_LIST, CONDITIONAL_ATTACH_LIST, CONDITIONAL_ATTACH_CONSOLE, GET_LIST_NUMBER}
use Rattle.mpm_procs.specs.Table.{Table, Lives, process_in}
use Rattle.mpm_procs.specs.declared.process.Process.{Process}
pub use Rattle.mpm_procs.specs.Finding.{is_called, named}
use Rattle.mpm_consoles.specs.Consoles.{console_at, owner_of, waits_for}
use Rattle.mpm_consoles.specs.Handling.{may_attach, unit_attached, console_assigned, unit_detached, heir_of, keyed, key_answer, gate_wait_begun}
use Rattle.mpm_consoles.specs.declared.keys.KeyDone.{KeyDone}
use Rattle.mpm_consoles.specs.declared.keys.KeyDone.TheVariants.{Stored, Dropped, Wakes, Aborts, Passes, Nothing}
use Rattle.mpm_base.specs.declared.unit.Unit.{Unit}
use Rattle.mpm_base.specs.declared.unit.Unit.TheVariants.{Console as ConsoleUnit, Printer as PrinterUnit}
use Rattle.mpm_kernel.specs.Kernel.{Kernel, is_resident, with_changed, dispatched}
use Rattle.mpm_dispatcher.specs.Dispatch.{descheduled, made_ready}
use Rattle.mpm_kernel.specs.Columns.{spoke}
use Rattle.mpm_kernel.specs.Called.{Called, valued, done, low_parameter, failure_code, CallRow, row, functions_of, done_by}

-- a call isn't done: its process is ready no more, and takes the step at its gate again once it is
unfoldable pub retried : ℕ → Kernel → Called
retried p kernel = record { kernel = dispatched (descheduled p) kernel; outcome = Retry; reply = answering 0 }

-- a process attaches a unit, or waits for it, if it may and another owns the unit
abbrev pub attaching : ℕ → Unit → Bool → Kernel → Kernel
attaching p unit wait kernel =
    record kernel { units = unit_attached kernel.units p (process_in kernel.dispatcher.procs p).priority unit wait }

-- functions 146 and 158
unfoldable pub attached : ℕ → Unit → Kernel → Called
attached p unit kernel =
    if may_attach kernel.units p unit then done (attaching p unit true kernel) else (retried p (attaching p unit true kernel))

-- functions 162 and 161, which don't wait
unfoldable pub attached_now : ℕ → Unit → Kernel → Called
attached_now p unit kernel =
    if may_attach kernel.units p unit then done (attaching p unit false kernel) else (valued failure_code kernel)

-- a unit that a process owns passes to the process that waits for it first, who becomes ready
unfoldable pub unit_left : ℕ → Unit → Kernel → Kernel
unit_left p unit kernel = record kernel {
  dispatcher = made_ready (heir_of kernel.units p unit) kernel.dispatcher;
  units = unit_detached kernel.units p unit;
}

-- functions 147 and 159
abbrev pub detached : ℕ → Unit → Kernel → Called
detached p unit kernel = done (unit_left p unit kernel)

-- functions 148 and 160: a process has another console or printer from now on, and leaves the one that it had
unfoldable pub console_changed : ℕ → ℕ → Kernel → Kernel
console_changed p console kernel =
    let process = process_in kernel.dispatcher.procs p in
    if process.console == console then kernel
    else (with_changed (unit_left p (ConsoleUnit process.console) kernel) p (record process { console = console }))

unfoldable pub printer_changed : ℕ → ℕ → Kernel → Kernel
printer_changed p printer kernel =
    let process = process_in kernel.dispatcher.procs p in
    if process.printer == printer then kernel
    else (with_changed (unit_left p (PrinterUnit process.printer) kernel) p (record process { printer = printer }))

unfoldable pub console_set : Taken → ℕ → Kernel → Called
console_set call p kernel =
    let console = low_parameter call in
    if nat_lt console (length kernel.units.consoles) then attached p (ConsoleUnit console) (console_changed p console kernel)
    else (valued failure_code kernel)

unfoldable pub printer_set : Taken → ℕ → Kernel → Called
printer_set call p kernel =
    let printer = low_parameter call in
    if nat_lt printer (length kernel.units.printers) then attached p (PrinterUnit printer) (printer_changed p printer kernel)
    else (valued failure_code kernel)

-- a process becomes the owner of a console; where it waited for that one, it becomes ready
abbrev pub if_it : Bool → ℕ → Option ℕ
if_it b p = if b then Some p else None

unfoldable pub owner_made : ℕ → ℕ → Kernel → Kernel
owner_made console to kernel =
    dispatched (made_ready (if_it (waits_for kernel.units to (ConsoleUnit console)) to))
    (record kernel { units = console_assigned kernel.units console to })

-- function 149: where the flag is FFh, only a process whose console it is already is meant
abbrev pub is_meant : ℕ → Bool → Process → Bool
is_meant console own_only process = not own_only || process.console == console

unfoldable pub assigned_to : Option ℕ → ℕ → Bool → Kernel → Called
assigned_to None console own_only kernel = valued failure_code kernel
assigned_to (Some to) console own_only kernel =
    let process = process_in kernel.dispatcher.procs to in
    if is_meant console own_only process then done (with_changed (owner_made console to kernel) to (record process { console = console }))
    else (valued failure_code kernel)

unfoldable pub assigned : Taken → ℕ → Kernel → Called
assigned call p kernel =
    let console = byte_in call 0 in
    if nat_lt console (length kernel.units.consoles) && may_attach kernel.units p (ConsoleUnit console)
    then assigned_to (named kernel.dispatcher.procs (name_at call 1)) console (byte_in call 9 == 255) kernel
    else (valued failure_code kernel)

-- the calls on printers: they are attached, also before a byte is written, detached and changed; a machine without printers
-- refuses them
abbrev pub printer_rows : List CallRow
printer_rows =
    row (LIST_OUTPUT ∷ ATTACH_LIST ∷ []) (λ call p process kernel. attached p (PrinterUnit process.printer) kernel)
    ∷ row (DETACH_LIST ∷ []) (λ call p process kernel. detached p (PrinterUnit process.printer) kernel)
    ∷ row (SET_LIST ∷ []) (λ call p process kernel. printer_set call p kernel)
    ∷ row (CONDITIONAL_ATTACH_LIST ∷ []) (λ call p process kernel. attached_now p (PrinterUnit process.printer) kernel)
    ∷ []

unfoldable pub printer_called : Taken → ℕ → Kernel → Called
printer_called call p kernel =
    if length kernel.units.printers == 0 then valued failure_code kernel else (done_by printer_rows call p (process_in kernel.dispatcher.procs p) kernel)

-- the calls on consoles and printers, and the numbers that are answered
abbrev pub unit_rows : List CallRow
unit_rows =
    row (ATTACH_CONSOLE ∷ []) (λ call p process kernel. attached p (ConsoleUnit process.console) kernel)
    ∷ row (DETACH_CONSOLE ∷ []) (λ call p process kernel. detached p (ConsoleUnit process.console) kernel)
    ∷ row (SET_CONSOLE ∷ []) (λ call p process kernel. console_set call p kernel)
    ∷ row (ASSIGN_CONSOLE ∷ []) (λ call p process kernel. assigned call p kernel)
    ∷ row (GET_CONSOLE_NUMBER ∷ []) (λ call p process kernel. valued process.console kernel)
    ∷ row (CONDITIONAL_ATTACH_CONSOLE ∷ []) (λ call p process kernel. attached_now p (ConsoleUnit process.console) kernel)
    ∷ row (GET_LIST_NUMBER ∷ []) (λ call p process kernel. valued process.printer kernel)
    ∷ row (functions_of printer_rows) (λ call p process kernel. printer_called call p kernel)
    ∷ []

unfoldable pub unit_called : Taken → ℕ → Kernel → Called
unit_called call p kernel = done_by unit_rows call p (process_in kernel.dispatcher.procs p) kernel

-- a console is given by its owner, or where nobody owns it, to a process, or else to the process that waits for it first
abbrev pub is_from : Option ℕ → Option ℕ → Bool
is_from None None = true
is_from None (Some p) = false
is_from (Some owner) None = false
is_from (Some owner) (Some p) = owner == p

abbrev pub passed_on : ℕ → Option ℕ → Kernel → Kernel
passed_on console None kernel = kernel
passed_on console (Some p) kernel = unit_left p (ConsoleUnit console) kernel

abbrev pub handed_over : ℕ → Option ℕ → Option ℕ → Kernel → Kernel
handed_over console from None kernel = passed_on console from kernel
handed_over console from (Some to) kernel = owner_made console to kernel

unfoldable pub given : ℕ → Option ℕ → Option ℕ → Kernel → Kernel
given console from to kernel =
    if is_from (owner_of kernel.units (ConsoleUnit console)) from then handed_over console from to kernel else kernel

-- bytes are written to a console by the kernel itself
unfoldable pub echoed : ℕ → List ℕ → Kernel → Kernel
echoed console bytes kernel = record (spoke kernel console bytes) { echo = bytes }

-- `^C`, CR and LF
abbrev pub abort_text : List ℕ
abort_text = 94 ∷ 67 ∷ 13 ∷ 10 ∷ []

-- what becomes of the processes by a key: who was woken is ready, the heir of a console before its old owner, which is ready
-- where it waited at its gate
unfoldable pub key_done : KeyDone → ℕ → Bool → Kernel → Kernel
key_done Stored console waited kernel = kernel
key_done Dropped console waited kernel = kernel
key_done Nothing console waited kernel = kernel
key_done (Wakes p) console waited kernel = dispatched (made_ready (Some p)) kernel
key_done (Aborts p) console waited kernel = record (echoed console abort_text kernel) { aborted = Some p }
key_done (Passes from to) console waited kernel = dispatched (made_ready (if_it waited from)) (dispatched (made_ready to) kernel)

-- the processes that a key names live
abbrev pub IfLives : Table → Option ℕ → Type 0
IfLives procs o = IfSome o (λ p. Lives procs p)

abbrev pub KeyNames : Table → KeyDone → Type 0
KeyNames procs Stored = ⊤
KeyNames procs Dropped = ⊤
KeyNames procs Nothing = ⊤
KeyNames procs (Wakes p) = Lives procs p
KeyNames procs (Aborts p) = Lives procs p
KeyNames procs (Passes from to) = Lives procs from × IfLives procs to

-- whether a console is a resident's
abbrev pub is_of_resident : Table → Option ℕ → Bool
is_of_resident procs None = false
is_of_resident procs (Some p) = is_resident procs p

-- a key comes to a console; one of a console that isn't there is dropped
unfoldable pub key_came : ℕ → ℕ → Kernel → Kernel
key_came console byte kernel =
    let resident = is_of_resident kernel.dispatcher.procs (owner_of kernel.units (ConsoleUnit console)) in
    if nat_lt console (length kernel.units.consoles)
    then key_done (key_answer kernel.units console byte resident) console (is_some (console_at kernel.units console).awaits)
    (record kernel { units = keyed kernel.units console byte resident })
    else kernel

-- the owner of a console waits at its gate: for a key, or until output goes on; its call is retried
unfoldable pub awaited : ℕ → ℕ → Bool → Kernel → Called
awaited p console key kernel = retried p (record kernel { units = gate_wait_begun kernel.units console key })

-- the process that the last event aborts lives
abbrev pub AbortLives : Kernel → Type 0
AbortLives kernel = IfLives kernel.dispatcher.procs kernel.aborted

-- and is handed out
abbrev pub abort_taken : Kernel → Kernel
abort_taken kernel = record kernel { aborted = None }
