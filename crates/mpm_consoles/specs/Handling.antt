-- Units attached, detached and assigned; keys typed and taken; bytes written. (MP/M II Programmer's Guide, "Function 146: Attach
-- Console", "Function 147: Detach Console", "Function 149: Assign Console", "Function 158: Attach List", "Function 159: Detach
-- List"; MP/M II User's Guide, control characters of a console.)
use Rattle.std.specs.Prelude.{ℕ, Bool, true, not, List, Option, Some, None, ◌==◌, ◌||◌, map, slice_set, if◌then◌else◌}
use Rattle.mpm_ready.specs.Tables.{inserted, removed}
use Rattle.mpm_consoles.specs.Columns.{spaces_for}
use Rattle.mpm_consoles.specs.Console.{Console, passed_to, with_raw, with_output_stopped, awaited_for, awaiting, woken, without_wait_of, resumed, has_room, typed, without_first, spoken, written}
use Rattle.mpm_base.specs.Units.{place_of}
use Rattle.mpm_consoles.specs.Consoles.{Consoles, console_at, owner_of, owns, first_waiter, waits_for, with_console}
use Rattle.mpm_consoles.specs.Keys.{control_of}
use Rattle.mpm_consoles.specs.declared.console.Awaited.TheVariants.{Key, Output}
use Rattle.mpm_consoles.specs.declared.keys.Control.{Control}
use Rattle.mpm_consoles.specs.declared.keys.Control.TheVariants.{Stop, Resume, Abort, Detach}
use Rattle.mpm_consoles.specs.declared.keys.KeyDone.{KeyDone}
use Rattle.mpm_consoles.specs.declared.keys.KeyDone.TheVariants.{Stored, Dropped, Wakes, Aborts, Passes, Nothing}
use Rattle.mpm_base.specs.declared.unit.Unit.{Unit}
use Rattle.mpm_base.specs.declared.unit.Unit.TheVariants.{Console as ConsoleUnit, Printer as PrinterUnit}

-- a unit comes to an owner, or to none
unfoldable pub given : Consoles → Unit → Option ℕ → Consoles
given t (ConsoleUnit n) owner = with_console t n (passed_to owner (console_at t n))
given t (PrinterUnit n) owner = record t { printers = slice_set t.printers n owner }

-- a process waits for no unit; a process waits for one, after all of equal or better priority
unfoldable pub unlisted : Consoles → ℕ → Consoles
unlisted t p = record t { waiters = removed t.waiters p }

unfoldable pub listed : Consoles → ℕ → ℕ → Unit → Consoles
listed t p priority unit =
    record t { waiters = inserted t.waiters (place_of unit) (record { slot = p; priority = priority }) }

-- a process attaches a unit: that is done where nobody owns it, or the process does already, and else the process may wait
abbrev pub attaches : Option ℕ → ℕ → Bool
attaches None p = true
attaches (Some owner) p = owner == p

unfoldable pub may_attach : Consoles → ℕ → Unit → Bool
may_attach t p unit = attaches (owner_of t unit) p

abbrev pub attach_from : Option ℕ → Consoles → ℕ → ℕ → Unit → Bool → Consoles
attach_from None t p priority unit wait = given t unit (Some p)
attach_from (Some owner) t p priority unit wait = if owner == p || not wait then t else listed t p priority unit

unfoldable pub unit_attached : Consoles → ℕ → ℕ → Unit → Bool → Consoles
unit_attached t p priority unit wait = attach_from (owner_of t unit) t p priority unit wait

-- a unit passes to the process that waits for it first, who waits no more, or to nobody
abbrev pub pass_to : Option ℕ → Consoles → Unit → Consoles
pass_to None t unit = given t unit None
pass_to (Some p) t unit = given (unlisted t p) unit (Some p)

unfoldable pub passed : Consoles → Unit → Consoles
passed t unit = pass_to (first_waiter t unit) t unit

-- a process detaches a unit
unfoldable pub unit_detached : Consoles → ℕ → Unit → Consoles
unit_detached t p unit = if owns t p unit then passed t unit else t

unfoldable pub heir_of : Consoles → ℕ → Unit → Option ℕ
heir_of t p unit = if owns t p unit then first_waiter t unit else None

-- a console is assigned to a process, which doesn't wait for it any more
abbrev pub called_off : Consoles → ℕ → Unit → Consoles
called_off t p unit = if waits_for t p unit then unlisted t p else t

unfoldable pub console_assigned : Consoles → ℕ → ℕ → Consoles
console_assigned t n to =
    if owns t to (ConsoleUnit n) then t else given (called_off t to (ConsoleUnit n)) (ConsoleUnit n) (Some to)

-- the process on which ^C and ^D act: the owner, unless it is a resident
abbrev pub subject : Bool → Option ℕ → Option ℕ
subject resident owner = if resident then None else owner

-- ^C
abbrev pub abort_answer : Option ℕ → KeyDone
abort_answer None = Nothing
abort_answer (Some p) = Aborts p

-- ^D
abbrev pub passed_by_key : Option ℕ → Consoles → ℕ → Consoles
passed_by_key None t n = t
passed_by_key (Some p) t n = passed t (ConsoleUnit n)

abbrev pub pass_answer : Option ℕ → Consoles → ℕ → KeyDone
pass_answer None t n = Nothing
pass_answer (Some p) t n = Passes p (first_waiter t (ConsoleUnit n))

-- a key that wakes the owner, or does else something
abbrev pub wake_answer : KeyDone → Option ℕ → KeyDone
wake_answer other None = other
wake_answer other (Some p) = Wakes p

-- a key like others
unfoldable pub typed_answer : Console → KeyDone
typed_answer console = wake_answer (if has_room console then Stored else Dropped) (woken Key console)

-- a key by what it does
abbrev pub key_by : Option Control → Consoles → ℕ → ℕ → Bool → Consoles
key_by None t n byte resident = with_console t n (typed byte (console_at t n))
key_by (Some Stop) t n byte resident = with_console t n (with_output_stopped (console_at t n))
key_by (Some Resume) t n byte resident = with_console t n (resumed (console_at t n))
key_by (Some Abort) t n byte resident = t
key_by (Some Detach) t n byte resident = passed_by_key (subject resident (console_at t n).owner) t n

abbrev pub answer_by : Option Control → Consoles → ℕ → Bool → KeyDone
answer_by None t n resident = typed_answer (console_at t n)
answer_by (Some Stop) t n resident = Nothing
answer_by (Some Resume) t n resident = wake_answer Nothing (woken Output (console_at t n))
answer_by (Some Abort) t n resident = abort_answer (subject resident (console_at t n).owner)
answer_by (Some Detach) t n resident = pass_answer (subject resident (console_at t n).owner) t n

-- a key comes to a console, whose owner is a resident or not
unfoldable pub keyed : Consoles → ℕ → ℕ → Bool → Consoles
keyed t n byte resident = key_by (control_of (console_at t n).raw byte) t n byte resident

unfoldable pub key_answer : Consoles → ℕ → ℕ → Bool → KeyDone
key_answer t n byte resident = answer_by (control_of (console_at t n).raw byte) t n resident

-- the oldest key is taken
unfoldable pub first_taken : Consoles → ℕ → Consoles
first_taken t n = with_console t n (without_first (console_at t n))

-- a console is made raw, or not
unfoldable pub raw_set : Consoles → ℕ → Bool → Consoles
raw_set t n raw = with_console t n (with_raw raw (console_at t n))

-- the owner of a console waits at its gate, for a key or for output to go on
unfoldable pub gate_wait_begun : Consoles → ℕ → Bool → Consoles
gate_wait_begun t n key = with_console t n (awaiting (awaited_for key) (console_at t n))

-- bytes come to a console as they are
unfoldable pub spoke : Consoles → ℕ → List ℕ → Consoles
spoke t n bytes = with_console t n (spoken bytes (console_at t n))

-- a byte is written to a unit; a printer has no tabs
unfoldable pub put_out : Consoles → Unit → ℕ → Bool → Consoles
put_out t (ConsoleUnit n) byte tabs = with_console t n (written byte tabs (console_at t n))
put_out t (PrinterUnit n) byte tabs = t

unfoldable pub output_spaces : Consoles → Unit → ℕ → Bool → ℕ
output_spaces t (ConsoleUnit n) byte tabs = spaces_for (console_at t n).column byte tabs
output_spaces t (PrinterUnit n) byte tabs = 0

-- a process waits for no unit any more, nor at its gate
unfoldable pub units_without_waiter : Consoles → ℕ → Consoles
units_without_waiter t p = record (unlisted t p) { consoles = map (without_wait_of p) t.consoles }
