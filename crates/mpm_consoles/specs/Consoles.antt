-- The consoles and printers by number, and the processes that wait for each. (MP/M II Programmer's Guide, "Function 146:
-- Attach Console", "Function 158: Attach List".)
use Rattle.std.specs.Prelude.{◌≡◌, ◌≢◌, ℕ, ◌+◌, ◌<◌, ◌≤◌, Bool, false, List, [], Option, Some, None, nat_lt, length, replicate, slice_index_or, slice_set, is_some, ◌&&◌}
use Rattle.std.specs.Prelude.{count_by}
use Rattle.std.specs.Option.{option_map_or}
use Rattle.mpm_base.specs.Units.{place_of}
use Rattle.mpm_ready.specs.Order.{Member, first_of, in_list}
use Rattle.mpm_ready.specs.Tables.{list_at, list_of, no_lists, IsTable}
use Rattle.mpm_consoles.specs.Console.{Console, new_console, is_owner, IsProperConsole}
use Rattle.mpm_base.specs.declared.unit.Unit.{Unit}
use Rattle.mpm_base.specs.declared.unit.Unit.TheVariants.{Console as ConsoleUnit, Printer as PrinterUnit}

-- the consoles; the owner of each printer; and who waits, in the order of the ready list: as lists 0 to 7 for each console,
-- as lists 8 to 11 for each printer
pub record Consoles : Type 0 where
  pub consoles : List Console
  pub printers : List (Option ℕ)
  pub waiters : List (List Member)

-- so many consoles and printers, which nobody owns
unfoldable pub no_owners : ℕ → ℕ → Consoles
no_owners consoles printers =
    record { consoles = replicate consoles new_console; printers = replicate printers None; waiters = no_lists }

abbrev pub console_at : Consoles → ℕ → Console
console_at t n = slice_index_or t.consoles n new_console

-- which units there are
abbrev pub HasConsole : Consoles → ℕ → Type 0
HasConsole t n = n < length t.consoles

abbrev pub HasUnit : Consoles → Unit → Type 0
HasUnit t (ConsoleUnit n) = HasConsole t n
HasUnit t (PrinterUnit n) = n < length t.printers

abbrev pub has_unit : Consoles → Unit → Bool
has_unit t (ConsoleUnit n) = nat_lt n (length t.consoles)
has_unit t (PrinterUnit n) = nat_lt n (length t.printers)

-- the process that owns a unit, and whether a process does
abbrev pub owner_of : Consoles → Unit → Option ℕ
owner_of t (ConsoleUnit n) = (console_at t n).owner
owner_of t (PrinterUnit n) = slice_index_or t.printers n None

abbrev pub owns : Consoles → ℕ → Unit → Bool
owns t p unit = is_owner (owner_of t unit) p

-- who waits for a unit, and the first of them
abbrev pub waiters_of : Consoles → Unit → List Member
waiters_of t unit = list_at t.waiters (place_of unit)

abbrev pub first_waiter : Consoles → Unit → Option ℕ
first_waiter t unit = first_of (waiters_of t unit)

-- whether a process waits for a unit, for how many it waits, and that it waits for none
abbrev pub waits_for : Consoles → ℕ → Unit → Bool
waits_for t p unit = in_list p (waiters_of t unit)

unfoldable pub waits : Consoles → ℕ → ℕ
waits t p = option_map_or (λ _. 1) (list_of t.waiters p) 0

abbrev pub WaitsForNoUnit : Consoles → ℕ → Type 0
WaitsForNoUnit t p = list_of t.waiters p ≡ None

-- whether a process waits at its gate, as the owner of a console, and at how many gates it does
abbrev pub is_gate_waiter : Console → ℕ → Bool
is_gate_waiter console p = is_owner console.owner p && is_some console.awaits

unfoldable pub gate_waits : Consoles → ℕ → ℕ
gate_waits t p = count_by (λ console. is_gate_waiter console p) t.consoles

-- one console changed
abbrev pub with_console : Consoles → ℕ → Console → Consoles
with_console t n console = record t { consoles = slice_set t.consoles n console }

-- who may wait for a unit: nobody where nobody owns it, and its owner not
pub record MayWait (owner : Option ℕ) (ms : List Member) : Type 0 where
  pub free : owner ≡ None → ms ≡ []
  pub others : (p : ℕ) → owner ≡ Some p → in_list p ms ≡ false

-- so many consoles and printers a machine may have
pub record AreFewUnits (consoles printers : ℕ) : Type 0 where
  pub some : 1 ≤ consoles
  pub few : consoles ≤ 8
  pub few_printers : printers ≤ 4

-- a process that waits for no unit may wait for one, which another owns
pub record MayBeListed (p : ℕ) (unit : Unit) (t : Consoles) : Type 0 where
  pub there : HasUnit t unit
  pub nowhere : WaitsForNoUnit t p
  pub owned : owner_of t unit ≢ None
  pub other : owns t p unit ≡ false

-- what is so at any time: there are 1 to 8 consoles and at most 4 printers; a process waits at most for one unit, in the order
-- of priorities, and only for one that another owns
pub record AreSoundConsoles (t : Consoles) : Type 0 where
  pub some : 1 ≤ length t.consoles
  pub consoles : length t.consoles ≤ 8
  pub printers : length t.printers ≤ 4
  pub table : IsTable t.waiters
  pub waited : (unit : Unit) → HasUnit t unit → MayWait (owner_of t unit) (waiters_of t unit)
  pub proper : (n : ℕ) → IsProperConsole (console_at t n)
