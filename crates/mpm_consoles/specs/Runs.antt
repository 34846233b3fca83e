-- Keys that come to a console and are taken from it: those that are stored come out in the order in which they were typed, and
-- each other one is a control character or is counted as lost.
use Rattle.std.specs.Prelude.{◌≡◌, ℕ, ◌+◌, ◌-◌, ◌^◌, Bool, true, false, List, [], ◌∷◌, ◌++◌, Option, Some, None, ◌==◌, min, if◌then◌else◌}
use Rattle.mpm_consoles.specs.Console.{Console, has_room, first_key}
use Rattle.mpm_consoles.specs.Consoles.{Consoles, console_at}
use Rattle.mpm_consoles.specs.Keys.{control_of}
use Rattle.mpm_consoles.specs.Handling.{unit_attached, unit_detached, console_assigned, keyed, first_taken, raw_set, gate_wait_begun, put_out, units_without_waiter}
use Rattle.mpm_consoles.specs.declared.keys.Control.{Control}
use Rattle.mpm_base.specs.declared.unit.Unit.{Unit}

-- the keys that a key event stores, and how many it loses
abbrev pub stored : Option Control → Bool → ℕ → List ℕ
stored None true byte = byte ∷ []
stored None false byte = []
stored (Some control) room byte = []

abbrev pub missed : Option Control → Bool → ℕ
missed None true = 0
missed None false = 1
missed (Some control) room = 0

-- the key that is taken, if any
abbrev pub as_list : Option ℕ → List ℕ
as_list None = []
as_list (Some key) = key ∷ []

-- each call: a key comes to a console, one is taken, or another call, which changes no keys
pub data OtherCall : Type 0 where
  Attaches : ℕ → ℕ → Unit → Bool → OtherCall
  Detaches : ℕ → Unit → OtherCall
  Assigns : ℕ → ℕ → OtherCall
  MakesRaw : ℕ → Bool → OtherCall
  Waits : ℕ → Bool → OtherCall
  Writes : Unit → ℕ → Bool → OtherCall
  Leaves : ℕ → OtherCall

pub data ConsoleOperation : Type 0 where
  Types : ℕ → ℕ → Bool → ConsoleOperation
  Takes : ℕ → ConsoleOperation
  Makes : OtherCall → ConsoleOperation

abbrev pub change_made : Consoles → OtherCall → Consoles
change_made t (Attaches p priority unit wait) = unit_attached t p priority unit wait
change_made t (Detaches p unit) = unit_detached t p unit
change_made t (Assigns n to) = console_assigned t n to
change_made t (MakesRaw n raw) = raw_set t n raw
change_made t (Waits n key) = gate_wait_begun t n key
change_made t (Writes unit byte tabs) = put_out t unit byte tabs
change_made t (Leaves p) = units_without_waiter t p

abbrev pub operation_made : Consoles → ConsoleOperation → Consoles
operation_made t (Types n byte resident) = keyed t n byte resident
operation_made t (Takes n) = first_taken t n
operation_made t (Makes change) = change_made t change

-- what a call does to the keys of one console: those that it takes out, those that it stores, how many it loses
pub record Passage : Type 0 where
  pub out : List ℕ
  pub into : List ℕ
  pub misses : ℕ

abbrev pub no_passage : Passage
no_passage = record { out = []; into = []; misses = 0 }

abbrev pub type_in : Console → ℕ → Passage
type_in console byte = record {
  out = [];
  into = stored (control_of console.raw byte) (has_room console) byte;
  misses = missed (control_of console.raw byte) (has_room console);
}

abbrev pub take_out : Console → Passage
take_out console = record { out = as_list (first_key console); into = []; misses = 0 }

unfoldable pub passage : Consoles → ℕ → ConsoleOperation → Passage
passage t n (Types m byte resident) = if n == m then type_in (console_at t n) byte else no_passage
passage t n (Takes m) = if n == m then take_out (console_at t n) else no_passage
passage t n (Makes change) = no_passage

-- the keys that came out, followed by those that are there now, are those that were there before, followed by those that were
-- stored; and so many were lost, as far as the count goes
pub record ConservesKeys (before now : Console) (by : Passage) : Type 0 where
  pub keys : by.out ++ now.keys ≡ before.keys ++ by.into
  pub lost : now.lost ≡ min (before.lost + by.misses) (2 ^ 64 - 1)

-- the same for calls in order
unfoldable pub operations_made : Consoles → List ConsoleOperation → Consoles
operations_made t [] = t
operations_made t (operation ∷ operations) = operations_made (operation_made t operation) operations

unfoldable pub passages : Consoles → ℕ → List ConsoleOperation → Passage
passages t n [] = no_passage
passages t n (operation ∷ operations) =
    let first = passage t n operation in
    let rest = passages (operation_made t operation) n operations in
    record { out = first.out ++ rest.out; into = first.into ++ rest.into; misses = first.misses + rest.misses }
