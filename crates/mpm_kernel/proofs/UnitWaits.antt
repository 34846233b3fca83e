-- Who waits at consoles and printers, and who owns them, after each change of them; and what is so of them stays so.
use Rattle.std.proofs.Common.{◌≡◌, ◌≢◌, ◌∙◌, ℕ, ◌+◌, ◌≤◌, Bool, true, false, ◌&&◌, ◌⊎◌, List, length, set, get_or, Option, Some, None, inl, inr, refl, sym, ap, arith}
use Rattle.std.specs.Prelude.{is_some}
use Rattle.std.proofs.lemmas.Bool.{cases_eq, eq-eqb, ne_eqb, and_right}
use Rattle.std.proofs.lemmas.List.{length-set, length-map, get_or-set_same, get_or-set_other}
use Rattle.mpm_base.proofs.CountLaws.{one_if, one_if_false}
use Rattle.mpm_ready.specs.Tables.{list_of}
use Rattle.mpm_ready.proofs.TableLaws.{list_of_known, list_of_removed, list_of_removed_other}
use Rattle.mpm_consoles.specs.Console.{Console, new_console, is_owner, passed_to, without_wait_of, IsProperConsole}
use Rattle.mpm_base.specs.Units.{place_of}
use Rattle.mpm_consoles.specs.Consoles.{Consoles, is_gate_waiter, gate_waits, console_at, HasConsole, HasUnit, owner_of, owns, waits_for, waits, WaitsForNoUnit, with_console, AreSoundConsoles}
use Rattle.mpm_consoles.specs.Handling.{given, unlisted, listed, units_without_waiter}
use Rattle.mpm_base.specs.declared.unit.Unit.{Unit}
use Rattle.mpm_base.specs.declared.unit.Unit.TheVariants.{Console as ConsoleUnit, Printer as PrinterUnit}
use Rattle.mpm_consoles.specs.Columns.{columns_after}
use Rattle.mpm_consoles.proofs.ConsoleLaws.{columns_within, owner_without_wait}
use Rattle.mpm_consoles.proofs.PlaceLaws.{owner_is, gate_waits_console, waiters_without, waits_dequeued, waits_dequeued_other, gate_waits_without, gate_waits_without_other}
use Rattle.mpm_consoles.proofs.SoundLaws.{without_wait_at}
use Rattle.mpm_kernel.specs.Kernel.{waits_at_units}
use Rattle.mpm_queues.proofs.WaitLaws.{none_of, one_at}

-- a process waits for one unit, or for none
pub nowhere_waits : (t : Consoles) (p : ℕ) → waits t p ≡ 0 → WaitsForNoUnit t p
unfolding waits
nowhere_waits t p is = none_of (list_of t.waiters p) is

pub waits_one : (t : Consoles) (p : ℕ) (unit : Unit) → AreSoundConsoles t → waits_for t p unit ≡ true → waits t p ≡ 1
unfolding waits
waits_one t p unit sound there = ap one_at (list_of_known t.waiters p (place_of unit) sound.table there)

waits_of_lists : (t new : Consoles) (p : ℕ) → list_of new.waiters p ≡ list_of t.waiters p → waits new p ≡ waits t p
unfolding waits
waits_of_lists t new p same = ap one_at same

pub waits_unlisted : (t : Consoles) (p : ℕ) → waits (unlisted t p) p ≡ 0
unfolding waits unlisted
waits_unlisted t p = ap one_at (list_of_removed t.waiters p)

pub waits_unlisted_other : (t : Consoles) (p q : ℕ) → AreSoundConsoles t → q ≢ p → waits (unlisted t p) q ≡ waits t q
unfolding unlisted
waits_unlisted_other t p q sound other =
    waits_of_lists t (unlisted t p) q (list_of_removed_other t.waiters p q sound.table (ne_eqb p q (λ e. other (sym e))))

-- whether a process waits at the gate of a console
abbrev pub is_at_gate : ℕ → Console → Bool
is_at_gate p console = is_gate_waiter console p

-- a console that is changed, but not who waits at its gate
pub gates_kept : (t : Consoles) (n : ℕ) (console : Console) (q : ℕ) → HasConsole t n
    → console.owner ≡ (console_at t n).owner → console.awaits ≡ (console_at t n).awaits → gate_waits (with_console t n console) q ≡ gate_waits t q
gates_kept t n console q h owner awaits =
    let same : is_at_gate q console ≡ is_at_gate q (console_at t n) =
    ap (λ o. is_owner o q && is_some console.awaits) owner ∙ ap (λ a. is_owner (console_at t n).owner q && is_some a) awaits in
    omega (arith, gate_waits_console t n console q h, ap one_if same)

-- one at whose gate nobody waits any more
pub gates_fewer : (t : Consoles) (n : ℕ) (console : Console) (q : ℕ) → HasConsole t n → console.awaits ≡ None
    → gate_waits (with_console t n console) q + one_if (is_at_gate q (console_at t n)) ≡ gate_waits t q
gates_fewer t n console q h none =
    let off : is_at_gate q console ≡ false = ap (λ a. is_owner console.owner q && is_some a) none ∙ and_right (is_owner console.owner q) false refl in
    omega (arith, gate_waits_console t n console q h, one_if_false (is_at_gate q console) off)

gates_printer : (t new : Consoles) (q : ℕ) → new.consoles ≡ t.consoles → gate_waits new q ≡ gate_waits t q
unfolding gate_waits
gates_printer t new q same = ap (λ (cs : List Console). gate_waits (record t { consoles = cs }) q) same

-- a unit is given
pub gates_given : (t : Consoles) (unit : Unit) (owner : Option ℕ) (q : ℕ) → HasUnit t unit → gate_waits (given t unit owner) q ≤ gate_waits t q
unfolding given passed_to
gates_given t (ConsoleUnit n) owner q has = omega (arith, gates_fewer t n (passed_to owner (console_at t n)) q has refl)
gates_given t (PrinterUnit n) owner q has = omega (arith, gates_printer t (given t (PrinterUnit n) owner) q refl)

pub waits_given : (t : Consoles) (unit : Unit) (owner : Option ℕ) (q : ℕ) → waits (given t unit owner) q ≡ waits t q
unfolding given waits
waits_given t (ConsoleUnit n) owner q = refl
waits_given t (PrinterUnit n) owner q = refl

-- who owns what

pub is_own : (o : Option ℕ) (p : ℕ) → o ≡ Some p → is_owner o p ≡ true
is_own o p is = ap (λ x. is_owner x p) is ∙ eq-eqb p p refl

-- a unit that is given has that owner, and the others theirs
pub owner_given : (t : Consoles) (unit : Unit) (owner : Option ℕ) → HasUnit t unit → owner_of (given t unit owner) unit ≡ owner
unfolding given passed_to
owner_given t (ConsoleUnit n) owner has = ap (λ (c : Console). c.owner) (get_or-set_same t.consoles n (passed_to owner (console_at t n)) new_console has)
owner_given t (PrinterUnit n) owner has = get_or-set_same t.printers n owner None has

pub owner_given_other : (t : Consoles) (unit other : Unit) (owner : Option ℕ) → (other ≡ unit → ⊥) → owner_of (given t unit owner) other ≡ owner_of t other
unfolding given passed_to
owner_given_other t (ConsoleUnit n) (ConsoleUnit k) owner apart =
    ap (λ (c : Console). c.owner) (get_or-set_other t.consoles n k (passed_to owner (console_at t n)) new_console (λ same. apart (ap (λ x. ConsoleUnit x) same)))
owner_given_other t (ConsoleUnit n) (PrinterUnit k) owner apart = refl
owner_given_other t (PrinterUnit n) (ConsoleUnit k) owner apart = refl
owner_given_other t (PrinterUnit n) (PrinterUnit k) owner apart = get_or-set_other t.printers n k owner None (λ same. apart (ap (λ x. PrinterUnit x) same))

-- units are the same, or not
unit_cases : (a b : Unit) → (a ≡ b) ⊎ (a ≡ b → ⊥)
unit_cases (ConsoleUnit n) (ConsoleUnit k) = elim (cases_eq n k) [
  | inl same ↦ inl (ap (λ x. ConsoleUnit x) same)
  | inr apart ↦ inr (λ e. apart (cc))
]
unit_cases (ConsoleUnit n) (PrinterUnit k) = inr (λ e. absurd (cc))
unit_cases (PrinterUnit n) (ConsoleUnit k) = inr (λ e. absurd (cc))
unit_cases (PrinterUnit n) (PrinterUnit k) = elim (cases_eq n k) [
  | inl same ↦ inl (ap (λ x. PrinterUnit x) same)
  | inr apart ↦ inr (λ e. apart (cc))
]

-- who owns a unit after it was given owned it before, or was given it
pub owner_from_given : (t : Consoles) (unit other : Unit) (owner : Option ℕ) (p : ℕ) → HasUnit t unit → owns (given t unit owner) p other ≡ true
    → (owns t p other ≡ true) ⊎ (owner ≡ Some p)
owner_from_given t unit other owner p has is = elim (unit_cases other unit) [
  | inl same ↦ inr (sym (owner_given t unit owner has) ∙ ap (owner_of (given t unit owner)) (sym same) ∙ owner_is (owner_of (given t unit owner) other) p is)
  | inr apart ↦ inl (ap (λ o. is_owner o p) (sym (owner_given_other t unit other owner apart)) ∙ is)
]

pub owner_unlisted : (t : Consoles) (p : ℕ) (unit : Unit) → owner_of (unlisted t p) unit ≡ owner_of t unit
unfolding unlisted
owner_unlisted t p (ConsoleUnit n) = refl
owner_unlisted t p (PrinterUnit n) = refl

pub owner_listed : (t : Consoles) (p priority : ℕ) (unit other : Unit) → owner_of (listed t p priority unit) other ≡ owner_of t other
unfolding listed
owner_listed t p priority unit (ConsoleUnit n) = refl
owner_listed t p priority unit (PrinterUnit n) = refl

pub consoles_given : (t : Consoles) (unit : Unit) (owner : Option ℕ) → length (given t unit owner).consoles ≡ length t.consoles
unfolding given
consoles_given t (ConsoleUnit n) owner = length-set t.consoles n (passed_to owner (console_at t n))
consoles_given t (PrinterUnit n) owner = refl

pub printers_given : (t : Consoles) (unit : Unit) (owner : Option ℕ) → length (given t unit owner).printers ≡ length t.printers
unfolding given
printers_given t (ConsoleUnit n) owner = refl
printers_given t (PrinterUnit n) owner = length-set t.printers n owner

-- one console changed
pub owner_kept : (t : Consoles) (n : ℕ) (console : Console) (unit : Unit) → HasConsole t n → console.owner ≡ (console_at t n).owner
    → owner_of (with_console t n console) unit ≡ owner_of t unit
owner_kept t n console (ConsoleUnit k) has same = elim (cases_eq k n) [
  | inl equal ↦
      ap (λ j. (get_or (set t.consoles n console) j new_console).owner) equal ∙ ap (λ (c : Console). c.owner) (get_or-set_same t.consoles n console new_console has)
      ∙ same ∙ ap (λ j. (console_at t j).owner) (sym equal)
  | inr apart ↦ ap (λ (c : Console). c.owner) (get_or-set_other t.consoles n k console new_console apart)
]
owner_kept t n console (PrinterUnit k) has same = refl

pub has_before : (t : Consoles) (n : ℕ) (console : Console) (unit : Unit) → HasUnit (with_console t n console) unit → HasUnit t unit
has_before t n console (ConsoleUnit k) there = omega (arith, length-set t.consoles n console, there)
has_before t n console (PrinterUnit k) there = there

pub waits_console : (t : Consoles) (n : ℕ) (console : Console) (q : ℕ) → waits (with_console t n console) q ≡ waits t q
unfolding waits
waits_console t n console q = refl

-- bytes that come to a console as they are
pub proper_spoken : (console : Console) (bytes : List ℕ) → IsProperConsole console → IsProperConsole (record console { column = columns_after console.column bytes })
proper_spoken console bytes proper = record {
  keys = proper.keys;
  lost = proper.lost;
  column = columns_within console.column bytes proper.column;
  raw = proper.raw;
  gate = proper.gate;
}

-- a process leaves all units
pub owner_units_without : (t : Consoles) (p : ℕ) (unit : Unit) → owner_of (units_without_waiter t p) unit ≡ owner_of t unit
unfolding units_without_waiter unlisted
owner_units_without t p (ConsoleUnit n) = ap (λ (c : Console). c.owner) (without_wait_at t.consoles p n) ∙ owner_without_wait p (console_at t n)
owner_units_without t p (PrinterUnit n) = refl

pub length_units_without : (t : Consoles) (p : ℕ) → length (units_without_waiter t p).consoles ≡ length t.consoles
unfolding units_without_waiter
length_units_without t p = length-map t.consoles (without_wait_of p)

pub printers_units_without : (t : Consoles) (p : ℕ) → length (units_without_waiter t p).printers ≡ length t.printers
unfolding units_without_waiter unlisted
printers_units_without t p = refl

pub has_units_without : (t : Consoles) (p : ℕ) (unit : Unit) → HasUnit (units_without_waiter t p) unit → HasUnit t unit
unfolding units_without_waiter unlisted
has_units_without t p (ConsoleUnit n) there = omega (arith, length-map t.consoles (without_wait_of p), there)
has_units_without t p (PrinterUnit n) there = there

pub units_without_own : (t : Consoles) (p : ℕ) → waits_at_units (units_without_waiter t p) p ≡ 0
units_without_own t p = omega (arith, waits_dequeued (Some p) t (units_without_waiter t p) p (waiters_without t p) refl, gate_waits_without t p)

pub units_without_other : (t : Consoles) (p q : ℕ) → AreSoundConsoles t → q ≢ p → waits_at_units (units_without_waiter t p) q ≡ waits_at_units t q
units_without_other t p q sound other =
    let apart : Some p ≢ Some q = λ e. other (let same : p ≡ q = cc in sym same) in
    omega (arith, waits_dequeued_other (Some p) t (units_without_waiter t p) q sound (waiters_without t p) apart, gate_waits_without_other t p q other)
