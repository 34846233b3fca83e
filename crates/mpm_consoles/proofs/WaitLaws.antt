-- Who waits for which unit.
use Rattle.std.proofs.Common.{◌≡◌, ◌∙◌, inl, inr, ℕ, Bool, true, false, List, Some, None, eqb, refl, sym, ap}
use Rattle.std.proofs.lemmas.Bool.{false≢true, cases_Bool, eq-eqb, eqb-true}
use Rattle.mpm_ready.specs.Order.{Member, in_list}
use Rattle.mpm_ready.specs.Tables.{list_at, list_of, IsTable}
use Rattle.mpm_ready.proofs.TableLaws.{list_of_known, in_its_list, unlisted as not_listed}
use Rattle.mpm_base.proofs.Choices.{either}
use Rattle.mpm_consoles.specs.Consoles.{Consoles, HasUnit, waits_for}
use Rattle.mpm_consoles.specs.Handling.{unlisted, called_off}
use Rattle.mpm_base.specs.declared.unit.Unit.{Unit}
use Rattle.mpm_base.specs.declared.unit.Unit.TheVariants.{Console as ConsoleUnit, Printer as PrinterUnit}

-- a process is in the list that its waiting names, and in no other
pub listed_there : (lists : List (List Member)) (p list line : ℕ) → IsTable lists → list_of lists p ≡ Some list → eqb list line ≡ in_list p (list_at lists line)
listed_there lists p list line table is = elim (cases_Bool (in_list p (list_at lists line))) [
  | inl there ↦ (let same : list ≡ line = (let known = list_of_known lists p line table there in cc) in eq-eqb list line same) ∙ sym there
  | inr absent ↦ apart (eqb list line) refl absent ∙ sym absent
]
  where
    apart : (b : Bool) → b ≡ eqb list line → in_list p (list_at lists line) ≡ false → b ≡ false
    apart true same absent = absurd (false≢true (sym absent ∙ ap (λ k. in_list p (list_at lists k)) (sym (eqb-true list line (sym same))) ∙ in_its_list lists p list is))
    apart false same absent = refl

pub not_there : (lists : List (List Member)) (p line : ℕ) → list_of lists p ≡ None → false ≡ in_list p (list_at lists line)
not_there lists p line none = sym (not_listed lists p line none)

-- the units stay where a process waits no more
pub has_unlisted : (t : Consoles) (p : ℕ) (unit : Unit) → HasUnit t unit → HasUnit (unlisted t p) unit
unfolding unlisted
has_unlisted t p (ConsoleUnit n) has = has
has_unlisted t p (PrinterUnit n) has = has

pub has_called_off : (t : Consoles) (p : ℕ) (unit : Unit) → HasUnit t unit → HasUnit (called_off t p unit) unit
has_called_off t p unit has = either (λ (u : Consoles). HasUnit u unit) (waits_for t p unit) _ _ (λ _. has_unlisted t p unit has) (λ _. has)
