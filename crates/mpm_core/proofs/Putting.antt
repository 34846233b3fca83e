-- Pieces that are put one after the other.
use Rattle.std.proofs.Common.{◌≡◌, ◌∙◌, ℕ, List, ◌++◌, Result, Ok, append_assoc, sym, ap, subst}
use Rattle.mpm_port.specs.Causes.{HasCause}
use Rattle.mpm_port.specs.Texts.{AppendsPart}

-- a put that went well leaves the count, so what comes after it has the cause alone
pub cause_then : {A B E : Type 0} (x : A) (old mid new : ℕ) (result : Result B E) → HasCause {E = E} old mid (Ok x) → HasCause mid new result → HasCause old new result
cause_then {A} {B} {E} x old mid new result first next = subst (λ (n : ℕ). HasCause {A = B} {E = E} n new result) first.stays next

-- where the first one failed a part of both stands
pub part_of_first : (old first rest new : List ℕ) → AppendsPart old first new → AppendsPart old (first ++ rest) new
part_of_first old first rest new part = record {
  part = part.part;
  begins = record {
    rest = part.begins.rest ++ rest;
    whole_is = ap (λ bytes. bytes ++ rest) part.begins.whole_is ∙ append_assoc part.part part.begins.rest rest;
  };
  new_is = part.new_is;
}

-- where the rest did, the first one stands, and a part of the rest
pub part_after : (old mid first rest new : List ℕ) → mid ≡ old ++ first → AppendsPart mid rest new → AppendsPart old (first ++ rest) new
part_after old mid first rest new is part = record {
  part = first ++ part.part;
  begins = record {
    rest = part.begins.rest;
    whole_is = ap (λ bytes. first ++ bytes) part.begins.whole_is ∙ sym (append_assoc first part.part part.begins.rest);
  };
  new_is = part.new_is ∙ ap (λ bytes. bytes ++ part.part) is ∙ append_assoc old first part.part;
}

pub both_put : (old mid first rest new : List ℕ) → mid ≡ old ++ first → new ≡ mid ++ rest → new ≡ old ++ (first ++ rest)
both_put old mid first rest new is then_is = then_is ∙ ap (λ bytes. bytes ++ rest) is ∙ append_assoc old first rest
