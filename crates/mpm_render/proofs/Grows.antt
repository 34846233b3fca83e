-- Laws on texts that grow.
use Rattle.std.proofs.Common.{◌≡◌, ℕ, ◌<◌, ◌≤◌, List, [], ◌++◌, length, refl, sym, ap, ◌∙◌, append_assoc, length-append, arith}
use Rattle.std.proofs.lemmas.List.{append-nil}
use Rattle.mpm_port.specs.Texts.{Begins, AppendsPart}
use Rattle.mpm_render.specs.Shown.{EndsBetween}

pub begins_refl : (a : List ℕ) → Begins a a
begins_refl a = record { rest = []; whole_is = sym (append-nil a) }

pub begins_more : (a more : List ℕ) → Begins a (a ++ more)
begins_more a more = record { rest = more; whole_is = refl }

pub begins_trans : (a b c : List ℕ) → Begins a b → Begins b c → Begins a c
begins_trans a b c p q = record {
  rest = p.rest ++ q.rest;
  whole_is = q.whole_is ∙ ap (λ x. x ++ q.rest) p.whole_is ∙ append_assoc a p.rest q.rest;
}

-- the same text before both
pub begins_behind : (a b c : List ℕ) → Begins b c → Begins (a ++ b) (a ++ c)
begins_behind a b c p = record {
  rest = p.rest;
  whole_is = ap (λ x. a ++ x) p.whole_is ∙ sym (append_assoc a b p.rest);
}

pub begins_length : (a b : List ℕ) → Begins a b → length a ≤ length b
begins_length a b p = omega (arith, ap length p.whole_is, length-append a p.rest)

-- a failed write stops between the text before and the text with all that was to be written
pub ends_within : (old new first from more : List ℕ) → old ≡ first ++ from → AppendsPart old more new → 0 < length more → EndsBetween new first from (from ++ more)
ends_within old new first from more e p some = record {
  text = from ++ p.part;
  written_is = p.new_is ∙ ap (λ written. written ++ p.part) e ∙ append_assoc first from p.part;
  all_before = begins_more from p.part;
  part = begins_behind from p.part more p.begins;
  more = omega (arith, length-append from more);
}

-- what ends between two texts ends between wider ones
pub widened : (written first a from to b : List ℕ) → Begins a from → Begins to b → EndsBetween written first from to → EndsBetween written first a b
widened written first a from to b p q e = record {
  text = e.text;
  written_is = e.written_is;
  all_before = begins_trans a from e.text p e.all_before;
  part = begins_trans e.text to b e.part q;
  more = omega (arith, begins_length a from p, begins_length to b q, e.more);
}

-- nothing is a part of all that was to be written
pub appends_none : (written more : List ℕ) → AppendsPart written more written
appends_none written more = record {
  part = [];
  begins = record { rest = more; whole_is = refl };
  new_is = sym (append-nil written);
}
