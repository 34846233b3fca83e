-- Tests: which are one, which are each other's contrary, and in which order they are asked.
use Rattle.std.proofs.Common.{◌≡◌, ◌||◌, Bool, true, false, not, refl, sym, ap}

-- two that pass at once are one
pub one_test : (a b : Bool) → (a ≡ true → b ≡ true) → (b ≡ true → a ≡ true) → a ≡ b
one_test true b there back = sym (there refl)
one_test false true there back = back refl
one_test false false there back = refl

-- a contrary's contrary
pub not_back : (a b : Bool) → b ≡ not a → a ≡ not b
not_back true b is = ap not (sym is)
not_back false b is = ap not (sym is)

pub or_swapped : (a b c : Bool) → (a || (b || c)) ≡ (b || (a || c))
or_swapped true true c = refl
or_swapped true false c = refl
or_swapped false b c = refl
