-- The first of a list that passes a test, found place by place.
use Rattle.std.proofs.Common.{◌≡◌, ℕ, zero, suc, ◌≤◌, ◌<◌, Bool, cond, List, [], ◌∷◌, Some, None, length, drop, get_or, refl, arith}
use Rattle.std.specs.Prelude.{find}

pub found_next : {X : Type 0} (test : X → Bool) (xs : List X) (k : ℕ) (d : X) → k < length xs
    → find test (drop k xs) ≡ cond (test (get_or xs k d)) (Some (get_or xs k d)) (find test (drop (suc k) xs))
found_next test [] k d h = absurd (omega arith)
found_next test (x ∷ xs) zero d h = refl
found_next test (x ∷ xs) (suc k) d h = found_next test xs k d (omega arith)

pub none_behind : {X : Type 0} (test : X → Bool) (xs : List X) (k : ℕ) → length xs ≤ k → find test (drop k xs) ≡ None
none_behind test [] zero h = refl
none_behind test [] (suc k) h = refl
none_behind test (x ∷ xs) zero h = absurd (omega arith)
none_behind test (x ∷ xs) (suc k) h = none_behind test xs k (omega arith)
