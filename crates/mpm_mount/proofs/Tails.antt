-- A fact on each item of a list and those after it, from one on the item and all others.
use Rattle.std.proofs.Common.{ℕ, suc, ◌<◌, List, [], ◌∷◌, length, get_or, arith}
use Rattle.mpm_mount.specs.Directories.{others}

abbrev pub EachWithRest : {X : Type 0} → (X → List X → Type 0) → List X → Type 0
EachWithRest P [] = Unit {0}
EachWithRest P (x ∷ xs) = P x xs × EachWithRest P xs

pub by_others : {X : Type 0} (P : X → List X → Type 0) (d : X) → ((x y : X) (ys : List X) → P x (y ∷ ys) → P x ys) → (xs : List X)
    → ((i : ℕ) → i < length xs → P (get_or xs i d) (others xs i)) → EachWithRest P xs
by_others P d fewer [] each = tt
by_others P d fewer (x ∷ xs) each =
    (each 0 (omega arith), by_others P d fewer xs (λ i h. fewer (get_or xs i d) x (others xs i) (each (suc i) (omega arith))))
