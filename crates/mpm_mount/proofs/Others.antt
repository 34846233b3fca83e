-- Tests over a list, by what stands at one place and what stands at all others.
use Rattle.std.proofs.Common.{◌≡◌, ◌≢◌, ℕ, zero, suc, ◌<◌, Bool, false, ◌||◌, List, [], ◌∷◌, length, get_or, refl, ap, ◌∙◌, arith}
use Rattle.std.specs.Prelude.{slice_set}
use Rattle.std.specs.List.{list_any}
use Rattle.std.proofs.lemmas.Bool.{or_from}
use Rattle.mpm_base.proofs.Tests.{or_swapped}
use Rattle.mpm_mount.specs.Directories.{others}

pub any_split : {X : Type 0} (p : X → Bool) (xs : List X) (i : ℕ) (d : X) → i < length xs → list_any p xs ≡ (p (get_or xs i d) || list_any p (others xs i))
any_split p [] i d h = absurd (omega arith)
any_split p (x ∷ xs) zero d h = refl
any_split p (x ∷ xs) (suc i) d h =
    ap (λ b. p x || b) (any_split p xs i d (omega arith)) ∙ or_swapped (p x) (p (get_or xs i d)) (list_any p (others xs i))

pub any_set : {X : Type 0} (p : X → Bool) (xs : List X) (i : ℕ) (y : X) → i < length xs → list_any p (slice_set xs i y) ≡ (p y || list_any p (others xs i))
any_set p [] i y h = absurd (omega arith)
any_set p (x ∷ xs) zero y h = refl
any_set p (x ∷ xs) (suc i) y h =
    ap (λ b. p x || b) (any_set p xs i y (omega arith)) ∙ or_swapped (p x) (p y) (list_any p (others xs i))

pub all_none : {X : Type 0} (p : X → Bool) (xs : List X) (d : X) → ((k : ℕ) → k < length xs → p (get_or xs k d) ≡ false) → list_any p xs ≡ false
all_none p [] d each = refl
all_none p (x ∷ xs) d each =
    or_from (p x) (list_any p xs) (each 0 (omega arith)) (all_none p xs d (λ k h. each (suc k) (omega arith)))

zero_apart : (i : ℕ) → 0 ≢ suc i
zero_apart i same = omega arith

suc_apart : (k i : ℕ) → k ≢ i → suc k ≢ suc i
suc_apart k i apart same = apart (omega arith)

none_here : (k : ℕ) → suc k ≢ 0
none_here k same = omega arith

-- none of the others passes
pub others_none : {X : Type 0} (p : X → Bool) (xs : List X) (i : ℕ) (d : X) → ((k : ℕ) → k < length xs → k ≢ i → p (get_or xs k d) ≡ false)
    → list_any p (others xs i) ≡ false
others_none p [] zero d each = refl
others_none p [] (suc i) d each = refl
others_none p (x ∷ xs) zero d each = all_none p xs d (λ k h. each (suc k) (omega arith) (none_here k))
others_none p (x ∷ xs) (suc i) d each =
    or_from (p x) (list_any p (others xs i)) (each 0 (omega arith) (zero_apart i))
    (others_none p xs i d (λ k h apart. each (suc k) (omega arith) (suc_apart k i apart)))
