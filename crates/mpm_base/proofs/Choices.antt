-- One of two values, by a test.
use Rattle.std.proofs.Common.{◌≡◌, Bool, true, false, if◌then◌else◌, refl}

-- what is so of each where it is chosen is so of the one that is
pub either : {A : Type 0} (P : A → Type 0) (b : Bool) (x y : A) → (b ≡ true → P x) → (b ≡ false → P y) → P (if b then x else y)
either P true x y here there = here refl
either P false x y here there = there refl

-- a function of the one that is chosen is the choice between its values
pub at_either : {A B : Type 0} (f : A → B) (b : Bool) (x y : A) → f (if b then x else y) ≡ (if b then f x else f y)
at_either f true x y = refl
at_either f false x y = refl
