-- The refusal of a call is the first that applies.
use Rattle.std.proofs.Common.{◌≡◌, ◌∙◌, Bool, true, false, ◌||◌, cond, List, [], ◌∷◌, ◌++◌, Option, Some, None, sym, refl, ap}
use Rattle.std.specs.Prelude.{find, option_map}
use Rattle.std.specs.List.{list_any}
use Rattle.std.proofs.lemmas.Option.{same_Some}
use Rattle.mpm_file_functions.specs.declared.refusals.Refusal.{Refusal}
use Rattle.mpm_refusals.specs.Filing.{Situation}
use Rattle.mpm_refusals.specs.Refusals.{RefusalTest, tests_of, does_apply, refusal_of}

-- the first of a list that passes a test, with those before it, none of which does
pub record IsFirst {X : Type 0} (passes : X → Bool) (xs : List X) (x : X) : Type 0 where
  pub before : List X
  pub after : List X
  pub parts : xs ≡ before ++ (x ∷ after)
  pub passed : passes x ≡ true
  pub none : list_any passes before ≡ false

first_step : {X : Type 0} (passes : X → Bool) (y x : X) (ys : List X) (b : Bool) → passes y ≡ b → cond b (Some y) (find passes ys) ≡ Some x
    → (find passes ys ≡ Some x → IsFirst passes ys x) → IsFirst passes (y ∷ ys) x
first_step passes y x ys true e h rest = record {
  before = [];
  after = ys;
  parts = ap (λ z. z ∷ ys) (same_Some y x h);
  passed = ap passes (sym (same_Some y x h)) ∙ e;
  none = refl;
}
first_step passes y x ys false e h rest =
    let r = rest h in
    record {
      before = y ∷ r.before;
      after = r.after;
      parts = ap (λ zs. y ∷ zs) r.parts;
      passed = r.passed;
      none = ap (λ b. b || list_any passes r.before) e ∙ r.none;
    }

pub found_first : {X : Type 0} (passes : X → Bool) (xs : List X) (x : X) → find passes xs ≡ Some x → IsFirst passes xs x
found_first passes [] x h = absurd (cc)
found_first passes (y ∷ ys) x h = first_step passes y x ys (passes y) refl h (found_first passes ys x)

-- a refusal that is answered applies, and none that is asked before it does
pub record IsRefused (s : Situation) (refusal : Refusal) : Type 0 where
  pub test : RefusalTest
  pub is : test.refusal ≡ refusal
  pub first : IsFirst (does_apply s) (tests_of s) test

refused_by : (s : Situation) (refusal : Refusal) (found : Option RefusalTest) → find (does_apply s) (tests_of s) ≡ found → option_map (λ test. test.refusal) found ≡ Some refusal
    → IsRefused s refusal
refused_by s refusal None e h = absurd (cc)
refused_by s refusal (Some test) e h =
    record { test = test; is = same_Some test.refusal refusal h; first = found_first (does_apply s) (tests_of s) test e }

pub refused_first : (s : Situation) (refusal : Refusal) → refusal_of s ≡ Some refusal → IsRefused s refusal
unfolding refusal_of
refused_first s refusal h = refused_by s refusal (find (does_apply s) (tests_of s)) refl h
