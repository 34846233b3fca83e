-- When a call's turns end.
use Rattle.std.proofs.Common.{◌≡◌, ℕ, zero, suc, ◌+◌, ◌-◌, ◌*◌, ◌<◌, ◌==◌, Bool, true, false, cond, Option, Some, None, option_map, refl, ap, subst, ◌∙◌, arith, mul-suc}
use Rattle.std.specs.Prelude.{option_and_then}
use Rattle.std.proofs.lemmas.Bool.Decides.{nat_tests}
use Rattle.mpm_service.specs.declared.service.Served.{Served}
use Rattle.mpm_service.specs.declared.service.Turn.{Turn}
use Rattle.mpm_service.specs.declared.service.Turn.TheVariants.{Passing, Work}
use Rattle.mpm_service.specs.Disk.{after_step, step_answer, with_turns}
use Rattle.mpm_service.specs.Turns.{after_steps, TakesTurns}

-- a call with so many turns left, of whose turn so many steps have passed
abbrev pub with_left : ℕ → ℕ → ℕ → Served
with_left p left passed = record { p = p; left = left; passed = passed }

same_test : (b : Bool) (x y z : Option Served) → b ≡ false → y ≡ z → cond b x y ≡ z
same_test true x y z e h = absurd (cc)
same_test false x y z e h = h

last_test : (b : Bool) (x y z : Option Served) → b ≡ true → x ≡ z → cond b x y ≡ z
last_test true x y z e h = h
last_test false x y z e h = absurd (cc)

pub passes : (k p left j : ℕ) → j + 1 < k → after_step k (with_left p left j) ≡ Some (with_left p left (j + 1))
unfolding after_step
passes k p left j below = same_test (j + 1 == k) _ _ _ (grind (arith, nat_tests)) refl

turn_passes : (k p left j : ℕ) → j + 1 ≡ k → 1 < left → after_step k (with_left p left j) ≡ Some (with_left p (left - 1) 0)
unfolding after_step
turn_passes k p left j at more = last_test (j + 1 == k) _ _ _ (grind (arith, nat_tests)) (same_test (left == 1) _ _ _ (grind (arith, nat_tests)) refl)

call_ends : (k p left j : ℕ) → j + 1 ≡ k → left ≡ 1 → after_step k (with_left p left j) ≡ None
unfolding after_step
call_ends k p left j at one = last_test (j + 1 == k) _ _ _ (grind (arith, nat_tests)) (last_test (left == 1) _ _ _ (grind (arith, nat_tests)) refl)

one_more : (k n : ℕ) (call now : Served) → after_steps k n call ≡ Some now → after_steps k (suc n) call ≡ after_step k now
unfolding after_steps
one_more k n call now at = ap (λ (o : Option Served). option_and_then (after_step k) o) at

at_step : (k n m : ℕ) (call : Served) (now : Option Served) → n ≡ m → after_steps k n call ≡ now → after_steps k m call ≡ now
at_step k n m call now same at = subst (λ (x : ℕ). after_steps k x call ≡ now) same at

-- within a turn
within_turn : (k n m left j : ℕ) (call : Served) → after_steps k n call ≡ Some (with_left call.p left 0) → j < k → m ≡ n + j
    → after_steps k m call ≡ Some (with_left call.p left j)
within_turn k n m left zero call at below is = at_step k n m call _ (omega arith) at
within_turn k n m left (suc j) call at below is =
    at_step k (suc (n + j)) m call _ (omega arith)
    (one_more k (n + j) call (with_left call.p left j) (within_turn k n (n + j) left j call at (omega arith) refl)
    ∙ passes k call.p left j (omega arith)
    ∙ ap (λ (x : ℕ). Some (with_left call.p left x)) (omega arith))

next_turn : (k i : ℕ) → k * (i + 1) ≡ k * i + k
next_turn k i = omega (arith, mul-suc k i)

-- from turn to turn
turn_begins : (k t i m : ℕ) (call : Served) → 0 < k → call ≡ with_left call.p t 0 → i < t → m ≡ k * i → after_steps k m call ≡ Some (with_left call.p (t - i) 0)
unfolding after_steps
turn_begins k t zero m call some at below is =
    at_step k 0 m call _ (omega (arith)) (ap (λ (c : Served). Some c) at ∙ ap (λ (x : ℕ). Some (with_left call.p x 0)) (omega arith))
turn_begins k t (suc i) m call some at below is =
    let before = turn_begins k t i (k * i) call some at (omega arith) refl in
    at_step k (suc (k * i + (k - 1))) m call _ (omega (arith, next_turn k i))
    (one_more k (k * i + (k - 1)) call _ (within_turn k (k * i) (k * i + (k - 1)) (t - i) (k - 1) call before (omega arith) refl)
    ∙ turn_passes k call.p (t - i) (k - 1) (omega arith) (omega arith)
    ∙ ap (λ (left : ℕ). Some (with_left call.p left 0)) (omega arith))

all_ended : (k t m : ℕ) (call : Served) → 0 < k → 0 < t → call ≡ with_left call.p t 0 → m ≡ k * t → after_steps k m call ≡ None
all_ended k zero m call some more at is = absurd (omega arith)
all_ended k (suc i) m call some more at is =
    let before = turn_begins k (suc i) i (k * i) call some at (omega arith) refl in
    at_step k (suc (k * i + (k - 1))) m call _ (omega (arith, next_turn k i))
    (one_more k (k * i + (k - 1)) call _ (within_turn k (k * i) (k * i + (k - 1)) (suc i - i) (k - 1) call before (omega arith) refl)
    ∙ call_ends k call.p (suc i - i) (k - 1) (omega arith) (omega arith))

answered : (k p left j t i : ℕ) → left ≡ t - i → i < t → step_answer k (with_left p left j) ≡ cond (j + 1 == k) (Work p (i + 1 == t)) Passing
unfolding step_answer
answered k p left j t i is below =
    let same : (left == 1) ≡ (i + 1 == t) = grind (arith, nat_tests) in
    ap (λ (b : Bool). cond (j + 1 == k) (Work p b) Passing) same

-- a call that has just begun
begins : (k t : ℕ) (call : Served) → 0 < k → 0 < t → call ≡ with_left call.p t 0 → TakesTurns k t call
begins k t call some more at = record {
  answers = λ i j below within.
      ap (λ (o : Option Served). option_map (step_answer k) o) (within_turn k (k * i) (k * i + j) (t - i) j call (turn_begins k t i (k * i) call some at below refl) within refl)
      ∙ ap (λ (turn : Turn). Some turn) (answered k call.p (t - i) j t i refl below);
  ends = all_ended k t (k * t) call some more at refl;
}

pub takes_turns : (k t passed : ℕ) (call : Served) → passed < k → 0 < t → TakesTurns k t (with_turns t call)
takes_turns k t passed call within some = begins k t (with_turns t call) (omega arith) some refl
