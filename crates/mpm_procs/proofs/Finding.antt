-- The lowest number that passes a test, as a walk through the numbers finds it.
use Rattle.std.proofs.Common.{◌≡◌, ◌∙◌, ℕ, zero, suc, ◌+◌, ◌-◌, ◌<◌, ◌≤◌, ◌⊎◌, inl, inr, Bool, true, false, cond, Some, None, refl, sym, ap, arith}
use Rattle.std.specs.Prelude.{find}
use Rattle.std.specs.List.{range_with_len}
use Rattle.std.proofs.lemmas.Bool.{cases_eq}
use Rattle.mpm_procs.specs.Finding.{lowest}

-- the numbers before one all fail: what is lowest from it on is lowest
pub record FailedTo (test : ℕ → Bool) (slot : ℕ) : Type 0 where
  pub rest_is : (rest : ℕ) → slot + rest ≡ 32 → find test (range_with_len slot rest) ≡ lowest test

pub failed_none : (test : ℕ → Bool) → FailedTo test 0
unfolding lowest
failed_none test = record { rest_is = λ rest all. all_from test rest (omega arith) }
  where
    all_from : (test : ℕ → Bool) (rest : ℕ) → rest ≡ 32 → find test (range_with_len 0 rest) ≡ find test (range_with_len 0 32)
    all_from test rest same = ap (λ (n : ℕ). find test (range_with_len 0 n)) same

step : (test : ℕ → Bool) (slot rest : ℕ) → test slot ≡ false → find test (range_with_len slot (suc rest)) ≡ find test (range_with_len (slot + 1) rest)
step test slot rest fails = ap (λ (b : Bool). cond b (Some slot) (find test (range_with_len (slot + 1) rest))) fails

pub failed_more : (test : ℕ → Bool) (slot : ℕ) → FailedTo test slot → test slot ≡ false → FailedTo test (slot + 1)
failed_more test slot before fails = record { rest_is = λ rest all. sym (step test slot rest fails) ∙ before.rest_is (suc rest) (omega arith) }

hit : (test : ℕ → Bool) (slot rest : ℕ) → test slot ≡ true → find test (range_with_len slot (suc rest)) ≡ Some slot
hit test slot rest passes = ap (λ (b : Bool). cond b (Some slot) (find test (range_with_len (slot + 1) rest))) passes

pub found_lowest : (test : ℕ → Bool) (slot : ℕ) → slot < 32 → FailedTo test slot → test slot ≡ true → Some slot ≡ lowest test
found_lowest test slot below before passes =
    let rest : ℕ = 31 - slot in
    let all : slot + suc rest ≡ 32 = omega arith in
    sym (hit test slot rest passes) ∙ before.rest_is (suc rest) all

pub found_none : (test : ℕ → Bool) (slot : ℕ) → slot ≡ 32 → FailedTo test slot → None ≡ lowest test
found_none test slot end before = before.rest_is 0 (omega arith)

-- the lowest number passes, and none below it does
abbrev IsFirst : (ℕ → Bool) → ℕ → ℕ → ℕ → Type 0
IsFirst test from n p = (test p ≡ true) × (p < from + n) × (from ≤ p) × ((k : ℕ) → from ≤ k → k < p → test k ≡ false)

found_at : (test : ℕ → Bool) (from n p : ℕ) (b : Bool) → test from ≡ b → cond b (Some from) (find test (range_with_len (from + 1) n)) ≡ Some p → (find test (range_with_len (from + 1) n) ≡ Some p → IsFirst test (from + 1) n p) → IsFirst test from (suc n) p
found_at test from n p true passes is rest =
    let here : from ≡ p = cc in
    (ap test (sym here) ∙ passes, omega arith, omega arith, λ k low high. absurd (omega arith))
found_at test from n p false fails is rest =
    let behind = rest is in
    (behind.0, omega (arith, behind.1), omega (arith, behind.2), λ k low high. below test from k p fails (behind.3 k) low high (cases_eq k from))
  where
    below : (test : ℕ → Bool) (from k p : ℕ) → test from ≡ false → (from + 1 ≤ k → k < p → test k ≡ false) → from ≤ k → k < p → (k ≡ from) ⊎ (k ≡ from → ⊥) → test k ≡ false
    below test from k p fails behind low high (inl same) = ap test same ∙ fails
    below test from k p fails behind low high (inr apart) = behind (omega arith) high

found_first : (test : ℕ → Bool) (from n p : ℕ) → find test (range_with_len from n) ≡ Some p → IsFirst test from n p
found_first test from zero p is = absurd (cc)
found_first test from (suc n) p is = found_at test from n p (test from) refl is (found_first test (from + 1) n p)

pub lowest_passes : (test : ℕ → Bool) (p : ℕ) → lowest test ≡ Some p → (test p ≡ true) × (p < 32) × ((k : ℕ) → k < p → test k ≡ false)
unfolding lowest
lowest_passes test p is =
    let first = found_first test 0 32 p is in
    (first.0, omega (arith, first.1), λ k below. first.3 k (omega arith) below)

none_at : (test : ℕ → Bool) (from n : ℕ) (b : Bool) → test from ≡ b → cond b (Some from) (find test (range_with_len (from + 1) n)) ≡ None → (find test (range_with_len (from + 1) n) ≡ None → (k : ℕ) → from + 1 ≤ k → k < from + 1 + n → test k ≡ false) → (k : ℕ) → from ≤ k → k < from + suc n → test k ≡ false
none_at test from n true passes is rest k low high = absurd (cc)
none_at test from n false fails is rest k low high =
    elim (cases_eq k from) [
      | inl same ↦ ap test same ∙ fails
      | inr apart ↦ rest is k (omega arith) (omega arith)
    ]

none_found : (test : ℕ → Bool) (from n : ℕ) → find test (range_with_len from n) ≡ None → (k : ℕ) → from ≤ k → k < from + n → test k ≡ false
none_found test from zero is k low high = absurd (omega arith)
none_found test from (suc n) is k low high = none_at test from n (test from) refl is (none_found test (from + 1) n) k low high

pub lowest_none : (test : ℕ → Bool) → lowest test ≡ None → (k : ℕ) → k < 32 → test k ≡ false
unfolding lowest
lowest_none test is k below = none_found test 0 32 is k (omega arith) (omega arith)
