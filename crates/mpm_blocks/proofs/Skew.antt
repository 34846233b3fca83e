-- The skew table has each sector of a track once, so no two logical sectors are one sector of the image.
use Rattle.std.proofs.Common.{◌≡◌, ℕ, ◌+◌, ◌-◌, ◌/◌, ◌%◌, ◌<◌, ◌≤◌, ◌==◌, Bool, true, List, [], ◌∷◌, length, get_or, refl, sym, ap, subst, ◌∙◌, arith}
use Rattle.std.specs.Prelude.{nat_le, count_by}
use Rattle.std.specs.List.{range_with_len, list_all}
use Rattle.std.proofs.lemmas.Bool.Decides.{nat_tests}
use Rattle.std.proofs.lemmas.List.Elements.{All-get_or}
use Rattle.std.proofs.lemmas.List.FromFn.{length-range_with_len, get_or-range_with_len}
use Rattle.std.proofs.lemmas.List.Sums.{AllPass-from_list_all}
use Rattle.mpm_blocks.specs.Geometries.{skew, place_of}
use Rattle.mpm_base.specs.declared.kind.Kind.{Kind}
use Rattle.mpm_base.specs.declared.kind.Kind.TheVariants.{Ibm3740, Hd4, Hd8}

-- a test that holds of each number from a one on
holds_within : (test : ℕ → Bool) (from n : ℕ) → list_all test (range_with_len from n) ≡ true → (k : ℕ) → k < n → test (from + k) ≡ true
holds_within test from n all k h =
    let P : ℕ → Type 0 = λ x. test x ≡ true in
    let size : k < length (range_with_len from n) = omega (arith, length-range_with_len from n) in
    subst P (get_or-range_with_len from n k 0 h) (All-get_or P (range_with_len from n) k 0 size (AllPass-from_list_all test (range_with_len from n) all))

holds_below : (test : ℕ → Bool) (n : ℕ) → list_all test (range_with_len 0 n) ≡ true → (k : ℕ) → k < n → test k ≡ true
holds_below test n all k h =
    let P : ℕ → Type 0 = λ x. test x ≡ true in
    let same : 0 + k ≡ k = omega arith in
    subst P same (holds_within test 0 n all k h)

-- each sector of the 26 stands in the table once
all_once : list_all (λ sector. count_by (λ s. s == sector) skew == 1) (range_with_len 1 26) ≡ true
unfolding skew
all_once = refl

pub each_once : (sector : ℕ) → 1 ≤ sector → sector ≤ 26 → count_by (λ s. s == sector) skew ≡ 1
each_once sector low high =
    let n : ℕ = sector - 1 in
    let same : 1 + n ≡ sector = omega arith in
    let P : ℕ → Type 0 = λ s. (count_by (λ t. t == s) skew == 1) ≡ true in
    let test : (count_by (λ s. s == sector) skew == 1) ≡ true = subst P same (holds_within (λ s. count_by (λ t. t == s) skew == 1) 1 26 all_once n (omega arith)) in
    grind (arith, nat_tests)

all_above : list_all (λ index. nat_le 1 (get_or skew index 0)) (range_with_len 0 26) ≡ true
unfolding skew
all_above = refl

all_below : list_all (λ index. nat_le (get_or skew index 0) 26) (range_with_len 0 26) ≡ true
unfolding skew
all_below = refl

-- the index of each sector
indexes : List ℕ
indexes =
    0 ∷ 13 ∷ 9 ∷ 22 ∷ 5 ∷ 18 ∷ 1 ∷ 14 ∷ 10 ∷ 23 ∷ 6 ∷ 19 ∷ 2 ∷ 15 ∷ 11 ∷ 24 ∷ 7 ∷ 20 ∷ 3 ∷ 16 ∷ 12 ∷ 25 ∷ 8 ∷ 21 ∷ 4 ∷ 17 ∷ []

all_back : list_all (λ index. get_or indexes (get_or skew index 0 - 1) 0 == index) (range_with_len 0 26) ≡ true
unfolding skew indexes
all_back = refl

-- each entry is a sector of the track
pub skew_low : (index : ℕ) → index < 26 → 1 ≤ get_or skew index 0
skew_low index h =
    let test = holds_below (λ i. nat_le 1 (get_or skew i 0)) 26 all_above index h in
    grind (arith, nat_tests)

pub skew_high : (index : ℕ) → index < 26 → get_or skew index 0 ≤ 26
skew_high index h =
    let test = holds_below (λ i. nat_le (get_or skew i 0) 26) 26 all_below index h in
    grind (arith, nat_tests)

-- the index of an entry is read back
back_again : (index : ℕ) → index < 26 → get_or indexes (get_or skew index 0 - 1) 0 ≡ index
back_again index h =
    let test = holds_below (λ i. get_or indexes (get_or skew i 0 - 1) 0 == i) 26 all_back index h in
    grind (arith, nat_tests)

-- two indexes have different sectors
pub skew_injective : (a b : ℕ) → a < 26 → b < 26 → get_or skew a 0 ≡ get_or skew b 0 → a ≡ b
skew_injective a b ha hb same =
    sym (back_again a ha) ∙ ap (λ s. get_or indexes (s - 1) 0) same ∙ back_again b hb

-- two logical sectors have different places
pub place_injective : (kind : Kind) (a b : ℕ) → place_of kind a ≡ place_of kind b → a ≡ b
place_injective Hd4 a b same = same
place_injective Hd8 a b same = same
place_injective Ibm3740 a b same =
    let ra : a % 26 < 26 = omega arith in
    let rb : b % 26 < 26 = omega arith in
    let low_a = skew_low (a % 26) ra in
    let low_b = skew_low (b % 26) rb in
    let high_a = skew_high (a % 26) ra in
    let high_b = skew_high (b % 26) rb in
    let track : a / 26 ≡ b / 26 = omega arith in
    let sector : get_or skew (a % 26) 0 ≡ get_or skew (b % 26) 0 = omega arith in
    let index : a % 26 ≡ b % 26 = skew_injective (a % 26) (b % 26) ra rb sector in
    omega arith
