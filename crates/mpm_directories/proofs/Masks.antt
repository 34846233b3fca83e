-- Masks of drives, bit by bit.
use Rattle.std.proofs.Common.{◌≡◌, ℕ, zero, suc, ◌+◌, ◌*◌, ◌^◌, ◌<◌, ◌≤◌, Bool, true, false, refl, ap, subst, arith, add-one, ◌∙◌}
use Rattle.std.specs.Prelude.{map, sum, if◌then◌else◌}
use Rattle.std.specs.List.{range_with_len}
use Rattle.std.proofs.lemmas.Nat.{pow-add}
use Rattle.std.proofs.lemmas.List.FromFn.{sum_by-map-range_with_len_more}
use Rattle.std.proofs.Math.Nat.{pow-le-pow_right}
use Rattle.mpm_directories.specs.Direct.{bit_where, mask_of}

-- the mask of the first drives alone
abbrev pub mask_below : (ℕ → Bool) → ℕ → ℕ
mask_below test n = sum (map (bit_where test) (range_with_len 0 n))

pub none_masked : (test : ℕ → Bool) → 0 ≡ mask_below test 0
none_masked test = refl

pub more_masked : (test : ℕ → Bool) (n : ℕ) → mask_below test (n + 1) ≡ mask_below test n + bit_where test n
more_masked test n = sum_by-map-range_with_len_more (λ x. x) (bit_where test) 0 n n (omega arith)

-- it has no higher bit
bit_small : (test : Bool) (weight : ℕ) → (if test then weight else 0) ≤ weight
bit_small true weight = omega arith
bit_small false weight = omega arith

mask_small : (test : ℕ → Bool) (n : ℕ) → mask_below test n < 2 ^ n
mask_small test zero = omega arith
mask_small test (suc n) =
    let doubled : 2 ^ (n + 1) ≡ 2 ^ n * 2 = pow-add 2 n 1 in
    let more : mask_below test (n + 1) ≡ mask_below test n + bit_where test n = more_masked test n in
    let less : mask_below test (n + 1) < 2 ^ (n + 1) = omega (arith, doubled, more, mask_small test n, bit_small (test n) (2 ^ n)) in
    subst (λ m. mask_below test m < 2 ^ m) (add-one n) less

pub mask_fits : (test : ℕ → Bool) (n : ℕ) → n < 16 → mask_below test n + 2 ^ n < 65536
mask_fits test n few =
    let doubled : 2 ^ (n + 1) ≡ 2 ^ n * 2 = pow-add 2 n 1 in
    let last : n + 1 ≤ 16 = omega (arith, few) in
    let most : 2 ^ (n + 1) ≤ 65536 = pow-le-pow_right (omega arith) last in
    omega (arith, doubled, most, mask_small test n)

-- after the sixteenth drive it is that of all
pub all_masked : (test : ℕ → Bool) (mask n : ℕ) → n ≡ 16 → mask ≡ mask_below test n → mask ≡ mask_of test
unfolding mask_of
all_masked test mask n all so_far = so_far ∙ ap (mask_below test) all
