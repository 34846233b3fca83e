-- How many numbers below a bound pass a test, and how many items.
use Rattle.std.proofs.Common.{◌≡◌, ℕ, zero, suc, ◌+◌, ◌<◌, ◌≤◌, ◌==◌, Bool, true, false, ◌||◌, not, inl, inr, List, [], ◌∷◌, length, map, refl, sym, ap, ◌∙◌, arith, eq-eqb, ne_eqb, add-zero, zero-add}
use Rattle.std.proofs.Math.Bool.{or-false}
use Rattle.std.specs.Prelude.{nat_lt, count_by}
use Rattle.std.specs.List.{range_with_len, list_any}
use Rattle.std.proofs.lemmas.Bool.{cases_eq, cases_lt, lt-ltb, le-ltb, or_parts}
use Rattle.mpm_base.proofs.CountLaws.{one_if, count_cons, one_if_false, one_if_true}
use Rattle.mpm_mount.proofs.Ranges.{plus_suc}

count_next : (t : ℕ → Bool) (a n : ℕ) → count_by t (range_with_len a (suc n)) ≡ count_by t (range_with_len a n) + one_if (t (a + n))
count_next t a zero =
    let same : one_if (t (a + 0)) ≡ one_if (t a) = ap (λ k. one_if (t k)) (add-zero a) in
    omega (arith, count_cons t a [], same)
count_next t a (suc n) =
    let same : one_if (t (a + 1 + n)) ≡ one_if (t (a + suc n)) = ap (λ k. one_if (t k)) (plus_suc a n) in
    omega (arith, count_cons t a (range_with_len (a + 1) (suc n)), count_cons t a (range_with_len (a + 1) n), count_next t (a + 1) n, same)

-- one number more
pub count_more : (t : ℕ → Bool) (n : ℕ) → count_by t (range_with_len 0 (suc n)) ≡ count_by t (range_with_len 0 n) + one_if (t n)
count_more t n = count_next t 0 n ∙ ap (λ k. count_by t (range_with_len 0 n) + one_if (t k)) (zero-add n)

pub count_alike : (s t : ℕ → Bool) (n : ℕ) → ((k : ℕ) → k < n → s k ≡ t k) → count_by s (range_with_len 0 n) ≡ count_by t (range_with_len 0 n)
count_alike s t zero same = refl
count_alike s t (suc n) same =
    let here : one_if (s n) ≡ one_if (t n) = ap one_if (same n (omega arith)) in
    let before = count_alike s t n (λ k h. same k (omega arith)) in
    omega (arith, count_more s n, count_more t n, here, before)

-- a number that passes too
or_other : (b c : Bool) → c ≡ false → (b || c) ≡ b
or_other b c none = ap (λ z. b || z) none ∙ or-false b

count_without : (old : ℕ → Bool) (c n : ℕ) → n ≤ c → count_by (λ b. old b || (c == b)) (range_with_len 0 n) ≡ count_by old (range_with_len 0 n)
count_without old c n h = count_alike (λ b. old b || (c == b)) old n (λ k less. or_other (old k) (c == k) (ne_eqb c k (λ same. omega arith)))

pub count_with : (old : ℕ → Bool) (c n : ℕ) → old c ≡ false → c < n → count_by (λ b. old b || (c == b)) (range_with_len 0 n) ≡ count_by old (range_with_len 0 n) + 1
count_with old c zero new h = absurd (omega arith)
count_with old c (suc n) new h = elim (cases_eq c n) [
  | inl same ↦
      let was : one_if (old n) ≡ 0 = one_if_false (old n) (ap old (sym same) ∙ new) in
      let now : one_if (old n || (c == n)) ≡ 1 = ap (λ b. one_if (b || (c == n))) (ap old (sym same) ∙ new) ∙ ap one_if (eq-eqb c n same) in
      omega (arith, count_more (λ b. old b || (c == b)) n, count_more old n, was, now, count_without old c n (omega arith))
  | inr apart ↦
      let now : one_if (old n || (c == n)) ≡ one_if (old n) = ap one_if (or_other (old n) (c == n) (ne_eqb c n apart)) in
      let before = count_with old c n new (omega arith) in
      omega (arith, count_more (λ b. old b || (c == b)) n, count_more old n, now, before)
]

-- the numbers below one
count_all : (d n : ℕ) → n ≤ d → count_by (λ b. nat_lt b d || false) (range_with_len 0 n) ≡ n
count_all d zero h = refl
count_all d (suc n) h =
    let here : one_if (nat_lt n d || false) ≡ 1 = one_if_true (nat_lt n d || false) (or-false (nat_lt n d) ∙ lt-ltb n d (omega arith)) in
    omega (arith, count_more (λ b. nat_lt b d || false) n, here, count_all d n (omega arith))

pub count_below : (d n : ℕ) → d ≤ n → count_by (λ b. nat_lt b d || false) (range_with_len 0 n) ≡ d
count_below d zero h = omega arith
count_below d (suc n) h = elim (cases_lt n d) [
  | inl less ↦ let whole : suc n ≡ d = omega arith in count_all d (suc n) (omega arith) ∙ whole
  | inr more ↦
      let here : one_if (nat_lt n d || false) ≡ 0 = one_if_false (nat_lt n d || false) (or-false (nat_lt n d) ∙ le-ltb n d more) in
      omega (arith, count_more (λ b. nat_lt b d || false) n, here, count_below d n more)
]

-- items of a list
pub none_counted : {X : Type 0} (p : X → Bool) (xs : List X) → list_any p xs ≡ false → count_by p xs ≡ 0
none_counted p [] none = refl
none_counted p (x ∷ xs) none =
    let parts = or_parts (p x) (list_any p xs) none in
    let here : one_if (p x) ≡ 0 = one_if_false (p x) parts.0 in
    omega (arith, count_cons p x xs, here, none_counted p xs parts.1)

pub count_map : {X Y : Type 0} (p : Y → Bool) (f : X → Y) (xs : List X) → count_by p (map f xs) ≡ count_by (λ x. p (f x)) xs
count_map p f [] = refl
count_map p f (x ∷ xs) = omega (arith, count_cons p (f x) (map f xs), count_cons (λ y. p (f y)) x xs, count_map p f xs)

either_counts : (b : Bool) → one_if (not b) + one_if b ≡ 1
either_counts true = refl
either_counts false = refl

pub not_counted : {X : Type 0} (f : X → Bool) (xs : List X) → count_by not (map f xs) + count_by f xs ≡ length xs
not_counted f [] = refl
not_counted f (x ∷ xs) = omega (arith, count_cons not (f x) (map f xs), count_cons f x xs, either_counts (f x), not_counted f xs)
