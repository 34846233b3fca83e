-- Tests over the numbers below a bound, and lists that have a value for each of them.
use Rattle.std.proofs.Common.{◌≡◌, ℕ, zero, suc, ◌+◌, ◌<◌, Bool, true, false, ◌||◌, List, [], ◌∷◌, length, get_or, map, refl, sym, ap, ◌∙◌, arith, add-one, add-zero, zero-add}
use Rattle.std.proofs.Math.Bool.{or-false, or_assoc}
use Rattle.std.specs.List.{range_with_len, list_any}
use Rattle.std.proofs.lemmas.Bool.{both_ways, false_from_ne_true}
use Rattle.std.proofs.lemmas.List.FromFn.{length-range_with_len, get_or-range_with_len, length-map-range_with_len, get_or-map-range_with_len, fill_by_all}
use Rattle.std.proofs.lemmas.List.Folds.{list_any_at, Any-from_list_any}
use Rattle.mpm_base.proofs.Lists.{any_at}

pub plus_suc : (a k : ℕ) → a + 1 + k ≡ a + suc k
plus_suc a k = omega arith

any_next : (t : ℕ → Bool) (a n : ℕ) → list_any t (range_with_len a (suc n)) ≡ (list_any t (range_with_len a n) || t (a + n))
any_next t a zero = or-false (t a) ∙ ap t (sym (add-zero a))
any_next t a (suc n) =
    let before : Bool = t a || list_any t (range_with_len (a + 1) n) in
    ap (λ b. t a || b) (any_next t (a + 1) n)
    ∙ sym (or_assoc (t a) (list_any t (range_with_len (a + 1) n)) (t (a + 1 + n)))
    ∙ ap (λ k. before || t k) (plus_suc a n)

-- one number more
pub any_more : (t : ℕ → Bool) (n : ℕ) → list_any t (range_with_len 0 (n + 1)) ≡ (list_any t (range_with_len 0 n) || t n)
any_more t n =
    ap (λ m. list_any t (range_with_len 0 m)) (add-one n) ∙ any_next t 0 n ∙ ap (λ k. list_any t (range_with_len 0 n) || t k) (zero-add n)

pub none_at : (t : ℕ → Bool) (n k : ℕ) → list_any t (range_with_len 0 n) ≡ false → k < n → t k ≡ false
none_at t n k nowhere h =
    false_from_ne_true (t k) (λ here. both_ways (list_any t (range_with_len 0 n)) nowhere (any_at t n k h here))

pub any_where : (t : ℕ → Bool) (n : ℕ) → list_any t (range_with_len 0 n) ≡ true → (k : ℕ) × (k < n) × (t k ≡ true)
any_where t n found =
    let some = Any-from_list_any t (range_with_len 0 n) found in
    let h : some.0 < n = omega (arith, length-range_with_len 0 n) in
    let same : some.1 ≡ some.0 = sym some.3 ∙ get_or-range_with_len 0 n some.0 some.1 h ∙ zero-add some.0 in
    (some.0, h, ap t (sym same) ∙ some.4)

pub none_if : (t : ℕ → Bool) (n : ℕ) → ((k : ℕ) → k < n → t k ≡ false) → list_any t (range_with_len 0 n) ≡ false
none_if t n each =
    false_from_ne_true (list_any t (range_with_len 0 n)) (λ found.
    let some = any_where t n found in
    both_ways (t some.0) (each some.0 some.1) some.2)

pub any_same : (s t : ℕ → Bool) (n : ℕ) → ((k : ℕ) → k < n → s k ≡ t k) → list_any s (range_with_len 0 n) ≡ list_any t (range_with_len 0 n)
any_same s t zero same = refl
any_same s t (suc n) same =
    any_next s 0 n ∙ ap (λ b. b || s (0 + n)) (any_same s t n (λ k h. same k (omega arith)))
    ∙ ap (λ b. list_any t (range_with_len 0 n) || b) (same (0 + n) (omega arith)) ∙ sym (any_next t 0 n)

-- a list of the values at the numbers below a bound
pub map_same : {X : Type 0} (f g : ℕ → X) (n : ℕ) → ((k : ℕ) → k < n → f k ≡ g k) → map f (range_with_len 0 n) ≡ map g (range_with_len 0 n)
map_same f g n same =
    fill_by_all g (map f (range_with_len 0 n)) n (f 0) (length-map-range_with_len f 0 n) (λ k h. get_or-map-range_with_len f 0 n k k (f 0) h (omega arith) ∙ same k h)

pub map_at : {X : Type 0} (f : ℕ → X) (n k : ℕ) (d : X) → k < n → get_or (map f (range_with_len 0 n)) k d ≡ f k
map_at f n k d h = get_or-map-range_with_len f 0 n k k d h (omega arith)

-- tests over a list
pub none_in : {X : Type 0} (p : X → Bool) (xs : List X) (k : ℕ) (d : X) → list_any p xs ≡ false → k < length xs → p (get_or xs k d) ≡ false
none_in p xs k d nowhere h =
    false_from_ne_true (p (get_or xs k d)) (λ here. both_ways (list_any p xs) nowhere (list_any_at p xs k d h here))

pub any_alike : {X : Type 0} (p q : X → Bool) (xs : List X) → ((x : X) → p x ≡ q x) → list_any p xs ≡ list_any q xs
any_alike p q [] same = refl
any_alike p q (x ∷ xs) same = ap (λ b. b || list_any p xs) (same x) ∙ ap (λ b. q x || b) (any_alike p q xs same)
