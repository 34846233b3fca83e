-- How many items pass a test, one after the other; how many numbers there are below a bound, none of them twice; and how many of some
-- are left after one of them.
use Rattle.std.proofs.Common.{◌≡◌, ℕ, zero, suc, ◌+◌, ◌<◌, ◌≤◌, Bool, true, false, ◌==◌, if◌then◌else◌, List, [], ◌∷◌, length, refl, arith}
use Rattle.std.specs.Prelude.{count_by, nat_lt}
use Rattle.std.proofs.lemmas.Bool.Decides.{nat_tests}
use Rattle.std.proofs.lemmas.List.Sums.{sum_by-cons}
pub use Rattle.mpm_base.specs.Counts.{one_if}

pub count_cons : {X : Type 0} (test : X → Bool) (x : X) (xs : List X) → count_by test (x ∷ xs) ≡ one_if (test x) + count_by test xs
count_cons test x xs = sum_by-cons (λ y. if test y then 1 else 0) x xs

pub one_if_true : (b : Bool) → b ≡ true → one_if b ≡ 1
one_if_true true e = refl
one_if_true false e = absurd (cc)

pub one_if_false : (b : Bool) → b ≡ false → one_if b ≡ 0
one_if_false true e = absurd (cc)
one_if_false false e = refl

pub at_most_one : (b : Bool) → one_if b ≤ 1
at_most_one true = omega arith
at_most_one false = omega arith

-- numbers below a bound are those below the one before it, and that one
next_below : (x n : ℕ) → one_if (nat_lt x (suc n)) ≡ one_if (nat_lt x n) + one_if (x == n)
next_below x n = grind (arith, nat_tests)

below_next : (xs : List ℕ) (n : ℕ) → count_by (λ x. nat_lt x (suc n)) xs ≡ count_by (λ x. nat_lt x n) xs + count_by (λ x. x == n) xs
below_next [] n = refl
below_next (x ∷ xs) n =
    omega (arith, below_next xs n, next_below x n, count_cons (λ y. nat_lt y (suc n)) x xs, count_cons (λ y. nat_lt y n) x xs, count_cons (λ y. y == n) x xs)

none_below : (xs : List ℕ) → count_by (λ x. nat_lt x 0) xs ≡ 0
none_below [] = refl
none_below (x ∷ xs) =
    let none : one_if (nat_lt x 0) ≡ 0 = grind (arith, nat_tests) in
    omega (arith, none_below xs, count_cons (λ y. nat_lt y 0) x xs)

few_below : (xs : List ℕ) (n : ℕ) → ((q : ℕ) → count_by (λ x. x == q) xs ≤ 1) → count_by (λ x. nat_lt x n) xs ≤ n
few_below xs zero once = omega (arith, none_below xs)
few_below xs (suc n) once = omega (arith, few_below xs n once, once n, below_next xs n)

all_below : (xs : List ℕ) (n : ℕ) → ((q : ℕ) → 0 < count_by (λ x. x == q) xs → q < n) → count_by (λ x. nat_lt x n) xs ≡ length xs
all_below [] n below = refl
all_below (x ∷ xs) n below =
    let itself : one_if (x == x) ≡ 1 = one_if_true (x == x) (grind (arith, nat_tests)) in
    let here : x < n = below x (omega (arith, count_cons (λ y. y == x) x xs)) in
    let counts : one_if (nat_lt x n) ≡ 1 = one_if_true (nat_lt x n) (grind (arith, nat_tests)) in
    omega (arith, all_below xs n (λ q some. below q (omega (arith, count_cons (λ y. y == q) x xs))), count_cons (λ y. nat_lt y n) x xs)

-- numbers of which none stands twice are at most as many as their bound
pub few_numbers : (xs : List ℕ) (n : ℕ) → ((q : ℕ) → count_by (λ x. x == q) xs ≤ 1) → ((q : ℕ) → 0 < count_by (λ x. x == q) xs → q < n)
    → length xs ≤ n
few_numbers xs n once below = omega (arith, few_below xs n once, all_below xs n below)

pub less_by : (k count : ℕ) → k < count → (left : ℕ) × (k + 1 + left ≡ count)
less_by k zero h = absurd (omega arith)
less_by zero (suc count) h = (count, omega arith)
less_by (suc k) (suc count) h = let rest = less_by k count (omega arith) in (rest.0, omega (arith, rest.1))
