-- Which items of a list pass a test, and how many, after a change of the list.
use Rattle.std.proofs.Common.{◌≡◌, ◌∙◌, ℕ, zero, suc, ◌+◌, ◌<◌, ◌≤◌, Bool, true, false, not, ◌&&◌, ◌||◌, if◌then◌else◌, List, [], ◌∷◌, ◌++◌, Option, Some, None, length, filter, get_or, set, cond, sym, refl, ap, arith}
use Rattle.std.specs.Prelude.{count_by, nat_lt, position}
use Rattle.std.specs.List.{list_any, list_all, position_or_len, find}
use Rattle.std.proofs.lemmas.Bool.{false≢true, and_parts, or_parts}
use Rattle.std.proofs.lemmas.Bool.Decides.{nat_tests}
use Rattle.std.proofs.lemmas.List.Sums.{sum_by-set}
use Rattle.std.proofs.lemmas.Option.{same_Some}
use Rattle.mpm_base.proofs.CountLaws.{one_if, count_cons, one_if_true, one_if_false}

-- two lists, one after the other
pub count_append : {X : Type 0} (test : X → Bool) (xs ys : List X) → count_by test (xs ++ ys) ≡ count_by test xs + count_by test ys
count_append test [] ys = omega arith
count_append test (x ∷ xs) ys = omega (arith, count_append test xs ys, count_cons test x (xs ++ ys), count_cons test x xs)

-- one place is set
pub count_set : {X : Type 0} (test : X → Bool) (xs : List X) (i : ℕ) (y d : X) → i < length xs
    → count_by test (set xs i y) + one_if (test (get_or xs i d)) ≡ count_by test xs + one_if (test y)
count_set test xs i y d h = sum_by-set (λ x. if test x then 1 else 0) xs i y d h

-- some pass where their number isn't 0
any_counts_step : {X : Type 0} (test : X → Bool) (x : X) (xs : List X) (b : Bool) → test x ≡ b → (list_any test xs ≡ true → 0 < count_by test xs)
    → (b || list_any test xs) ≡ true → 0 < count_by test (x ∷ xs)
any_counts_step test x xs true is rest e = omega (arith, count_cons test x xs, one_if_true (test x) is)
any_counts_step test x xs false is rest e = omega (arith, count_cons test x xs, rest e)

pub counts_where_any : {X : Type 0} (test : X → Bool) (xs : List X) → list_any test xs ≡ true → 0 < count_by test xs
counts_where_any test [] e = absurd (cc)
counts_where_any test (x ∷ xs) e = any_counts_step test x xs (test x) refl (counts_where_any test xs) e

counts_any_step : {X : Type 0} (test : X → Bool) (x : X) (xs : List X) (b : Bool) → test x ≡ b → (0 < count_by test xs → list_any test xs ≡ true)
    → 0 < count_by test (x ∷ xs) → (b || list_any test xs) ≡ true
counts_any_step test x xs true is rest h = refl
counts_any_step test x xs false is rest h = rest (omega (arith, count_cons test x xs, one_if_false (test x) is))

pub any_where_counts : {X : Type 0} (test : X → Bool) (xs : List X) → 0 < count_by test xs → list_any test xs ≡ true
any_where_counts test [] h = absurd (omega arith)
any_where_counts test (x ∷ xs) h = counts_any_step test x xs (test x) refl (any_where_counts test xs) h

-- none passes where no first one does
no_place_step : {X : Type 0} (test : X → Bool) (x : X) (xs : List X) (b : Bool) → test x ≡ b
    → (nat_lt (position_or_len test xs) (length xs) ≡ false → count_by test xs ≡ 0)
    → nat_lt (cond (not b) (1 + position_or_len test xs) 0) (length (x ∷ xs)) ≡ false → count_by test (x ∷ xs) ≡ 0
no_place_step test x xs true is rest e = absurd (grind (arith, nat_tests))
no_place_step test x xs false is rest e =
    let none : nat_lt (position_or_len test xs) (length xs) ≡ false = grind (arith, nat_tests) in
    omega (arith, count_cons test x xs, one_if_false (test x) is, rest none)

pub none_where_no_place : {X : Type 0} (test : X → Bool) (xs : List X) → nat_lt (position_or_len test xs) (length xs) ≡ false → count_by test xs ≡ 0
none_where_no_place test [] e = refl
none_where_no_place test (x ∷ xs) e = no_place_step test x xs (test x) refl (none_where_no_place test xs) e

pub none_where_no_position : {X : Type 0} (test : X → Bool) (xs : List X) → position test xs ≡ None → count_by test xs ≡ 0
none_where_no_position test xs e = none_where_no_place test xs (no_place (nat_lt (position_or_len test xs) (length xs)) e)
  where
    no_place : (b : Bool) → cond b (Some (position_or_len test xs)) None ≡ None → b ≡ false
    no_place true e = absurd (cc)
    no_place false e = refl

-- where none passes, what stands at a place doesn't
pub fails_at : {X : Type 0} (test : X → Bool) (xs : List X) (i : ℕ) (d : X) → test d ≡ false → list_any test xs ≡ false → test (get_or xs i d) ≡ false
fails_at test [] i d blank e = blank
fails_at test (x ∷ xs) zero d blank e = (or_parts (test x) (list_any test xs) e).0
fails_at test (x ∷ xs) (suc i) d blank e = fails_at test xs i d blank ((or_parts (test x) (list_any test xs) e).1)

-- what is left of a list
count_filter_step : {X : Type 0} (test keep : X → Bool) (x : X) (xs : List X) (b : Bool) → count_by test (filter keep xs) ≤ count_by test xs
    → count_by test (if b then x ∷ filter keep xs else filter keep xs) ≤ count_by test (x ∷ xs)
count_filter_step test keep x xs true rest = omega (arith, count_cons test x (filter keep xs), count_cons test x xs, rest)
count_filter_step test keep x xs false rest = omega (arith, count_cons test x xs, rest)

pub count_filter : {X : Type 0} (test keep : X → Bool) (xs : List X) → count_by test (filter keep xs) ≤ count_by test xs
count_filter test keep [] = omega arith
count_filter test keep (x ∷ xs) = count_filter_step test keep x xs (keep x) (count_filter test keep xs)

-- what all passed they pass by another test, if those that are left do
all_left_step : {X : Type 0} (test other keep : X → Bool) (x : X) (xs : List X) (b : Bool) → keep x ≡ b
    → (keep x ≡ true → test x ≡ true → other x ≡ true) → test x ≡ true → list_all other (filter keep xs) ≡ true
    → list_all other (if b then x ∷ filter keep xs else filter keep xs) ≡ true
all_left_step test other keep x xs true is each here rest = ap (λ b. b && list_all other (filter keep xs)) (each is here) ∙ rest
all_left_step test other keep x xs false is each here rest = rest

pub all_left : {X : Type 0} (test other keep : X → Bool) (xs : List X) → ((x : X) → keep x ≡ true → test x ≡ true → other x ≡ true)
    → list_all test xs ≡ true → list_all other (filter keep xs) ≡ true
all_left test other keep [] each e = refl
all_left test other keep (x ∷ xs) each e =
    let parts = and_parts (test x) (list_all test xs) e in
    all_left_step test other keep x xs (keep x) refl (each x) (parts.0) (all_left test other keep xs each (parts.1))

pub all_still : {X : Type 0} (test other : X → Bool) (xs : List X) → ((x : X) → test x ≡ true → other x ≡ true) → list_all test xs ≡ true → list_all other xs ≡ true
all_still test other [] each e = refl
all_still test other (x ∷ xs) each e =
    let parts = and_parts (test x) (list_all test xs) e in
    ap (λ b. b && list_all other xs) (each x (parts.0)) ∙ all_still test other xs each (parts.1)

-- the first that passes stays the first that passes, if it is left
find_kept_step : {X : Type 0} (test keep : X → Bool) (x y : X) (ys : List X) (a b : Bool) → test y ≡ a → keep y ≡ b → keep x ≡ true
    → (find test ys ≡ Some x → find test (filter keep ys) ≡ Some x)
    → (if a then Some y else find test ys) ≡ Some x → find test (if b then y ∷ filter keep ys else filter keep ys) ≡ Some x
find_kept_step test keep x y ys true true passes left kept rest e = ap (λ c. if c then Some y else find test (filter keep ys)) passes ∙ e
find_kept_step test keep x y ys true false passes gone kept rest e = absurd (false≢true (sym gone ∙ ap keep (same_Some y x e) ∙ kept))
find_kept_step test keep x y ys false true fails left kept rest e = ap (λ c. if c then Some y else find test (filter keep ys)) fails ∙ rest e
find_kept_step test keep x y ys false false fails gone kept rest e = rest e

pub find_kept : {X : Type 0} (test keep : X → Bool) (xs : List X) (x : X) → find test xs ≡ Some x → keep x ≡ true → find test (filter keep xs) ≡ Some x
find_kept test keep [] x e kept = absurd (cc)
find_kept test keep (y ∷ ys) x e kept =
    find_kept_step test keep x y ys (test y) (keep y) refl refl kept (λ found. find_kept test keep ys x found kept) e

-- where one passes, a first one is found
not_found_step : {X : Type 0} (test : X → Bool) (x : X) (xs : List X) (b : Bool) → test x ≡ b → (find test xs ≡ None → count_by test xs ≡ 0)
    → (if b then Some x else find test xs) ≡ None → count_by test (x ∷ xs) ≡ 0
not_found_step test x xs true is rest e = absurd (cc)
not_found_step test x xs false is rest e = omega (arith, count_cons test x xs, one_if_false (test x) is, rest e)

pub none_where_not_found : {X : Type 0} (test : X → Bool) (xs : List X) → find test xs ≡ None → count_by test xs ≡ 0
none_where_not_found test [] e = refl
none_where_not_found test (x ∷ xs) e = not_found_step test x xs (test x) refl (none_where_not_found test xs) e

-- what is found passes, and none is found where none passes
found_step : {X : Type 0} (test : X → Bool) (x y : X) (ys : List X) (b : Bool) → test y ≡ b → (find test ys ≡ Some x → (test x ≡ true) × (0 < count_by test ys))
    → (if b then Some y else find test ys) ≡ Some x → (test x ≡ true) × (0 < count_by test (y ∷ ys))
found_step test x y ys true is rest e =
    (ap test (sym (same_Some y x e)) ∙ is, omega (arith, count_cons test y ys, one_if_true (test y) is))
found_step test x y ys false is rest e = ((rest e).0, omega (arith, count_cons test y ys, (rest e).1))

pub found_counts : {X : Type 0} (test : X → Bool) (xs : List X) (x : X) → find test xs ≡ Some x → (test x ≡ true) × (0 < count_by test xs)
found_counts test [] x e = absurd (cc)
found_counts test (y ∷ ys) x e = found_step test x y ys (test y) refl (found_counts test ys x) e

pub not_found_where_none : {X : Type 0} (test : X → Bool) (xs : List X) → count_by test xs ≡ 0 → find test xs ≡ None
not_found_where_none {X = X} test xs none = by_found (find test xs) refl
  where
    by_found : (o : Option X) → find test xs ≡ o → o ≡ None
    by_found None e = refl
    by_found (Some x) e = absurd (omega (arith, none, (found_counts test xs x e).1))
