-- Pairs of a finite map that are counted by their keys, against the list that it was collected from.
use Rattle.std.proofs.Common.{◌≡◌, ℕ, ◌+◌, ◌<◌, Bool, true, false, ◌||◌, List, [], ◌∷◌, Option, Some, None, map, length, refl, sym, ap, ◌∙◌, arith, zero-add}
use Rattle.std.specs.Prelude.{is_some, nat_lt, sum_by}
use Rattle.std.specs.List.{list_any}
use Rattle.std.specs.declared.cmp.Ordering.{Ordering}
use Rattle.std.specs.Ordering.{eq_by_cmp, is_eq}
use Rattle.std.specs.Cmp.{IsTotalOrder, tied_itself}
use Rattle.std.specs.FinMap.{FinMap, IsAntisymmetric, get, remove, empty, entries, len-entries, len-empty, contains_key-keys}
use Rattle.std.proofs.lemmas.Bool.{or_parts, lt-ltb}
use Rattle.std.proofs.lemmas.List.Sums.{sum_by-cons}
use Rattle.mpm_base.specs.Counts.{one_if}
use Rattle.mpm_mount.specs.Images.{collected}
use Rattle.mpm_mount.proofs.Tails.{EachWithRest}
use Rattle.mpm_mount.proofs.Collected.{StandsAlone, get_collected, scanned_none}
use Rattle.mpm_mount.proofs.Sorts.{again}
use Rattle.mpm_files.proofs.Sums.{sum_new, as_it_was, gone}

-- sums of the same
pub sums_alike : {X : Type 0} (f g : X → ℕ) (xs : List X) → ((x : X) → f x ≡ g x) → sum_by f xs ≡ sum_by g xs
sums_alike f g [] same = refl
sums_alike f g (x ∷ xs) same = sum_by-cons f x xs ∙ ap (λ n. n + sum_by f xs) (same x) ∙ ap (λ n. g x + n) (sums_alike f g xs same) ∙ sym (sum_by-cons g x xs)

pub sum_mapped : {X Y : Type 0} (f : Y → ℕ) (h : X → Y) (xs : List X) → sum_by f (map h xs) ≡ sum_by (λ x. f (h x)) xs
sum_mapped f h [] = refl
sum_mapped f h (x ∷ xs) = sum_by-cons f (h x) (map h xs) ∙ ap (λ n. f (h x) + n) (sum_mapped f h xs) ∙ sym (sum_by-cons (λ y. f (h y)) x xs)

four : (a b c d : ℕ) → (a + b) + (c + d) ≡ (a + c) + (b + d)
four a b c d = omega arith

pub sum_both : {X : Type 0} (f g : X → ℕ) (xs : List X) → sum_by (λ x. f x + g x) xs ≡ sum_by f xs + sum_by g xs
sum_both f g [] = refl
sum_both f g (x ∷ xs) =
    sum_by-cons (λ y. f y + g y) x xs ∙ ap (λ n. f x + g x + n) (sum_both f g xs) ∙ four (f x) (g x) (sum_by f xs) (sum_by g xs)
    ∙ ap (λ n. n + (g x + sum_by g xs)) (sym (sum_by-cons f x xs)) ∙ ap (λ n. sum_by f (x ∷ xs) + n) (sym (sum_by-cons g x xs))

pub sum_nothing : {X : Type 0} (xs : List X) → sum_by (λ x. 0) xs ≡ 0
sum_nothing [] = refl
sum_nothing (x ∷ xs) = sum_by-cons (λ y. 0) x xs ∙ zero-add (sum_by (λ y. 0) xs) ∙ sum_nothing xs

-- some passes where some are counted
any_next : (b c : Bool) (n : ℕ) → c ≡ nat_lt 0 n → (b || c) ≡ nat_lt 0 (one_if b + n)
any_next true c n some = sym (positive (one_if true + n) (omega arith))
  where
    positive : (m : ℕ) → 0 < m → nat_lt 0 m ≡ true
    positive m h = lt-ltb 0 m h
any_next false c n some = some ∙ ap (nat_lt 0) (sym (zero-add n))

pub any_counted : {X : Type 0} (test : X → Bool) (xs : List X) → list_any test xs ≡ nat_lt 0 (sum_by (λ x. one_if (test x)) xs)
any_counted test [] = refl
any_counted test (x ∷ xs) = any_next (test x) (list_any test xs) (sum_by (λ y. one_if (test y)) xs) (any_counted test xs) ∙ ap (nat_lt 0) (sym (sum_by-cons (λ y. one_if (test y)) x xs))

-- a map that is collected from a list in which no two items have one key
abbrev pub of_item : {K X : Type 0} → (K × X → ℕ) → Option (K × X) → ℕ
of_item g None = 0
of_item g (Some item) = g item

no_pairs : {K X : Type 0} (g : K × X → ℕ) (es : List (K × X)) → length es ≡ 0 → sum_by g es ≡ 0
no_pairs g [] h = refl
no_pairs g (e ∷ es) h = absurd (omega arith)

pub pairs_collected : {K X : Type 0} (R : K → K → Ordering) → IsTotalOrder R → (g : K × X → ℕ) (items : List (Option (K × X))) → EachWithRest (StandsAlone R) items
    → sum_by g (entries (collected R items)) ≡ sum_by (of_item g) items
unfolding collected
pairs_collected {X = X} R o g [] apart = no_pairs g (entries (empty {X = X} {R = R})) (sym (len-entries (empty {X = X} {R = R})) ∙ len-empty R X)
pairs_collected R o g (None ∷ items) apart = pairs_collected R o g items apart.1 ∙ sym (sum_by-cons (of_item g) None items ∙ zero-add (sum_by (of_item g) items))
pairs_collected R o g (Some item ∷ items) apart =
    sum_new R o g (collected R items) item.0 item.1 (get_collected R o items item.0 ∙ scanned_none R item.0 items apart.0)
    ∙ ap (λ n. g item + n) (pairs_collected R o g items apart.1) ∙ sym (sum_by-cons (of_item g) (Some item) items)

-- how many pairs of a map have a key
none_tied : {K X : Type 0} (R : K → K → Ordering) (k : K) (es : List (K × X)) → list_any (eq_by_cmp R k) (map (λ e. e.0) es) ≡ false
    → sum_by (λ e. one_if (eq_by_cmp R k e.0)) es ≡ 0
none_tied R k [] none = refl
none_tied R k (e ∷ es) none =
    let parts = or_parts (eq_by_cmp R k e.0) (list_any (eq_by_cmp R k) (map (λ x. x.0) es)) none in
    sum_by-cons (λ x. one_if (eq_by_cmp R k x.0)) e es ∙ ap (λ n. n + sum_by (λ x. one_if (eq_by_cmp R k x.0)) es) (ap one_if parts.0) ∙ zero-add (sum_by (λ x. one_if (eq_by_cmp R k x.0)) es) ∙ none_tied R k es parts.1

without_key : {K X : Type 0} (R : K → K → Ordering) (m : FinMap R X) (k : K) → get m k ≡ None → sum_by (λ e. one_if (eq_by_cmp R k e.0)) (entries m) ≡ 0
without_key R m k none = none_tied R k (entries m) (sym (contains_key-keys m k) ∙ ap is_some none)

key_by : {K X : Type 0} (R : K → K → Ordering) → IsTotalOrder R → IsAntisymmetric R → (m : FinMap R X) (k : K) (o : Option X) → get m k ≡ o
    → sum_by (λ e. one_if (eq_by_cmp R k e.0)) (entries m) ≡ one_if (is_some o)
key_by R total same m k None none = without_key R m k none
key_by {K = K} {X = X} R total same m k (Some w) is =
    let g : K × X → ℕ = λ e. one_if (eq_by_cmp R k e.0) in
    ap (λ n. sum_by g (entries n)) (sym (as_it_was R total same m k w is) ∙ sym (again R total same m k w))
    ∙ sum_new R total g (remove m k) k w (gone R total m k)
    ∙ ap (λ n. g (k, w) + n) (without_key R (remove m k) k (gone R total m k)) ∙ ap (λ r. one_if (is_eq r) + 0) (tied_itself total k)

pub one_key : {K X : Type 0} (R : K → K → Ordering) → IsTotalOrder R → IsAntisymmetric R → (m : FinMap R X) (k : K) → sum_by (λ e. one_if (eq_by_cmp R k e.0)) (entries m) ≡ one_if (is_some (get m k))
one_key R total same m k = key_by R total same m k (get m k) refl
