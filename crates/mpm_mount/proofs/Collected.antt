-- A map that is collected from a list, when one item of the list is replaced.
use Rattle.std.proofs.Common.{◌≡◌, ℕ, zero, suc, ◌<◌, Bool, true, false, cond, List, [], ◌∷◌, length, get_or, refl, sym, ap, ◌∙◌, arith}
use Rattle.std.specs.Prelude.{Option, Some, None, slice_set}
use Rattle.std.specs.List.{list_any}
use Rattle.std.specs.declared.cmp.Ordering.{Ordering}
use Rattle.std.specs.declared.cmp.Ordering.TheVariants.{Equal}
use Rattle.std.specs.Ordering.{eq_by_cmp, is_eq}
use Rattle.std.specs.Cmp.{IsTotalOrder, Equal-is}
use Rattle.std.specs.FinMap.{FinMap, IsAntisymmetric, get, get-empty, get-insert, get-remove, same_map}
use Rattle.std.proofs.lemmas.List.{length-set, get_or-set_same}
use Rattle.std.proofs.lemmas.Bool.{false≢true, or_parts, cond-true, cond-false}
use Rattle.mpm_mount.specs.Images.{collected}
use Rattle.mpm_mount.specs.Directories.{others}
use Rattle.mpm_mount.specs.Changes.{with_pair, without_pair}
use Rattle.mpm_mount.proofs.Ranges.{any_alike}

-- an item has this key
abbrev pub ties : {K X : Type 0} (R : K → K → Ordering) → K → Option (K × X) → Bool
ties R q None = false
ties R q (Some item) = eq_by_cmp R q item.0

-- the value of the first item of a key
unfoldable pub scanned : {K X : Type 0} (R : K → K → Ordering) → K → List (Option (K × X)) → Option X
scanned R q [] = None
scanned R q (None ∷ items) = scanned R q items
scanned R q (Some item ∷ items) = cond (eq_by_cmp R q item.0) (Some item.1) (scanned R q items)

pub get_collected : {K X : Type 0} (R : K → K → Ordering) → IsTotalOrder R → (items : List (Option (K × X))) (q : K) → get (collected R items) q ≡ scanned R q items
unfolding collected scanned
get_collected R o [] q = get-empty R q
get_collected R o (None ∷ items) q = get_collected R o items q
get_collected R o (Some item ∷ items) q =
    get-insert o (collected R items) item.0 item.1 q ∙ ap (cond (eq_by_cmp R q item.0) (Some item.1)) (get_collected R o items q)

skipped : {K X : Type 0} (R : K → K → Ordering) (q : K) (x : Option (K × X)) (xs : List (Option (K × X))) → ties R q x ≡ false → scanned R q (x ∷ xs) ≡ scanned R q xs
unfolding scanned
skipped R q None xs apart = refl
skipped R q (Some item) xs apart = cond-false (eq_by_cmp R q item.0) (Some item.1) (scanned R q xs) apart

under : {K X : Type 0} (R : K → K → Ordering) (q : K) (x : Option (K × X)) (xs ys : List (Option (K × X))) → scanned R q xs ≡ scanned R q ys
    → scanned R q (x ∷ xs) ≡ scanned R q (x ∷ ys)
unfolding scanned
under R q None xs ys same = same
under R q (Some item) xs ys same = ap (cond (eq_by_cmp R q item.0) (Some item.1)) same

pub scanned_past : {K X : Type 0} (R : K → K → Ordering) (q : K) (items : List (Option (K × X))) (i : ℕ) → i < length items → ties R q (get_or items i None) ≡ false
    → scanned R q items ≡ scanned R q (others items i)
scanned_past R q [] i h apart = absurd (omega arith)
scanned_past R q (x ∷ xs) zero h apart = skipped R q x xs apart
scanned_past R q (x ∷ xs) (suc i) h apart = under R q x xs (others xs i) (scanned_past R q xs i (omega arith) apart)

at_front : {K X : Type 0} (R : K → K → Ordering) (q : K) (item : K × X) (xs : List (Option (K × X))) → eq_by_cmp R q item.0 ≡ true
    → scanned R q (Some item ∷ xs) ≡ Some item.1
unfolding scanned
at_front R q item xs here = cond-true (eq_by_cmp R q item.0) (Some item.1) (scanned R q xs) here

pub scanned_here : {K X : Type 0} (R : K → K → Ordering) (q : K) (items : List (Option (K × X))) (i : ℕ) (item : K × X) → i < length items
    → get_or items i None ≡ Some item → eq_by_cmp R q item.0 ≡ true → list_any (ties R q) (others items i) ≡ false → scanned R q items ≡ Some item.1
scanned_here R q [] i item h is here apart = absurd (omega arith)
scanned_here {X = X} R q (x ∷ xs) zero item h is here apart =
    ap (λ y. scanned R q (y ∷ xs)) is ∙ at_front R q item xs here
scanned_here R q (x ∷ xs) (suc i) item h is here apart =
    let parts = or_parts (ties R q x) (list_any (ties R q) (others xs i)) apart in
    skipped R q x xs parts.0 ∙ scanned_here R q xs i item (omega arith) is here parts.1

pub scanned_none : {K X : Type 0} (R : K → K → Ordering) (q : K) (items : List (Option (K × X))) → list_any (ties R q) items ≡ false → scanned R q items ≡ None
unfolding scanned
scanned_none R q [] apart = refl
scanned_none R q (x ∷ xs) apart =
    let parts = or_parts (ties R q x) (list_any (ties R q) xs) apart in
    skipped R q x xs parts.0 ∙ scanned_none R q xs parts.1

pub others_set : {X : Type 0} (xs : List X) (i : ℕ) (y : X) → others (slice_set xs i y) i ≡ others xs i
others_set [] zero y = refl
others_set [] (suc i) y = refl
others_set (x ∷ xs) zero y = refl
others_set (x ∷ xs) (suc i) y = ap (λ zs. x ∷ zs) (others_set xs i y)

one_alike : {K X : Type 0} (R : K → K → Ordering) → IsTotalOrder R → (q x : K) → R q x ≡ Equal → (item : Option (K × X)) → ties R q item ≡ ties R x item
one_alike R o q x tied None = refl
one_alike R o q x tied (Some item) = ap is_eq (o.congr q x item.0 tied)

tied_alike : {K X : Type 0} (R : K → K → Ordering) → IsTotalOrder R → (q x : K) → R q x ≡ Equal → (items : List (Option (K × X))) → list_any (ties R q) items ≡ list_any (ties R x) items
tied_alike R o q x tied items = any_alike (ties R q) (ties R x) items (λ item. one_alike R o q x tied item)

-- the value at a key of a map with a pair more, and of one with a key less
value_of : {K X : Type 0} → Option (K × X) → Option X
value_of None = None
value_of (Some item) = Some item.1

get_with_pair : {K X : Type 0} (R : K → K → Ordering) → IsTotalOrder R → (m : FinMap R X) (new : Option (K × X)) (q : K)
    → get (with_pair m new) q ≡ cond (ties R q new) (value_of new) (get m q)
unfolding value_of
get_with_pair R o m None q = refl
get_with_pair R o m (Some item) q = get-insert o m item.0 item.1 q

get_without_pair : {K X : Type 0} (R : K → K → Ordering) → IsTotalOrder R → (m : FinMap R X) (old : Option (K × X)) (q : K)
    → get (without_pair m old) q ≡ cond (ties R q old) None (get m q)
get_without_pair R o m None q = refl
get_without_pair R o m (Some item) q = get-remove o m item.0 q

-- no other item has the key of an item
abbrev pub StandsAlone : {K X : Type 0} (R : K → K → Ordering) → Option (K × X) → List (Option (K × X)) → Type 0
StandsAlone R None rest = Unit {0}
StandsAlone R (Some item) rest = list_any (ties R item.0) rest ≡ false

pub alone_at : {K X : Type 0} (R : K → K → Ordering) → IsTotalOrder R → (item : Option (K × X)) (rest : List (Option (K × X))) (q : K) → StandsAlone R item rest → ties R q item ≡ true
    → list_any (ties R q) rest ≡ false
alone_at R o None rest q alone here = absurd (false≢true here)
alone_at R o (Some item) rest q alone here = tied_alike R o q item.0 ((Equal-is (R q item.0)).0 here) rest ∙ alone

scanned_value : {K X : Type 0} (R : K → K → Ordering) (q : K) (items : List (Option (K × X))) (i : ℕ) (item : Option (K × X)) → i < length items
    → get_or items i None ≡ item → ties R q item ≡ true → list_any (ties R q) (others items i) ≡ false → scanned R q items ≡ value_of item
unfolding value_of
scanned_value R q items i None h is here apart = absurd (false≢true here)
scanned_value R q items i (Some item) h is here apart = scanned_here R q items i item h is here apart

by_tests : {X : Type 0} (new old : Bool) (value rest whole left : Option X) → (new ≡ true → left ≡ value) → (new ≡ false → left ≡ rest)
    → (old ≡ true → rest ≡ None) → (old ≡ false → whole ≡ rest) → left ≡ cond new value (cond old None whole)
by_tests true old value rest whole left a b c d = a refl
by_tests false true value rest whole left a b c d = b refl ∙ c refl
by_tests false false value rest whole left a b c d = b refl ∙ sym (d refl)

-- one item in the place of another: the key of the old one goes, and the pair of the new one comes
pub collected_set : {K X : Type 0} (R : K → K → Ordering) → IsTotalOrder R → IsAntisymmetric R → (items : List (Option (K × X))) (i : ℕ) (new : Option (K × X)) → i < length items
    → StandsAlone R (get_or items i None) (others items i) → StandsAlone R new (others items i)
    → collected R (slice_set items i new) ≡ with_pair (without_pair (collected R items) (get_or items i None)) new
collected_set R o same items i new h old_alone new_alone =
    let old = get_or items i None in
    let after = slice_set items i new in
    let size : i < length after = omega (arith, length-set items i new) in
    same_map o same (collected R after) (with_pair (without_pair (collected R items) old) new) (λ q.
    get_collected R o after q
    ∙ by_tests (ties R q new) (ties R q old) (value_of new) (scanned R q (others items i)) (scanned R q items) (scanned R q after)
    (λ here. scanned_value R q after i new size (get_or-set_same items i new None h) here
    (ap (λ rest. list_any (ties R q) rest) (others_set items i new) ∙ alone_at R o new (others items i) q new_alone here))
    (λ apart. scanned_past R q after i size (ap (ties R q) (get_or-set_same items i new None h) ∙ apart) ∙ ap (scanned R q) (others_set items i new))
    (λ here. scanned_none R q (others items i) (alone_at R o old (others items i) q old_alone here))
    (λ apart. scanned_past R q items i h apart)
    ∙ ap (λ v. cond (ties R q new) (value_of new) (cond (ties R q old) None v)) (sym (get_collected R o items q))
    ∙ ap (λ v. cond (ties R q new) (value_of new) v) (sym (get_without_pair R o (collected R items) old q))
    ∙ sym (get_with_pair R o (without_pair (collected R items) old) new q))
