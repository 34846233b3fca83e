-- Sums over the pairs of a finite map, when a pair is put.
use Rattle.std.proofs.Common.{◌≡◌, ℕ, ◌+◌, Bool, true, false, cond, List, [], ◌∷◌, Some, None, map, refl, sym, ap, ◌∙◌, arith}
use Rattle.std.specs.Prelude.{is_some, sum_by}
use Rattle.std.specs.declared.cmp.Ordering.{Ordering}
use Rattle.std.specs.declared.cmp.Ordering.TheVariants.{Less, Equal, Greater}
use Rattle.std.specs.Ordering.{eq_by_cmp, is_eq}
use Rattle.std.specs.Cmp.{IsTotalOrder, Equal-is, tied_itself}
use Rattle.std.specs.FinMap.{FinMap, IsAntisymmetric, get, insert, remove, entries, find, put, get-entries, entries-insert, get-insert, get-remove, same_map}
use Rattle.std.specs.FinMap.Entries.{by_order}
use Rattle.std.proofs.lemmas.Bool.{true≢false}
use Rattle.std.proofs.lemmas.List.Sums.{sum_by-cons}
use Rattle.mpm_mount.proofs.Sorts.{again}
use Rattle.mpm_mount.proofs.InAll.{regroup}

sum_placed : {K X : Type 0} (R : K → K → Ordering) (g : K × X → ℕ) (k : K) (v : X) (e : K × X) (es : List (K × X)) (r : Ordering) → cond (is_eq r) (Some e.1) (find R k es) ≡ None
    → (find R k es ≡ None → sum_by g (put R k v es) ≡ g (k, v) + sum_by g es)
    → sum_by g (by_order r ((k, v) ∷ e ∷ es) ((e.0, v) ∷ es) (e ∷ put R k v es)) ≡ g (k, v) + sum_by g (e ∷ es)
sum_placed R g k v e es Less none so = sum_by-cons g (k, v) (e ∷ es)
sum_placed R g k v e es Equal none so = absurd (true≢false (ap is_some none))
sum_placed R g k v e es Greater none so =
    sum_by-cons g e (put R k v es) ∙ regroup (g e) (sum_by g (put R k v es)) (g (k, v)) (sum_by g es) (sum_by g (e ∷ es)) (so none) (sum_by-cons g e es)

sum_put : {K X : Type 0} (R : K → K → Ordering) (g : K × X → ℕ) (k : K) (v : X) (es : List (K × X)) → find R k es ≡ None
    → sum_by g (put R k v es) ≡ g (k, v) + sum_by g es
sum_put R g k v [] none = sum_by-cons g (k, v) []
sum_put R g k v (e ∷ es) none = sum_placed R g k v e es (R k e.0) none (λ rest. sum_put R g k v es rest)

-- a key that is new
pub sum_new : {K X : Type 0} (R : K → K → Ordering) → IsTotalOrder R → (g : K × X → ℕ) (m : FinMap R X) (k : K) (v : X) → get m k ≡ None
    → sum_by g (entries (insert m k v)) ≡ g (k, v) + sum_by g (entries m)
sum_new R o g m k v none = ap (sum_by g) (entries-insert o m k v) ∙ sum_put R g k v (entries m) (sym (get-entries m k) ∙ none)

-- a key that is there
pub as_it_was : {K X : Type 0} (R : K → K → Ordering) → IsTotalOrder R → IsAntisymmetric R → (m : FinMap R X) (k : K) (w : X) → get m k ≡ Some w → insert m k w ≡ m
as_it_was {K = K} R o same m k w is = same_map o same (insert m k w) m (λ q. get-insert o m k w q ∙ at q (eq_by_cmp R q k) refl)
  where
    at : (q : K) (b : Bool) → eq_by_cmp R q k ≡ b → cond b (Some w) (get m q) ≡ get m q
    at q true tied = sym (ap (λ x. get m x) (same q k ((Equal-is (R q k)).0 tied)) ∙ is)
    at q false tied = refl

pub gone : {K X : Type 0} (R : K → K → Ordering) → IsTotalOrder R → (m : FinMap R X) (k : K) → get (remove m k) k ≡ None
gone R o m k = get-remove o m k k ∙ ap (λ r. cond (is_eq r) None (get m k)) (tied_itself o k)

traded : (a b c d e : ℕ) → a ≡ b + c → d ≡ e + c → a + e ≡ b + d
traded a b c d e one two = omega arith

pub sum_there : {K X : Type 0} (R : K → K → Ordering) → IsTotalOrder R → IsAntisymmetric R → (g : K × X → ℕ) (m : FinMap R X) (k : K) (v w : X) → get m k ≡ Some w
    → sum_by g (entries (insert m k v)) + g (k, w) ≡ g (k, v) + sum_by g (entries m)
sum_there R o same g m k v w is =
    let rest = sum_by g (entries (remove m k)) in
    traded (sum_by g (entries (insert m k v))) (g (k, v)) rest (sum_by g (entries m)) (g (k, w))
    (ap (λ n. sum_by g (entries n)) (sym (again R o same m k v)) ∙ sum_new R o g (remove m k) k v (gone R o m k))
    (ap (λ n. sum_by g (entries n)) (sym (as_it_was R o same m k w is) ∙ sym (again R o same m k w)) ∙ sum_new R o g (remove m k) k w (gone R o m k))

-- over the values alone
pub sum_values : {K X : Type 0} (f : X → ℕ) (es : List (K × X)) → sum_by f (map (λ e. e.1) es) ≡ sum_by (λ e. f e.1) es
sum_values f [] = refl
sum_values f (e ∷ es) = sum_by-cons f e.1 (map (λ e. e.1) es) ∙ ap (λ n. f e.1 + n) (sum_values f es) ∙ sym (sum_by-cons (λ e. f e.1) e es)
