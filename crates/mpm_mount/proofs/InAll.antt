-- What a map has in all that is collected from a list in which no two items have one key.
use Rattle.std.proofs.Common.{◌≡◌, ℕ, ◌+◌, cond, List, [], ◌∷◌, length, map, refl, sym, ap, ◌∙◌, arith}
use Rattle.std.specs.Prelude.{Option, Some, None, is_some, sum_by, count_by}
use Rattle.std.specs.List.{list_any}
use Rattle.std.specs.declared.cmp.Ordering.{Ordering}
use Rattle.std.specs.declared.cmp.Ordering.TheVariants.{Less, Equal, Greater}
use Rattle.std.specs.Ordering.{is_eq}
use Rattle.std.specs.Cmp.{IsTotalOrder}
use Rattle.std.specs.FinMap.{get, insert, empty, entries, values, len, find, put, get-entries, len-entries, len-empty, len-insert, entries-insert}
use Rattle.std.specs.FinMap.Entries.{by_order}
use Rattle.std.proofs.lemmas.Bool.{true≢false, or_parts}
use Rattle.std.proofs.lemmas.List.Sums.{sum_by-cons}
use Rattle.mpm_base.proofs.CountLaws.{count_cons}
use Rattle.mpm_mount.specs.Images.{collected}
use Rattle.mpm_mount.proofs.Tails.{EachWithRest}
use Rattle.mpm_mount.proofs.Collected.{ties, StandsAlone, get_collected, scanned_none}

pub alone_less : {K X : Type 0} (R : K → K → Ordering) (x y : Option (K × X)) (ys : List (Option (K × X))) → StandsAlone R x (y ∷ ys) → StandsAlone R x ys
alone_less R None y ys alone = tt
alone_less R (Some item) y ys alone = (or_parts (ties R item.0 y) (list_any (ties R item.0) ys) alone).1

key_new : {K X : Type 0} (R : K → K → Ordering) → IsTotalOrder R → (item : K × X) (items : List (Option (K × X))) → StandsAlone R (Some item) items
    → get (collected R items) item.0 ≡ None
key_new R o item items alone = get_collected R o items item.0 ∙ scanned_none R item.0 items alone

-- how many pairs it has
one_each : (a b c d : ℕ) → a ≡ b + 1 → b ≡ d → c ≡ 1 + d → a ≡ c
one_each a b c d longer same more = omega arith

pub counted_none : {X : Type 0} (items : List (Option X)) → count_by is_some (None ∷ items) ≡ count_by is_some items
counted_none {X = X} items = omega (arith, count_cons {X = Option X} is_some None items)

pub len_collected : {K X : Type 0} (R : K → K → Ordering) → IsTotalOrder R → (items : List (Option (K × X))) → EachWithRest (StandsAlone R) items
    → len (collected R items) ≡ count_by is_some items
unfolding collected
len_collected {X = X} R o [] apart = len-empty R X
len_collected R o (None ∷ items) apart = len_collected R o items apart.1 ∙ sym (counted_none items)
len_collected {X = X} R o (Some item ∷ items) apart =
    let m = collected R items in
    one_each (len (insert m item.0 item.1)) (len m) (count_by is_some (Some item ∷ items)) (count_by is_some items)
    (len-insert o m item.0 item.1 ∙ ap (λ (v : Option X). cond (is_some v) (len m) (len m + 1)) (key_new R o item items apart.0))
    (len_collected R o items apart.1) (count_cons is_some (Some item) items)

-- a sum over its values
abbrev pub weight : {K X : Type 0} → (X → ℕ) → Option (K × X) → ℕ
weight g None = 0
weight g (Some item) = g item.1

weighed_none : {K X : Type 0} (g : X → ℕ) (items : List (Option (K × X))) → sum_by (weight g) (None ∷ items) ≡ sum_by (weight g) items
weighed_none {K = K} {X = X} g items = omega (arith, sum_by-cons {X = Option (K × X)} (weight g) None items)

pub regroup : (a s v t w : ℕ) → s ≡ v + t → w ≡ a + t → a + s ≡ v + w
regroup a s v t w one two = omega arith

sum_placed : {K X : Type 0} (R : K → K → Ordering) (g : X → ℕ) (k : K) (v : X) (e : K × X) (es : List (K × X)) (r : Ordering) → cond (is_eq r) (Some e.1) (find R k es) ≡ None
    → (find R k es ≡ None → sum_by g (map (λ p. p.1) (put R k v es)) ≡ g v + sum_by g (map (λ p. p.1) es))
    → sum_by g (map (λ p. p.1) (by_order r ((k, v) ∷ e ∷ es) ((e.0, v) ∷ es) (e ∷ put R k v es))) ≡ g v + sum_by g (map (λ p. p.1) (e ∷ es))
sum_placed R g k v e es Less none so = sum_by-cons g v (map (λ p. p.1) (e ∷ es))
sum_placed R g k v e es Equal none so = absurd (true≢false (ap is_some none))
sum_placed R g k v e es Greater none so =
    sum_by-cons g e.1 (map (λ p. p.1) (put R k v es))
    ∙ regroup (g e.1) (sum_by g (map (λ p. p.1) (put R k v es))) (g v) (sum_by g (map (λ p. p.1) es)) (sum_by g (map (λ p. p.1) (e ∷ es))) (so none)
    (sum_by-cons g e.1 (map (λ p. p.1) es))

sum_put : {K X : Type 0} (R : K → K → Ordering) (g : X → ℕ) (k : K) (v : X) (es : List (K × X)) → find R k es ≡ None
    → sum_by g (map (λ p. p.1) (put R k v es)) ≡ g v + sum_by g (map (λ p. p.1) es)
sum_put R g k v [] none = sum_by-cons g v []
sum_put R g k v (e ∷ es) none = sum_placed R g k v e es (R k e.0) none (λ rest. sum_put R g k v es rest)

sum_none : {K X : Type 0} (g : X → ℕ) (es : List (K × X)) → length es ≡ 0 → sum_by g (map (λ p. p.1) es) ≡ 0
sum_none g [] h = refl
sum_none g (e ∷ es) h = absurd (omega arith)

pub sum_collected : {K X : Type 0} (R : K → K → Ordering) → IsTotalOrder R → (g : X → ℕ) (items : List (Option (K × X))) → EachWithRest (StandsAlone R) items
    → sum_by g (values (collected R items)) ≡ sum_by (weight g) items
unfolding collected
sum_collected {X = X} R o g [] apart =
    sum_none g (entries (empty {X = X} {R = R})) (sym (len-entries (empty {X = X} {R = R})) ∙ len-empty R X)
sum_collected R o g (None ∷ items) apart = sum_collected R o g items apart.1 ∙ sym (weighed_none g items)
sum_collected R o g (Some item ∷ items) apart =
    let m = collected R items in
    ap (λ es. sum_by g (map (λ p. p.1) es)) (entries-insert o m item.0 item.1)
    ∙ sum_put R g item.0 item.1 (entries m) (sym (get-entries m item.0) ∙ key_new R o item items apart.0)
    ∙ ap (λ (n : ℕ). g item.1 + n) (sum_collected R o g items apart.1)
    ∙ sym (sum_by-cons (weight g) (Some item) items)
