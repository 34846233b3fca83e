-- Two directories whose entries give the same, in some order, stand for one drive: neither the order of entries nor the choice of blocks counts.
use Rattle.std.proofs.Common.{◌≡◌, ℕ, suc, ◌<◌, Bool, true, false, cond, List, [], ◌∷◌, Option, Some, None, length, get_or, map, refl, sym, ap, subst, ◌∙◌, arith}
use Rattle.std.specs.Prelude.{is_some, Contains, IsPermutation}
use Rattle.std.specs.declared.cmp.Ordering.{Ordering}
use Rattle.std.specs.Ordering.{eq_by_cmp}
use Rattle.std.specs.Cmp.{IsTotalOrder}
use Rattle.std.specs.FinMap.{FinMap, IsAntisymmetric, same_map}
use Rattle.std.proofs.lemmas.Bool.{true≢false}
use Rattle.std.proofs.lemmas.List.Sorted.{IsPermutation-sym, IsPermutation-map, Contains-permutation, sum_by-IsPermutation}
use Rattle.std.proofs.lemmas.List.{get_or_default}
use Rattle.std.proofs.lemmas.Option.{same_Some}
use Rattle.std.proofs.lemmas.Simd.{map-map}
use Rattle.mpm_base.specs.declared.kind.Kind.{Kind}
use Rattle.mpm_blocks.specs.Sectors.{Sectors, sectors_of}
use Rattle.mpm_dirent.specs.declared.kinds.Entry.{Entry}
use Rattle.mpm_mount.specs.Drives.{entry_cmp, file_cmp, PhysicalExtent, Protection, DirectoryLabel, Drive}
use Rattle.mpm_mount.specs.Faults.{first_some, first_fault}
use Rattle.mpm_mount.specs.Images.{extent_from, xfcb_from, label_from, is_kept, Given, given, collected, drive_of}
use Rattle.mpm_mount.specs.Directories.{others, Directory, Stands}
use Rattle.mpm_mount.proofs.Counts.{count_map}
use Rattle.mpm_mount.proofs.Collected.{scanned, StandsAlone, alone_at, get_collected, scanned_here}
use Rattle.mpm_mount.proofs.Orders.{entry_total, entry_same, file_total, file_same}
use Rattle.mpm_mount.proofs.Exchanged.{IsOnly, first_alone}
use Rattle.mpm_mount.proofs.FreeEntries.{extents_alone, xfcbs_alone, labels_alone}

-- two that are there alike
alike : {X : Type 0} (a b : Option X) → ((x : X) → a ≡ Some x → b ≡ Some x) → ((x : X) → b ≡ Some x → a ≡ Some x) → a ≡ b
alike None None there back = refl
alike None (Some x) there back = back x refl
alike (Some x) b there back = sym (there x refl)

-- the item that a look-up finds
record IsItem {K X : Type 0} (R : K → K → Ordering) (q : K) (items : List (Option (K × X))) (v : X) : Type 0 where
  item : K × X
  place : ℕ
  within : place < length items
  here : get_or items place None ≡ Some item
  tied : eq_by_cmp R q item.0 ≡ true
  value : item.1 ≡ v

later : {K X : Type 0} (R : K → K → Ordering) (q : K) (x : Option (K × X)) (items : List (Option (K × X))) (v : X) → IsItem R q items v → IsItem R q (x ∷ items) v
later R q x items v is =
    record { item = is.item; place = suc is.place; within = omega (arith, is.within); here = is.here; tied = is.tied; value = is.value }

item_or_later : {K X : Type 0} (R : K → K → Ordering) (q : K) (item : K × X) (items : List (Option (K × X))) (v : X) (b : Bool) → eq_by_cmp R q item.0 ≡ b
    → cond b (Some item.1) (scanned R q items) ≡ Some v → (scanned R q items ≡ Some v → IsItem R q items v) → IsItem R q (Some item ∷ items) v
item_or_later R q item items v true tied found rest =
    record { item = item; place = 0; within = omega arith; here = refl; tied = tied; value = same_Some item.1 v found }
item_or_later R q item items v false tied found rest = later R q (Some item) items v (rest found)

item_of : {K X : Type 0} (R : K → K → Ordering) (q : K) (items : List (Option (K × X))) (v : X) → scanned R q items ≡ Some v → IsItem R q items v
unfolding scanned
item_of R q [] v found = absurd (true≢false (ap is_some (sym found)))
item_of R q (None ∷ items) v found = later R q None items v (item_of R q items v found)
item_of R q (Some item ∷ items) v found = item_or_later R q item items v (eq_by_cmp R q item.0) refl found (λ so. item_of R q items v so)

abbrev EachAlone : {K X : Type 0} (R : K → K → Ordering) → List (Option (K × X)) → Type 0
EachAlone R items = (i : ℕ) → i < length items → StandsAlone R (get_or items i None) (others items i)

scanned_of : {K X : Type 0} (R : K → K → Ordering) → IsTotalOrder R → (q : K) (items : List (Option (K × X))) (item : K × X) → EachAlone R items → Contains items (Some item)
    → eq_by_cmp R q item.0 ≡ true → scanned R q items ≡ Some item.1
scanned_of R o q items item alone has tied =
    let here : get_or items has.0 None ≡ Some item = get_or_default items has.0 None (Some item) has.1 ∙ has.2 in
    scanned_here R q items has.0 item has.1 here tied
    (alone_at R o (Some item) (others items has.0) q (subst (λ x. StandsAlone R x (others items has.0)) here (alone has.0 has.1)) tied)

moved : {K X : Type 0} (R : K → K → Ordering) → IsTotalOrder R → (q : K) (xs ys : List (Option (K × X))) (v : X) → EachAlone R ys → IsPermutation xs ys
    → scanned R q xs ≡ Some v → scanned R q ys ≡ Some v
moved R o q xs ys v alone order found =
    let is = item_of R q xs v found in
    let has : Contains ys (Some is.item) = Contains-permutation xs ys (Some is.item) order (is.place, is.within, get_or_default xs is.place (Some is.item) None is.within ∙ is.here) in
    scanned_of R o q ys is.item alone has is.tied ∙ ap (λ x. Some x) is.value

pub same_collected : {K X : Type 0} (R : K → K → Ordering) → IsTotalOrder R → IsAntisymmetric R → (xs ys : List (Option (K × X))) → EachAlone R xs → EachAlone R ys
    → IsPermutation xs ys → collected R xs ≡ collected R ys
same_collected R o same xs ys one two order =
    same_map o same (collected R xs) (collected R ys) (λ q.
    get_collected R o xs q
    ∙ alike (scanned R q xs) (scanned R q ys) (λ v. moved R o q xs ys v two order) (λ v. moved R o q ys xs v one (IsPermutation-sym xs ys order))
    ∙ sym (get_collected R o ys q))

-- the only one that is there
first_in : {X : Type 0} (items : List (Option X)) (x : X) → first_some items ≡ Some x → Contains items (Some x)
unfolding first_some
first_in [] x found = absurd (true≢false (ap is_some (sym found)))
first_in (None ∷ items) x found = let rest = first_in items x found in (suc rest.0, omega (arith, rest.1), rest.2)
first_in (Some y ∷ items) x found = (0, omega arith, found)

first_moved : {X : Type 0} (xs ys : List (Option X)) (x : X) → ((i : ℕ) → i < length ys → IsOnly (get_or ys i None) (others ys i)) → IsPermutation xs ys
    → first_some xs ≡ Some x → first_some ys ≡ Some x
first_moved xs ys x alone order found =
    let has = Contains-permutation xs ys (Some x) order (first_in xs x found) in
    let here : get_or ys has.0 None ≡ Some x = get_or_default ys has.0 None (Some x) has.1 ∙ has.2 in
    first_alone ys has.0 x has.1 here (subst (λ y. IsOnly y (others ys has.0)) here (alone has.0 has.1))

same_first : {X : Type 0} (xs ys : List (Option X)) → ((i : ℕ) → i < length xs → IsOnly (get_or xs i None) (others xs i))
    → ((i : ℕ) → i < length ys → IsOnly (get_or ys i None) (others ys i)) → IsPermutation xs ys → first_some xs ≡ first_some ys
same_first xs ys one two order =
    alike (first_some xs) (first_some ys) (λ x. first_moved xs ys x two order) (λ x. first_moved ys xs x one (IsPermutation-sym xs ys order))

-- what the entries give, field by field
part_moved : {Z : Type 0} (part : Given → Z) (s t : Sectors) (k l : Kind) (xs ys : List Entry) → IsPermutation (map (given s k) xs) (map (given t l) ys)
    → IsPermutation (map (λ e. part (given s k e)) xs) (map (λ e. part (given t l e)) ys)
part_moved part s t k l xs ys order =
    subst (λ zs. IsPermutation zs (map (λ e. part (given t l e)) ys)) (map-map part (given s k) xs)
    (subst (λ zs. IsPermutation (map part (map (given s k) xs)) zs) (map-map part (given t l) ys) (IsPermutation-map part (map (given s k) xs) (map (given t l) ys) order))

same_parts : (k l : Kind) (a b : FinMap entry_cmp PhysicalExtent) (c d : FinMap file_cmp Protection) (e f : Option DirectoryLabel) (g h : ℕ) → k ≡ l → a ≡ b → c ≡ d → e ≡ f → g ≡ h
    → ◌≡◌ {A = Drive} (record { kind = k; extents = a; xfcbs = c; label = e; kept = g }) (record { kind = l; extents = b; xfcbs = d; label = f; kept = h })
same_parts k l a b c d e f g h p q r s t = λ i. record { kind = p i; extents = q i; xfcbs = r i; label = s i; kept = t i }

same_given : (s t : Sectors) (k l : Kind) (xs ys : List Entry) → k ≡ l → first_fault k xs ≡ None → first_fault l ys ≡ None
    → IsPermutation (map (given s k) xs) (map (given t l) ys) → drive_of s k xs ≡ drive_of t l ys
unfolding drive_of
same_given s t k l xs ys kind one two order =
    let kept : IsPermutation (map is_kept xs) (map is_kept ys) = part_moved (λ (g : Given). g.kept) s t k l xs ys order in
    same_parts k l _ _ _ _ _ _ _ _ kind
    (same_collected entry_cmp entry_total entry_same (map (extent_from s k) xs) (map (extent_from t l) ys) (extents_alone s k xs one) (extents_alone t l ys two)
    (part_moved (λ (g : Given). g.extent) s t k l xs ys order))
    (same_collected file_cmp file_total file_same (map xfcb_from xs) (map xfcb_from ys) (xfcbs_alone k xs one) (xfcbs_alone l ys two) (part_moved (λ (g : Given). g.xfcb) s t k l xs ys order))
    (same_first (map label_from xs) (map label_from ys) (labels_alone k xs one) (labels_alone l ys two) (part_moved (λ (g : Given). g.label) s t k l xs ys order))
    (sym (count_map (λ b. b) is_kept xs) ∙ sym (sum_by-IsPermutation (λ (b : Bool). cond b 1 0) (map is_kept xs) (map is_kept ys) kept) ∙ count_map (λ b. b) is_kept ys)

pub stand_for_one : (image other : List ℕ) (d e : Directory) (files more : Drive) → Stands image d files → Stands other e more → d.kind ≡ e.kind
    → IsPermutation (map (given (sectors_of image d.kind) d.kind) d.entries) (map (given (sectors_of other e.kind) e.kind) e.entries) → files ≡ more
stand_for_one image other d e files more one two kind order =
    one.drive ∙ same_given (sectors_of image d.kind) (sectors_of other e.kind) d.kind e.kind d.entries e.entries kind one.faultless two.faultless order ∙ sym two.drive
