-- What stays so of items as a file is opened or closed, and as items are given back.
use Rattle.std.proofs.Common.{◌≡◌, ◌≢◌, ◌∙◌, ◌⊎◌, ℕ, zero, suc, ◌+◌, ◌<◌, ◌≤◌, Bool, true, false, not, ◌==◌, ◌&&◌, if◌then◌else◌, List, [], ◌∷◌, Option, Some, None, length, map, sym, refl, ap, subst, arith, inl, inr, length-set}
use Rattle.std.specs.Prelude.{count_by, slice_set, replicate}
use Rattle.std.proofs.lemmas.Bool.{false≢true, and_parts, eqb-true}
use Rattle.std.proofs.lemmas.List.{get_or-set_same, get_or-set_other, length-map}
use Rattle.mpm_base.proofs.CountLaws.{one_if, count_cons, one_if_true, one_if_false}
use Rattle.mpm_opens.specs.declared.kinds.FileKey.{FileKey}
use Rattle.mpm_opens.specs.declared.kinds.Mode.{Mode}
use Rattle.mpm_opens.specs.declared.kinds.Item.{Item}
use Rattle.mpm_opens.specs.declared.limits.TheConstants.{ITEMS, ITEMS_OF_PROCESS}
use Rattle.mpm_opens.specs.Kinds.{is_same_file, is_same_mode, do_modes_go_together}
use Rattle.mpm_opens.specs.Items.{has_item, place_at, has_item_of, excludes, is_excluded, is_of, items_of, new_item, is_given_back, left_in, items_without}
use Rattle.mpm_opens.specs.Opens.{is_excluding, exclude_each_other, AreItems}
use Rattle.mpm_opens.proofs.Keys.{is_itself, same_file, file_is_itself, same_file_back, same_number_back, same_mode_back, go_together_back, mode_is_itself}
use Rattle.mpm_opens.proofs.Listing.{count_set, fails_at}

-- which item excludes another goes both ways
clash : Bool → Bool → Bool → Bool → Bool
clash same its one two = same && not (if its then one else two)

excluding_back : (a b : Item) → is_excluding a b ≡ is_excluding b a
unfolding clash
excluding_back a b =
    ap (λ x. clash x (b.process == a.process) (is_same_mode b.mode a.mode) (do_modes_go_together b.mode a.mode)) (same_file_back b.file a.file)
    ∙ ap (λ x. clash (is_same_file a.file b.file) x (is_same_mode b.mode a.mode) (do_modes_go_together b.mode a.mode)) (same_number_back b.process a.process)
    ∙ ap (λ x. clash (is_same_file a.file b.file) (a.process == b.process) x (do_modes_go_together b.mode a.mode)) (same_mode_back b.mode a.mode)
    ∙ ap (λ x. clash (is_same_file a.file b.file) (a.process == b.process) (is_same_mode a.mode b.mode) x) (go_together_back b.mode a.mode)

pub exclude_back : (a b : Option Item) → exclude_each_other a b ≡ exclude_each_other b a
exclude_back None None = refl
exclude_back None (Some b) = refl
exclude_back (Some a) None = refl
exclude_back (Some a) (Some b) = excluding_back a b

-- no item excludes itself
excludes_not_itself : (a : Item) → is_excluding a a ≡ false
unfolding clash
excludes_not_itself a =
    ap (λ x. clash x (a.process == a.process) (is_same_mode a.mode a.mode) (do_modes_go_together a.mode a.mode)) (file_is_itself a.file)
    ∙ ap (λ x. clash true x (is_same_mode a.mode a.mode) (do_modes_go_together a.mode a.mode)) (is_itself a.process)
    ∙ ap (λ x. clash true true x (do_modes_go_together a.mode a.mode)) (mode_is_itself a.mode)

-- an item stands at one of the places
pub stands_within : (items : List (Option Item)) (i : ℕ) (item : Item) → place_at items i ≡ Some item → i < length items
stands_within [] i item e = absurd (cc)
stands_within (x ∷ xs) zero item e = omega arith
stands_within (x ∷ xs) (suc i) item e = omega (arith, stands_within xs i item e)

-- a place after an item was put at one
pub at_same : (items : List (Option Item)) (i : ℕ) (item : Option Item) → i < length items → place_at (slice_set items i item) i ≡ item
at_same items i item h = get_or-set_same items i item None h

pub at_other : (items : List (Option Item)) (i j : ℕ) (item : Option Item) → j ≢ i → place_at (slice_set items i item) j ≡ place_at items j
at_other items i j item other = get_or-set_other items i j item None other

is_or_not : (i j : ℕ) → (j ≡ i) ⊎ (j ≢ i)
is_or_not i j = by_test (j == i) refl
  where
    by_test : (b : Bool) → (j == i) ≡ b → (j ≡ i) ⊎ (j ≢ i)
    by_test true e = inl (eqb-true j i e)
    by_test false e = inr (λ same. false≢true (sym e ∙ ap (λ n. n == i) same ∙ is_itself i))

-- how many pass a test, where an item is changed in nothing that the test looks at
pub count_changed : (test : Option Item → Bool) (items : List (Option Item)) (i : ℕ) (item new : Item) → place_at items i ≡ Some item
    → test (Some new) ≡ test (Some item) → count_by test (slice_set items i (Some new)) ≡ count_by test items
count_changed test items i item new is same =
    omega (arith, count_set test items i (Some new) None (stands_within items i item is), ap one_if same, ap (λ x. one_if (test x)) is)

-- an item that is changed only in how often it was opened, or whether it has written
pub record IsSameItem (old new : Item) : Type 0 where
  pub process : new.process ≡ old.process
  pub file : new.file ≡ old.file
  pub mode : new.mode ≡ old.mode
  pub opened : (new.count == 0) ≡ false

same_of : (p : ℕ) (file : FileKey) (old new : Item) → IsSameItem old new → has_item_of p file (Some new) ≡ has_item_of p file (Some old)
same_of p file old new same =
    ap (λ q. (q == p) && is_same_file new.file file) same.process ∙ ap (λ f. (old.process == p) && is_same_file f file) same.file

same_excluding : (old new : Item) → IsSameItem old new → (other : Option Item) → exclude_each_other (Some new) other ≡ exclude_each_other (Some old) other
same_excluding old new same other =
    ap (λ p. has_item (excludes p new.file new.mode) other) same.process
    ∙ ap (λ f. has_item (excludes old.process f new.mode) other) same.file
    ∙ ap (λ m. has_item (excludes old.process old.file m) other) same.mode

changed_excluding : (items : List (Option Item)) (i : ℕ) (old new : Item) → place_at items i ≡ Some old → IsSameItem old new
    → (j : ℕ) (other : Option Item) → exclude_each_other (place_at (slice_set items i (Some new)) j) other ≡ exclude_each_other (place_at items j) other
changed_excluding items i old new is same j other =
    elim (is_or_not i j) [
      | inl at ↦ ap (λ n. exclude_each_other (place_at (slice_set items i (Some new)) n) other) at
          ∙ ap (λ x. exclude_each_other x other) (at_same items i (Some new) (stands_within items i old is))
          ∙ same_excluding old new same other
          ∙ sym (ap (λ n. exclude_each_other (place_at items n) other) at ∙ ap (λ x. exclude_each_other x other) is)
      | inr elsewhere ↦ ap (λ x. exclude_each_other x other) (at_other items i j (Some new) elsewhere)
    ]

changed_opened : (items : List (Option Item)) (i : ℕ) (old new : Item) → place_at items i ≡ Some old → IsSameItem old new → AreItems items
    → (j : ℕ) → has_item (λ item. item.count == 0) (place_at (slice_set items i (Some new)) j) ≡ false
changed_opened items i old new is same sound j =
    let test : Option Item → Bool = has_item (λ item. item.count == 0) in
    elim (is_or_not i j) [
      | inl at ↦ ap (λ n. test (place_at (slice_set items i (Some new)) n)) at
          ∙ ap test (at_same items i (Some new) (stands_within items i old is)) ∙ same.opened
      | inr elsewhere ↦ ap test (at_other items i j (Some new) elsewhere) ∙ sound.opened j
    ]

pub items_changed : (items : List (Option Item)) (i : ℕ) (old new : Item) → place_at items i ≡ Some old → IsSameItem old new → AreItems items
    → AreItems (slice_set items i (Some new))
unfolding items_of
items_changed items i old new is same sound =
    let after = slice_set items i (Some new) in
    record {
      places = length-set items i (Some new) ∙ sound.places;
      once = λ p file. omega (arith, sound.once p file, count_changed (has_item_of p file) items i old new is (same_of p file old new same));
      few = λ p. omega (arith, sound.few p, count_changed (has_item (is_of p)) items i old new is (ap (λ q. q == p) same.process));
      together = λ j k. changed_excluding items i old new is same j (place_at after k)
          ∙ exclude_back (place_at items j) (place_at after k)
          ∙ changed_excluding items i old new is same k (place_at items j)
          ∙ exclude_back (place_at items k) (place_at items j)
          ∙ sound.together j k;
      opened = changed_opened items i old new is same sound;
    }

-- a new item at a free place
new_excludes_none : (items : List (Option Item)) (p : ℕ) (file : FileKey) (mode : Mode) → is_excluded items p file mode ≡ false
    → (j : ℕ) → exclude_each_other (Some (new_item p file mode)) (place_at items j) ≡ false
unfolding is_excluded
new_excludes_none items p file mode free j = fails_at (has_item (excludes p file mode)) items j None refl free

with_new_excluding : (items : List (Option Item)) (i p : ℕ) (file : FileKey) (mode : Mode) → is_excluded items p file mode ≡ false → i < length items
    → (j : ℕ) → exclude_each_other (Some (new_item p file mode)) (place_at (slice_set items i (Some (new_item p file mode))) j) ≡ false
with_new_excluding items i p file mode free within j =
    let new : Option Item = Some (new_item p file mode) in
    elim (is_or_not i j) [
      | inl at ↦ ap (λ n. exclude_each_other new (place_at (slice_set items i new) n)) at
          ∙ ap (exclude_each_other new) (at_same items i new within) ∙ excludes_not_itself (new_item p file mode)
      | inr elsewhere ↦ ap (exclude_each_other new) (at_other items i j new elsewhere) ∙ new_excludes_none items p file mode free j
    ]

with_new_together : (items : List (Option Item)) (i p : ℕ) (file : FileKey) (mode : Mode) → is_excluded items p file mode ≡ false → i < length items → AreItems items
    → (j k : ℕ) → exclude_each_other (place_at (slice_set items i (Some (new_item p file mode))) j) (place_at (slice_set items i (Some (new_item p file mode))) k) ≡ false
with_new_together items i p file mode free within sound j k =
    let new : Option Item = Some (new_item p file mode) in
    let after = slice_set items i new in
    elim (is_or_not i j) [
      | inl at ↦ ap (λ n. exclude_each_other (place_at after n) (place_at after k)) at
          ∙ ap (λ x. exclude_each_other x (place_at after k)) (at_same items i new within) ∙ with_new_excluding items i p file mode free within k
      | inr elsewhere ↦ ap (λ x. exclude_each_other x (place_at after k)) (at_other items i j new elsewhere) ∙ elim (is_or_not i k) [
        | inl at ↦ ap (λ n. exclude_each_other (place_at items j) (place_at after n)) at
            ∙ ap (exclude_each_other (place_at items j)) (at_same items i new within)
            ∙ exclude_back (place_at items j) new ∙ new_excludes_none items p file mode free j
        | inr elsewhere' ↦ ap (exclude_each_other (place_at items j)) (at_other items i k new elsewhere') ∙ sound.together j k
      ]
    ]

-- a new item and the test of another process or another file
with_new_once : (items : List (Option Item)) (i p : ℕ) (file : FileKey) (mode : Mode) → i < length items → place_at items i ≡ None
    → count_by (has_item_of p file) items ≡ 0 → AreItems items
    → (q : ℕ) (g : FileKey) → count_by (has_item_of q g) (slice_set items i (Some (new_item p file mode))) ≤ 1
with_new_once items i p file mode within is none sound q g = by_test (has_item_of q g (Some (new_item p file mode))) refl
  where
    counted : count_by (has_item_of q g) (slice_set items i (Some (new_item p file mode))) + 0
        ≡ count_by (has_item_of q g) items + one_if (has_item_of q g (Some (new_item p file mode)))
    counted =
        let free : one_if (has_item_of q g (place_at items i)) ≡ 0 = ap (λ x. one_if (has_item_of q g x)) is in
        omega (arith, count_set (has_item_of q g) items i (Some (new_item p file mode)) None within)

    its_own : (p == q) && is_same_file file g ≡ true → count_by (has_item_of q g) items ≡ 0
    its_own e =
        let same = and_parts (p == q) (is_same_file file g) e in
        ap (λ x. count_by (has_item_of x g) items) (sym (eqb-true p q (same.0)))
        ∙ ap (λ f. count_by (has_item_of p f) items) (sym (same_file file g (same.1))) ∙ none

    by_test : (b : Bool) → has_item_of q g (Some (new_item p file mode)) ≡ b → count_by (has_item_of q g) (slice_set items i (Some (new_item p file mode))) ≤ 1
    by_test true e = omega (arith, counted, one_if_true (has_item_of q g (Some (new_item p file mode))) e, its_own e)
    by_test false e = omega (arith, counted, one_if_false (has_item_of q g (Some (new_item p file mode))) e, sound.once q g)

with_new_few : (items : List (Option Item)) (i p : ℕ) (file : FileKey) (mode : Mode) → i < length items → place_at items i ≡ None
    → items_of items p < ITEMS_OF_PROCESS → AreItems items → (q : ℕ) → items_of (slice_set items i (Some (new_item p file mode))) q ≤ ITEMS_OF_PROCESS
unfolding items_of
with_new_few items i p file mode within is few sound q = by_test (p == q) refl
  where
    counted : count_by (has_item (is_of q)) (slice_set items i (Some (new_item p file mode))) + 0 ≡ count_by (has_item (is_of q)) items + one_if (p == q)
    counted =
        let free : one_if (has_item (is_of q) (place_at items i)) ≡ 0 = ap (λ x. one_if (has_item (is_of q) x)) is in
        omega (arith, count_set (has_item (is_of q)) items i (Some (new_item p file mode)) None within)

    by_test : (b : Bool) → (p == q) ≡ b → count_by (has_item (is_of q)) (slice_set items i (Some (new_item p file mode))) ≤ ITEMS_OF_PROCESS
    by_test true e =
        let its = ap (λ x. count_by (has_item (is_of x)) items) (eqb-true p q e) in
        omega (arith, counted, one_if_true (p == q) e, its, few)
    by_test false e = omega (arith, counted, one_if_false (p == q) e, sound.few q)

with_new_opened : (items : List (Option Item)) (i p : ℕ) (file : FileKey) (mode : Mode) → i < length items → AreItems items
    → (j : ℕ) → has_item (λ item. item.count == 0) (place_at (slice_set items i (Some (new_item p file mode))) j) ≡ false
with_new_opened items i p file mode within sound j =
    let test : Option Item → Bool = has_item (λ item. item.count == 0) in
    let new : Option Item = Some (new_item p file mode) in
    elim (is_or_not i j) [
      | inl at ↦ ap (λ n. test (place_at (slice_set items i new) n)) at ∙ ap test (at_same items i new within)
      | inr elsewhere ↦ ap test (at_other items i j new elsewhere) ∙ sound.opened j
    ]

pub record MayBeNew (items : List (Option Item)) (i p : ℕ) (file : FileKey) (mode : Mode) : Type 0 where
  pub within : i < length items
  pub free : place_at items i ≡ None
  pub allowed : is_excluded items p file mode ≡ false
  pub none : count_by (has_item_of p file) items ≡ 0
  pub few : items_of items p < ITEMS_OF_PROCESS

pub items_with_new : (items : List (Option Item)) (i p : ℕ) (file : FileKey) (mode : Mode) → MayBeNew items i p file mode → AreItems items
    → AreItems (slice_set items i (Some (new_item p file mode)))
items_with_new items i p file mode may sound = record {
  places = length-set items i (Some (new_item p file mode)) ∙ sound.places;
  once = with_new_once items i p file mode may.within may.free may.none sound;
  few = with_new_few items i p file mode may.within may.free may.few sound;
  together = with_new_together items i p file mode may.allowed may.within sound;
  opened = with_new_opened items i p file mode may.within sound;
}

-- items are given back
left_or_gone : (p : ℕ) (among : FileKey → Bool) (place : Option Item) → (left_in p among place ≡ place) ⊎ (left_in p among place ≡ None)
left_or_gone p among place = by_test (has_item (is_given_back p among) place)
  where
    by_test : (b : Bool) → ((if b then None else place) ≡ place) ⊎ ((if b then None else place) ≡ None)
    by_test true = inr refl
    by_test false = inl refl

pub place_left : (items : List (Option Item)) (p : ℕ) (among : FileKey → Bool) (i : ℕ) → place_at (map (left_in p among) items) i ≡ left_in p among (place_at items i)
place_left [] p among i = refl
place_left (x ∷ xs) p among zero = refl
place_left (x ∷ xs) p among (suc i) = place_left xs p among i

-- what is so of no item, and of a place as it was, is so of it as it is left
pub so_of_left : (P : Option Item → Type 0) (p : ℕ) (among : FileKey → Bool) (place : Option Item) → P None → P place → P (left_in p among place)
so_of_left P p among place of_none of_it =
    elim (left_or_gone p among place) [
      | inl left ↦ subst P (sym left) of_it
      | inr gone ↦ subst P (sym gone) of_none
    ]

count_left : (test : Item → Bool) (p : ℕ) (among : FileKey → Bool) (items : List (Option Item)) → count_by (has_item test) (map (left_in p among) items) ≤ count_by (has_item test) items
count_left test p among [] = omega arith
count_left test p among (x ∷ xs) =
    let P : Option Item → Type 0 = λ y. one_if (has_item test y) ≤ one_if (has_item test x) in
    let here : one_if (has_item test (left_in p among x)) ≤ one_if (has_item test x) = so_of_left P p among x (omega arith) (omega arith) in
    omega (arith, here, count_left test p among xs, count_cons (has_item test) (left_in p among x) (map (left_in p among) xs), count_cons (has_item test) x xs)

left_together : (p : ℕ) (among : FileKey → Bool) (a b : Option Item) → exclude_each_other a b ≡ false → exclude_each_other (left_in p among a) (left_in p among b) ≡ false
left_together p among a b e =
    so_of_left (λ x. exclude_each_other x (left_in p among b) ≡ false) p among a refl
    (so_of_left (λ y. exclude_each_other a y ≡ false) p among b (exclude_back a None) e)

pub items_left : (items : List (Option Item)) (p : ℕ) (among : FileKey → Bool) → AreItems items → AreItems (items_without items p among)
unfolding items_without items_of
items_left items p among sound = record {
  places = length-map items (left_in p among) ∙ sound.places;
  once = λ q file. omega (arith, sound.once q file, count_left (λ item. (item.process == q) && is_same_file item.file file) p among items);
  few = λ q. omega (arith, sound.few q, count_left (is_of q) p among items);
  together = λ i j.
      ap (λ x. exclude_each_other x (place_at (map (left_in p among) items) j)) (place_left items p among i)
      ∙ ap (exclude_each_other (left_in p among (place_at items i))) (place_left items p among j)
      ∙ left_together p among (place_at items i) (place_at items j) (sound.together i j);
  opened = λ i.
      ap (has_item (λ item. item.count == 0)) (place_left items p among i)
      ∙ so_of_left (λ x. has_item (λ item. item.count == 0) x ≡ false) p among (place_at items i) refl (sound.opened i);
}

-- an item that isn't given back is there
kept_at : (p : ℕ) (among : FileKey → Bool) (q : ℕ) (file : FileKey) (place : Option Item) → ((q == p) && among file) ≡ false
    → has_item_of q file (left_in p among place) ≡ has_item_of q file place
kept_at p among q file None e = refl
kept_at p among q file (Some item) e = by_tests (is_given_back p among item) (has_item_of q file (Some item)) refl refl
  where
    its : is_given_back p among item ≡ true → has_item_of q file (Some item) ≡ true → ⊥
    its given is =
        let same = and_parts (item.process == q) (is_same_file item.file file) is in
        let key = ap (λ x. (x == p) && among item.file) (eqb-true item.process q (same.0))
        ∙ ap (λ f. (q == p) && among f) (same_file item.file file (same.1)) in
        false≢true (sym e ∙ sym key ∙ given)

    by_tests : (a b : Bool) → is_given_back p among item ≡ a → has_item_of q file (Some item) ≡ b
        → has_item_of q file (if a then None else (Some item)) ≡ has_item_of q file (Some item)
    by_tests true true given is = absurd (its given is)
    by_tests true false given is = sym is
    by_tests false b given is = refl

pub count_kept : (items : List (Option Item)) (p : ℕ) (among : FileKey → Bool) (q : ℕ) (file : FileKey) → ((q == p) && among file) ≡ false
    → count_by (has_item_of q file) (items_without items p among) ≡ count_by (has_item_of q file) items
unfolding items_without
count_kept [] p among q file e = refl
count_kept (x ∷ xs) p among q file e =
    omega (arith, ap one_if (kept_at p among q file x e), count_kept xs p among q file e, count_cons (has_item_of q file) (left_in p among x) (map (left_in p among) xs), count_cons (has_item_of q file) x xs)

-- none at first
count_of_none : (test : Option Item → Bool) (n : ℕ) → test None ≡ false → count_by test (replicate n None) ≡ 0
count_of_none test zero e = refl
count_of_none test (suc n) e = omega (arith, count_of_none test n e, one_if_false (test None) e, count_cons test None (replicate n None))

pub none_at : (n i : ℕ) → place_at (replicate n None) i ≡ None
none_at zero i = refl
none_at (suc n) zero = refl
none_at (suc n) (suc i) = none_at n i

pub items_of_none : AreItems (replicate ITEMS None)
unfolding items_of
items_of_none = record {
  places = refl;
  once = λ p file. omega (arith, count_of_none (has_item_of p file) ITEMS refl);
  few = λ p. omega (arith, count_of_none (has_item (is_of p)) ITEMS refl);
  together = λ i j. ap (λ x. exclude_each_other x (place_at (replicate ITEMS None) j)) (none_at ITEMS i);
  opened = λ i. ap (has_item (λ item. item.count == 0)) (none_at ITEMS i);
}
