-- What is known where a file may be opened, and that items stay sound as it is.
use Rattle.std.proofs.Common.{◌≡◌, ◌≢◌, ◌∙◌, ℕ, ◌<◌, Bool, true, false, ◌==◌, ◌&&◌, ◌||◌, if◌then◌else◌, List, Option, Some, None, length, sym, refl, ap, subst, arith}
use Rattle.std.specs.Prelude.{IsSome, count_by, nat_le, position, is_none, unwrap_or}
use Rattle.std.proofs.lemmas.Bool.{false≢true}
use Rattle.std.proofs.lemmas.Bool.Decides.{nat_tests}
use Rattle.std.proofs.lemmas.List.Quantifiers.{position-Some}
use Rattle.mpm_opens.specs.declared.kinds.FileKey.{FileKey}
use Rattle.mpm_opens.specs.declared.kinds.Mode.{Mode}
use Rattle.mpm_opens.specs.declared.kinds.Item.{Item}
use Rattle.mpm_opens.specs.declared.kinds.OpenRefused.{OpenRefused}
use Rattle.mpm_opens.specs.declared.limits.TheConstants.{ITEMS_OF_PROCESS, OPENINGS}
use Rattle.mpm_opens.specs.declared.kinds.OpenRefused.TheVariants.{Incompatible, ProcessLimit, NoRoom}
use Rattle.mpm_opens.specs.Items.{has_item, place_at, blank_item, item_at, has_item_of, is_item_of, number_of, is_named, file_where, file_named, is_excluded, items_of, is_counted_out, has_counted_out, are_full, opened_again, first_free, refusal_of, opened_at, opened, where_granted, items_added}
use Rattle.mpm_opens.specs.Opens.{AreItems}
use Rattle.mpm_opens.proofs.Listing.{fails_at, none_where_no_position}
use Rattle.mpm_opens.proofs.ItemLaws.{IsSameItem, items_changed, items_with_new}

-- what isn't so of a file that may be opened
pub record MayOpen (items : List (Option Item)) (p : ℕ) (file : FileKey) (mode : Mode) : Type 0 where
  pub allowed : is_excluded items p file mode ≡ false
  pub few : nat_le ITEMS_OF_PROCESS (items_of items p) ≡ false
  pub again : has_counted_out items p file ≡ false
  pub room : are_full items ≡ false

pub may_open : (items : List (Option Item)) (p : ℕ) (file : FileKey) (mode : Mode) → refusal_of items p file mode ≡ None → MayOpen items p file mode
unfolding refusal_of
may_open items p file mode e =
    let means = by_tests (is_excluded items p file mode) (nat_le ITEMS_OF_PROCESS (items_of items p)) (has_counted_out items p file) (are_full items) e in
    record { allowed = means.0; few = means.1; again = means.2; room = means.3 }
  where
    by_tests : (a b c d : Bool) → (if a then Some Incompatible else (if b || c then Some ProcessLimit else (if d then Some NoRoom else None))) ≡ None
        → (a ≡ false) × (b ≡ false) × (c ≡ false) × (d ≡ false)
    by_tests true b c d e = absurd (cc)
    by_tests false true c d e = absurd (cc)
    by_tests false false true d e = absurd (cc)
    by_tests false false false true e = absurd (cc)
    by_tests false false false false e = (refl, refl, refl, refl)

-- what stands where a test of items passes
stands_where : (test : Item → Bool) (place : Option Item) → has_item test place ≡ true → (place ≡ Some (unwrap_or place blank_item)) × (test (unwrap_or place blank_item) ≡ true)
stands_where test None e = absurd (cc)
stands_where test (Some item) e = (refl, e)

pub live_stands : (place : Option Item) → IsSome place → place ≡ Some (unwrap_or place blank_item)
live_stands None live = absurd (cc)
live_stands (Some item) live = refl

pub item_stands : (items : List (Option Item)) (p : ℕ) (file : FileKey) (number : ℕ) → number_of items p file ≡ Some number
    → (place_at items number ≡ Some (item_at items number)) × (is_item_of p file (item_at items number) ≡ true)
unfolding number_of
item_stands items p file number e =
    stands_where (is_item_of p file) (place_at items number) ((position-Some (has_item_of p file) items number None e).1)

pub number_is_live : (items : List (Option Item)) (p : ℕ) (file : FileKey) (number : ℕ) → number_of items p file ≡ Some number → IsSome (place_at items number)
number_is_live items p file number e = subst IsSome (sym ((item_stands items p file number e).0)) refl

-- who names an item names one that there is
pub named_is_live : (items : List (Option Item)) (p number drive : ℕ) (name : List ℕ) (file : FileKey) → file_named items p number drive name ≡ Some file
    → IsSome (place_at items number)
unfolding file_named
named_is_live items p number drive name file e = by_place (place_at items number) e
  where
    by_place : (place : Option Item) → file_where (is_named p drive name) place ≡ Some file → IsSome place
    by_place None e = absurd (cc)
    by_place (Some item) e = refl

-- it was opened less often than it may be
pub may_open_again : (items : List (Option Item)) (p : ℕ) (file : FileKey) (mode : Mode) (number : ℕ) → refusal_of items p file mode ≡ None
    → number_of items p file ≡ Some number → (item_at items number).count ≢ OPENINGS
unfolding has_counted_out
may_open_again items p file mode number may e full =
    let stands = item_stands items p file number e in
    let item = item_at items number in
    let not_out = fails_at (has_item (is_counted_out p file)) items number None refl ((may_open items p file mode may).again) in
    let out : is_counted_out p file item ≡ true =
    ap (λ b. b && (item.count == OPENINGS)) (stands.1) ∙ ap (λ n. n == OPENINGS) full in
    false≢true (sym not_out ∙ ap (has_item (is_counted_out p file)) (stands.0) ∙ out)

pub has_room : (items : List (Option Item)) (p : ℕ) (file : FileKey) (mode : Mode) → refusal_of items p file mode ≡ None → are_full items ≡ false
has_room items p file mode may = (may_open items p file mode may).room

-- the first free place
pub free_place : (items : List (Option Item)) → are_full items ≡ false → (first_free items < length items) × (place_at items (first_free items) ≡ None)
unfolding are_full first_free
free_place items e = by_place (position is_none items) refl e
  where
    nothing : (place : Option Item) → is_none place ≡ true → place ≡ None
    nothing None e = refl
    nothing (Some item) e = absurd (cc)

    by_place : (o : Option ℕ) → position is_none items ≡ o → is_none o ≡ false
        → (unwrap_or (position is_none items) 0 < length items) × (place_at items (unwrap_or (position is_none items) 0) ≡ None)
    by_place None is e = absurd (cc)
    by_place (Some i) is e =
        let at = position-Some is_none items i None is in
        let here : unwrap_or (position is_none items) 0 ≡ i = ap (λ o. unwrap_or o 0) is in
        let P : ℕ → Type 0 = λ n. (n < length items) × (place_at items n ≡ None) in
        subst P (sym here) (at.0, nothing (place_at items i) (at.1))

-- a process without an item of a file
pub no_item : (items : List (Option Item)) (p : ℕ) (file : FileKey) → number_of items p file ≡ None → count_by (has_item_of p file) items ≡ 0
unfolding number_of
no_item items p file e = none_where_no_position (has_item_of p file) items e

-- items stay sound
again_is_same : (item : Item) → IsSameItem item (opened_again item)
again_is_same item = record { process = refl; file = refl; mode = refl; opened = grind (arith, nat_tests) }

pub sound_opened : (items : List (Option Item)) (p : ℕ) (file : FileKey) (mode : Mode) → refusal_of items p file mode ≡ None → AreItems items → AreItems (opened items p file mode)
unfolding opened
sound_opened items p file mode may sound = by_number (number_of items p file) refl
  where
    by_number : (o : Option ℕ) → number_of items p file ≡ o → AreItems (opened_at items p file mode o)
    by_number (Some number) e =
        let item = item_at items number in
        items_changed items number item (opened_again item) ((item_stands items p file number e).0) (again_is_same item) sound
    by_number None e =
        let means = may_open items p file mode may in
        let free = free_place items means.room in
        items_with_new items (first_free items) p file mode
        (record {
          within = free.0;
          free = free.1;
          allowed = means.allowed;
          none = no_item items p file e;
          few = grind (arith, nat_tests, means.few);
        }) sound

pub sound_added : (items : List (Option Item)) (p : ℕ) (file : FileKey) (mode : Mode) → AreItems items → AreItems (items_added items p file mode)
unfolding items_added
sound_added items p file mode sound = by_refusal (refusal_of items p file mode) refl
  where
    by_refusal : (o : Option OpenRefused) → refusal_of items p file mode ≡ o → AreItems (where_granted o (opened items p file mode) items)
    by_refusal (Some refusal) e = sound
    by_refusal None e = sound_opened items p file mode e sound
