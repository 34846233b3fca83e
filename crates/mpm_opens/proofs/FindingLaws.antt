-- The number that an opened file has is that by which it is found, and what a number is found by is its item's.
use Rattle.std.proofs.Common.{◌≡◌, ◌∙◌, ℕ, ◌<◌, ◌==◌, Bool, true, false, not, ◌&&◌, if◌then◌else◌, List, Option, Some, None, Result, Ok, Err, IfOk, OnErr, length, cond, get_or, sym, refl, ap, subst, arith, ltb, length-set}
use Rattle.std.specs.Prelude.{IsSome, bytes_eq, count_by, position, slice_set, unwrap_or}
use Rattle.std.specs.List.{list_any, position_or_len}
use Rattle.std.proofs.lemmas.Bool.{lt-ltb, false≢true, and_parts, eqb-true}
use Rattle.std.proofs.lemmas.List.Quantifiers.{position-Some}
use Rattle.std.proofs.lemmas.List.Sums.{position_or_len_is}
use Rattle.std.proofs.lemmas.Option.{same_Some}
use Rattle.mpm_opens.specs.declared.kinds.FileKey.{FileKey}
use Rattle.mpm_opens.specs.declared.kinds.Mode.{Mode}
use Rattle.mpm_opens.specs.declared.kinds.Item.{Item}
use Rattle.mpm_opens.specs.declared.kinds.RecordLock.{RecordLock}
use Rattle.mpm_opens.specs.declared.kinds.OpenRefused.{OpenRefused}
use Rattle.mpm_opens.specs.Opens.{OpenFiles, IsLive, item_of, process_of, file_of, IsItemOf, IsOpened, with_its_item, closed_at, closed, written_at, written, AreItems, AreOpen}
use Rattle.mpm_opens.specs.Kinds.{is_same_file, is_same_mode, do_modes_go_together}
use Rattle.mpm_opens.specs.Items.{has_item, excludes, is_excluded, place_at, blank_item, item_at, has_item_of, number_of, is_named, file_where, file_named, opened_again, new_item, first_free, refusal_of, opened_at, opened, opened_number, where_granted, granted, items_added, add_answer}
use Rattle.mpm_opens.proofs.Keys.{is_itself, same_file, file_is_itself, same_mode}
use Rattle.mpm_opens.proofs.Listing.{counts_where_any, fails_at}
use Rattle.mpm_opens.proofs.ItemLaws.{stands_within, at_same, at_other}
use Rattle.mpm_opens.proofs.LeavingLaws.{alone}
use Rattle.mpm_opens.proofs.OpeningLaws.{live_stands, item_stands, may_open, free_place, no_item, number_is_live}

-- the first place that passes
first_at : {X : Type 0} (test : X → Bool) (xs : List X) (i : ℕ) (d : X) → i < length xs → ((k : ℕ) → k < i → test (get_or xs k d) ≡ false) → test (get_or xs i d) ≡ true
    → position test xs ≡ Some i
first_at test xs i d h before here =
    let at : position_or_len test xs ≡ i = position_or_len_is test xs i d (omega arith) before (λ _. here) in
    ap (λ (m : ℕ). cond (ltb m (length xs)) (Some m) None) at ∙ ap (λ (b : Bool). cond b (Some i) None) (lt-ltb i (length xs) h)

none_passes : (items : List (Option Item)) (p : ℕ) (file : FileKey) → count_by (has_item_of p file) items ≡ 0 → list_any (has_item_of p file) items ≡ false
none_passes items p file none = by_test (list_any (has_item_of p file) items) refl
  where
    by_test : (b : Bool) → list_any (has_item_of p file) items ≡ b → b ≡ false
    by_test true e = absurd (omega (arith, none, counts_where_any (has_item_of p file) items e))
    by_test false e = refl

-- an item that is put at a place is found there, if none stands before it
found_after : (items : List (Option Item)) (p : ℕ) (file : FileKey) (i : ℕ) (item : Item) → i < length items
    → ((k : ℕ) → k < i → has_item_of p file (place_at items k) ≡ false) → has_item_of p file (Some item) ≡ true
    → number_of (slice_set items i (Some item)) p file ≡ Some i
unfolding number_of
found_after items p file i item within before here =
    first_at (has_item_of p file) (slice_set items i (Some item)) i None (omega (arith, length-set items i (Some item)))
    (λ k less. ap (has_item_of p file) (at_other items i k (Some item) (omega arith)) ∙ before k less)
    (ap (has_item_of p file) (at_same items i (Some item) within) ∙ here)

before_number : (items : List (Option Item)) (p : ℕ) (file : FileKey) (i : ℕ) → number_of items p file ≡ Some i
    → (k : ℕ) → k < i → has_item_of p file (place_at items k) ≡ false
unfolding number_of
before_number items p file i e = (position-Some (has_item_of p file) items i None e).2

own_passes : (p : ℕ) (file : FileKey) (mode : Mode) → has_item_of p file (Some (new_item p file mode)) ≡ true
own_passes p file mode = ap (λ b. b && is_same_file file file) (is_itself p) ∙ file_is_itself file

opened_is_found : (items : List (Option Item)) (p : ℕ) (file : FileKey) (mode : Mode) → refusal_of items p file mode ≡ None
    → number_of (opened items p file mode) p file ≡ Some (opened_number items p file)
unfolding opened opened_number
opened_is_found items p file mode may = by_number (number_of items p file) refl
  where
    by_number : (o : Option ℕ) → number_of items p file ≡ o → number_of (opened_at items p file mode o) p file ≡ Some (unwrap_or o (first_free items))
    by_number (Some i) e =
        let stands = item_stands items p file i e in
        found_after items p file i (opened_again (item_at items i)) (stands_within items i (item_at items i) (stands.0)) (before_number items p file i e) (stands.1)
    by_number None e =
        let free = free_place items ((may_open items p file mode may).room) in
        let none = none_passes items p file (no_item items p file e) in
        found_after items p file (first_free items) (new_item p file mode) (free.0)
        (λ k less. fails_at (has_item_of p file) items k None refl none) (own_passes p file mode)

-- what an attempt to open answers is the number of the item, and a refused one changes nothing
pub added_is_found : (items : List (Option Item)) (p : ℕ) (file : FileKey) (mode : Mode)
    → IfOk (add_answer items p file mode) (λ number. number_of (items_added items p file mode) p file ≡ Some number)
unfolding add_answer items_added
added_is_found items p file mode = by_refusal (refusal_of items p file mode) refl
  where
    by_refusal : (o : Option OpenRefused) → refusal_of items p file mode ≡ o
        → IfOk (granted o (opened_number items p file)) (λ number. number_of (where_granted o (opened items p file mode) items) p file ≡ Some number)
    by_refusal None e = opened_is_found items p file mode e
    by_refusal (Some refusal) e = tt

pub refused_is_unchanged : (items : List (Option Item)) (p : ℕ) (file : FileKey) (mode : Mode)
    → OnErr (add_answer items p file mode) (items_added items p file mode ≡ items)
unfolding add_answer items_added
refused_is_unchanged items p file mode = by_refusal (refusal_of items p file mode)
  where
    by_refusal : (o : Option OpenRefused) → OnErr (granted o (opened_number items p file)) (where_granted o (opened items p file mode) items ≡ items)
    by_refusal None = tt
    by_refusal (Some refusal) = refl

pub named : (items : List (Option Item)) (p : ℕ) (file : FileKey) (mode : Mode) (after : List (Option Item)) (result : Result ℕ OpenRefused)
    → after ≡ items_added items p file mode → result ≡ add_answer items p file mode → IfOk result (λ number. number_of after p file ≡ Some number)
named items p file mode after result is answer =
    let P : List (Option Item) → Type 0 = λ x. IfOk result (λ number. number_of x p file ≡ Some number) in
    let Q : Result ℕ OpenRefused → Type 0 = λ r. IfOk r (λ number. number_of (items_added items p file mode) p file ≡ Some number) in
    subst P (sym is) (subst Q (sym answer) (added_is_found items p file mode))

live_where_named : (after : List (Option Item)) (p : ℕ) (file : FileKey) (result : Result ℕ OpenRefused) → IfOk result (λ number. number_of after p file ≡ Some number)
    → IfOk result (λ number. IsSome (place_at after number))
live_where_named after p file (Ok number) is = number_is_live after p file number is
live_where_named after p file (Err refusal) is = tt

pub lives : (items : List (Option Item)) (p : ℕ) (file : FileKey) (mode : Mode) (after : List (Option Item)) (result : Result ℕ OpenRefused)
    → after ≡ items_added items p file mode → result ≡ add_answer items p file mode → IfOk result (λ number. IsSome (place_at after number))
lives items p file mode after result is answer = live_where_named after p file result (named items p file mode after result is answer)

pub unchanged : (items : List (Option Item)) (locks : List RecordLock) (p : ℕ) (file : FileKey) (mode : Mode) (after : List (Option Item)) (result : Result ℕ OpenRefused)
    (now : OpenFiles) → after ≡ items_added items p file mode → result ≡ add_answer items p file mode → record { items = items; locks = locks } ≡ now
    → OnErr result (record { items = after; locks = locks } ≡ now)
unchanged items locks p file mode after result now is answer view =
    let P : Result ℕ OpenRefused → Type 0 = λ r. OnErr r (items_added items p file mode ≡ items) in
    err_of result (subst P (sym answer) (refused_is_unchanged items p file mode))
  where
    err_of : (r : Result ℕ OpenRefused) → OnErr r (items_added items p file mode ≡ items) → OnErr r (record { items = after; locks = locks } ≡ now)
    err_of (Ok number) same = tt
    err_of (Err refusal) same = let whole : List (Option Item) → OpenFiles = λ x. record { items = x; locks = locks } in ap whole (is ∙ same) ∙ view

-- an own item of the file has the mode in which it may be opened again
mode_again : (items : List (Option Item)) (p : ℕ) (file : FileKey) (mode : Mode) (i : ℕ) → is_excluded items p file mode ≡ false → number_of items p file ≡ Some i
    → (item_at items i).mode ≡ mode
unfolding is_excluded
mode_again items p file mode i allowed e =
    let item = item_at items i in
    let stands = item_stands items p file i e in
    let own = and_parts (item.process == p) (is_same_file item.file file) (stands.1) in
    let beside : excludes p file mode item ≡ false =
    ap (has_item (excludes p file mode)) (sym (stands.0)) ∙ fails_at (has_item (excludes p file mode)) items i None refl allowed in
    same_mode item.mode mode (means (is_same_mode item.mode mode) (do_modes_go_together item.mode mode) (is_same_file item.file file) (item.process == p) (own.1) (own.0) beside)
  where
    means : (one two same its : Bool) → same ≡ true → its ≡ true → (same && not (if its then one else two)) ≡ false → one ≡ true
    means true two true true s i e = refl
    means false two true true s i e = absurd (cc)
    means one two false its s i e = absurd (cc)
    means one two true false s i e = absurd (cc)

-- what an attempt to open makes of the item and leaves of the others
opened_so : (items : List (Option Item)) (locks : List RecordLock) (p : ℕ) (file : FileKey) (mode : Mode) → refusal_of items p file mode ≡ None
    → IsOpened p file mode (opened_number items p file) (record { items = items; locks = locks }) (record { items = opened items p file mode; locks = locks })
unfolding opened opened_number
opened_so items locks p file mode may = by_number (number_of items p file) refl
  where
    by_number : (o : Option ℕ) → number_of items p file ≡ o
        → IsOpened p file mode (unwrap_or o (first_free items)) (record { items = items; locks = locks }) (record { items = opened_at items p file mode o; locks = locks })
    by_number (Some i) e =
        let item = item_at items i in
        let stands = item_stands items p file i e in
        let here = at_same items i (Some (opened_again item)) (stands_within items i item (stands.0)) in
        record {
          others = λ k apart. at_other items i k (Some (opened_again item)) apart;
          again = λ _. here;
          first = λ free. let none : Some item ≡ None = sym (stands.0) ∙ free in absurd (cc);
          its_mode = ap (λ o. (unwrap_or o blank_item).mode) here ∙ mode_again items p file mode i ((may_open items p file mode may).allowed) e;
          locks = refl;
        }
    by_number None e =
        let free = free_place items ((may_open items p file mode may).room) in
        let here = at_same items (first_free items) (Some (new_item p file mode)) (free.0) in
        record {
          others = λ k apart. at_other items (first_free items) k (Some (new_item p file mode)) apart;
          again = λ live. absurd (false≢true (subst IsSome (free.1) live));
          first = λ _. here;
          its_mode = ap (λ o. (unwrap_or o blank_item).mode) here;
          locks = refl;
        }

added_so : (items : List (Option Item)) (locks : List RecordLock) (p : ℕ) (file : FileKey) (mode : Mode)
    → IfOk (add_answer items p file mode)
    (λ number. IsOpened p file mode number (record { items = items; locks = locks }) (record { items = items_added items p file mode; locks = locks }))
unfolding add_answer items_added
added_so items locks p file mode = by_refusal (refusal_of items p file mode) refl
  where
    by_refusal : (o : Option OpenRefused) → refusal_of items p file mode ≡ o
        → IfOk (granted o (opened_number items p file))
        (λ number. IsOpened p file mode number (record { items = items; locks = locks }) (record { items = where_granted o (opened items p file mode) items; locks = locks }))
    by_refusal None e = opened_so items locks p file mode e
    by_refusal (Some refusal) e = tt

pub opens_file : (items : List (Option Item)) (locks : List RecordLock) (p : ℕ) (file : FileKey) (mode : Mode) (after : List (Option Item)) (result : Result ℕ OpenRefused)
    (now : OpenFiles) → after ≡ items_added items p file mode → result ≡ add_answer items p file mode → record { items = items; locks = locks } ≡ now
    → IfOk result (λ number. IsOpened p file mode number now (record { items = after; locks = locks }))
opens_file items locks p file mode after result now is answer view =
    let P : OpenFiles → Type 0 = λ old. IfOk result (λ number. IsOpened p file mode number old (record { items = after; locks = locks })) in
    let Q : List (Option Item) → Type 0 = λ new. IfOk result (λ number. IsOpened p file mode number (record { items = items; locks = locks }) (record { items = new; locks = locks })) in
    let R : Result ℕ OpenRefused → Type 0 = λ r. IfOk r
    (λ number. IsOpened p file mode number (record { items = items; locks = locks }) (record { items = items_added items p file mode; locks = locks })) in
    subst P view (subst Q (sym is) (subst R (sym answer) (added_so items locks p file mode)))

-- an item is found by its process and file, as no other item has both
number_found : (items : List (Option Item)) (number : ℕ) → AreItems items → IsSome (place_at items number)
    → number_of items (item_at items number).process (item_at items number).file ≡ Some number
unfolding number_of
number_found items number sound live =
    let item = item_at items number in
    let is = live_stands (place_at items number) live in
    first_at (has_item_of item.process item.file) items number None (stands_within items number item is)
    (λ k less. alone items number k sound live (λ same. omega (arith, same, less)))
    (ap (has_item_of item.process item.file) is ∙ ap (λ b. b && is_same_file item.file item.file) (is_itself item.process) ∙ file_is_itself item.file)

-- so what is done with a process's item of a file is done with the item
its_item_is : (change : OpenFiles → ℕ → OpenFiles) (opens : OpenFiles) (number : ℕ) → AreOpen opens → IsLive opens number
    → with_its_item change opens (number_of opens.items (process_of opens number) (file_of opens number)) ≡ change opens number
its_item_is change opens number sound live = ap (with_its_item change opens) (number_found opens.items number sound.items live)

pub closed_is : (opens : OpenFiles) (number : ℕ) → AreOpen opens → IsLive opens number
    → closed_at opens number ≡ closed opens (process_of opens number) (file_of opens number)
unfolding closed
closed_is opens number sound live = sym (its_item_is closed_at opens number sound live)

pub written_is : (opens : OpenFiles) (number : ℕ) → AreOpen opens → IsLive opens number
    → written_at opens number ≡ written opens (process_of opens number) (file_of opens number)
unfolding written
written_is opens number sound live = sym (its_item_is written_at opens number sound live)

-- a number that is found is that of the item
pub is_its_item : (opens : OpenFiles) (p : ℕ) (file : FileKey) (number : ℕ) → number_of opens.items p file ≡ Some number → IsItemOf opens p file number
is_its_item opens p file number e =
    let stands = item_stands opens.items p file number e in
    let same = and_parts ((item_of opens number).process == p) (is_same_file (item_of opens number).file file) (stands.1) in
    record {
      live = number_is_live opens.items p file number e;
      its_process = eqb-true (item_of opens number).process p (same.0);
      its_file = same_file (item_of opens number).file file (same.1);
    }

pub is_named_item : (opens : OpenFiles) (p number drive : ℕ) (name : List ℕ) (file : FileKey) → file_named opens.items p number drive name ≡ Some file
    → IsItemOf opens p file number
unfolding file_named
is_named_item opens p number drive name file e = by_place (place_at opens.items number) refl e
  where
    by_test : (item : Item) (b : Bool) → is_named p drive name item ≡ b → (if b then Some item.file else None) ≡ Some file → place_at opens.items number ≡ Some item
        → IsItemOf opens p file number
    by_test item false is e at = absurd (cc)
    by_test item true is e at = record {
      live = subst IsSome (sym at) refl;
      its_process = ap (λ (o : Option Item). (unwrap_or o blank_item).process) at
          ∙ eqb-true item.process p ((and_parts (item.process == p) ((item.file.drive == drive) && bytes_eq item.file.name name) is).0);
      its_file = ap (λ (o : Option Item). (unwrap_or o blank_item).file) at ∙ same_Some item.file file e;
    }

    by_place : (place : Option Item) → place_at opens.items number ≡ place → file_where (is_named p drive name) place ≡ Some file → IsItemOf opens p file number
    by_place None at e = absurd (cc)
    by_place (Some item) at e = by_test item (is_named p drive name item) refl e at

pub its_where_named : (opens : OpenFiles) (p : ℕ) (file : FileKey) (result : Result ℕ OpenRefused) → IfOk result (λ number. number_of opens.items p file ≡ Some number)
    → IfOk result (λ number. IsItemOf opens p file number)
its_where_named opens p file (Ok number) is = is_its_item opens p file number is
its_where_named opens p file (Err refusal) is = tt
