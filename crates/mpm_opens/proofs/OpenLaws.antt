-- What stays so of open files and locks together.
use Rattle.std.proofs.Common.{◌≡◌, ◌∙◌, ℕ, ◌<◌, ◌≤◌, Bool, true, false, not, ◌==◌, ◌&&◌, if◌then◌else◌, List, [], ◌∷◌, Option, Some, None, sym, refl, ap, arith}
use Rattle.std.specs.Prelude.{IsSome, count_by, slice_set}
use Rattle.std.specs.List.{list_any, list_all}
use Rattle.std.proofs.lemmas.Bool.Decides.{nat_tests}
use Rattle.std.proofs.lemmas.List.Folds.{list_all-append, list_any_at}
use Rattle.std.proofs.lemmas.Bool.{not-true}
use Rattle.mpm_opens.specs.declared.kinds.FileKey.{FileKey}
use Rattle.mpm_opens.specs.declared.kinds.Mode.{Mode}
use Rattle.mpm_opens.specs.declared.kinds.Item.{Item}
use Rattle.mpm_opens.specs.declared.kinds.RecordLock.{RecordLock}
use Rattle.mpm_opens.specs.declared.kinds.OpenRefused.{OpenRefused}
use Rattle.mpm_opens.specs.Kinds.{is_same_file}
use Rattle.mpm_opens.specs.Items.{no_items, has_item, place_at, item_at, has_item_of, number_of, with_changed, opened_again, closed_once, that_wrote, new_item, first_free, refusal_of, opened_at, opened, where_granted, items_added, items_without}
use Rattle.mpm_opens.specs.Locks.{owner_of, with_lock, has_limit, locked_by, locks_locked, is_lock_given_back, locks_without, is_lock_among}
use Rattle.mpm_opens.specs.Opens.{has_owners_item, AreItems, AreOpen}
use Rattle.mpm_base.proofs.CountLaws.{one_if}
use Rattle.mpm_opens.proofs.Keys.{is_itself, file_is_itself}
use Rattle.mpm_opens.proofs.Listing.{count_set, counts_where_any, any_where_counts, all_left, all_still}
use Rattle.mpm_opens.proofs.ItemLaws.{stands_within, count_changed, IsSameItem, items_changed, items_left, count_kept, items_of_none}
use Rattle.mpm_opens.proofs.OpeningLaws.{live_stands, item_stands, may_open, free_place, sound_added}
use Rattle.mpm_opens.proofs.LockLaws.{no_locks, locks_left, locks_are_locked}

-- nothing is open
pub none_are_open : AreOpen (record { items = no_items; locks = [] })
unfolding no_items
none_are_open = record { items = items_of_none; locks = no_locks; owned = refl }

-- other items, of which a process has at least as many of each file
pub with_items : (items after : List (Option Item)) (locks : List RecordLock) → AreItems after
    → ((q : ℕ) (file : FileKey) → count_by (has_item_of q file) items ≤ count_by (has_item_of q file) after)
    → AreOpen (record { items = items; locks = locks }) → AreOpen (record { items = after; locks = locks })
with_items items after locks sound more open_files = record {
  items = sound;
  locks = open_files.locks;
  owned = all_still (has_owners_item items) (has_owners_item after) locks
      (λ lock has. any_where_counts (has_item_of lock.owner lock.file) after
      (omega (arith, more lock.owner lock.file, counts_where_any (has_item_of lock.owner lock.file) items has)))
      open_files.owned;
}

-- an item changed in nothing by which it is known
pub with_item : (items : List (Option Item)) (locks : List RecordLock) (number : ℕ) (new : Item) → IsSome (place_at items number)
    → IsSameItem (item_at items number) new → AreOpen (record { items = items; locks = locks })
    → AreOpen (record { items = slice_set items number (Some new); locks = locks })
with_item items locks number new live same open_files =
    let is = live_stands (place_at items number) live in
    with_items items (slice_set items number (Some new)) locks
    (items_changed items number (item_at items number) new is same open_files.items)
    (λ q file. omega (arith, count_changed (has_item_of q file) items number (item_at items number) new is (keyed q file)))
    open_files
  where
    keyed : (q : ℕ) (file : FileKey) → has_item_of q file (Some new) ≡ has_item_of q file (Some (item_at items number))
    keyed q file =
        ap (λ x. (x == q) && is_same_file new.file file) same.process ∙ ap (λ f. ((item_at items number).process == q) && is_same_file f file) same.file

pub written_is_same : (item : Item) → (item.count == 0) ≡ false → IsSameItem item (that_wrote item)
written_is_same item some = record { process = refl; file = refl; mode = refl; opened = some }

pub closed_is_same : (item : Item) → 1 < item.count → IsSameItem item (closed_once item)
closed_is_same item more = record { process = refl; file = refl; mode = refl; opened = grind (arith, nat_tests) }

pub with_written : (items : List (Option Item)) (locks : List RecordLock) (number : ℕ) → IsSome (place_at items number)
    → AreOpen (record { items = items; locks = locks }) → AreOpen (record { items = with_changed that_wrote items number; locks = locks })
with_written items locks number live open_files =
    let is = live_stands (place_at items number) live in
    let some = ap (has_item (λ item. item.count == 0)) (sym is) ∙ open_files.items.opened number in
    with_item items locks number (that_wrote (item_at items number)) live (written_is_same (item_at items number) some) open_files

-- a file is opened
more_opened : (items : List (Option Item)) (p : ℕ) (file : FileKey) (mode : Mode) → refusal_of items p file mode ≡ None
    → (q : ℕ) (g : FileKey) → count_by (has_item_of q g) items ≤ count_by (has_item_of q g) (opened items p file mode)
unfolding opened
more_opened items p file mode may q g = by_number (number_of items p file) refl
  where
    by_number : (o : Option ℕ) → number_of items p file ≡ o → count_by (has_item_of q g) items ≤ count_by (has_item_of q g) (opened_at items p file mode o)
    by_number (Some number) e =
        omega (arith, count_changed (has_item_of q g) items number (item_at items number) (opened_again (item_at items number)) ((item_stands items p file number e).0) refl)
    by_number None e =
        let free = free_place items ((may_open items p file mode may).room) in
        omega (arith, count_set (has_item_of q g) items (first_free items) (Some (new_item p file mode)) None (free.0), ap (λ x. one_if (has_item_of q g x)) (free.1))

more_added : (items : List (Option Item)) (p : ℕ) (file : FileKey) (mode : Mode) (q : ℕ) (g : FileKey)
    → count_by (has_item_of q g) items ≤ count_by (has_item_of q g) (items_added items p file mode)
unfolding items_added
more_added items p file mode q g = by_refusal (refusal_of items p file mode) refl
  where
    by_refusal : (o : Option OpenRefused) → refusal_of items p file mode ≡ o
        → count_by (has_item_of q g) items ≤ count_by (has_item_of q g) (where_granted o (opened items p file mode) items)
    by_refusal (Some refusal) e = omega arith
    by_refusal None e = more_opened items p file mode e q g

pub open_added : (items : List (Option Item)) (locks : List RecordLock) (p : ℕ) (file : FileKey) (mode : Mode)
    → AreOpen (record { items = items; locks = locks }) → AreOpen (record { items = items_added items p file mode; locks = locks })
open_added items locks p file mode open_files =
    with_items items (items_added items p file mode) locks (sound_added items p file mode open_files.items) (more_added items p file mode) open_files

-- a process's locks are given back
pub locks_freed : (items : List (Option Item)) (locks : List RecordLock) (p : ℕ) (test : RecordLock → Bool)
    → AreOpen (record { items = items; locks = locks }) → AreOpen (record { items = items; locks = locks_without locks p test })
unfolding locks_without
locks_freed items locks p test open_files =
    let keep : RecordLock → Bool = λ lock. not (is_lock_given_back p test lock) in
    record {
      items = open_files.items;
      locks = locks_left keep locks open_files.locks;
      owned = all_left (has_owners_item items) (has_owners_item items) keep locks (λ lock kept has. has) open_files.owned;
    }

-- items are given back with their locks
pub open_given_back : (items : List (Option Item)) (locks : List RecordLock) (p : ℕ) (among : FileKey → Bool)
    → AreOpen (record { items = items; locks = locks }) → AreOpen (record { items = items_without items p among; locks = locks_without locks p (is_lock_among among) })
unfolding locks_without
open_given_back items locks p among open_files =
    let keep : RecordLock → Bool = λ lock. not (is_lock_given_back p (is_lock_among among) lock) in
    record {
      items = items_left items p among open_files.items;
      locks = locks_left keep locks open_files.locks;
      owned = all_left (has_owners_item items) (has_owners_item (items_without items p among)) keep locks still open_files.owned;
    }
  where
    still : (lock : RecordLock) → not (is_lock_given_back p (is_lock_among among) lock) ≡ true → has_owners_item items lock ≡ true → has_owners_item (items_without items p among) lock ≡ true
    still lock kept has =
        any_where_counts (has_item_of lock.owner lock.file) (items_without items p among)
        (omega (arith, count_kept items p among lock.owner lock.file (not-true (is_lock_given_back p (is_lock_among among) lock) kept), counts_where_any (has_item_of lock.owner lock.file) items has))

-- a record is locked by a process that has an item of its file
its_item : (items : List (Option Item)) (number : ℕ) → IsSome (place_at items number)
    → list_any (has_item_of (item_at items number).process (item_at items number).file) items ≡ true
its_item items number live =
    let item = item_at items number in
    let is = live_stands (place_at items number) live in
    list_any_at (has_item_of item.process item.file) items number None (stands_within items number item is)
    (ap (has_item_of item.process item.file) is
    ∙ ap (λ b. b && is_same_file item.file item.file) (is_itself item.process) ∙ file_is_itself item.file)

owned_more : (items : List (Option Item)) (locks : List RecordLock) (p : ℕ) (file : FileKey) (number : ℕ) → list_any (has_item_of p file) items ≡ true
    → list_all (has_owners_item items) locks ≡ true → list_all (has_owners_item items) (with_lock locks p file number) ≡ true
unfolding with_lock
owned_more items locks p file number its owned =
    list_all-append (has_owners_item items) locks (record { owner = p; file = file; number = number } ∷ [])
    ∙ ap (λ b. b && (list_any (has_item_of p file) items && true)) owned
    ∙ ap (λ b. b && true) its

owned_locked : (items : List (Option Item)) (locks : List RecordLock) (p : ℕ) (file : FileKey) (number : ℕ) → list_any (has_item_of p file) items ≡ true
    → list_all (has_owners_item items) locks ≡ true → list_all (has_owners_item items) (locks_locked locks p file number) ≡ true
unfolding locks_locked
owned_locked items locks p file number its owned = by_owner (owner_of locks file number)
  where
    by_limit : (b : Bool) → list_all (has_owners_item items) (if b then locks else (with_lock locks p file number)) ≡ true
    by_limit true = owned
    by_limit false = owned_more items locks p file number its owned

    by_owner : (o : Option ℕ) → list_all (has_owners_item items) (locked_by locks p file number o) ≡ true
    by_owner (Some owner) = owned
    by_owner None = by_limit (has_limit locks p)

pub open_locked : (items : List (Option Item)) (locks : List RecordLock) (item number : ℕ) → IsSome (place_at items item)
    → AreOpen (record { items = items; locks = locks })
    → AreOpen (record { items = items; locks = locks_locked locks (item_at items item).process (item_at items item).file number })
open_locked items locks item number live open_files = record {
  items = open_files.items;
  locks = locks_are_locked locks (item_at items item).process (item_at items item).file number open_files.locks;
  owned = owned_locked items locks (item_at items item).process (item_at items item).file number (its_item items item live) open_files.owned;
}
