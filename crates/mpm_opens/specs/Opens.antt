-- Open files and record locks together. (MP/M II Programmer's Guide, "Function 15: Open File", "Function 16: Close File",
-- "Function 42: Lock Record".)
use Rattle.std.specs.Prelude.{◌≡◌, ◌≢◌, ℕ, ◌<◌, ◌≤◌, ◌==◌, ◌&&◌, Bool, true, false, not, List, [], Option, Some, None, IsSome, Result, IfOk, OnErr, length, count_by, nat_lt, if◌then◌else◌, ⊤}
use Rattle.std.specs.List.{list_any, list_all}
use Rattle.mpm_opens.specs.declared.kinds.FileKey.{FileKey}
use Rattle.mpm_opens.specs.declared.kinds.Mode.{Mode}
use Rattle.mpm_opens.specs.declared.kinds.Item.{Item}
use Rattle.mpm_opens.specs.declared.kinds.RecordLock.{RecordLock}
use Rattle.mpm_opens.specs.declared.kinds.OpenRefused.{OpenRefused}
use Rattle.mpm_opens.specs.declared.kinds.LockDone.{LockDone}
use Rattle.mpm_opens.specs.declared.kinds.LockDone.TheVariants.{Locked, Other, ProcessLimit, NoRoom}
use Rattle.mpm_opens.specs.declared.limits.TheConstants.{ITEMS, ITEMS_OF_PROCESS, LOCKS, LOCKS_OF_PROCESS}
use Rattle.mpm_opens.specs.Items.{no_items, has_item, place_at, item_at, has_item_of, number_of, excludes, is_of, items_of, with_changed, opened_again, new_item, closed_once, that_wrote, items_added, add_answer, left_in, items_without}
use Rattle.mpm_opens.specs.Kinds.{is_file}
use Rattle.mpm_opens.specs.Locks.{is_lock_on, owner_of, locks_of, lock_answer, locks_locked, locks_without, is_lock_among}

-- the places of items, and the locks in the order in which they were made
pub record OpenFiles : Type 0 where
  pub items : List (Option Item)
  pub locks : List RecordLock

-- nothing is open, nothing is locked
unfoldable pub none_open : OpenFiles
none_open = record { items = no_items; locks = [] }

-- a number is an item's; the item of a number, whose it is and of which file
abbrev pub IsLive : OpenFiles → ℕ → Type 0
IsLive opens number = IsSome (place_at opens.items number)

abbrev pub item_of : OpenFiles → ℕ → Item
item_of opens number = item_at opens.items number

abbrev pub process_of : OpenFiles → ℕ → ℕ
process_of opens number = (item_of opens number).process

abbrev pub file_of : OpenFiles → ℕ → FileKey
file_of opens number = (item_of opens number).file

-- it is the number of a process's item of a file
pub record IsItemOf (opens : OpenFiles) (p : ℕ) (file : FileKey) (number : ℕ) : Type 0 where
  pub live : IsLive opens number
  pub its_process : process_of opens number ≡ p
  pub its_file : file_of opens number ≡ file

-- a process opens a file, unless that is refused
unfoldable pub added : OpenFiles → ℕ → FileKey → Mode → OpenFiles
added opens p file mode = record opens { items = items_added opens.items p file mode }

-- a process's items of the files that pass a test are given back, with its locks there
unfoldable pub given_back : OpenFiles → ℕ → (FileKey → Bool) → OpenFiles
given_back opens p among = record { items = items_without opens.items p among; locks = locks_without opens.locks p (is_lock_among among) }

-- what is done with a process's item of a file, by its number; nothing where it has none
abbrev pub with_its_item : (OpenFiles → ℕ → OpenFiles) → OpenFiles → Option ℕ → OpenFiles
with_its_item change opens None = opens
with_its_item change opens (Some number) = change opens number

-- an item is closed once: it is counted down, or given back where that was the last time
unfoldable pub closed_at : OpenFiles → ℕ → OpenFiles
closed_at opens number =
    if nat_lt 1 (item_of opens number).count then record opens { items = with_changed closed_once opens.items number }
    else (given_back opens (process_of opens number) (is_file (file_of opens number)))

unfoldable pub closed : OpenFiles → ℕ → FileKey → OpenFiles
closed opens p file = with_its_item closed_at opens (number_of opens.items p file)

-- a record was written by way of an item
unfoldable pub written_at : OpenFiles → ℕ → OpenFiles
written_at opens number = record opens { items = with_changed that_wrote opens.items number }

unfoldable pub written : OpenFiles → ℕ → FileKey → OpenFiles
written opens p file = with_its_item written_at opens (number_of opens.items p file)

-- a process asks for the lock of a record of a file, and frees it
unfoldable pub locked : OpenFiles → ℕ → FileKey → ℕ → OpenFiles
locked opens p file number = record opens { locks = locks_locked opens.locks p file number }

unfoldable pub unlocked : OpenFiles → ℕ → FileKey → ℕ → OpenFiles
unlocked opens p file number = record opens { locks = locks_without opens.locks p (is_lock_on file number) }

-- an item excludes another, as in two modes that don't go together
abbrev pub is_excluding : Item → Item → Bool
is_excluding item other = excludes item.process item.file item.mode other

-- what stands at a place excludes what stands at another
abbrev pub exclude_each_other : Option Item → Option Item → Bool
exclude_each_other None other = false
exclude_each_other (Some item) other = has_item (is_excluding item) other

-- a lock's owner has an item of its file
abbrev pub has_owners_item : List (Option Item) → RecordLock → Bool
has_owners_item items lock = list_any (has_item_of lock.owner lock.file) items

-- what is so of items: a process has at most one of a file, and no more in all than it may have; two of a file go together; each
-- was opened
pub record AreItems (items : List (Option Item)) : Type 0 where
  pub places : length items ≡ ITEMS
  pub once : (p : ℕ) (file : FileKey) → count_by (has_item_of p file) items ≤ 1
  pub few : (p : ℕ) → items_of items p ≤ ITEMS_OF_PROCESS
  pub together : (i j : ℕ) → exclude_each_other (place_at items i) (place_at items j) ≡ false
  pub opened : (i : ℕ) → has_item (λ item. item.count == 0) (place_at items i) ≡ false

-- what is so of locks: a record has at most one, so that no two agree in file and record; and no limit is passed
pub record AreLocks (locks : List RecordLock) : Type 0 where
  pub once : (file : FileKey) (number : ℕ) → count_by (is_lock_on file number) locks ≤ 1
  pub few : (p : ℕ) → locks_of locks p ≤ LOCKS_OF_PROCESS
  pub room : length locks ≤ LOCKS

-- what is so of both at any time, and each lock's owner has an item of its file
pub record AreOpen (opens : OpenFiles) : Type 0 where
  pub items : AreItems opens.items
  pub locks : AreLocks opens.locks
  pub owned : list_all (has_owners_item opens.items) opens.locks ≡ true

-- who has a record's lock, or nobody where it was a process that leaves it
abbrev pub unless_owned : ℕ → Option ℕ → Option ℕ
unless_owned p None = None
unless_owned p (Some owner) = if owner == p then None else (Some owner)

abbrev pub owner_left : Bool → ℕ → Option ℕ → Option ℕ
owner_left leaves p owner = if leaves then unless_owned p owner else owner

-- each item of a process but one is as it was, and none of theirs is new
pub record LeavesOthers (p : ℕ) (old new : OpenFiles) : Type 0 where
  pub stays : (number : ℕ) (item : Item) → place_at old.items number ≡ Some item → item.process ≢ p → place_at new.items number ≡ Some item
  pub was : (number : ℕ) (item : Item) → place_at new.items number ≡ Some item → item.process ≢ p → place_at old.items number ≡ Some item

-- no item of a process stands at a place; at any; and none at any place but one, where an item stands that was opened once
abbrev pub HasNoneAt : ℕ → OpenFiles → ℕ → Type 0
HasNoneAt p opens number = has_item (is_of p) (place_at opens.items number) ≡ false

abbrev pub HasNone : ℕ → OpenFiles → Type 0
HasNone p opens = (number : ℕ) → HasNoneAt p opens number

pub record HasOne (p number : ℕ) (opens : OpenFiles) : Type 0 where
  pub once : (item_of opens number).count ≡ 1
  pub others : (k : ℕ) → k ≢ number → HasNoneAt p opens k

-- where a process had no item it has none
abbrev pub OpensNone : ℕ → OpenFiles → OpenFiles → Type 0
OpensNone p old new = (number : ℕ) → HasNoneAt p old number → HasNoneAt p new number

-- a process left the files that pass a test: its items of them are gone, with its locks there, and all others are as they were
pub record HasLeft (p : ℕ) (among : FileKey → Bool) (old new : OpenFiles) : Type 0 where
  pub items : (number : ℕ) → place_at new.items number ≡ left_in p among (place_at old.items number)
  pub owners : (file : FileKey) (number : ℕ) → owner_of new.locks file number ≡ owner_left (among file) p (owner_of old.locks file number)

-- a process has a file open by a number: the item that it had is counted up, or a new one stands where none did, in the mode that was
-- asked. All other items and all locks are as they were
pub record IsOpened (p : ℕ) (file : FileKey) (mode : Mode) (number : ℕ) (old new : OpenFiles) : Type 0 where
  pub others : (k : ℕ) → k ≢ number → place_at new.items k ≡ place_at old.items k
  pub again : IsLive old number → place_at new.items number ≡ Some (opened_again (item_of old number))
  pub first : place_at old.items number ≡ None → place_at new.items number ≡ Some (new_item p file mode)
  pub its_mode : (item_of new number).mode ≡ mode
  pub locks : new.locks ≡ old.locks

-- it was noted of an item that a record was written by way of it; all other items and all locks are as they were
pub record HasNoted (number : ℕ) (old new : OpenFiles) : Type 0 where
  pub others : (k : ℕ) → k ≢ number → place_at new.items k ≡ place_at old.items k
  pub noted : place_at new.items number ≡ Some (that_wrote (item_of old number))
  pub locks : new.locks ≡ old.locks

-- an item was closed: it is counted down, and no lock is given back, or it is gone, with its process's locks of the file; all
-- other items are as they were
pub record IsClosed (number : ℕ) (old new : OpenFiles) : Type 0 where
  pub others : (k : ℕ) → k ≢ number → place_at new.items k ≡ place_at old.items k
  pub counted : 1 < (item_of old number).count → place_at new.items number ≡ Some (closed_once (item_of old number))
  pub kept : 1 < (item_of old number).count → new.locks ≡ old.locks
  pub gone : (item_of old number).count ≤ 1 → place_at new.items number ≡ None
  pub owners : (item_of old number).count ≤ 1 → (file : FileKey) (n : ℕ)
      → owner_of new.locks file n ≡ owner_left (is_file (file_of old number) file) (process_of old number) (owner_of old.locks file n)

-- a record of a file is that of another
abbrev pub is_record : FileKey → ℕ → FileKey → ℕ → Bool
is_record file number other n = (n == number) && is_file file other

-- a process has a record's lock, and each other record is as it was; so are all items
pub record HasLocked (p : ℕ) (file : FileKey) (number : ℕ) (old new : OpenFiles) : Type 0 where
  pub items : new.items ≡ old.items
  pub owners : (other : FileKey) (n : ℕ)
      → owner_of new.locks other n ≡ (if is_record file number other n then Some p else owner_of old.locks other n)

-- a process hasn't a record's lock; who else has it, and each other record, is as it was; so are all items
pub record HasUnlocked (p : ℕ) (file : FileKey) (number : ℕ) (old new : OpenFiles) : Type 0 where
  pub items : new.items ≡ old.items
  pub owners : (other : FileKey) (n : ℕ) → owner_of new.locks other n ≡ owner_left (is_record file number other n) p (owner_of old.locks other n)

-- what is so where a lock was granted, and where it was refused
abbrev pub IfLocked : LockDone → Type 0 → Type 0
IfLocked Locked P = P
IfLocked (Other owner) P = ⊤
IfLocked ProcessLimit P = ⊤
IfLocked NoRoom P = ⊤

abbrev pub UnlessLocked : LockDone → Type 0 → Type 0
UnlessLocked Locked P = ⊤
UnlessLocked (Other owner) P = P
UnlessLocked ProcessLimit P = P
UnlessLocked NoRoom P = P

-- what each call leaves and answers, and that all is sound after it. A process opens a file; a refused call changes nothing
pub record Adds (p : ℕ) (file : FileKey) (mode : Mode) (old new : OpenFiles) (result : Result ℕ OpenRefused) : Type 0 where
  pub opens : new ≡ added old p file mode
  pub answer : result ≡ add_answer old.items p file mode
  pub named : IfOk result (λ item. number_of new.items p file ≡ Some item)
  pub live : IfOk result (λ item. IsLive new item)
  pub its : IfOk result (λ item. IsItemOf new p file item)
  pub opened : IfOk result (λ item. IsOpened p file mode item old new)
  pub refused : OnErr result (new ≡ old)
  pub sound : AreOpen new

-- an item is closed once
pub record Closes (item : ℕ) (old new : OpenFiles) : Type 0 where
  pub opens : new ≡ closed old (process_of old item) (file_of old item)
  pub closed : IsClosed item old new
  pub sound : AreOpen new

-- it is noted that a record was written by way of an item, and answered whether that is the first
pub record NotesWritten (item : ℕ) (old new : OpenFiles) (result : Bool) : Type 0 where
  pub opens : new ≡ written old (process_of old item) (file_of old item)
  pub first : result ≡ not (item_of old item).has_written
  pub noted : HasNoted item old new
  pub live : IsLive new item
  pub sound : AreOpen new

-- a record of an item's file is locked for its process; a refused call changes nothing
pub record AsksLock (item number : ℕ) (old new : OpenFiles) (result : LockDone) : Type 0 where
  pub opens : new ≡ locked old (process_of old item) (file_of old item) number
  pub answer : result ≡ lock_answer old.locks (process_of old item) (file_of old item) number
  pub locked : IfLocked result (HasLocked (process_of old item) (file_of old item) number old new)
  pub refused : UnlessLocked result (new ≡ old)
  pub live : IsLive new item
  pub sound : AreOpen new

-- a record of an item's file is freed
pub record Unlocks (item number : ℕ) (old new : OpenFiles) : Type 0 where
  pub opens : new ≡ unlocked old (process_of old item) (file_of old item) number
  pub unlocked : HasUnlocked (process_of old item) (file_of old item) number old new
  pub live : IsLive new item
  pub sound : AreOpen new

-- a process leaves the files that pass a test
pub record Leaves (p : ℕ) (among : FileKey → Bool) (old new : OpenFiles) : Type 0 where
  pub opens : new ≡ given_back old p among
  pub left : HasLeft p among old new
  pub sound : AreOpen new
