-- Worked examples of the calls that lock and free records (functions 42 and 43), and of the locks of a process that ends. Processes 1
-- and 2 have A open in unlocked mode, by the numbers 1 and 2.
use Rattle.std.proofs.Common.{refl}
use Rattle.std.specs.Prelude.{◌≡◌, ℕ, ◌+◌, ◌/◌, List, [], ◌∷◌, ◌++◌, Option, None, map, replicate}
use Rattle.std.specs.List.{range_with_len}
use Rattle.std.specs.FinMap.{get-entries}
use Rattle.mpm_base.specs.Calls.{answering}
use Rattle.mpm_mount.specs.Drives.{PhysicalExtent}
use Rattle.mpm_opens.specs.declared.kinds.Mode.TheVariants.{Locked, Unlocked}
use Rattle.mpm_opens.specs.declared.kinds.Item.{Item}
use Rattle.mpm_opens.specs.declared.kinds.RecordLock.{RecordLock}
use Rattle.mpm_fcb.specs.declared.block.ControlBlock.{ControlBlock}
use Rattle.mpm_file_functions.specs.declared.functions.FileFunction.TheVariants.{LockRecord, UnlockRecord}
use Rattle.mpm_refusals.specs.Filing.{Filing}
use Rattle.mpm_bdos.specs.Outcomes.{file_call, left_by}
use Rattle.mpm_bdos_trials.proofs.examples.Computing.{file_calls}
use Rattle.mpm_bdos_trials.proofs.examples.Situations.{Extents, Xfcbs, HasFile, name_a, block_a, at_random, extent_of, empty_block, records_of_10, floppy, filing_of, item_of, one_open, lock_of, with_locks, call_by, call, call_for, fails, done, open_by_both}

-- with some locks
abbrev locking : List RecordLock → Extents → Xfcbs → Filing
locking locks m x = filing_of (floppy m x None) (with_locks locks open_by_both)

abbrev number : ℕ → List ℕ
number n = n ∷ 0 ∷ []

-- 42: no open file has the number 3
pub no_item_to_lock : (m : Extents) (x : Xfcbs)
    → file_call (call (locking [] m x) LockRecord (at_random 5 block_a) (number 3)) ≡ fails (call (locking [] m x) LockRecord (at_random 5 block_a) (number 3)) 13
unfolding file_calls
no_item_to_lock m x = refl

-- the number 2 is another process's
pub anothers_item_to_lock : (m : Extents) (x : Xfcbs)
    → file_call (call (locking [] m x) LockRecord (at_random 5 block_a) (number 2)) ≡ fails (call (locking [] m x) LockRecord (at_random 5 block_a) (number 2)) 13
unfolding file_calls
anothers_item_to_lock m x = refl

-- process 1 locks record 5
pub lock_is_granted : (m : Extents) (x : Xfcbs)
    → HasFile m name_a records_of_10
    → (file_call (call (locking [] m x) LockRecord (at_random 5 block_a) (number 1))).answer ≡ record (answering 0) { at = 0x80 }
unfolding file_calls
lock_is_granted m x e = simp (get-entries, e) refl

-- and has the lock
pub lock_is_there : (m : Extents) (x : Xfcbs)
    → HasFile m name_a records_of_10
    → (file_call (call (locking [] m x) LockRecord (at_random 5 block_a) (number 1))).filing.opens ≡ with_locks (lock_of 1 name_a 5 ∷ []) open_by_both
unfolding file_calls
lock_is_there m x e = simp (get-entries, e) refl

-- process 2 doesn't get it
pub lock_is_anothers : (m : Extents) (x : Xfcbs)
    → HasFile m name_a records_of_10
    → (file_call (call_by 2 1 (locking (lock_of 1 name_a 5 ∷ []) m x) LockRecord (at_random 5 block_a) (number 2))).answer ≡ record (answering 8) { at = 0x80 }
unfolding file_calls
lock_is_anothers m x e = simp (get-entries, e) refl

-- of two records, 9 and 10, the second isn't there
pub one_of_two_locked : (m : Extents) (x : Xfcbs)
    → HasFile m name_a records_of_10
    → (file_call (call_for 2 (locking [] m x) LockRecord (at_random 9 block_a) (number 1))).answer ≡ record (answering 0x1001) { at = 0x80 }
unfolding file_calls
one_of_two_locked m x e = simp (get-entries, e) refl

-- the first has the lock
pub first_of_two_locked : (m : Extents) (x : Xfcbs)
    → HasFile m name_a records_of_10
    → (file_call (call_for 2 (locking [] m x) LockRecord (at_random 9 block_a) (number 1))).filing.opens ≡ with_locks (lock_of 1 name_a 9 ∷ []) open_by_both
unfolding file_calls
first_of_two_locked m x e = simp (get-entries, e) refl

-- the lock goes with process 1
pub lock_is_left : (m : Extents) (x : Xfcbs) → (left_by (locking (lock_of 1 name_a 5 ∷ []) m x) 1).opens.locks ≡ []
unfolding file_calls
lock_is_left m x = refl

-- process 1 has 32 locks, of records 0 to 31: a 33rd is refused, and one that it has is granted
abbrev locks_of_1 : List RecordLock
locks_of_1 = map (lock_of 1 name_a) (range_with_len 0 32)

abbrev records_of_40 : PhysicalExtent
records_of_40 = extent_of 0 40 (replicate 5 empty_block ++ replicate 11 None)

pub too_many_locks : (m : Extents) (x : Xfcbs)
    → HasFile m name_a records_of_40
    → (file_call (call (locking locks_of_1 m x) LockRecord (at_random 32 block_a) (number 1))).answer.hl ≡ 12
unfolding file_calls
too_many_locks m x e = simp (get-entries, e) refl

pub own_lock_again : (m : Extents) (x : Xfcbs)
    → HasFile m name_a records_of_40
    → (file_call (call (locking locks_of_1 m x) LockRecord block_a (number 1))).answer.hl ≡ 0
unfolding file_calls
own_lock_again m x e = simp (get-entries, e) refl

-- processes 2 to 5 have 32 locks each: with these 128 there is no room for a lock of process 1
abbrev open_by_five : List (Option Item)
open_by_five = map (λ n. item_of (n + 1) name_a Unlocked 1) (range_with_len 0 5) ++ replicate 59 None

abbrev locks_of_others : List RecordLock
locks_of_others = map (λ n. lock_of (2 + n / 32) name_a (128 + n)) (range_with_len 0 128)

abbrev all_locks : Extents → Xfcbs → Filing
all_locks m x = filing_of (floppy m x None) (record { items = open_by_five; locks = locks_of_others })

pub no_room_for_lock : (m : Extents) (x : Xfcbs)
    → HasFile m name_a records_of_10
    → (file_call (call (all_locks m x) LockRecord (at_random 5 block_a) (number 1))).answer.hl ≡ 14
unfolding file_calls
no_room_for_lock m x e = simp (get-entries, e) refl

-- by way of a file that is open in locked mode nothing is locked, whether or not the record is there
abbrev open_locked : Extents → Xfcbs → Filing
open_locked m x = filing_of (floppy m x None) (one_open (item_of 1 name_a Locked 1))

pub nothing_to_lock : (m : Extents) (x : Xfcbs) → file_call (call (open_locked m x) LockRecord (at_random 200 block_a) (number 1)) ≡ done (open_locked m x)
unfolding file_calls
nothing_to_lock m x = refl

-- 43: the number 0 is none
pub no_item_to_free : (m : Extents) (x : Xfcbs)
    → file_call (call (locking [] m x) UnlockRecord (at_random 5 block_a) (number 0)) ≡ fails (call (locking [] m x) UnlockRecord (at_random 5 block_a) (number 0)) 13
unfolding file_calls
no_item_to_free m x = refl

-- the second of two records is past the last that a file can have
abbrev at_last : ControlBlock
at_last = record block_a { random = 255 ∷ 255 ∷ 3 ∷ [] }

pub free_beyond : (m : Extents) (x : Xfcbs)
    → file_call (call_for 2 (locking (lock_of 1 name_a 5 ∷ []) m x) UnlockRecord at_last (number 1))
    ≡ fails (call_for 2 (locking (lock_of 1 name_a 5 ∷ []) m x) UnlockRecord at_last (number 1)) 6
unfolding file_calls
free_beyond m x = refl

-- of the records 5 to 7 process 1 has locked 5 and 7, which are freed; process 2 has locked 6, and keeps it
pub own_locks_freed : (m : Extents) (x : Xfcbs)
    → file_call (call_for 3 (locking (lock_of 1 name_a 5 ∷ (lock_of 2 name_a 6 ∷ (lock_of 1 name_a 7 ∷ []))) m x) UnlockRecord (at_random 5 block_a) (number 1))
    ≡ done (locking (lock_of 2 name_a 6 ∷ []) m x)
unfolding file_calls
own_locks_freed m x = refl
