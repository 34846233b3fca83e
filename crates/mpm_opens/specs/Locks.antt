-- The records that are locked, in the order in which they were. (MP/M II Programmer's Guide, "Function 42: Lock Record",
-- "Function 43: Unlock Record".)
use Rattle.std.specs.Prelude.{ℕ, ◌==◌, ◌&&◌, ◌||◌, not, Bool, List, [], ◌∷◌, ◌++◌, Option, Some, None, option_map, length, filter, count_by, nat_le, if◌then◌else◌}
use Rattle.std.specs.List.{find}
use Rattle.mpm_opens.specs.declared.kinds.FileKey.{FileKey}
use Rattle.mpm_opens.specs.declared.kinds.RecordLock.{RecordLock}
use Rattle.mpm_opens.specs.declared.kinds.LockSet.{LockSet}
use Rattle.mpm_opens.specs.declared.kinds.LockSet.TheVariants.{OnFiles, OnRecord}
use Rattle.mpm_opens.specs.declared.limits.TheConstants.{LOCKS, LOCKS_OF_PROCESS}
use Rattle.mpm_opens.specs.declared.kinds.LockDone.{LockDone}
use Rattle.mpm_opens.specs.declared.kinds.LockDone.TheVariants.{Locked, Other, ProcessLimit, NoRoom}
use Rattle.mpm_opens.specs.Kinds.{is_same_file, is_among}

-- a lock of a record of a file
abbrev pub is_lock_on : FileKey → ℕ → RecordLock → Bool
is_lock_on file number lock = (lock.number == number) && is_same_file lock.file file

-- who has it
unfoldable pub owner_of : List RecordLock → FileKey → ℕ → Option ℕ
owner_of locks file number = option_map (λ lock. lock.owner) (find (is_lock_on file number) locks)

-- how many locks a process has
abbrev pub is_owned_by : ℕ → RecordLock → Bool
is_owned_by p lock = lock.owner == p

unfoldable pub locks_of : List RecordLock → ℕ → ℕ
locks_of locks p = count_by (is_owned_by p) locks

-- one more lock
unfoldable pub with_lock : List RecordLock → ℕ → FileKey → ℕ → List RecordLock
with_lock locks p file number = locks ++ record { owner = p; file = file; number = number } ∷ []

-- what becomes of a lock that a process asks for: another process has it, or the process itself, or else the first limit that
-- is reached
abbrev pub where_free : List RecordLock → ℕ → LockDone
where_free locks p = if nat_le LOCKS_OF_PROCESS (locks_of locks p) then ProcessLimit else (if nat_le LOCKS (length locks) then NoRoom else Locked)

abbrev pub where_owned : List RecordLock → ℕ → Option ℕ → LockDone
where_owned locks p None = where_free locks p
where_owned locks p (Some owner) = if owner == p then Locked else (Other owner)

unfoldable pub lock_answer : List RecordLock → ℕ → FileKey → ℕ → LockDone
lock_answer locks p file number = where_owned locks p (owner_of locks file number)

-- it is a new one where nobody has it and no limit is reached
abbrev pub has_limit : List RecordLock → ℕ → Bool
has_limit locks p = nat_le LOCKS_OF_PROCESS (locks_of locks p) || nat_le LOCKS (length locks)

abbrev pub locked_by : List RecordLock → ℕ → FileKey → ℕ → Option ℕ → List RecordLock
locked_by locks p file number None = if has_limit locks p then locks else (with_lock locks p file number)
locked_by locks p file number (Some owner) = locks

unfoldable pub locks_locked : List RecordLock → ℕ → FileKey → ℕ → List RecordLock
locks_locked locks p file number = locked_by locks p file number (owner_of locks file number)

-- a process's locks that pass a test are given back, and another's stay: those on some files, or that on one record
abbrev pub is_lock_given_back : ℕ → (RecordLock → Bool) → RecordLock → Bool
is_lock_given_back p test lock = is_owned_by p lock && test lock

unfoldable pub locks_without : List RecordLock → ℕ → (RecordLock → Bool) → List RecordLock
locks_without locks p test = filter (λ lock. not (is_lock_given_back p test lock)) locks

abbrev pub is_lock_among : (FileKey → Bool) → RecordLock → Bool
is_lock_among among lock = among lock.file

abbrev pub is_in_set : LockSet → RecordLock → Bool
is_in_set (OnFiles files) lock = is_lock_among (is_among files) lock
is_in_set (OnRecord file number) lock = is_lock_on file number lock
