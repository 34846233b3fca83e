-- Records that are locked: by whom, up to which one of some none is locked by another process, what a lock comes to, and records that
-- are freed. (MP/M II Programmer's Guide, "Function 42: Lock Record", "Function 43: Unlock Record".)
use Rattle.std.specs.Prelude.{ℕ, zero, suc, ◌+◌, ◌==◌, ◌&&◌, not, nat_le, nat_lt, Bool, false, Option, Some, None, if◌then◌else◌}
use Rattle.mpm_opens.specs.declared.kinds.FileKey.{FileKey}
use Rattle.mpm_opens.specs.declared.kinds.LockDone.{LockDone}
use Rattle.mpm_opens.specs.declared.kinds.LockDone.TheVariants as lock
use Rattle.mpm_opens.specs.declared.kinds.RecordLock.{RecordLock}
use Rattle.mpm_opens.specs.Kinds.{is_same_file}
use Rattle.mpm_opens.specs.Locks.{owner_of, locks_without}
use Rattle.mpm_opens.specs.Opens.{OpenFiles}
use Rattle.mpm_file_functions.specs.declared.errors.RecordError.{RecordError}
use Rattle.mpm_file_functions.specs.declared.ends.RecordEnd.{RecordEnd}
use Rattle.mpm_file_functions.specs.declared.ends.RecordEnd.TheVariants.{Failing, LockedOff, TooManyLocks, NoLockRoom}

-- another process has locked it
abbrev pub is_another : ℕ → Option ℕ → Bool
is_another p None = false
is_another p (Some owner) = not (owner == p)

unfoldable pub is_locked_off : OpenFiles → ℕ → FileKey → ℕ → Bool
is_locked_off opens p file n = is_another p (owner_of opens.locks file n)

-- how many numbers from one on come before the first that passes a test
unfoldable pub count_until : (ℕ → Bool) → ℕ → ℕ → ℕ
count_until stops n zero = 0
count_until stops n (suc count) = if stops n then 0 else suc (count_until stops (n + 1) count)

-- by what keeps a record from being read, and by what its lock is answered
abbrev pub refused_lock : LockDone → Option RecordEnd
refused_lock lock.Locked = None
refused_lock (lock.Other owner) = Some LockedOff
refused_lock lock.ProcessLimit = Some TooManyLocks
refused_lock lock.NoRoom = Some NoLockRoom

abbrev pub lock_end : Option RecordError → LockDone → Option RecordEnd
lock_end (Some error) done = Some (Failing error)
lock_end None done = refused_lock done

-- a number is one of so many from one on, and a lock is of such a record of a file
abbrev pub is_within : ℕ → ℕ → ℕ → Bool
is_within n count number = nat_le n number && nat_lt number (n + count)

abbrev pub is_lock_within : FileKey → ℕ → ℕ → RecordLock → Bool
is_lock_within file n count lock = is_within n count lock.number && is_same_file lock.file file

-- records are freed: a process's locks of so many records of a file from one on go, and all else stays
unfoldable pub unlocking : OpenFiles → ℕ → FileKey → ℕ → ℕ → OpenFiles
unlocking opens p file n count = record opens { locks = locks_without opens.locks p (is_lock_within file n count) }
