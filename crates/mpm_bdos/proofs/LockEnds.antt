-- What ends a record that is to be locked is what keeps it from being read, or what its lock is answered.
use Rattle.std.proofs.Common.{◌≡◌, refl, ℕ, ◌/◌, Bool, true, false, not, cond, List, [], Option, Some, None}
use Rattle.std.specs.Prelude.{nat_eq, is_some}
use Rattle.mpm_mount.specs.Drives.{Drive, extent_at, visible_of}
use Rattle.mpm_opens.specs.declared.kinds.FileKey.{FileKey}
use Rattle.mpm_opens.specs.declared.kinds.RecordLock.{RecordLock}
use Rattle.mpm_opens.specs.declared.kinds.LockDone.{LockDone}
use Rattle.mpm_opens.specs.declared.kinds.LockDone.TheVariants.{Locked, Other, ProcessLimit, NoRoom}
use Rattle.mpm_opens.specs.Locks.{owner_of, where_owned, lock_answer}
use Rattle.mpm_opens.specs.Opens.{OpenFiles}
use Rattle.mpm_file_functions.specs.declared.errors.RecordError.TheVariants.{UnwrittenExtent, UnwrittenData}
use Rattle.mpm_mount.specs.Records.{read_error}
use Rattle.mpm_file_functions.specs.declared.ends.RecordEnd.{RecordEnd}
use Rattle.mpm_file_functions.specs.declared.ends.RecordEnd.TheVariants.{Failing, LockedOff, TooManyLocks, NoLockRoom}
use Rattle.mpm_file_functions.specs.declared.functions.FileFunction.TheVariants.{LockRecord}
use Rattle.mpm_refusals.specs.Subjects.{file_of}
use Rattle.mpm_locks.specs.Locks.{is_another, is_locked_off, refused_lock, lock_end}
use Rattle.mpm_bdos.specs.Records.{is_too_many, has_no_room, ends, end_of}
use Rattle.mpm_file_functions.specs.Ends.{ends_of}

-- the last three rows of the table, by who has the lock
abbrev lock_rows : Bool → Bool → Bool → Option RecordEnd
lock_rows off many full = cond off (Some LockedOff) (cond many (Some TooManyLocks) (cond full (Some NoLockRoom) None))

where_nobody : (many full : Bool)
    → lock_rows false (is_too_many (cond many ProcessLimit (cond full NoRoom Locked))) (has_no_room (cond many ProcessLimit (cond full NoRoom Locked)))
    ≡ refused_lock (cond many ProcessLimit (cond full NoRoom Locked))
where_nobody true full = refl
where_nobody false true = refl
where_nobody false false = refl

where_somebody : (owner : ℕ) (own : Bool)
    → lock_rows (not own) (is_too_many (cond own Locked (Other owner))) (has_no_room (cond own Locked (Other owner))) ≡ refused_lock (cond own Locked (Other owner))
where_somebody owner true = refl
where_somebody owner false = refl

by_owner : (locks : List RecordLock) (p : ℕ) (owner : Option ℕ)
    → lock_rows (is_another p owner) (is_too_many (where_owned locks p owner)) (has_no_room (where_owned locks p owner)) ≡ refused_lock (where_owned locks p owner)
by_owner locks p None = where_nobody _ _
by_owner locks p (Some owner) = where_somebody owner (nat_eq owner p)

-- as a record is read, or not
by_reading : (extent visible : Bool) (rows : Option RecordEnd) (done : LockDone) → rows ≡ refused_lock done
    → cond (not extent) (Some (Failing UnwrittenExtent)) (cond (not visible) (Some (Failing UnwrittenData)) rows)
    ≡ lock_end (cond (not extent) (Some UnwrittenExtent) (cond (not visible) (Some UnwrittenData) None)) done
by_reading false visible rows done e = refl
by_reading true false rows done e = refl
by_reading true true rows done e = e

pub lock_ends : (drive : Drive) (opens : OpenFiles) (p : ℕ) (file : FileKey) (n : ℕ)
    → end_of LockRecord (record { drive = drive; opens = opens; process = p; file = file; expected = [] }) n
    ≡ lock_end (read_error drive (file_of file) n) (lock_answer opens.locks p file n)
unfolding end_of ends ends_of is_locked_off lock_answer
lock_ends drive opens p file n =
    by_reading (is_some (extent_at drive (file_of file) (n / 128))) (is_some (visible_of drive (file_of file) n)) _ (lock_answer opens.locks p file n)
    (by_owner opens.locks p (owner_of opens.locks file n))
