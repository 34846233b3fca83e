-- When something that ends the records of a call comes to a record, upon what those before it have left. (MP/M II Programmer's
-- Guide, functions 20, 21, 33, 34, 40, 41 and 42.)
use Rattle.std.specs.Prelude.{◌≡◌, ◌≤◌, ℕ, zero, suc, ◌+◌, ◌/◌, ◌==◌, ◌&&◌, not, Bool, true, false, List, [], ◌∷◌, Option, Some, None, is_some, find}
use Rattle.mpm_dirent.specs.Names.{plain}
use Rattle.mpm_dirent.specs.declared.limits.TheConstants.{LAST_RECORD}
use Rattle.mpm_mount.specs.Drives.{Drive, extent_at, visible_of, free_entries, free_records}
use Rattle.mpm_opens.specs.declared.kinds.FileKey.{FileKey}
use Rattle.mpm_opens.specs.declared.kinds.LockDone.{LockDone}
use Rattle.mpm_opens.specs.declared.kinds.LockDone.TheVariants as lock
use Rattle.mpm_opens.specs.Locks.{lock_answer}
use Rattle.mpm_opens.specs.Opens.{OpenFiles, IsLive, locked, file_of as file_of_item}
use Rattle.mpm_file_functions.specs.declared.errors.RecordError.{RecordError}
use Rattle.mpm_file_functions.specs.declared.errors.RecordError.TheVariants.{UnwrittenExtent, UnwrittenData, Mismatch, NoDirectorySpace, NoDataBlock}
use Rattle.mpm_files.specs.Units.{WritesRecord, applied, all_applied}
use Rattle.mpm_files.specs.Plans.{TestedRecord, needs_entry, needs_block, has_record, write_units}
use Rattle.mpm_file_functions.specs.declared.ends.RecordEnd.{RecordEnd}
use Rattle.mpm_file_functions.specs.declared.ends.Ended.{Ended}
use Rattle.mpm_file_functions.specs.declared.ends.RecordEnd.TheVariants.{Failing, LockedOff, TooManyLocks, NoLockRoom}
use Rattle.mpm_file_functions.specs.declared.functions.FileFunction.{FileFunction}
use Rattle.mpm_file_functions.specs.declared.functions.FileFunction.TheVariants.{TestAndWrite, LockRecord}
use Rattle.mpm_refusals.specs.Subjects.{file_of}
use Rattle.mpm_file_functions.specs.Ends.{ends_of}
use Rattle.mpm_locks.specs.Locks.{is_locked_off}

-- whoever asks for a record of a file, upon which drive and with which open files and locks; and the bytes that it must have
pub record RecordAsked : Type 0 where
  pub drive : Drive
  pub opens : OpenFiles
  pub process : ℕ
  pub file : FileKey
  pub expected : List ℕ

-- its lock isn't granted
abbrev pub is_too_many : LockDone → Bool
is_too_many lock.ProcessLimit = true
is_too_many lock.Locked = false
is_too_many (lock.Other owner) = false
is_too_many lock.NoRoom = false

abbrev pub has_no_room : LockDone → Bool
has_no_room lock.NoRoom = true
has_no_room lock.Locked = false
has_no_room (lock.Other owner) = false
has_no_room lock.ProcessLimit = false

abbrev pub fails : RecordAsked → ℕ → RecordError → Bool
fails a n UnwrittenExtent = not (is_some (extent_at a.drive (file_of a.file) (n / 128)))
fails a n UnwrittenData = not (is_some (visible_of a.drive (file_of a.file) n))
fails a n NoDirectorySpace = needs_entry a.drive (file_of a.file) n && (free_entries a.drive == 0)
fails a n NoDataBlock = needs_block a.drive (file_of a.file) n && (free_records a.drive == 0)
fails a n Mismatch = not (has_record a.drive (file_of a.file) n a.expected)

unfoldable pub ends : RecordAsked → ℕ → RecordEnd → Bool
ends a n (Failing error) = fails a n error
ends a n LockedOff = is_locked_off a.opens a.process a.file n
ends a n TooManyLocks = is_too_many (lock_answer a.opens.locks a.process a.file n)
ends a n NoLockRoom = has_no_room (lock_answer a.opens.locks a.process a.file n)

-- the first that comes to a record
unfoldable pub end_of : FileFunction → RecordAsked → ℕ → Option RecordEnd
end_of function a n = find (ends a n) (ends_of function)

-- so many records are done in order, and then what ended them
abbrev pub one_done : Ended → Ended
one_done ended = record ended { moved = ended.moved + 1 }

abbrev pub ended_by : Option RecordEnd → Ended → Ended
ended_by None rest = one_done rest
ended_by (Some end) rest = record { moved = 0; end = Some end }

-- records that are written in order, each upon the drive that those before it left, by the table
unfoldable pub writing_ended : FileFunction → OpenFiles → ℕ → FileKey → Drive → ℕ → List (List ℕ) → Option (List ℕ) → Ended
writing_ended function opens p file drive n [] stamp = record { moved = 0; end = None }
writing_ended function opens p file drive n (bytes ∷ records) stamp =
    ended_by (end_of function (record { drive = drive; opens = opens; process = p; file = file; expected = [] }) n)
    (writing_ended function opens p file (all_applied drive (write_units drive false (file_of file) n bytes stamp)) (n + 1) records None)

-- records that are tested and written, likewise
unfoldable pub testing_ended : OpenFiles → ℕ → FileKey → Drive → ℕ → List TestedRecord → Option (List ℕ) → Ended
testing_ended opens p file drive n [] stamp = record { moved = 0; end = None }
testing_ended opens p file drive n (test ∷ tests) stamp =
    ended_by (end_of TestAndWrite (record { drive = drive; opens = opens; process = p; file = file; expected = test.expected }) n)
    (testing_ended opens p file (applied drive (WritesRecord (file_of file) n test.bytes stamp)) (n + 1) tests None)

-- and records that are read
unfoldable pub reading_ended : FileFunction → OpenFiles → ℕ → FileKey → Drive → ℕ → ℕ → Ended
reading_ended function opens p file drive n zero = record { moved = 0; end = None }
reading_ended function opens p file drive n (suc count) =
    ended_by (end_of function (record { drive = drive; opens = opens; process = p; file = file; expected = [] }) n)
    (reading_ended function opens p file drive (n + 1) count)

-- records are such as a file may have, 16 at most; and they may be locked by way of an open file, whose name has no attributes
pub record AreOfFile (first count : ℕ) : Type 0 where
  pub in_file : first ≤ LAST_RECORD
  pub few : count ≤ 16

pub record MayLock (opens : OpenFiles) (item : ℕ) (file : FileKey) (first count : ℕ) : Type 0 where
  pub live : IsLive opens item
  pub file_is : file_of_item opens item ≡ file
  pub plain_is : plain file.name ≡ file.name
  pub in_file : first ≤ LAST_RECORD
  pub few : count ≤ 16

-- records that are locked in order, each upon the locks that those before it left
pub record Locking : Type 0 where
  pub opens : OpenFiles
  pub moved : ℕ
  pub end : Option RecordEnd

abbrev pub one_locked : Locking → Locking
one_locked locking = record locking { moved = locking.moved + 1 }

abbrev pub unless_ended : OpenFiles → Option RecordEnd → Locking → Locking
unless_ended opens None rest = one_locked rest
unless_ended opens (Some end) rest = record { opens = opens; moved = 0; end = Some end }

unfoldable pub locking : Drive → OpenFiles → ℕ → FileKey → ℕ → ℕ → Locking
locking drive opens p file n zero = record { opens = opens; moved = 0; end = None }
locking drive opens p file n (suc count) =
    unless_ended opens (end_of LockRecord (record { drive = drive; opens = opens; process = p; file = file; expected = [] }) n)
    (locking drive (locked opens p file n) p file (n + 1) count)
