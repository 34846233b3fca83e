-- What a call that isn't refused makes of drives, open files, marks, protection and searches, by what its turns have come to.
use Rattle.std.specs.Prelude.{ℕ, ◌==◌, ◌&&◌, Bool, false, List, Option, Some, None, map, replicate, slice_set, if◌then◌else◌}
use Rattle.std.specs.List.{list_any}
use Rattle.mpm_opens.specs.declared.kinds.FileKey.{FileKey}
use Rattle.mpm_opens.specs.declared.kinds.Mode.TheVariants.{Unlocked}
use Rattle.mpm_opens.specs.Kinds.{is_same_mode, is_file}
use Rattle.mpm_opens.specs.Items.{file_where, is_given_back}
use Rattle.mpm_opens.specs.Opens.{OpenFiles, added, given_back, closed, written}
use Rattle.mpm_file_functions.specs.declared.functions.FileFunction.{FileFunction}
use Rattle.mpm_file_functions.specs.declared.functions.FileFunction.TheVariants.{OpenFile, CloseFile, DeleteFile, WriteSequential, MakeFile, RenameFile, WriteRandom, FreeDrives, TestAndWrite, LockRecord, UnlockRecord}
use Rattle.mpm_mount.specs.Drives.{FileName, Drive}
use Rattle.mpm_mount.specs.Files.{is_same_file}
use Rattle.mpm_fcb.specs.Names.{has_f5}
use Rattle.mpm_marks.specs.Driving.{marks_by, protected_by}
use Rattle.mpm_jobs.specs.declared.jobs.Job.{Job}
use Rattle.mpm_refusals.specs.Filing.{LastSearch, Filing, Situation, block}
use Rattle.mpm_refusals.specs.Subjects.{last_search, drive_number, drive_at, is_mounted, open_mode, subject_key, file_of, first_record, mode_by, found, deleted_in, names_drive}
use Rattle.mpm_bdos.specs.declared.releasing.Deletion.{Deletion}
use Rattle.mpm_bdos.specs.Records.{Locking, locking}
use Rattle.mpm_locks.specs.Locks.{unlocking}
use Rattle.mpm_bdos.specs.Jobs.{Turned, job_of}
use Rattle.mpm_refusals.specs.Searches.{search_by, searches_by}

-- records are locked by way of a file that is open in unlocked mode; in others nothing is done
unfoldable pub locking_of : Situation → Locking
locking_of s =
    if is_same_mode (open_mode s) Unlocked
    then locking (drive_at s) s.filing.opens s.caller.process (subject_key s) (first_record s) s.caller.multi
    else (record { opens = s.filing.opens; moved = 0; end = None })

-- a file that is deleted, by what a deletion names
abbrev pub is_deleted_in : Drive → Deletion → FileKey → Bool
is_deleted_in drive deletion key = (key.drive == deletion.drive) && list_any (is_same_file (file_of key)) (deleted_in drive deletion.user deletion.pattern)

abbrev pub deletion : Situation → Deletion
deletion s = record { user = s.caller.user; drive = drive_number s; pattern = (block s).name }

abbrev pub is_deleted : Situation → FileKey → Bool
is_deleted s key = is_deleted_in (drive_at s) (deletion s) key

-- the caller's open files of those files, each at the place of its number: a deletion gives them back once they are gone
unfoldable pub deleted_by : Situation → FileFunction → List (Option FileKey)
deleted_by s DeleteFile = map (file_where (is_given_back s.caller.process (is_deleted s))) s.filing.opens.items
deleted_by s function = replicate 64 None

-- files by places, some of which have one
abbrev pub is_at : Option FileKey → FileKey → Bool
is_at None key = false
is_at (Some file) key = is_file file key

abbrev pub is_among : List (Option FileKey) → FileKey → Bool
is_among files key = list_any (λ place. is_at place key) files

-- what is open
abbrev pub written_where : Situation → ℕ → OpenFiles
written_where s moved = if moved == 0 then s.filing.opens else (written s.filing.opens s.caller.process (subject_key s))

unfoldable pub opens_by : Situation → Turned → FileFunction → OpenFiles
opens_by s t OpenFile = added s.filing.opens s.caller.process (subject_key s) (mode_by s OpenFile)
opens_by s t MakeFile = added s.filing.opens s.caller.process (subject_key s) (mode_by s MakeFile)
opens_by s t CloseFile = if has_f5 (block s) then s.filing.opens else (closed s.filing.opens s.caller.process (subject_key s))
opens_by s t DeleteFile = given_back s.filing.opens s.caller.process (is_deleted s)
opens_by s t RenameFile = given_back s.filing.opens s.caller.process (is_file (subject_key s))
opens_by s t FreeDrives = given_back s.filing.opens s.caller.process (λ key. names_drive s FreeDrives key.drive)
opens_by s t WriteSequential = written_where s t.moved
opens_by s t WriteRandom = written_where s t.moved
opens_by s t TestAndWrite = written_where s t.moved
opens_by s t LockRecord = (locking_of s).opens
opens_by s t UnlockRecord = unlocking s.filing.opens s.caller.process (subject_key s) (first_record s) s.caller.multi
opens_by s t function = s.filing.opens

unfoldable pub protected_then : Situation → List Bool
protected_then s = protected_by s.filing.protected (is_mounted s.filing s.caller.drive) s.caller.drive s.call.word s.function

abbrev pub search_of_call : Situation → FileName × ℕ → Option LastSearch
search_of_call s entry = search_by (last_search s) (drive_number s) s.caller.user (block s) entry s.function

-- the drives: that of the job is what its turns have come to
abbrev pub drives_by : Situation → Drive → Option Job → List (Option Drive)
drives_by s drive None = s.filing.drives
drives_by s drive (Some job) = slice_set s.filing.drives (drive_number s) (Some drive)

-- all of it
unfoldable pub filing_after : Situation → Turned → Filing
filing_after s t = record {
  drives = drives_by s t.drive (job_of s);
  protected = protected_then s;
  opens = opens_by s t s.function;
  marks = marks_by s.filing.marks s.caller.process s.call.word s.function;
  searches = searches_by s.filing.searches s.caller.process (search_of_call s) (found s);
}
