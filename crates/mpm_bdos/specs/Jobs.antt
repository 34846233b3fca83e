-- What a call that isn't refused does on its drive, and what so many of its turns have come to.
use Rattle.std.specs.Prelude.{ℕ, ◌*◌, ◌&&◌, not, Bool, List, [], Option, Some, None, is_some, option_map, unwrap_or, take, if◌then◌else◌}
use Rattle.std.specs.FinMap.{get}
use Rattle.mpm_base.specs.Calls.{byte_in, eight_at}
use Rattle.mpm_opens.specs.declared.kinds.FileKey.{FileKey}
use Rattle.mpm_opens.specs.Opens.{OpenFiles}
use Rattle.mpm_file_functions.specs.declared.functions.FileFunction.{FileFunction}
use Rattle.mpm_file_functions.specs.declared.functions.FileFunction.TheVariants.{OpenFile, DeleteFile, ReadSequential, WriteSequential, MakeFile, RenameFile, SetAttributes, ReadRandom, WriteRandom, TestAndWrite, SetLabel, WriteXfcb}
use Rattle.mpm_file_functions.specs.declared.refusals.Refusal.{Refusal}
use Rattle.mpm_mount.specs.Drives.{Protection, Drive}
use Rattle.mpm_guard.specs.Passwords.{has_bit}
use Rattle.mpm_fcb.specs.Names.{new_name_of, has_f6}
use Rattle.mpm_file_functions.specs.declared.errors.RecordError.{RecordError}
use Rattle.mpm_jobs.specs.declared.jobs.JobKind.{JobKind}
use Rattle.mpm_jobs.specs.declared.jobs.JobKind.TheVariants as kinds
use Rattle.mpm_jobs.specs.declared.jobs.Job.{Job}
use Rattle.mpm_mount.specs.Records.{read_error}
use Rattle.mpm_files.specs.Plans.{turns_of}
use Rattle.mpm_files.specs.Serving.{units_done, moved_after, error_after, records_after}
use Rattle.mpm_refusals.specs.Filing.{Situation, block}
use Rattle.mpm_mount.specs.Looking.{data_byte}
use Rattle.mpm_refusals.specs.Subjects.{file_of, drive_at, subject, subject_key, first_record, has_written}
use Rattle.mpm_refusals.specs.Refusals.{makes_xfcb, refusal_of}
use Rattle.mpm_file_entries.specs.Protections.{no_protection, given_xfcb, with_first_stamp, label_put, xfcb_put, with_protection}
use Rattle.mpm_locks.specs.Locks.{is_locked_off, count_until}
use Rattle.mpm_jobs.specs.Jobs.{job_for, stamp_where, with_records, with_stamp, with_bytes, testing_bytes, where_some, with_one, with_new_name}

-- a job on the call's file
abbrev pub job_on : Situation → JobKind → Job
job_on s kind = job_for kind (subject s).user (block s).name

-- a record that another process has locked ends a call that writes before it; one that is tested is read first, so that it ends the
-- call by that where it isn't there
abbrev pub is_tested_off : Drive → OpenFiles → ℕ → FileKey → ℕ → Bool
is_tested_off drive opens p file n =
    is_locked_off opens p file n && not (is_some (read_error drive (file_of file) n))

abbrev pub is_cut_at : Situation → FileFunction → ℕ → Bool
is_cut_at s TestAndWrite n = is_tested_off (drive_at s) s.filing.opens s.caller.process (subject_key s) n
is_cut_at s function n = is_locked_off s.filing.opens s.caller.process (subject_key s) n

unfoldable pub free_count : Situation → ℕ
free_count s = count_until (is_cut_at s s.function) (first_record s) s.caller.multi

-- the second stamp comes with the first record that is written by way of an open file, where the label has 20h
abbrev pub writing_stamp : Situation → Option (List ℕ)
writing_stamp s = stamp_where (has_bit 0x20 (data_byte (drive_at s)) && not (has_written s)) s.moment

abbrev pub reading_job : Situation → Job
reading_job s = with_records (first_record s) s.caller.multi (job_on s kinds.Read)

abbrev pub writing_job : Situation → ℕ → Job
writing_job s count =
    with_bytes (take (128 * count) s.call.bytes) (with_stamp (writing_stamp s) (with_records (first_record s) count (job_on s kinds.Write)))

abbrev pub testing_job : Situation → ℕ → Job
testing_job s count =
    with_bytes (testing_bytes s.call.bytes s.caller.multi count)
    (with_stamp (writing_stamp s) (with_records (first_record s) count (job_on s kinds.TestWrite)))

-- the call gives them with F6', the label asks with 10h
abbrev pub made_xfcb : Situation → Protection
made_xfcb s =
    with_first_stamp (has_bit 0x10 (data_byte (drive_at s))) s.moment
    (given_xfcb (has_f6 (block s)) (byte_in s.call 8) (eight_at s.call 0))

abbrev pub making_job : Situation → Job
making_job s =
    if makes_xfcb (data_byte (drive_at s)) (block s) then with_one (with_protection (made_xfcb s) (job_on s kinds.Make)) else (job_on s kinds.Make)

-- the label that is made or changed
abbrev pub label_there : Situation → Protection
label_there s = unwrap_or (option_map (λ label. label.protection) (drive_at s).label) no_protection

abbrev pub labelling_job : Situation → Job
labelling_job s =
    with_protection (label_put (block s).ex (eight_at s.call 8) (label_there s)) (with_new_name (block s).name (job_on s kinds.Label))

-- the XFCB that is made or changed
abbrev pub xfcb_there : Situation → Protection
xfcb_there s = unwrap_or (get (drive_at s).xfcbs (subject s)) no_protection

abbrev pub guarding_job : Situation → Job
guarding_job s = with_protection (xfcb_put (block s).ex (eight_at s.call 8) (xfcb_there s)) (job_on s kinds.Xfcb)

-- the job of a call, if it has one. An opening changes nothing but, where the label has 40h, the first stamp
unfoldable pub job_by : Situation → FileFunction → Option Job
job_by s OpenFile = Some (with_stamp (stamp_where (has_bit 0x40 (data_byte (drive_at s))) s.moment) (job_on s kinds.Nothing))
job_by s DeleteFile = Some (job_on s kinds.Delete)
job_by s ReadSequential = Some (reading_job s)
job_by s WriteSequential = where_some (free_count s) (writing_job s (free_count s))
job_by s MakeFile = Some (making_job s)
job_by s RenameFile = Some (with_new_name (new_name_of (block s)) (job_on s kinds.Rename))
job_by s SetAttributes = Some (job_on s kinds.Attributes)
job_by s ReadRandom = Some (reading_job s)
job_by s WriteRandom = where_some (free_count s) (writing_job s (free_count s))
job_by s TestAndWrite = where_some (free_count s) (testing_job s (free_count s))
job_by s SetLabel = Some (labelling_job s)
job_by s WriteXfcb = Some (guarding_job s)
job_by s function = None

abbrev pub unless_refused : Option Refusal → Option Job → Option Job
unless_refused None job = job
unless_refused (Some refusal) job = None

unfoldable pub job_of : Situation → Option Job
job_of s = unless_refused (refusal_of s) (job_by s s.function)

-- how many turns it takes: one where it has no job
abbrev pub turns_by : Drive → Option Job → ℕ
turns_by drive None = 1
turns_by drive (Some job) = turns_of drive job

unfoldable pub call_turns : Situation → ℕ
call_turns s = turns_by (drive_at s) (job_of s)

-- what so many of its turns have come to: the drive, the records that were moved, why it ends, and the records that were read
pub record Turned : Type 0 where
  pub drive : Drive
  pub moved : ℕ
  pub error : Option RecordError
  pub records : List (List ℕ)

abbrev pub turned_by : Drive → ℕ → Option Job → Turned
turned_by drive turns None = record { drive = drive; moved = 0; error = None; records = [] }
turned_by drive turns (Some job) = record {
  drive = units_done drive job turns;
  moved = moved_after drive job turns;
  error = error_after drive job turns;
  records = records_after drive job turns;
}

unfoldable pub turned : Situation → ℕ → Turned
turned s turns = turned_by (drive_at s) turns (job_of s)
