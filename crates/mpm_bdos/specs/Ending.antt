-- What the records of a call come to, by the work of its job after its last turn: the same as the rule in Replies.antt
-- (`ended_for`), which goes by the drive.
use Rattle.std.specs.Prelude.{◌≡◌, ℕ, Bool, true, false, List, Option, Some, None, length, nat_lt}
use Rattle.std.specs.FinMap.{get}
use Rattle.mpm_mount.specs.Drives.{FileName, PhysicalExtent, Drive, IsOfImage}
use Rattle.mpm_file_functions.specs.declared.errors.RecordError.{RecordError}
use Rattle.mpm_jobs.specs.declared.jobs.Job.{Job}
use Rattle.mpm_files.specs.declared.work.Work.{Work}
use Rattle.mpm_files.specs.Serving.{with_records, told_error}
use Rattle.mpm_file_functions.specs.declared.ends.Ended.{Ended}
use Rattle.mpm_file_functions.specs.declared.functions.FileFunction.{FileFunction}
use Rattle.mpm_file_functions.specs.declared.functions.FileFunction.TheVariants.{ReadSequential, WriteSequential, ReadRandom, WriteRandom, TestAndWrite}
use Rattle.mpm_file_functions.specs.Ends.{end_by}

-- it was cut where its job has fewer records than it names
abbrev pub is_cut_short : FileFunction → ℕ → ℕ → Bool
is_cut_short WriteSequential count multi = nat_lt count multi
is_cut_short WriteRandom count multi = nat_lt count multi
is_cut_short TestAndWrite count multi = nat_lt count multi
is_cut_short function count multi = false

abbrev pub count_of : Option Work → ℕ
count_of None = 0
count_of (Some work) = work.job.count

abbrev pub moved_by : Option Work → ℕ
moved_by None = 0
moved_by (Some work) = work.moved

abbrev pub error_of : Option Work → Option RecordError
error_of None = None
error_of (Some work) = told_error work

unfoldable pub ended : FileFunction → ℕ → Option Work → Ended
ended function multi work = record { moved = moved_by work; end = end_by (error_of work) (is_cut_short function (count_of work) multi) }

-- calls that read records, and the records that stand at the front of their job's bytes, so many as are done
abbrev pub is_reading : FileFunction → Bool
is_reading ReadSequential = true
is_reading ReadRandom = true
is_reading function = false

pub record IsRead (done : ℕ) (work : Work) (records : List (List ℕ)) : Type 0 where
  pub before : Job
  pub job_is : work.job ≡ with_records before records
  pub size : length before.bytes ≡ 4096
  pub count : length records ≡ done

abbrev pub HasRead : ℕ → Option Work → List (List ℕ) → Type 0
HasRead done None records = ⊥
HasRead done (Some work) records = IsRead done work records

-- each directory entry of a file is such as the drive of an image has
pub record IsSoundDrive (drive : Drive) : Type 0 where
  pub each : (file : FileName) (number : ℕ) (extent : PhysicalExtent) → get drive.extents (record { user = file.user; name = file.name; number = number }) ≡ Some extent
      → IsOfImage drive.kind (record { user = file.user; name = file.name; number = number }) extent
