-- What is kept between file calls; a file call in service; and what the mounted drives stand for with some of its turns ended.
use Rattle.std.specs.Prelude.{◌≡◌, ℕ, ◌<◌, ◌≤◌, Bool, List, [], Option, Some, None, IfSome, ⊤, slice_index_or}
use Rattle.mpm_base.specs.Calls.{Taken}
use Rattle.mpm_opens.specs.declared.kinds.FileKey.{FileKey}
use Rattle.mpm_opens.specs.Opens.{OpenFiles, none_open}
use Rattle.mpm_cache.specs.declared.cache.SectorPlace.{SectorPlace}
use Rattle.mpm_file_functions.specs.declared.functions.FileFunction.{FileFunction}
use Rattle.mpm_file_functions.specs.declared.refusals.Refusal.{Refusal}
use Rattle.mpm_mount.specs.Drives.{Drive}
use Rattle.mpm_mount.specs.Directories.{Directory}
use Rattle.mpm_marks.specs.Marks.{no_marks}
use Rattle.mpm_marks.specs.Protected.{none_protected}
use Rattle.mpm_jobs.specs.declared.jobs.Job.{Job}
use Rattle.mpm_files.specs.declared.work.Work.{Work}
use Rattle.mpm_files.specs.Serving.{IsInService}
use Rattle.mpm_files.specs.Turning.{Suits}
use Rattle.mpm_refusals.specs.declared.caller.Caller.{Caller}
use Rattle.mpm_refusals.specs.Filing.{LastSearch, Filing, Situation, HaveUsers}
use Rattle.mpm_refusals.specs.Searches.{no_searches}
use Rattle.mpm_refusals.specs.Subjects.{drive_number, drive_at}
use Rattle.mpm_refusals.specs.Refusals.{refusal_of}
use Rattle.mpm_refusals.specs.Asking.{StandsWhere}
use Rattle.mpm_bdos.specs.Jobs.{job_of}
use Rattle.mpm_bdos.specs.Changes.{deleted_by}
use Rattle.mpm_bdos.specs.Ending.{IsSoundDrive}
use Rattle.mpm_bdos.specs.Outcomes.{drives_after}
use Rattle.mpm_directories.specs.Places.{directory_at}

-- a caller's user and multi-sector count are in their ranges
pub record IsCaller (caller : Caller) : Type 0 where
  pub user : caller.user < 16
  pub some : 1 ≤ caller.multi
  pub few : caller.multi ≤ 16

-- a process calls upon open files: its user and its count are in their ranges, and so are the users of all open files
pub record CallsUpon (process : Caller) (opens : OpenFiles) : Type 0 where
  pub caller : IsCaller process
  pub users : HaveUsers opens

-- what it was, what refused it, the work of its job, and its caller's open files that it deletes
pub record InService : Type 0 where
  pub caller : Caller
  pub function : FileFunction
  pub drive : ℕ
  pub call : Taken
  pub moment : List ℕ
  pub refusal : Option Refusal
  pub work : Option Work
  pub deleted : List (Option FileKey)

-- all that file calls keep, as contracts see it: the files of drives stand in the images
pub record Kept : Type 0 where
  pub mounted : List (Option Directory)
  pub cached : List (SectorPlace × List ℕ)
  pub protected : List Bool
  pub opens : OpenFiles
  pub marks : List ℕ
  pub searches : List (Option LastSearch)
  pub service : Option InService

-- before the first call
abbrev pub nothing_kept : List (Option Directory) → Kept
nothing_kept mounted = record {
  mounted = mounted;
  cached = [];
  protected = none_protected;
  opens = none_open;
  marks = no_marks;
  searches = no_searches;
  service = None;
}

abbrev pub filing_of : Kept → List (Option Drive) → Filing
filing_of kept drives =
    record { drives = drives; protected = kept.protected; opens = kept.opens; marks = kept.marks; searches = kept.searches }

pub record StandEach (images : ℕ → List ℕ) (mounted : List (Option Directory)) (drives : List (Option Drive)) : Type 0 where
  pub each : (number : ℕ) → StandsWhere number (images number) (directory_at mounted number) (slice_index_or drives number None)

-- the work of a job on a drive that is mounted, with so many turns ended; and no work where there is no job
abbrev pub WorksAt : List ℕ → Option Directory → Drive → Job → ℕ → Work → Type 0
WorksAt image None before job turns work = ⊥
WorksAt image (Some directory) before job turns work = IsInService image directory before job turns work

abbrev pub WorksOn : List ℕ → Option Directory → Drive → Option Job → ℕ → Option Work → Type 0
WorksOn image directory before None turns None = ⊤
WorksOn image directory before (Some job) turns (Some work) = WorksAt image directory before job turns work
WorksOn image directory before (Some job) turns None = ⊥
WorksOn image directory before None turns (Some work) = ⊥

pub record IsCallOf (service : InService) (s : Situation) : Type 0 where
  pub caller : service.caller ≡ s.caller
  pub function : service.function ≡ s.function
  pub drive : service.drive ≡ drive_number s
  pub call : service.call ≡ s.call
  pub moment : service.moment ≡ s.moment
  pub refusal : service.refusal ≡ refusal_of s
  pub deleted : refusal_of s ≡ None → service.deleted ≡ deleted_by s s.function

-- a call is in service with so many turns ended: its drive was that of an image and its job suits it, and nothing but that drive has
-- changed since it entered
pub record Serves (images : ℕ → List ℕ) (kept : Kept) (s : Situation) (turns : ℕ) : Type 0 where
  pub service : InService
  pub there : kept.service ≡ Some service
  pub is : IsCallOf service s
  pub sound : IsSoundDrive (drive_at s)
  pub suits : IfSome (job_of s) (Suits (drive_at s))
  pub works : WorksOn (images (drive_number s)) (directory_at kept.mounted (drive_number s)) (drive_at s) (job_of s) turns service.work
  pub same : filing_of kept s.filing.drives ≡ s.filing
  pub stand : StandEach images kept.mounted (drives_after s turns)
