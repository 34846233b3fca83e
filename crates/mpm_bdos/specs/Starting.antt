-- A file call that enters service.
use Rattle.std.specs.Prelude.{◌≡◌, ℕ, ◌&&◌, List, Option, Some, None, IfSome, is_some, min, option_and_then, unwrap_or}
use Rattle.mpm_base.specs.Calls.{Taken}
use Rattle.mpm_dirent.specs.Names.{plain}
use Rattle.mpm_procs.specs.declared.process.Process.{Process}
use Rattle.mpm_mount.specs.Drives.{Drive}
use Rattle.mpm_mount.specs.Directories.{Directory, Stands}
use Rattle.mpm_clock.specs.declared.moment.Moment.{Moment}
use Rattle.mpm_clock.specs.PackedDecimal.{stamp}
use Rattle.mpm_jobs.specs.declared.jobs.Job.{Job}
use Rattle.mpm_opens.specs.declared.kinds.FileKey.{FileKey}
use Rattle.mpm_file_functions.specs.declared.refusals.Refusal.{Refusal}
use Rattle.mpm_opens.specs.Items.{file_named}
use Rattle.mpm_opens.specs.Opens.{OpenFiles, item_of}
use Rattle.mpm_fcb.specs.declared.block.ControlBlock.{ControlBlock}
use Rattle.mpm_files.specs.declared.work.Work.{Work}
use Rattle.mpm_files.specs.Serving.{turns_in}
use Rattle.mpm_files.specs.Turning.{Suits}
use Rattle.mpm_refusals.specs.declared.caller.Caller.{Caller}
use Rattle.mpm_file_functions.specs.declared.functions.FileFunction.{FileFunction}
use Rattle.mpm_bdos.specs.declared.planning.About.{About}
use Rattle.mpm_dirent.specs.declared.limits.TheConstants.{LAST_POSITION}
use Rattle.mpm_refusals.specs.Filing.{Situation, block}
use Rattle.mpm_refusals.specs.Refusals.{refusal_of}
use Rattle.mpm_refusals.specs.Subjects.{drive_number, drive_at, first_by}
use Rattle.mpm_bdos.specs.Jobs.{job_of}
use Rattle.mpm_refusals.specs.Asking.{called, StandsForDirectory}
use Rattle.mpm_bdos.specs.declared.releasing.Deletion.{Deletion}
use Rattle.mpm_bdos.specs.Changes.{deletion, deleted_by}
use Rattle.mpm_bdos.specs.Serving.{InService, Kept, StandEach, WorksOn, IsCallOf}
use Rattle.mpm_directories.specs.Places.{directory_at}

-- a process as it calls
abbrev pub caller_of : ℕ → Process → Caller
caller_of p process =
    record { process = p; user = process.user; drive = process.drive; multi = process.multi; password = process.password }

-- a caller's call, upon what is kept and the drives for which the images stand
abbrev pub entering : Kept → List (Option Drive) → Caller → FileFunction → Taken → List ℕ → Situation
entering kept drives caller function call moment = called drives kept.protected kept.opens kept.marks kept.searches caller function call moment

-- the call of a process at a moment
abbrev pub entering_at : Kept → ℕ → Process → Taken → Moment → List (Option Drive) → FileFunction → Situation
entering_at kept p process call now drives function = entering kept drives (caller_of p process) function call (stamp now)

-- what is looked up of a call, by its block, its drive, the user of its file and the number of its open file
abbrev pub about_in : OpenFiles → ℕ → ControlBlock → FileFunction → ℕ → ℕ → Option ℕ → About
about_in opens p b function drive owner number = record {
  file = record { drive = drive; user = owner; name = plain b.name };
  first = min (first_by b function) LAST_POSITION;
  has_written = is_some (option_and_then (λ n. file_named opens.items p n drive (plain b.name)) number) && (item_of opens (unwrap_or number 0)).has_written;
}

-- the job of a call begins, if it has one, and suits its drive
pub record BeginsJob (image : List ℕ) (directory : Option Directory) (s : Situation) (work : Option Work) : Type 0 where
  pub suits : IfSome (job_of s) (Suits (drive_at s))
  pub works : WorksOn image directory (drive_at s) (job_of s) 0 work

-- a job begins on each drive for which some image and the directory stand, and suits it
abbrev pub BeginsOn : Directory → Option Job → Option Work → Type 0
BeginsOn directory job work =
    (image : List ℕ) (drive : Drive) → Stands image directory drive → IfSome job (Suits drive) → WorksOn image (Some directory) drive job 0 work

-- the job of a call that isn't refused begins, on each drive for which some image and the directory stand, whatever marks there are
abbrev pub BeginsCallJob : Directory → (List (Option Drive) → List ℕ → Situation) → Option Work → Type 0
BeginsCallJob directory call work =
    (image : List ℕ) (drives : List (Option Drive)) (marks : List ℕ) → Stands image directory (drive_at (call drives marks))
    → refusal_of (call drives marks) ≡ None → BeginsJob image (Some directory) (call drives marks) work

-- the job of a call begins, whose refusal is known and whose drive may be mounted
abbrev pub BeginsUnless : Option Refusal → Option Directory → (List (Option Drive) → List ℕ → Situation) → Option Work → Type 0
BeginsUnless refusal directory call work =
    (image : List ℕ) (drives : List (Option Drive)) (marks : List ℕ) → StandsForDirectory image directory (call drives marks)
    → refusal ≡ refusal_of (call drives marks) → BeginsJob image directory (call drives marks) work

-- something is so of each call on a directory's drive that has these open files, this process and this deletion
abbrev pub IsDeletedOn : Directory → OpenFiles → ℕ → Deletion → (Situation → Type 0) → Type 0
IsDeletedOn directory opens p by P =
    (image : List ℕ) (s : Situation) → Stands image directory (drive_at s) → opens ≡ s.filing.opens → p ≡ s.caller.process → by ≡ deletion s → P s

-- these open files are deleted by each call that isn't refused and has this caller, drive, block and function
abbrev pub IsDeletedBy : Option Directory → OpenFiles → Caller → ℕ → ControlBlock → FileFunction → List (Option FileKey) → Type 0
IsDeletedBy directory opens caller drive b function deleted =
    (image : List ℕ) (s : Situation) → StandsForDirectory image directory s → refusal_of s ≡ None → opens ≡ s.filing.opens → caller ≡ s.caller
    → drive ≡ drive_number s → b ≡ block s → function ≡ s.function → deleted ≡ deleted_by s s.function

-- a call enters service: what is kept is of that call, and its job begins
pub record Enters (image : List ℕ) (directory : Option Directory) (s : Situation) (service : InService) : Type 0 where
  pub is : IsCallOf service s
  pub begins : BeginsJob image directory s service.work

-- a call enters service, by the directories of all drives
pub record EntersAmong (images : ℕ → List ℕ) (mounted : List (Option Directory)) (s : Situation) (service : InService) : Type 0 where
  pub enters : Enters (images (drive_number s)) (directory_at mounted (drive_number s)) s service

-- a call enters service upon any drives, by the directory of its drive
abbrev pub EntersBy : Option Directory → ℕ → (List (Option Drive) → Situation) → InService → Type 0
EntersBy directory number call service =
    (image : List ℕ) (drives : List (Option Drive)) → StandsForDirectory image directory (call drives) → number ≡ drive_number (call drives)
    → Enters image directory (call drives) service

-- a call enters service upon any drives for which the images stand, by the directories of all drives
abbrev pub EntersAll : List (Option Directory) → (List (Option Drive) → Situation) → InService → Type 0
EntersAll mounted call service =
    (images : ℕ → List ℕ) (drives : List (Option Drive)) → StandEach images mounted drives → EntersAmong images mounted (call drives) service

-- how many turns some work takes; one where there is none
abbrev pub turns_where : Option Work → ℕ
turns_where None = 1
turns_where (Some work) = turns_in work

-- a caller's call of a function is in service
pub record IsCallBy (caller : Caller) (function : FileFunction) (call : Taken) (service : InService) : Type 0 where
  pub caller_is : service.caller ≡ caller
  pub function_is : service.function ≡ function
  pub call_is : service.call ≡ call

abbrev pub HasBegunService : Caller → FileFunction → Taken → Option InService → Type 0
HasBegunService caller function call None = ⊥
HasBegunService caller function call (Some service) = IsCallBy caller function call service
