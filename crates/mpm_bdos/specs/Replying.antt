-- The reply of a call on a mounted drive that isn't refused, after its turns, by the situation in which it entered.
use Rattle.std.specs.Prelude.{◌≡◌, ℕ, ◌≤◌, Bool, true, false, List, Option, Some, None, IfSome, length}
use Rattle.mpm_dirent.specs.declared.limits.TheConstants.{LAST_POSITION}
use Rattle.mpm_base.specs.Calls.{Answer}
use Rattle.mpm_mount.specs.Drives.{Drive}
use Rattle.mpm_mount.specs.Directories.{Directory, Stands}
use Rattle.mpm_opens.specs.declared.kinds.FileKey.{FileKey}
use Rattle.mpm_opens.specs.Opens.{OpenFiles}
use Rattle.mpm_fcb.specs.Positions.{sequential_record}
use Rattle.mpm_files.specs.declared.work.Work.{Work}
use Rattle.mpm_files.specs.Turning.{Suits}
use Rattle.mpm_file_functions.specs.declared.functions.FileFunction.{FileFunction}
use Rattle.mpm_file_functions.specs.declared.functions.FileFunction.TheVariants.{ResetDisks, ProtectDisk, ResetDrives, AccessDrives, FreeDrives, FlushBuffers}
use Rattle.mpm_refusals.specs.Filing.{LastSearch, Situation, block, HaveUsers}
use Rattle.mpm_refusals.specs.Subjects.{drive_at, found}
use Rattle.mpm_refusals.specs.Refusals.{refusal_of}
use Rattle.mpm_bdos.specs.Jobs.{job_of, call_turns, turned}
use Rattle.mpm_bdos.specs.Changes.{deleted_by, opens_by, search_of_call}
use Rattle.mpm_refusals.specs.Searches.{searches_by}
use Rattle.mpm_bdos.specs.Replies.{answer_after}
use Rattle.mpm_bdos.specs.Serving.{IsCaller, WorksOn}
use Rattle.mpm_bdos.specs.Ending.{IsSoundDrive}

-- calls on drives, which name none
abbrev pub is_on_drives : FileFunction → Bool
is_on_drives ResetDisks = true
is_on_drives ProtectDisk = true
is_on_drives ResetDrives = true
is_on_drives AccessDrives = true
is_on_drives FreeDrives = true
is_on_drives FlushBuffers = true
is_on_drives function = false

-- it has come after its turns: the work of its job, upon the image of its drive and the directory, which was that of an image before
pub record IsServed (s : Situation) (image : List ℕ) (directory : Option Directory) (work : Option Work) : Type 0 where
  pub none : refusal_of s ≡ None
  pub caller : IsCaller s.caller
  pub users : HaveUsers s.filing.opens
  pub size : length s.call.fcb ≡ 36
  pub low : sequential_record (block s) ≤ LAST_POSITION
  pub sound : IsSoundDrive (drive_at s)
  pub suits : IfSome (job_of s) (Suits (drive_at s))
  pub works : WorksOn image directory (drive_at s) (job_of s) (call_turns s) work

-- and it is to be answered: image and directory stand for what its turns have come to, and its caller's open files that it deletes are
-- those that it deleted
pub record IsAnswering (s : Situation) (image : List ℕ) (d : Directory) (work : Option Work) (deleted : List (Option FileKey)) : Type 0 where
  pub served : IsServed s image (Some d) work
  pub stands : Stands image d (turned s (call_turns s)).drive
  pub deleted_is : deleted ≡ deleted_by s s.function
  pub names : is_on_drives s.function ≡ false

-- what it then comes to
pub record IsReplied (s : Situation) (answer : Answer) (opens : OpenFiles) (searches : List (Option LastSearch)) : Type 0 where
  pub answer_is : answer ≡ answer_after s (turned s (call_turns s))
  pub opens_are : opens ≡ opens_by s (turned s (call_turns s)) s.function
  pub searches_are : searches ≡ searches_by s.filing.searches s.caller.process (search_of_call s) (found s)

-- each call upon drives, marks and at a moment, which is to be answered, comes to that
abbrev pub IsRepliedOn : Directory → (List (Option Drive) → List ℕ → List ℕ → Situation) → Option Work → List (Option FileKey) → Answer → OpenFiles → List (Option LastSearch) → Type 0
IsRepliedOn directory call work deleted answer opens searches =
    (image : List ℕ) (drives : List (Option Drive)) (marks moment : List ℕ)
    → IsAnswering (call drives marks moment) image directory work deleted → IsReplied (call drives marks moment) answer opens searches

abbrev pub IsRepliedWhere : Option Directory → (List (Option Drive) → List ℕ → List ℕ → Situation) → Option Work → List (Option FileKey) → Answer → OpenFiles → List (Option LastSearch) → Type 0
IsRepliedWhere place call work deleted answer opens searches =
    (image : List ℕ) (directory : Directory) (drives : List (Option Drive)) (marks moment : List ℕ) → place ≡ Some directory
    → IsAnswering (call drives marks moment) image directory work deleted → IsReplied (call drives marks moment) answer opens searches
