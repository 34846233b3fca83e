-- A file call that is done at once, its turns one after another.
use Rattle.std.specs.Prelude.{◌≡◌, ◌≢◌, ℕ, ◌+◌, ◌*◌, ◌<◌, ◌≤◌, Bool, true, false, List, Option, Some, None, option_map, Result, IsOk, IfOk, OnOk, OnErr}
use Rattle.mpm_base.specs.Calls.{Answer, Taken}
use Rattle.mpm_clock.specs.declared.moment.Moment.{Moment}
use Rattle.mpm_procs.specs.declared.process.Process.{Process}
use Rattle.mpm_port.specs.Causes.{HasCause}
use Rattle.mpm_port.specs.declared.drives.Drives.{Ghosts}
use Rattle.mpm_port.specs.Disks.{Disks, ToldImage}
use Rattle.mpm_mount.specs.Drives.{Drive}
use Rattle.mpm_mount.specs.Directories.{Directory}
use Rattle.mpm_file_functions.specs.declared.functions.FileFunction.{FileFunction}
use Rattle.mpm_file_functions.specs.declared.functions.FileFunction.TheVariants.{OpenFile, DeleteFile, ReadSequential, WriteSequential, MakeFile, RenameFile, SetAttributes, ReadRandom, WriteRandom, TestAndWrite, SetLabel, WriteXfcb}
use Rattle.mpm_file_functions.specs.declared.refusals.Extended.{Extended}
use Rattle.mpm_refusals.specs.Filing.{Situation}
use Rattle.mpm_refusals.specs.Subjects.{drive_number}
use Rattle.mpm_bdos.specs.Jobs.{call_turns, job_of}
use Rattle.mpm_bdos.specs.Serving.{Kept, Serves}
use Rattle.mpm_bdos.specs.Standing.{UponDrives, OfFunction, WhileServing}
use Rattle.mpm_bdos.specs.Starting.{entering_at}
use Rattle.mpm_bdos.specs.Finishing.{ComesTo}
use Rattle.mpm_directories.specs.Places.{directory_at}
use Rattle.mpm_bdos.specs.Turns.{FitsDrives, KeepsImages, KeepsToldOf, KeepsUnsynced, StaysBeside, TurnKeeps, StopsWithin, drive_served, has_work, images_of, drive_and_kind}

-- what some turns of the call in service leave of what is kept, of the drives and of their images
pub record TurnsLeave {D : Type 0} (disks : D → Disks) (told : D → List ℕ → ToldImage) (failed : D → List (List ℕ)) (unsynced : D → ℕ → Bool) (old new : Kept) (old_drives new_drives : D) : Type 0 where
  pub kept : TurnKeeps old new
  pub fits : FitsDrives disks new.mounted new.cached new_drives
  pub images : KeepsImages (drive_served old.service) old.mounted (disks old_drives) (disks new_drives)
  pub beside : StaysBeside old.mounted (disks old_drives) (disks new_drives)
  pub told_are : KeepsToldOf old.mounted (disks old_drives) (told old_drives) (told new_drives)
  pub names : failed new_drives ≡ failed old_drives
  pub kept_unsynced : KeepsUnsynced (drive_served old.service) (unsynced old_drives) (unsynced new_drives)

-- where a device failed in a turn of a call of which so many had ended before, the image of the job's drive stands within that turn
pub record FailsSince (disks : Disks) (s : Situation) (ended : ℕ) : Type 0 where
  pub turn : ℕ
  pub since : ended ≤ turn
  pub its : turn < call_turns s
  pub stops : StopsWithin disks s turn

-- likewise in one of all its turns
abbrev pub FailsIn : Disks → Situation → Type 0
FailsIn disks s = FailsSince disks s 0

-- of the drives that are mounted a call changes the directory and the image of one alone
pub record ChangesAlone (drive : ℕ) (old new : List (Option Directory)) (old_disks new_disks : Disks) : Type 0 where
  pub places : (number : ℕ) → Some drive ≢ Some number → directory_at new number ≡ directory_at old number
  pub images : KeepsImages (Some drive) old old_disks new_disks

-- nothing is done in the turns of a call that has no work
pub record IsAtRest {D : Type 0} (old new : Kept) (old_drives new_drives : D) (old_calls new_calls : ℕ) : Type 0 where
  pub kept : new ≡ old
  pub device : new_drives ≡ old_drives
  pub calls : new_calls ≡ old_calls

-- the functions whose calls have a job, where they aren't refused
abbrev pub has_job : FileFunction → Bool
has_job OpenFile = true
has_job DeleteFile = true
has_job ReadSequential = true
has_job WriteSequential = true
has_job MakeFile = true
has_job RenameFile = true
has_job SetAttributes = true
has_job ReadRandom = true
has_job WriteRandom = true
has_job TestAndWrite = true
has_job SetLabel = true
has_job WriteXfcb = true
has_job function = false

-- a call was done at once, in the situation in which it entered: it comes to its outcome, or its drive failed in one of its turns; each
-- turn takes 20 calls of the drives at most, and without a job there is none
pub record DoneAtOnce {D E : Type 0} (disks : D → Disks) (s : Situation) (new : Kept) (answer : Answer) (old_drives new_drives : D) (old_calls new_calls : ℕ) (result : Result (Option Extended) E) : Type 0 where
  pub ok : IfOk result (ComesTo (images_of (disks new_drives)) s new answer)
  pub err : OnErr result (FailsIn (disks new_drives) s)
  pub idle : job_of s ≡ None → (new_drives ≡ old_drives) × (new_calls ≡ old_calls) × IsOk result
  pub calls : new_calls ≤ old_calls + 20 * call_turns s

-- a call keeps to its drive: of those that are mounted it changes the directory and the image of that one alone, and asks no other one
-- to write
pub record KeepsToDrive {D : Type 0} (of : Ghosts D) (drive : ℕ) (old new : List (Option Directory)) (old_drives new_drives : D) : Type 0 where
  pub alone : ChangesAlone drive old new (of.disks old_drives) (of.disks new_drives)
  pub kept_unsynced : KeepsUnsynced (Some drive) (of.unsynced old_drives) (of.unsynced new_drives)

-- where a device failed the call isn't answered, and nothing is kept otherwise but directories and cached sectors
pub record IsBrokenOff {R : Type 0} (old new : Kept) (old_reply new_reply : R) : Type 0 where
  pub kept : new ≡ record old { mounted = new.mounted; cached = new.cached; service = None }
  pub answer : new_reply ≡ old_reply

-- what a call leaves of the drives that are mounted, and of all others
pub record AtOnceLeaves {D : Type 0} (of : Ghosts D) (old new : Kept) (old_drives new_drives : D) : Type 0 where
  pub labels : (number : ℕ) → option_map drive_and_kind (directory_at new.mounted number) ≡ option_map drive_and_kind (directory_at old.mounted number)
  pub fits : FitsDrives of.disks new.mounted new.cached new_drives
  pub beside : StaysBeside old.mounted (of.disks old_drives) (of.disks new_drives)
  pub told_are : KeepsToldOf old.mounted (of.disks old_drives) (of.told old_drives) (of.told new_drives)
  pub names : of.failed_names new_drives ≡ of.failed_names old_drives

-- so many turns of the call in service: all of them were done, or its drive failed in one; each takes 20 calls of the drives at most,
-- and without work there is none
pub record DoesTurns {D A E : Type 0} (of : Ghosts D) (turns : ℕ) (old new : Kept) (old_drives new_drives : D) (old_calls new_calls : ℕ) (result : Result A E) : Type 0 where
  pub ok : WhileServing (images_of (of.disks old_drives)) old (λ s ended. ended + turns ≤ call_turns s → OnOk result (Serves (images_of (of.disks new_drives)) new s (ended + turns)))
  pub err : WhileServing (images_of (of.disks old_drives)) old (λ s ended. ended + turns ≤ call_turns s → OnErr result (FailsSince (of.disks new_drives) s ended))
  pub left : TurnsLeave of.disks of.told of.failed_names of.unsynced old new old_drives new_drives
  pub calls : new_calls ≤ old_calls + 20 * turns
  pub idle : has_work old.service ≡ false → IsAtRest old new old_drives new_drives old_calls new_calls
  pub unfailing : has_work old.service ≡ false → IsOk result
  pub cause : HasCause (of.faults old_drives) (of.faults new_drives) result

-- a process's call on files and drives at a moment is done at once, and keeps to its drive; after it none is in service. Where no drive is
-- mounted no device is asked
pub record ServesAtOnce {D E : Type 0} (of : Ghosts D) (old new : Kept) (p : ℕ) (process : Process) (call : Taken) (now : Moment) (old_reply new_reply : Answer) (old_drives new_drives : D) (old_calls new_calls : ℕ) (result : Result (Option Extended) E) : Type 0 where
  pub done : UponDrives (images_of (of.disks old_drives)) old call (λ before function. DoneAtOnce of.disks (entering_at old p process call now before function) new new_reply old_drives new_drives old_calls new_calls result)
  pub own : (before : List (Option Drive)) → OfFunction call (λ function. KeepsToDrive of (drive_number (entering_at old p process call now before function)) old.mounted new.mounted old_drives new_drives)
  pub none : ((number : ℕ) → directory_at old.mounted number ≡ None) → (new_drives ≡ old_drives) × IsOk result
  pub service : OfFunction call (λ function. new.service ≡ None)
  pub stopped : OnErr result (IsBrokenOff old new old_reply new_reply)
  pub left : AtOnceLeaves of old new old_drives new_drives
  pub cause : HasCause (of.faults old_drives) (of.faults new_drives) result
