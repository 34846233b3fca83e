-- What a call leaves as it enters service, as it is answered after its turns, and where no disk serves it.
use Rattle.std.specs.Prelude.{◌≡◌, ℕ, ◌<◌, false, List, Option, Some, None, Result, IfOk}
use Rattle.mpm_base.specs.Calls.{Answer, Taken}
use Rattle.mpm_clock.specs.declared.moment.Moment.{Moment}
use Rattle.mpm_procs.specs.declared.process.Process.{Process}
use Rattle.mpm_port.specs.Disks.{Disks}
use Rattle.mpm_cache.specs.Coherent.{IsCoherent, HasNoAlias}
use Rattle.mpm_mount.specs.Drives.{Drive}
use Rattle.mpm_mount.specs.Directories.{Directory}
use Rattle.mpm_file_functions.specs.declared.refusals.Extended.{Extended}
use Rattle.mpm_file_functions.specs.Functions.{direct_of}
use Rattle.mpm_refusals.specs.declared.caller.FileCall.{FileCall}
use Rattle.mpm_refusals.specs.Filing.{Situation}
use Rattle.mpm_refusals.specs.Subjects.{drive_number}
use Rattle.mpm_directories.specs.Places.{directory_at}
use Rattle.mpm_bdos.specs.Direct.{IfDirect}
use Rattle.mpm_bdos.specs.Finishing.{ComesToAfterTurns}
use Rattle.mpm_bdos.specs.Held.{IsMountedFor}
use Rattle.mpm_bdos.specs.Jobs.{call_turns}
use Rattle.mpm_bdos.specs.Serving.{InService, Kept, Serves, nothing_kept}
use Rattle.mpm_bdos.specs.Standing.{OnItsDrives, WhileServing, UponAnyDrives, OfFunction}
use Rattle.mpm_bdos.specs.Starting.{IsCallBy, HasBegunService, EntersBy, EntersAll, caller_of, entering_at}
use Rattle.mpm_bdos.specs.Turns.{drive_served, has_work}

-- over these directories nothing is kept yet, and what is cached fits any images
pub record KeepsNothingYet {E : Type 0} (mounted : List (Option Directory)) (result : Result Kept E) : Type 0 where
  pub kept : IfOk result (λ begun. begun ≡ nothing_kept mounted)
  pub coherent : IfOk result (λ begun. (disks : Disks) → IsCoherent begun.cached disks)
  pub apart : IfOk result (λ begun. (disks : Disks) (number : ℕ) → HasNoAlias begun.cached disks number)

-- a process's call on files and drives enters service at a moment, and the result is how many turns it takes. Where no drive is mounted it
-- has no work
pub record StartsService (old new : Kept) (p : ℕ) (process : Process) (call : Taken) (now : Moment) (result : ℕ) : Type 0 where
  pub turns : UponAnyDrives old call (λ images drives function. result ≡ call_turns (entering_at old p process call now drives function))
  pub serves : UponAnyDrives old call (λ images drives function. Serves images new (entering_at old p process call now drives function) 0)
  pub entered : OfFunction call (λ function. HasBegunService (caller_of p process) function call new.service)
  pub drive : (drives : List (Option Drive)) → OfFunction call (λ function. drive_served new.service ≡ Some (drive_number (entering_at old p process call now drives function)))
  pub some : 0 < result
  pub workless : ((number : ℕ) → directory_at old.mounted number ≡ None) → has_work new.service ≡ false
  pub kept : new ≡ record old { service = new.service }

-- the call in service is answered after its turns, and none is in service then
pub record RepliesInService (old new : Kept) (new_reply : Answer) (result : Option Extended) : Type 0 where
  pub comes : ComesToAfterTurns old new new_reply result
  pub kept : new ≡ record old { protected = new.protected; opens = new.opens; marks = new.marks; searches = new.searches; service = None }

-- a call that no disk serves is answered, by what is on the drives and also while another call is served. Any other call is left as it is
pub record AnswersDirectly (kept : Kept) (drive : ℕ) (call : Taken) (old_reply new_reply : Answer) (result : Option Extended) : Type 0 where
  pub answer : OnItsDrives kept (λ filing. IfDirect filing drive call (λ all. new_reply ≡ all.answer))
  pub extended : OnItsDrives kept (λ filing. IfDirect filing drive call (λ all. result ≡ all.extended))
  pub served : (images : ℕ → List ℕ) → WhileServing images kept (λ s j. IfDirect s.filing drive call (λ all. new_reply ≡ all.answer))
  pub served_extended : (images : ℕ → List ℕ) → WhileServing images kept (λ s j. IfDirect s.filing drive call (λ all. result ≡ all.extended))
  pub other : direct_of call.function ≡ None → new_reply ≡ old_reply
  pub unanswered : direct_of call.function ≡ None → result ≡ None

-- a call enters service on a drive, by that drive's directory, where it is mounted; so it is, unless the call is refused or names none
pub record EntersOnDrive (directory : Option Directory) (number : ℕ) (file_call : FileCall) (call : List (Option Drive) → Situation) (service : InService) : Type 0 where
  pub entered : IsCallBy file_call.caller file_call.function file_call.call.now service
  pub drive : service.drive ≡ number
  pub granted : IsMountedFor directory service
  pub all : EntersBy directory number call service

-- a call enters service on the drive that it names, by the directories of all drives
pub record EntersOnDrives (mounted : List (Option Directory)) (file_call : FileCall) (call : List (Option Drive) → Situation) (service : InService) : Type 0 where
  pub entered : IsCallBy file_call.caller file_call.function file_call.call.now service
  pub drive : (drives : List (Option Drive)) → service.drive ≡ drive_number (call drives)
  pub granted : IsMountedFor (directory_at mounted service.drive) service
  pub all : EntersAll mounted call service
