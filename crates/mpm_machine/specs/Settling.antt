-- The end of a run: the call in service is carried to its end without further steps, as if in the last one; who waits for the disk has
-- no effect, and nobody enters service. (This project's own.)
use Rattle.std.specs.Prelude.{◌≡◌, ℕ, List, Option, Some, None}
use Rattle.mpm_port.specs.Disks.{Disks}
use Rattle.mpm_mount.specs.Directories.{Directory}
use Rattle.mpm_service.specs.Ahead.{unserved}
use Rattle.mpm_service.specs.declared.service.Served.{Served}
use Rattle.mpm_kernel.specs.Disk.{with_disk}
use Rattle.mpm_directories.specs.Direct.{Directly}
use Rattle.mpm_refusals.specs.Filing.{Situation}
use Rattle.mpm_bdos.specs.Outcomes.{file_call}
use Rattle.mpm_bdos.specs.Serving.{Kept}
use Rattle.mpm_output.specs.Outside.{Outside}
use Rattle.mpm_output.specs.Writing.{CameOut, Stopped}
use Rattle.mpm_system.specs.declared.system.System.{System}
use Rattle.mpm_system.specs.Whole.{SystemChange, silent}
use Rattle.mpm_system.specs.Written.{with_records}
use Rattle.mpm_machine.specs.declared.machine.StepFault.{StepFault}
use Rattle.mpm_machine.specs.declared.machine.StepFault.TheVariants.{DiskFault, WriteFault}
use Rattle.mpm_machine.specs.State.{State}
use Rattle.mpm_machine.specs.Files.{FilesInService, Between, Within, StandsForFiles, filing_in, given_back, turns_ended}
use Rattle.mpm_machine.specs.Due.{with_ends}
use Rattle.mpm_machine.specs.DiskStep.{with_kernel, call_over, told_of_call, all_paid}
use Rattle.mpm_machine.specs.Stepping.{StepMade}
use Rattle.mpm_machine.specs.Failing.{Working, FailsWithin, HaveImages, HaveImagesOf}
use Rattle.mpm_machine.specs.After.{having}

-- the turns that are left pass
abbrev pub turns_passed : System → System
turns_passed system = with_kernel (with_disk unserved) system

-- by what it comes to, the call of a process is over; those who ended give back what they owe, the ends that are due come, and then the
-- records
unfoldable pub over_at_end : Directly → ℕ → System → SystemChange
over_at_end told p system = call_over told p (turns_passed system)

unfoldable pub ended_at_end : Directly → ℕ → System → System
ended_at_end told p system = with_ends (all_paid (over_at_end told p system).system)

unfoldable pub ended_with : Directly → ℕ → System → SystemChange
ended_with told p system = with_records (record (over_at_end told p system) { system = all_paid (ended_at_end told p system) })

-- files after it: the whole change of the call, and what was then given back
abbrev pub files_at_end : Directly → Situation → System → FilesInService
files_at_end told s system =
    let p = s.caller.process in
    given_back (ended_at_end told p system).owed (given_back (over_at_end told p system).system.owed (Between (file_call s).filing))

unfoldable pub carried_out : Situation → System → StepMade
carried_out s system =
    let told = told_of_call s s.caller.process system in
    record { change = ended_with told s.caller.process system; files = files_at_end told s system }

-- so the end makes this of a system and of files: where no call is in service it leaves both
abbrev pub at_end : FilesInService → System → StepMade
at_end (Between filing) system = record { change = silent system; files = Between filing }
at_end (Within s) system = carried_out s system

-- and of a state
unfoldable pub carried : State → State
carried s = having (at_end s.files s.system) s.outputs

-- the call in service was carried to its end, and what that emits was written
pub record HasCarried (files : FilesInService) (old_outside new_outside : Outside) (old new : System) (kept : Kept) (disks : Disks) : Type 0 where
  pub system : new ≡ (at_end files old).change.system
  pub wrote : CameOut old_outside new_outside (at_end files old).change.emitted
  pub stands : StandsForFiles new.kernel.disk kept disks (at_end files old).files

-- the turns that are left to the call in service
abbrev pub left_of : FilesInService → Option Served → Option Working
left_of (Within call) (Some served) = Some (record { call = call; ended = turns_ended served call; most = served.left })
left_of (Within call) None = None
left_of (Between filing) served = None

-- the carrying stopped: where a drive failed nothing of it was written
abbrev pub StopsCarrying : StepFault → FilesInService → Outside → Outside → System → List (Option Directory) → Disks → Type 0
StopsCarrying WriteFault files old_outside new_outside old mounted disks =
    Stopped old_outside new_outside (at_end files old).change.emitted × HaveImages disks mounted (filing_in (at_end files old).files).drives
StopsCarrying DiskFault files old_outside new_outside old mounted disks =
    (new_outside ≡ old_outside) × HaveImagesOf (FailsWithin (left_of files old.kernel.disk.served)) disks mounted
