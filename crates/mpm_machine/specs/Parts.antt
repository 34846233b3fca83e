-- What the parts of a step, of several steps and of the end of a run ask of a machine and its drives, and what they leave.
use Rattle.std.specs.Prelude.{◌≡◌, ℕ, ◌+◌, ◌*◌, ◌<◌, ◌≤◌, Bool, true, false, List, [], Option, length, Result, OnErr, IfOk, IfErr, IsSome, OnOk, IsOk, Some, None}
use Rattle.mpm_script.specs.declared.line.TheConstants.{GREATEST_STEP}
use Rattle.mpm_port.specs.Disks.{Disks}
use Rattle.mpm_port.specs.declared.Failed.{Failed}
use Rattle.mpm_port.specs.declared.drives.Drives.{Ghosts}
use Rattle.mpm_base.specs.Calls.{Answer}
use Rattle.mpm_procs.specs.Table.{Lives, process_in, call_of}
use Rattle.mpm_mount.specs.Directories.{Directory}
use Rattle.mpm_output.specs.Outside.{Outside}
use Rattle.mpm_service.specs.Disk.{HasBegun}
use Rattle.mpm_service.specs.declared.service.Served.{Served}
use Rattle.mpm_dispatcher.specs.Dispatch.{IsReady}
use Rattle.mpm_kernel.specs.Kernel.{Kernel}
use Rattle.mpm_file_functions.specs.declared.refusals.Extended.{Extended}
use Rattle.mpm_directories.specs.Direct.{Directly}
use Rattle.mpm_refusals.specs.Filing.{Filing, Situation}
use Rattle.mpm_bdos.specs.Serving.{Kept, InService, StandEach, Serves, filing_of}
use Rattle.mpm_bdos.specs.Turns.{has_work, FitsDrives}
use Rattle.mpm_system.specs.declared.system.System.{System}
use Rattle.mpm_system.specs.Whole.{IsWhole, NoCompletions, HasRoomForAll}
use Rattle.mpm_machine.specs.declared.machine.Machine.{Machine}
use Rattle.mpm_machine.specs.declared.machine.StepFault.{StepFault}
use Rattle.mpm_machine.specs.declared.machine.StepFault.TheVariants.{DiskFault, WriteFault}
use Rattle.mpm_machine.specs.Files.{FilesInService, StandsWorked, StandsForFiles, StandsBetween}
use Rattle.mpm_machine.specs.Filed.{IsOutcome}
use Rattle.mpm_machine.specs.FileCalls.{outcome_in, situation_of, looked_at}
use Rattle.mpm_machine.specs.Holding.{AreFiled, OwnsService, HoldsKept, HoldsDrives}
use Rattle.mpm_machine.specs.Faults.{itself, OnDiskFault, OnWriteFault}
use Rattle.mpm_machine.specs.Due.{NobodyDue}
use Rattle.mpm_machine.specs.Stepping.{Telling, begun_as, step_with, stepped, before_disk, files_begun}
use Rattle.mpm_machine.specs.Mounting.{HasNoDrive}
use Rattle.mpm_machine.specs.Failing.{HaveImagesOf, FailsWithin, StopsOn, does_work, turns_done, working_if, working_in, working_turn_of, works_in_turn}
use Rattle.mpm_machine.specs.After.{IsOfSome, StopsBy, EndKeeps}
use Rattle.mpm_machine.specs.OneStep.{StepsLeave, LeavesDrives}
use Rattle.mpm_port.specs.Causes.{HasCause}
use Rattle.mpm_mount.specs.Drives.{Drive}
use Rattle.mpm_file_functions.specs.declared.functions.FileFunction.{FileFunction}
use Rattle.mpm_file_functions.specs.Functions.{function_of}
use Rattle.mpm_bdos.specs.Jobs.{call_turns}
use Rattle.mpm_bdos.specs.Starting.{caller_of, HasBegunService}

-- Of a machine.

-- between steps it is whole, nobody is left to be answered, and what is kept of file calls and the images stand for some files
pub record IsBetweenSteps {D : Type 0} (disks : D → Disks) (machine : Machine) (drives : D) : Type 0 where
  pub whole : IsWhole machine.system
  pub no_completions : NoCompletions machine.system
  pub holds : HoldsDrives disks machine.system.kernel machine.bdos drives

-- a step's work on drives is done and its other parts may begin: what is kept of file calls and the images stand for some files still, but
-- the call in service may have done one turn more than between steps
pub record MayBeginStep {D : Type 0} (disks : D → Disks) (machine : Machine) (drives : D) : Type 0 where
  pub most : machine.system.steps < GREATEST_STEP
  pub whole : IsWhole machine.system
  pub no_completions : NoCompletions machine.system
  pub holds : HoldsKept disks machine.system.kernel machine.bdos drives
  pub files : FilesInService
  pub stands : StandsWorked machine.system.kernel.disk machine.bdos (disks drives) files

-- then a process that is ready has made a file call
pub record MayCallFiles {D : Type 0} (disks : D → Disks) (p : ℕ) (machine : Machine) (drives : D) : Type 0 where
  pub whole : IsWhole machine.system
  pub completed : machine.system.kernel.dispatcher.completed ≡ []
  pub none : machine.system.records ≡ []
  pub lives : Lives machine.system.kernel.dispatcher.procs p
  pub ready : IsReady machine.system.kernel.dispatcher p
  pub holds : HoldsKept disks machine.system.kernel machine.bdos drives
  pub files : FilesInService
  pub stands : StandsWorked machine.system.kernel.disk machine.bdos (disks drives) files

-- who waits for the disk, or is served, keeps a call that the disk serves, and the one in service has turns left
pub record HoldsCalls (kernel : Kernel) (service : Option InService) : Type 0 where
  pub filed : AreFiled kernel
  pub own : OwnsService kernel service
  pub begun : HasBegun kernel.disk

-- a step's rest may be done: what the step begins with is done, and all held calls that it completed are answered
pub record MayEnd (machine : Machine) : Type 0 where
  pub whole : IsWhole machine.system
  pub completed : machine.system.kernel.dispatcher.completed ≡ []
  pub calls : HoldsCalls machine.system.kernel machine.bdos.service

-- a step's whole rest may be done, with its records, for which there is room
pub record MayEndStep (machine : Machine) : Type 0 where
  pub whole : IsWhole machine.system
  pub completed : machine.system.kernel.dispatcher.completed ≡ []
  pub calls : HoldsCalls machine.system.kernel machine.bdos.service
  pub room : HasRoomForAll (length machine.system.records + 1)

-- what a step begins with was done: by what some file call came to, which leaves the call in service
pub record HasBegunStep {D : Type 0} (disks : D → Disks) (old new : Machine) (drives : D) : Type 0 where
  pub made : IsOfSome (λ (told : Directly). (begun_as told old.system).system) new.system
  pub served : new.system.kernel.disk.served ≡ old.system.kernel.disk.served
  pub turn_steps : new.system.kernel.disk.turn_steps ≡ old.system.kernel.disk.turn_steps
  pub whole : IsWhole new.system
  pub completed : new.system.kernel.dispatcher.completed ≡ []
  pub room : HasRoomForAll (length new.system.records + 1)
  pub holds : HoldsKept disks new.system.kernel new.bdos drives

-- the rest of a step leaves directories and what is cached, and where no drive is mounted no call with work enters service
pub record EndLeaves (old new : Kept) : Type 0 where
  pub kept : EndKeeps old new
  pub workless : HasNoDrive old.mounted → has_work old.service ≡ false → has_work new.service ≡ false

-- the rest of a step was done: nobody's end is due, and nobody is left to be answered
pub record HasEndedStep (old new : Machine) : Type 0 where
  pub due : NobodyDue new.system.kernel
  pub whole : IsWhole new.system
  pub no_completions : NoCompletions new.system
  pub count : new.system.steps ≡ old.system.steps
  pub calls : HoldsCalls new.system.kernel new.bdos.service
  pub turn_steps : new.system.kernel.disk.turn_steps ≡ old.system.kernel.disk.turn_steps

-- a whole step was done, by what some file calls came to
pub record HasMadeStep {D : Type 0} (disks : D → Disks) (old new : Machine) (drives : D) : Type 0 where
  pub made : IsOfSome (λ (telling : Telling). (step_with telling old.system).system) new.system
  pub holds : HoldsDrives disks new.system.kernel new.bdos drives
  pub turn_steps : new.system.kernel.disk.turn_steps ≡ old.system.kernel.disk.turn_steps

-- at least one step was done, and at most so many
pub record HasAdvanced (most more : ℕ) (old new : Machine) : Type 0 where
  pub some : 0 < more
  pub few : more ≤ most
  pub leaves : StepsLeave more old new

-- Where a part stopped.

-- it stopped as a step began. Where the sink failed, what is kept and the images stand for files as the step leaves them to the disk
pub record StopsBeginning (fault : StepFault) (old_outside new_outside : Outside) (old : System) (kept : Kept) (disks : Disks) (files : FilesInService) : Type 0 where
  pub text : StopsBy fault old_outside new_outside (before_disk old files).emitted
  pub images : OnDiskFault fault (HaveImagesOf (FailsWithin (working_in old files)) disks kept.mounted)
  pub stands : OnWriteFault fault (StandsWorked old.kernel.disk kept disks (files_begun old files))

-- it stopped anywhere in a step
pub record StopsTaking (fault : StepFault) (old_outside new_outside : Outside) (old : System) (kept : Kept) (disks : Disks) (files : FilesInService) : Type 0 where
  pub text : StopsBy fault old_outside new_outside (stepped old files).change.emitted
  pub images : HaveImagesOf (StopsOn fault old files) disks kept.mounted

-- Of drives, whether a part stopped or not.

-- in a part that calls drives alone it is a drive that fails
abbrev pub of_drive : Failed → StepFault
of_drive failed = DiskFault

-- no drive is mounted, nor was: all are as before, and none failed
pub record StaysBare {D A E : Type 0} (fault : E → StepFault) (mounted : List (Option Directory)) (old new : D) (result : Result A E) : Type 0 where
  pub sink : IfErr result (λ error. fault error ≡ WriteFault)
  pub drives : new ≡ old
  pub bare : HasNoDrive mounted

-- each drive is that of the same name, of the same kind and size, as after a step; and where none is mounted the drives are as before
pub record UsesDrives {D A E : Type 0} (of : Ghosts D) (fault : E → StepFault) (old_mounted new_mounted : List (Option Directory)) (old new : D) (result : Result A E) : Type 0 where
  pub drives : LeavesDrives of old_mounted new_mounted old new
  pub none : HasNoDrive old_mounted → StaysBare fault new_mounted old new result

-- no drive was called, and none failed
pub record CallsNone {D A E : Type 0} (fault : E → StepFault) (old new : D) (old_calls new_calls : ℕ) (result : Result A E) : Type 0 where
  pub sink : IfErr result (λ error. fault error ≡ WriteFault)
  pub drives : new ≡ old
  pub calls : new_calls ≡ old_calls

-- where a step begins no drive was called, unless a file call was done at once on a drive while no other call was in service
pub record CallsAtOnce {D A : Type 0} (works : Bool) (served : Option Served) (old new : D) (old_calls new_calls : ℕ) (result : Result A StepFault) : Type 0 where
  pub idle : works ≡ false → CallsNone itself old new old_calls new_calls result
  pub apart : IsSome served → CallsNone itself old new old_calls new_calls result

-- a step that works on no drive calls none; one that does calls it at most 20 times a turn, and where turns have steps one turn is done
-- in a step
pub record CallsInStep {D A : Type 0} (disks : Disks) (machine : Machine) (old new : D) (old_calls new_calls : ℕ) (result : Result A StepFault) : Type 0 where
  pub rests : does_work machine.system ≡ false → CallsNone itself old new old_calls new_calls result
  pub calls : (files : FilesInService) → StandsForFiles machine.system.kernel.disk machine.bdos disks files
      → new_calls ≤ old_calls + 20 * turns_done (working_in machine.system files)
  pub few : 0 < machine.system.kernel.disk.turn_steps → new_calls ≤ old_calls + 20

-- Of a call on files.

-- the call of a process enters service with so many turns, in the situation of this moment
pub record StartsCall (p turns : ℕ) (system : System) (old new : Kept) : Type 0 where
  pub turns_are : (images : ℕ → List ℕ) (drives : List (Option Drive)) (function : FileFunction) → function_of (call_of system.kernel.dispatcher.procs p).function ≡ Some function
      → StandEach images old.mounted drives → turns ≡ call_turns (situation_of (filing_of old drives) function p system)
  pub serves : (images : ℕ → List ℕ) (drives : List (Option Drive)) (function : FileFunction) → function_of (call_of system.kernel.dispatcher.procs p).function ≡ Some function
      → StandEach images old.mounted drives → Serves images new (situation_of (filing_of old drives) function p system) 0
  pub entered : (function : FileFunction) → function_of (call_of system.kernel.dispatcher.procs p).function ≡ Some function
      → HasBegunService (caller_of p (looked_at (process_in system.kernel.dispatcher.procs p))) function (call_of system.kernel.dispatcher.procs p) new.service
  pub some : 0 < turns

-- a file call was done at once, as on these files. It came to its outcome, or a drive failed within one of its turns. Each turn called its
-- drive at most 20 times
pub record ComesToOutcome {E : Type 0} (filing : Filing) (p : ℕ) (system : System) (kept : Kept) (answer : Answer) (disks : Disks) (old_calls new_calls : ℕ) (result : Result (Option Extended) E) : Type 0 where
  pub ok : IfOk result (IsOutcome disks (outcome_in filing p system) kept answer)
  pub err : OnErr result (HaveImagesOf (FailsWithin (working_if true filing p system)) disks kept.mounted)
  pub calls : new_calls ≤ old_calls + 20 * turns_done (working_if true filing p system)

-- one that no disk serves came to its outcome, whether a call is in service or not
pub record CallsDirectly (p : ℕ) (system : System) (kept : Kept) (answer : Answer) (extended : Option Extended) : Type 0 where
  pub outcome : (disks : Disks) (filing : Filing) → StandsBetween kept disks filing → IsOutcome disks (outcome_in filing p system) kept answer extended
  pub within : (images : ℕ → List ℕ) (s : Situation) (j : ℕ) → Serves images kept s j
      → (answer ≡ (outcome_in s.filing p system).answer) × (extended ≡ (outcome_in s.filing p system).extended)

-- it is done at once, but for what becomes of its process. One that no disk serves fails on no drive, leaves what is kept of file calls, and
-- comes to the same within the call in service; after one that the disk serves no call is in service
pub record DoesCall {D : Type 0} (of : Ghosts D) (p : ℕ) (system : System) (old new : Kept) (answer : Answer) (old_drives new_drives : D) (old_calls new_calls : ℕ) (result : Result (Option Extended) Failed) : Type 0 where
  pub done : (filing : Filing) → StandsBetween old (of.disks old_drives) filing
      → ComesToOutcome filing p system new answer (of.disks new_drives) old_calls new_calls result
  pub uses : UsesDrives of of_drive old.mounted new.mounted old_drives new_drives result
  pub fits : FitsDrives of.disks new.mounted new.cached new_drives
  pub cause : HasCause (of.faults old_drives) (of.faults new_drives) result
  pub within : (images : ℕ → List ℕ) (s : Situation) (j : ℕ) → function_of (call_of system.kernel.dispatcher.procs p).function ≡ None → Serves images old s j
      → IfOk result (λ extended. (answer ≡ (outcome_in s.filing p system).answer) × (extended ≡ (outcome_in s.filing p system).extended))
  pub direct : function_of (call_of system.kernel.dispatcher.procs p).function ≡ None
      → IsOk result × (new ≡ old) × (new_drives ≡ old_drives) × (new_calls ≡ old_calls)
  pub service : IsSome (function_of (call_of system.kernel.dispatcher.procs p).function) → new.service ≡ None

-- the disk's work in a step: where this is the last one of a turn, that turn of the call in service is done on its drive
pub record WorksOnDrives {D A : Type 0} (of : Ghosts D) (system : System) (old new : Kept) (old_drives new_drives : D) (old_calls new_calls : ℕ) (result : Result A Failed) : Type 0 where
  pub ok : (files : FilesInService) → StandsForFiles system.kernel.disk old (of.disks old_drives) files
      → OnOk result (StandsWorked system.kernel.disk new (of.disks new_drives) files)
  pub err : (files : FilesInService) → StandsForFiles system.kernel.disk old (of.disks old_drives) files
      → OnErr result (HaveImagesOf (FailsWithin (working_turn_of system files)) (of.disks new_drives) new.mounted)
  pub uses : UsesDrives of of_drive old.mounted new.mounted old_drives new_drives result
  pub holds : HoldsKept of.disks system.kernel new new_drives
  pub workless : has_work old.service ≡ false → IsOk result
  pub idle : works_in_turn system ≡ false → CallsNone of_drive old_drives new_drives old_calls new_calls result
  pub few : new_calls ≤ old_calls + 20
  pub cause : HasCause (of.faults old_drives) (of.faults new_drives) result
