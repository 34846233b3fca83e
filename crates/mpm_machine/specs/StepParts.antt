-- A step and its parts, each as one relation between what is there before it and after it, whether it was done or stopped.
use Rattle.std.specs.Prelude.{◌≡◌, ℕ, ◌+◌, ◌*◌, ◌<◌, ◌≤◌, ◌&&◌, Bool, false, List, [], Option, None, Result, MatchResult, OnOk, OnErr, IfOk, IfErr, IsSome, is_some}
use Rattle.mpm_port.specs.Disks.{Disks}
use Rattle.mpm_port.specs.declared.Failed.{Failed}
use Rattle.mpm_port.specs.declared.drives.Drives.{Ghosts}
use Rattle.mpm_procs.specs.Table.{call_of}
use Rattle.mpm_mount.specs.Drives.{Drive}
use Rattle.mpm_service.specs.Disk.{HasBegun}
use Rattle.mpm_file_functions.specs.Functions.{function_of}
use Rattle.mpm_directories.specs.Direct.{Directly}
use Rattle.mpm_refusals.specs.Filing.{Filing, Situation}
use Rattle.mpm_bdos.specs.Jobs.{call_turns}
use Rattle.mpm_bdos.specs.Outcomes.{file_call}
use Rattle.mpm_bdos.specs.Serving.{Serves, filing_of}
use Rattle.mpm_bdos.specs.Turns.{has_work, images_of}
use Rattle.mpm_output.specs.Outside.{Outside}
use Rattle.mpm_output.specs.Writing.{CameOut, Stopped}
use Rattle.mpm_system.specs.Whole.{IsWhole, silent}
use Rattle.mpm_machine.specs.declared.machine.Machine.{Machine}
use Rattle.mpm_machine.specs.declared.machine.StepFault.{StepFault}
use Rattle.mpm_machine.specs.declared.machine.RunFault.{RunFault}
use Rattle.mpm_machine.specs.State.{State, IsAt, StandsWithDrives}
use Rattle.mpm_machine.specs.Files.{Between, StandsBetween, StandsWorked, StandsForFiles, drives_in, all_left}
use Rattle.mpm_machine.specs.Holding.{OwnsService, HoldsKept, HoldsDrives}
use Rattle.mpm_machine.specs.Faults.{itself, of_run, EndsByCause, EndsBySink, OnDiskFault, OnWriteFault}
use Rattle.mpm_machine.specs.Setup.{Setup, counts_of}
use Rattle.mpm_machine.specs.FileCalls.{file_caller}
use Rattle.mpm_machine.specs.DiskStep.{is_done_at_once, file_called, files_called, told_at_gate, told_of_call, call_over, disk_served, files_served, all_paid, call_entered, files_entered, turns_within}
use Rattle.mpm_machine.specs.Stepping.{Telling, is_instruction, entered_after, rest_of, nothing_told, told_within, telling_then, files_rest}
use Rattle.mpm_machine.specs.Mounting.{HasNoDrive}
use Rattle.mpm_machine.specs.Failing.{Left, FailsWithin, HaveImages, HaveImagesOf, turns_done, working_if, working_in, works_at_once}
use Rattle.mpm_machine.specs.After.{after, IsOfSome, StopsBy, HasBegunTo, HasEndedTo, HasSteppedTo, HasCalled, HasServedTo, EndKeeps}
use Rattle.mpm_machine.specs.OneStep.{StopsRun, turns_in}
use Rattle.mpm_machine.specs.Standing.{StandingFor, StandingWorked, StandingAt}
use Rattle.mpm_machine.specs.Parts.{MayEnd, HasBegunStep, HasMadeStep, HasAdvanced, HasEndedStep, StopsBeginning, StopsTaking, EndLeaves, UsesDrives, CallsAtOnce, CallsInStep}

-- Parts that call drives.

-- a whole step: first the disk's work, then what the step begins with, then its rest
pub record TakesStep {D A : Type 0} (of : Ghosts D) (old new : Setup D) (result : Result A StepFault) : Type 0 where
  pub ok : StandingFor old.machine (of.disks old.drives) (λ files. OnOk result (HasSteppedTo files old.outside new.outside old.machine.system new.machine.system new.machine.bdos (of.disks new.drives)))
  pub stops : StandingFor old.machine (of.disks old.drives) (λ files. IfErr result (λ fault. StopsTaking fault old.outside new.outside old.machine.system new.machine.bdos (of.disks new.drives) files))
  pub made : OnOk result (HasMadeStep of.disks old.machine new.machine new.drives)
  pub uses : UsesDrives of itself old.machine.bdos.mounted new.machine.bdos.mounted old.drives new.drives result
  pub calls : CallsInStep (of.disks old.drives) old.machine old.drives new.drives old.calls new.calls result
  pub ends : EndsByCause itself old.outside.kept.trace new.outside.kept.trace (counts_of of old) (counts_of of new) result

-- what a step begins with, and the held calls that this completed; it answers whether that was an instruction
pub record BeginsStep {D : Type 0} (of : Ghosts D) (old new : Setup D) (result : Result Bool StepFault) : Type 0 where
  pub ok : StandingWorked old.machine (of.disks old.drives) (λ files. OnOk result (HasBegunTo files old.outside new.outside old.machine.system new.machine.system new.machine.bdos (of.disks new.drives)))
  pub stops : StandingWorked old.machine (of.disks old.drives) (λ files. IfErr result (λ fault. StopsBeginning fault old.outside new.outside old.machine.system new.machine.bdos (of.disks new.drives) files))
  pub instruction : IfOk result (λ instruction. instruction ≡ is_instruction (file_caller old.machine.system) old.machine.system)
  pub begun : OnOk result (HasBegunStep of.disks old.machine new.machine new.drives)
  pub uses : UsesDrives of itself old.machine.bdos.mounted new.machine.bdos.mounted old.drives new.drives result
  pub rests : CallsAtOnce (works_at_once (file_caller old.machine.system) old.machine.system) old.machine.system.kernel.disk.served old.drives new.drives old.calls new.calls result
  pub calls : StandingWorked old.machine (of.disks old.drives) (λ files. new.calls ≤ old.calls + 20 * turns_done (working_in old.machine.system files))
  pub ends : EndsByCause itself old.outside.kept.trace new.outside.kept.trace (counts_of of old) (counts_of of new) result

-- a file call that a process has made is done at once, or waits for the disk
pub record CallsFiles {D A : Type 0} (of : Ghosts D) (p : ℕ) (old new : Setup D) (result : Result A StepFault) : Type 0 where
  pub ok : StandingWorked old.machine (of.disks old.drives) (λ files. OnOk result (HasCalled (told_at_gate p old.machine.system files) p old.outside new.outside old.machine.system new.machine.system
      × StandsWorked new.machine.system.kernel.disk new.machine.bdos (of.disks new.drives) (files_called p old.machine.system files)))
  pub err : StandingWorked old.machine (of.disks old.drives) (λ files. IfErr result (λ fault. StopsBy fault old.outside new.outside (file_called (told_at_gate p old.machine.system files) p old.machine.system).emitted))
  pub images : (filing : Filing) → StandsWorked old.machine.system.kernel.disk old.machine.bdos (of.disks old.drives) (Between filing)
      → IfErr result (λ fault. OnDiskFault fault (HaveImagesOf (FailsWithin (working_if (is_done_at_once p old.machine.system) filing p old.machine.system)) (of.disks new.drives) new.machine.bdos.mounted))
  pub stands : StandingWorked old.machine (of.disks old.drives) (λ files. IfErr result (λ fault. OnWriteFault fault (StandsWorked old.machine.system.kernel.disk new.machine.bdos (of.disks new.drives) (files_called p old.machine.system files))))
  pub made : OnOk result (IsOfSome (λ (told : Directly). (file_called told p old.machine.system).system) new.machine.system)
  pub uses : UsesDrives of itself old.machine.bdos.mounted new.machine.bdos.mounted old.drives new.drives result
  pub holds : HoldsKept of.disks old.machine.system.kernel new.machine.bdos new.drives
  pub rests : CallsAtOnce (is_some (function_of (call_of old.machine.system.kernel.dispatcher.procs p).function) && is_done_at_once p old.machine.system) old.machine.system.kernel.disk.served
      old.drives new.drives old.calls new.calls result
  pub calls : (filing : Filing) → StandsWorked old.machine.system.kernel.disk old.machine.bdos (of.disks old.drives) (Between filing)
      → new.calls ≤ old.calls + 20 * turns_done (working_if (is_done_at_once p old.machine.system) filing p old.machine.system)
  pub ends : EndsByCause itself old.outside.kept.trace new.outside.kept.trace (counts_of of old) (counts_of of new) result

-- what a part leaves with which a run stopped
abbrev pub left_in : {D : Type 0} → Ghosts D → Setup D → Left
left_in of setup = record { kept = setup.outside.kept; written = setup.outside.written; disks = of.disks setup.drives; mounted = setup.machine.bdos.mounted }

-- at least one step and at most so many; it answers how many
pub record Advances {D : Type 0} (of : Ghosts D) (most : ℕ) (old new : Setup D) (result : Result ℕ RunFault) : Type 0 where
  pub ok : StandingAt old.machine old.outside.kept old.outside.written (of.disks old.drives) (λ s first. IfOk result (λ more. StandsWithDrives new.machine new.outside.kept new.outside.written (of.disks new.drives) (after more s) first))
  pub model : (s : State) → IsAt old.machine (of.disks old.drives) s → IfOk result (λ more. IsAt new.machine (of.disks new.drives) (after more s))
  pub stops : StandingAt old.machine old.outside.kept old.outside.written (of.disks old.drives) (λ s first. IfErr result (λ error. StopsRun error old.outside.kept.trace (left_in of new) most s first))
  pub advanced : IfOk result (λ more. HasAdvanced most more old.machine new.machine)
  pub holds : OnOk result (HoldsDrives of.disks new.machine.system.kernel new.machine.bdos new.drives)
  pub uses : UsesDrives of of_run old.machine.bdos.mounted new.machine.bdos.mounted old.drives new.drives result
  pub calls : (s : State) → IsAt old.machine (of.disks old.drives) s → MatchResult result (λ more. new.calls ≤ old.calls + 20 * turns_in more s) (λ _. new.calls ≤ old.calls + 20 * turns_in most s)
  pub few : 0 < old.machine.system.kernel.disk.turn_steps → MatchResult result (λ more. new.calls ≤ old.calls + 20 * more) (λ _. new.calls ≤ old.calls + 20 * most)
  pub ends : EndsByCause of_run old.outside.kept.trace new.outside.kept.trace (counts_of of old) (counts_of of new) result

-- Parts that call no drive.

-- the rest of a step, after what it begins with, which was an instruction or not
pub record EndsStep {A : Type 0} (instruction : Bool) (old_outside new_outside : Outside) (old new : Machine) (result : Result A Failed) : Type 0 where
  pub ok : (disks : Disks) → StandingWorked old disks (λ files. OnOk result (HasEndedTo instruction files old_outside new_outside old.system new.system new.bdos disks))
  pub err : (disks : Disks) → StandingWorked old disks (λ files. OnErr result (Stopped old_outside new_outside (rest_of instruction (telling_then nothing_told old.system files) (silent old.system)).emitted))
  pub stands : (disks : Disks) → StandingWorked old disks (λ files. OnErr result (HaveImages disks new.bdos.mounted (drives_in (rest_of instruction (telling_then nothing_told old.system files) (silent old.system)).system.kernel.disk.served (files_rest old.system files))))
  pub made : OnOk result (IsOfSome (λ (telling : Telling). (rest_of instruction telling (silent old.system)).system) new.system)
  pub ended : OnOk result (HasEndedStep old new)
  pub leaves : EndLeaves old.bdos new.bdos
  pub ends : EndsBySink old_outside.kept.trace new_outside.kept.trace old_outside.faults.sink new_outside.faults.sink result

-- the disk's step
pub record ServesDisk {A : Type 0} (old_outside new_outside : Outside) (old new : Machine) (result : Result A Failed) : Type 0 where
  pub ok : (disks : Disks) → StandingWorked old disks (λ files. OnOk result (HasServedTo files old_outside new_outside old.system new.system new.bdos disks))
  pub err : (disks : Disks) → StandingWorked old disks (λ files. OnErr result (Stopped old_outside new_outside (disk_served (told_within files old.system) old.system).emitted))
  pub made : OnOk result (IsOfSome (λ (telling : Telling). entered_after telling old.system) new.system)
  pub may : OnOk result (MayEnd new)
  pub leaves : EndLeaves old.bdos new.bdos
  pub ends : EndsBySink old_outside.kept.trace new_outside.kept.trace old_outside.faults.sink new_outside.faults.sink result

-- a step of the call in service, if there is one
pub record PassesTurn {A : Type 0} (old_outside new_outside : Outside) (old new : Machine) (result : Result A Failed) : Type 0 where
  pub ok : (disks : Disks) → StandingWorked old disks (λ files. OnOk result (new.system ≡ (disk_served (told_within files old.system) old.system).system
      × CameOut old_outside new_outside (disk_served (told_within files old.system) old.system).emitted
      × StandsForFiles new.system.kernel.disk new.bdos disks (files_served old.system files)))
  pub err : (disks : Disks) → StandingWorked old disks (λ files. OnErr result (Stopped old_outside new_outside (disk_served (told_within files old.system) old.system).emitted))
  pub made : OnOk result (IsOfSome (λ (told : Directly). (disk_served told old.system).system) new.system)
  pub may : OnOk result (MayEnd new)
  pub leaves : EndLeaves old.bdos new.bdos
  pub ends : EndsBySink old_outside.kept.trace new_outside.kept.trace old_outside.faults.sink new_outside.faults.sink result

-- the call of a process is over, whose turns were served, and is answered
pub record AnswersCall {A : Type 0} (p : ℕ) (old_outside new_outside : Outside) (old new : Machine) (result : Result A Failed) : Type 0 where
  pub ok : (disks : Disks) (s : Situation) → Serves (images_of disks) old.bdos s (call_turns s) → s.caller.process ≡ p
      → OnOk result ((new.system ≡ (call_over (told_of_call s p old.system) p old.system).system)
      × CameOut old_outside new_outside (call_over (told_of_call s p old.system) p old.system).emitted
      × StandsBetween new.bdos disks (file_call s).filing)
  pub err : (disks : Disks) (s : Situation) → Serves (images_of disks) old.bdos s (call_turns s) → s.caller.process ≡ p
      → OnErr result (Stopped old_outside new_outside (call_over (told_of_call s p old.system) p old.system).emitted)
  pub made : OnOk result (IsOfSome (λ (told : Directly). (call_over told p old.system).system) new.system)
  pub idle : new.bdos.service ≡ None
  pub whole : OnOk result (IsWhole new.system)
  pub completed : OnOk result (new.system.kernel.dispatcher.completed ≡ [])
  pub kept : EndKeeps old.bdos new.bdos
  pub ends : EndsBySink old_outside.kept.trace new_outside.kept.trace old_outside.faults.sink new_outside.faults.sink result

-- where no call is in service, those who ended give back what they had open, marked and sought
pub record PaysBack (old new : Machine) : Type 0 where
  pub system : new.system ≡ all_paid old.system
  pub reply : new.reply ≡ old.reply
  pub rest : new.bdos ≡ record old.bdos { opens = new.bdos.opens; marks = new.bdos.marks; searches = new.bdos.searches }
  pub served : IsSome old.system.kernel.disk.served → new ≡ old
  pub filing : old.system.kernel.disk.served ≡ None → (drives : List (Option Drive))
      → filing_of new.bdos drives ≡ all_left old.system.owed (filing_of old.bdos drives)

-- where no call is in service, the first that waits enters it, if one does
pub record EntersCall (old new : Machine) : Type 0 where
  pub ok : (disks : Disks) → StandingFor old disks (λ files. (new.system ≡ call_entered (turns_within (files_entered old.system files)) old.system)
      × StandsForFiles new.system.kernel.disk new.bdos disks (files_entered old.system files))
  pub served : IsSome old.system.kernel.disk.served → new ≡ old
  pub made : IsOfSome (λ (turns : ℕ). call_entered turns old.system) new.system
  pub whole : IsWhole new.system
  pub begun : HasBegun new.system.kernel.disk
  pub own : OwnsService new.system.kernel new.bdos.service
  pub kept : new.bdos ≡ record old.bdos { service = new.bdos.service }
  pub workless : HasNoDrive old.bdos.mounted → has_work old.bdos.service ≡ false → has_work new.bdos.service ≡ false
  pub reply : new.reply ≡ old.reply
