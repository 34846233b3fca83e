-- The end of a run and its parts, each as one relation between what is there before it and after it, whether it was done or stopped.
use Rattle.std.specs.Prelude.{◌≡◌, ℕ, ◌++◌, ◌+◌, ◌<◌, ◌≤◌, List, [], length, None, Result, OnOk, OnErr, IfErr, IsSome}
use Rattle.mpm_port.specs.Disks.{Disks}
use Rattle.mpm_port.specs.Frames.{SameDrives}
use Rattle.mpm_port.specs.declared.Failed.{Failed}
use Rattle.mpm_port.specs.declared.drives.Drives.{Ghosts}
use Rattle.mpm_render.specs.Outputs.{Output, rendered, closed}
use Rattle.mpm_render.specs.Shown.{Shows}
use Rattle.mpm_output.specs.Outside.{Outside}
use Rattle.mpm_output.specs.Writing.{Stopped}
use Rattle.mpm_kernel.specs.Disk.{IsOver}
use Rattle.mpm_refusals.specs.Filing.{Situation}
use Rattle.mpm_bdos.specs.Jobs.{call_turns}
use Rattle.mpm_bdos.specs.Serving.{Serves}
use Rattle.mpm_bdos.specs.Syncing.{mounted_count}
use Rattle.mpm_bdos.specs.Turns.{FitsDrives, images_of}
use Rattle.mpm_system.specs.declared.system.System.{System}
use Rattle.mpm_system.specs.Whole.{IsWhole, HasRoomForAll}
use Rattle.mpm_machine.specs.declared.machine.Machine.{Machine}
use Rattle.mpm_machine.specs.declared.machine.StepFault.{StepFault}
use Rattle.mpm_machine.specs.Files.{Within, filing_in}
use Rattle.mpm_machine.specs.Faults.{itself, EndsBy, EndsByCause, EndsBySink, OnDiskFault}
use Rattle.mpm_machine.specs.Setup.{Setup, counts_of}
use Rattle.mpm_machine.specs.Failing.{HaveImages}
use Rattle.mpm_machine.specs.Settling.{HasCarried, StopsCarrying, carried_out, turns_passed}
use Rattle.mpm_machine.specs.After.{EndKeeps}
use Rattle.mpm_machine.specs.AtEnd.{drive_calls, TurnsCall, SyncsAll, SyncsTo}
use Rattle.mpm_machine.specs.Standing.{StandingFor}
use Rattle.mpm_machine.specs.Parts.{UsesDrives}

-- the call in service, if there is one, is carried to its end
pub record Carries {D A : Type 0} (of : Ghosts D) (old new : Setup D) (result : Result A StepFault) : Type 0 where
  pub ok : StandingFor old.machine (of.disks old.drives) (λ files. OnOk result (HasCarried files old.outside new.outside old.machine.system new.machine.system new.machine.bdos (of.disks new.drives)))
  pub err : StandingFor old.machine (of.disks old.drives) (λ files. IfErr result (λ fault. StopsCarrying fault files old.outside new.outside old.machine.system new.machine.bdos.mounted (of.disks new.drives)))
  pub whole : OnOk result (IsWhole new.machine.system)
  pub serves : OnErr result (IsSome old.machine.system.kernel.disk.served)
  pub idle : old.machine.system.kernel.disk.served ≡ None → new.drives ≡ old.drives
  pub uses : UsesDrives of itself old.machine.bdos.mounted new.machine.bdos.mounted old.drives new.drives result
  pub called : TurnsCall old.machine.system old.machine.bdos (drive_calls of.unsynced old.drives old.calls) (drive_calls of.unsynced new.drives new.calls)
  pub fits : FitsDrives of.disks new.machine.bdos.mounted new.machine.bdos.cached new.drives
  pub ends : EndsByCause itself old.outside.kept.trace new.outside.kept.trace (counts_of of old) (counts_of of new) result

-- the turns of a call were done, which what is kept of file calls has in service still: it may be answered
pub record MayAnswerCall (p : ℕ) (machine : Machine) : Type 0 where
  pub whole : IsWhole machine.system
  pub over : IsOver p machine.system.kernel
  pub room : HasRoomForAll (length machine.system.records + 1)
  pub held : IsSome machine.bdos.service

-- the turns of a call were done, which is in service still, the disk serves none, and no record is left to be written: it may be answered
pub record MayEndLast (p : ℕ) (machine : Machine) : Type 0 where
  pub whole : IsWhole machine.system
  pub over : IsOver p machine.system.kernel
  pub none : machine.system.records ≡ []
  pub idle : machine.system.kernel.disk.served ≡ None
  pub held : IsSome machine.bdos.service

-- after its turns it is answered, and the ends that are due come
pub record EndsCall {A : Type 0} (p : ℕ) (old_outside new_outside : Outside) (old new : Machine) (result : Result A Failed) : Type 0 where
  pub ok : (disks : Disks) (s : Situation) (before : System) → Serves (images_of disks) old.bdos s (call_turns s) → s.caller.process ≡ p → old.system ≡ turns_passed before
      → OnOk result (HasCarried (Within s) old_outside new_outside before new.system new.bdos disks)
  pub err : (disks : Disks) (s : Situation) (before : System) → Serves (images_of disks) old.bdos s (call_turns s) → s.caller.process ≡ p → old.system ≡ turns_passed before
      → OnErr result (Stopped old_outside new_outside (carried_out s before).change.emitted × HaveImages disks new.bdos.mounted (filing_in (carried_out s before).files).drives)
  pub whole : OnOk result (IsWhole new.system)
  pub ends : EndsBySink old_outside.kept.trace new_outside.kept.trace old_outside.faults.sink new_outside.faults.sink result
  pub kept : EndKeeps old.bdos new.bdos

-- each drive is synced, in order of the letters, and unfinished lines are closed
pub record SyncsAndCloses {D A : Type 0} (of : Ghosts D) (old new : Setup D) (result : Result A StepFault) : Type 0 where
  pub ok : (outputs : List Output) (first : List ℕ) → Shows old.outside.kept old.outside.written outputs first
      → OnOk result (new.outside.written ≡ first ++ closed old.outside.kept.trace outputs)
  pub err : (outputs : List Output) (first : List ℕ) → Shows old.outside.kept old.outside.written outputs first
      → IfErr result (λ fault. EndsBy fault new.outside.written first (rendered old.outside.kept.trace outputs) (closed old.outside.kept.trace outputs))
  pub unwritten : IfErr result (λ fault. OnDiskFault fault (new.outside ≡ old.outside))
  pub some : IfErr result (λ fault. OnDiskFault fault (0 < mounted_count old.machine.bdos.mounted))
  pub ends : EndsByCause itself old.outside.kept.trace new.outside.kept.trace (counts_of of old) (counts_of of new) result
  pub calls : new.calls ≤ old.calls + mounted_count old.machine.bdos.mounted
  pub synced : OnOk result (SyncsAll old.machine.bdos.mounted (drive_calls of.unsynced old.drives old.calls) (drive_calls of.unsynced new.drives new.calls))
  pub syncs : IfErr result (λ fault. SyncsTo fault old.machine.bdos.mounted (drive_calls of.unsynced old.drives old.calls) (drive_calls of.unsynced new.drives new.calls))
  pub drives : SameDrives of old.drives new.drives
  pub none : mounted_count old.machine.bdos.mounted ≡ 0 → new.drives ≡ old.drives
