use Rattle.std.proofs.Common.{◌≡◌, ◌≤◌, ◌<◌, ◌+◌, ◌*◌, ℕ, true, List}
use Rattle.mpm_system.specs.Whole.{IsWhole, NoCompletions}
use Rattle.mpm_machine.specs.State.{State, IsAt, StandsWithDrives}
use Rattle.mpm_machine.specs.Holding.{HoldsDrives}
use Rattle.mpm_machine.specs.Due.{NobodyDue}
use Rattle.mpm_machine.specs.Interpreting.{Interprets}
use Rattle.mpm_machine.specs.Mounting.{HasNoDrive, KeepsMounted}
use Rattle.mpm_machine.specs.Faults.{counts}
use Rattle.mpm_machine.specs.After.{after}
use Rattle.mpm_machine.proofs.machine.Machine.run.Given as goal
use Rattle.mpm_machine.specs.OneStep.{turns_in}

abbrev pub invariant-loop-left : goal.invariant-loop-left
invariant-loop-left g l = record {
  done : ℕ;
  is : done + l.left ≡ l.n;
  stands : (s : State) (first : List ℕ)
      → StandsWithDrives l.initial.self l.initial.render (g.S.Sink.written l.initial.sink) (g.D.Drives.disks l.initial.drives) s first
      → StandsWithDrives l.self l.render (g.S.Sink.written l.sink) (g.D.Drives.disks l.drives) (after done s) first;
  model : (s : State) → IsAt l.initial.self (g.D.Drives.disks l.initial.drives) s → IsAt l.self (g.D.Drives.disks l.drives) (after done s);
  interprets : Interprets l.initial.self.system → Interprets l.self.system;
  due : 0 < done → NobodyDue l.self.system.kernel;
  few : done ≤ l.n;
  whole : IsWhole l.self.system;
  no_completions : NoCompletions l.self.system;
  steps : l.self.system.steps ≡ l.initial.self.system.steps + done;
  faults : counts g.S.Sink.faults g.D.Drives.faults l.sink l.drives ≡ counts g.S.Sink.faults g.D.Drives.faults l.initial.sink l.initial.drives;
  trace : l.render.trace ≡ l.initial.render.trace;
  holds : HoldsDrives g.D.Drives.disks l.self.system.kernel l.self.bdos l.drives;
  names : g.D.Drives.failed_names l.drives ≡ g.D.Drives.failed_names l.initial.drives;
  keeps : KeepsMounted (g.D.Drives.told l.initial.drives) (g.D.Drives.told l.drives) (g.D.Drives.disks l.initial.drives) (g.D.Drives.disks l.drives) l.initial.self.bdos.mounted l.self.bdos.mounted;
  bare : HasNoDrive l.initial.self.bdos.mounted → HasNoDrive l.self.bdos.mounted;
  still : done ≡ 0 → l.drives ≡ l.initial.drives;
  none : HasNoDrive l.initial.self.bdos.mounted → l.drives ≡ l.initial.drives;
  calls : (s : State) → IsAt l.initial.self (g.D.Drives.disks l.initial.drives) s → l.calls ≤ l.initial.calls + 20 * turns_in done s;
  few_calls : 0 < l.initial.self.system.kernel.disk.turn_steps → l.calls ≤ l.initial.calls + 20 * done;
  turn_steps : l.self.system.kernel.disk.turn_steps ≡ l.initial.self.system.kernel.disk.turn_steps;
  unsynced : (number : ℕ) → g.D.Drives.unsynced l.initial.drives number ≡ true → g.D.Drives.unsynced l.drives number ≡ true;
}

abbrev pub decreases-loop-left : goal.decreases-loop-left
decreases-loop-left g l = l.left
