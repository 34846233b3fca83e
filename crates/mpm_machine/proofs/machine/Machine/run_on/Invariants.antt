use Rattle.std.proofs.Common.{◌≤◌, ◌-◌}
use Rattle.mpm_output.specs.Outside.{seen}
use Rattle.mpm_machine.specs.Moving.{RunsAhead}
use Rattle.mpm_machine.specs.Quietly.{WentOn}
use Rattle.mpm_machine.proofs.machine.Machine.run_on.Given as goal

abbrev pub invariant-loop-done : goal.invariant-loop-done
invariant-loop-done g l = record {
  count : l.done ≤ l.most;
  went : WentOn g.D.Drives.disks l.drives (seen g.S.Sink.written g.S.Sink.faults l.render l.sink) l.done l.initial.self l.self;
  ahead : RunsAhead l.here l.self.system;
}

abbrev pub decreases-loop-done : goal.decreases-loop-done
decreases-loop-done g l = l.most - l.done
