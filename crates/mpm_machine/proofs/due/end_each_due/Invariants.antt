use Rattle.mpm_output.specs.Outside.{seen}
use Rattle.mpm_system.specs.Whole.{IsWhole}
use Rattle.mpm_machine.proofs.DueLaws.{DueSo}
use Rattle.mpm_machine.proofs.due.end_each_due.Given as goal

abbrev pub invariant-loop-number : goal.invariant-loop-number
invariant-loop-number g l = record {
  so : DueSo l.initial.system l.system l.number (seen g.S.Sink.written g.S.Sink.faults l.initial.render l.initial.sink)
      (seen g.S.Sink.written g.S.Sink.faults l.render l.sink);
  whole : IsWhole l.system;
}
