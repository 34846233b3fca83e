use Rattle.std.proofs.Common.{take}
use Rattle.mpm_procs.specs.Table.{call_of}
use Rattle.mpm_output.specs.Outside.{seen}
use Rattle.mpm_system.proofs.StringLaws.{WrittenTo}
use Rattle.mpm_system.proofs.output.write_kept.Given as goal

abbrev pub invariant-loop-place : goal.invariant-loop-place
invariant-loop-place g l = record {
  written : WrittenTo l.console l.initial.kernel l.kernel (seen g.S.Sink.written g.S.Sink.faults l.initial.render l.initial.sink)
      (seen g.S.Sink.written g.S.Sink.faults l.render l.sink) (take l.place (call_of l.initial.kernel.dispatcher.procs l.p).bytes);
}
