use Rattle.std.proofs.Common.{drop}
use Rattle.mpm_output.specs.Outside.{seen}
use Rattle.mpm_system.proofs.WrittenLaws.{WrittenSo}
use Rattle.mpm_system.proofs.records.Records.write.Given as goal

abbrev pub invariant-loop-call : goal.invariant-loop-call
invariant-loop-call g l = record {
  so : WrittenSo l.self (drop l.call-index l.self) (seen g.S.Sink.written g.S.Sink.faults l.initial.render l.initial.sink)
      (seen g.S.Sink.written g.S.Sink.faults l.render l.sink);
}
