use Rattle.std.proofs.Common.{take}
use Rattle.mpm_output.specs.Outside.{seen}
use Rattle.mpm_output.specs.Writing.{spoken, CameOut}
use Rattle.mpm_output.proofs.console.put_bytes.Given as goal

abbrev pub invariant-loop-byte : goal.invariant-loop-byte
invariant-loop-byte g l = record {
  wrote : CameOut (seen g.S.Sink.written g.S.Sink.faults l.initial.render l.initial.sink) (seen g.S.Sink.written g.S.Sink.faults l.render l.sink)
      (spoken l.console (take l.byte-index l.bytes));
}
