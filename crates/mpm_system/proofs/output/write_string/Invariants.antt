use Rattle.std.proofs.Common.{◌≡◌}
use Rattle.mpm_banks.specs.Memory.{byte_at}
use Rattle.mpm_gate.specs.Bytes.{bytes_from}
use Rattle.mpm_gate.specs.Texts.{text_from}
use Rattle.mpm_gate.specs.declared.take.TextEnd.TheVariants.{Dollar}
use Rattle.mpm_output.specs.Outside.{seen}
use Rattle.mpm_system.proofs.StringLaws.{WrittenTo}
use Rattle.mpm_system.proofs.output.write_string.Given as goal

abbrev pub invariant-loop-offset : goal.invariant-loop-offset
invariant-loop-offset g l = record {
  goes_on : text_from Dollar (byte_at l.banks l.seg) l.address l.offset ≡ bytes_from (byte_at l.banks l.seg) l.address l.offset;
  written : WrittenTo l.console l.initial.kernel l.kernel (seen g.S.Sink.written g.S.Sink.faults l.initial.render l.initial.sink)
      (seen g.S.Sink.written g.S.Sink.faults l.render l.sink) (bytes_from (byte_at l.banks l.seg) l.address l.offset);
}
