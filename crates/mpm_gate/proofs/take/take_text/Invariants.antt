use Rattle.std.proofs.Common.{◌≡◌}
use Rattle.mpm_banks.specs.Memory.{byte_at}
use Rattle.mpm_gate.specs.Bytes.{bytes_from}
use Rattle.mpm_gate.specs.Texts.{text_from}
use Rattle.mpm_gate.specs.Calls.{with_more}
use Rattle.mpm_gate.proofs.take.take_text.Given as goal

abbrev pub invariant-loop-k : goal.invariant-loop-k
invariant-loop-k l = record {
  taken : l.call ≡ with_more l.initial.call (bytes_from (byte_at l.banks l.seg) l.address l.k);
  goes_on : text_from l.end (byte_at l.banks l.seg) l.address l.k ≡ bytes_from (byte_at l.banks l.seg) l.address l.k;
}
