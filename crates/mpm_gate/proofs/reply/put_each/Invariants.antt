use Rattle.std.proofs.Common.{◌≡◌, drop}
use Rattle.mpm_banks.specs.Memory.{with_bytes}
use Rattle.mpm_gate.proofs.reply.put_each.Given as goal

abbrev pub invariant-loop-byte : goal.invariant-loop-byte
invariant-loop-byte l =
    with_bytes l.banks l.seg l.at (drop l.byte-index l.bytes) ≡ with_bytes l.initial.banks l.seg l.address l.bytes
