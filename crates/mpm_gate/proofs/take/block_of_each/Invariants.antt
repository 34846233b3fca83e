use Rattle.std.proofs.Common.{◌≡◌, ℕ, ◌<◌, length, get_or}
use Rattle.z80_regs.specs.Words.{onward}
use Rattle.mpm_banks.specs.Memory.{byte_at}
use Rattle.mpm_gate.proofs.take.block_of_each.Given as goal

abbrev pub invariant-loop-k : goal.invariant-loop-k
invariant-loop-k l = record {
  size : length l.block ≡ 36;
  read : (j : ℕ) → j < l.k → get_or l.block j 0 ≡ byte_at l.banks l.seg (onward l.address j);
}
