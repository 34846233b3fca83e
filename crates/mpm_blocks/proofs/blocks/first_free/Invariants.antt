use Rattle.std.proofs.Common.{◌≡◌, ℕ, ◌<◌, get_or, false, not}
use Rattle.mpm_blocks.proofs.blocks.first_free.Given as goal

abbrev pub invariant-loop-block : goal.invariant-loop-block
invariant-loop-block l = (k : ℕ) → k < l.block → not (get_or l.used k false) ≡ false
