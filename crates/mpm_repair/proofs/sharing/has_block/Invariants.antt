use Rattle.std.proofs.Common.{◌≡◌, ℕ, ◌<◌, ◌==◌, false}
use Rattle.mpm_mount.specs.Faults.{block_at}
use Rattle.mpm_repair.proofs.sharing.has_block.Given as goal

abbrev pub invariant-loop-place : goal.invariant-loop-place
invariant-loop-place l = (k : ℕ) → k < l.place → (block_at l.file k == l.block) ≡ false
