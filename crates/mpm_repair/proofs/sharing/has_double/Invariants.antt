use Rattle.std.proofs.Common.{◌≡◌, ℕ, ◌<◌, ◌==◌, ◌&&◌, not, false}
use Rattle.mpm_mount.specs.Faults.{block_at, has_at}
use Rattle.mpm_repair.proofs.sharing.has_double.Given as goal

abbrev pub invariant-loop-place : goal.invariant-loop-place
invariant-loop-place l = (k : ℕ) → k < l.place → (not (block_at l.file k == 0) && has_at l.file k (block_at l.file k)) ≡ false
