use Rattle.std.proofs.Common.{◌≡◌, ℕ, ◌<◌, false}
use Rattle.mpm_mount.specs.Faults.{is_outside}
use Rattle.mpm_mount.proofs.blocks.has_outside.Given as goal

abbrev pub invariant-loop-place : goal.invariant-loop-place
invariant-loop-place l = (k : ℕ) → k < l.place → is_outside l.kind l.file k ≡ false
