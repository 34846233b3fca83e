use Rattle.std.proofs.Common.{◌≡◌, ℕ, ◌<◌, false, get_or, length}
use Rattle.std.specs.Prelude.{nat_le}
use Rattle.mpm_mount.proofs.looking.attributes_of.Given as goal

abbrev pub invariant-loop-place : goal.invariant-loop-place
invariant-loop-place l = record {
  size : length l.attributes ≡ 11;
  done : (k : ℕ) → k < l.place → get_or l.attributes k false ≡ nat_le 128 (get_or l.name k 0);
}
