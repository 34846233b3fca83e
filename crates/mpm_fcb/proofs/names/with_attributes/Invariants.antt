use Rattle.std.proofs.Common.{◌≡◌, ℕ, ◌<◌, get_or, length}
use Rattle.mpm_fcb.specs.Names.{attributed_at}
use Rattle.mpm_fcb.proofs.names.with_attributes.Given as goal

abbrev pub invariant-loop-place : goal.invariant-loop-place
invariant-loop-place l = record {
  size : length l.named ≡ 11;
  done : (k : ℕ) → k < l.place → get_or l.named k 0 ≡ attributed_at l.name l.attributes k;
}
