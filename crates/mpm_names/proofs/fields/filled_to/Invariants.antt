use Rattle.std.proofs.Common.{◌≡◌, ℕ, ◌<◌, get_or, length}
use Rattle.mpm_names.specs.Spellings.{kept_at}
use Rattle.mpm_names.proofs.fields.filled_to.Given as goal

abbrev pub invariant-loop-place : goal.invariant-loop-place
invariant-loop-place g l = record {
  size : length l.bytes ≡ l.place-end;
  done : (k : ℕ) → k < l.place → get_or l.bytes k 0 ≡ kept_at l.field l.star k;
}
