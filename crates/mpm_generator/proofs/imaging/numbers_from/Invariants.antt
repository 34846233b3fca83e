use Rattle.std.proofs.Common.{◌≡◌, ℕ, ◌<◌, ◌≤◌, get_or, length}
use Rattle.mpm_generator.specs.Images.{number_at}
use Rattle.mpm_generator.proofs.imaging.numbers_from.Given as goal

abbrev pub invariant-loop-place : goal.invariant-loop-place
invariant-loop-place l = record {
  size : length l.numbers ≡ 16;
  done : (k : ℕ) → k < l.place → get_or l.numbers k 0 ≡ number_at l.first l.count k;
  left : (k : ℕ) → l.place ≤ k → get_or l.numbers k 0 ≡ 0;
}
