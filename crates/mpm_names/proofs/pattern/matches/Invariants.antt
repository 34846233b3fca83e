use Rattle.std.proofs.Common.{◌≡◌, ℕ, ◌<◌, true}
use Rattle.mpm_names.specs.Matching.{fits_at}
use Rattle.mpm_names.proofs.pattern.matches.Given as goal

abbrev pub invariant-loop-place : goal.invariant-loop-place
invariant-loop-place l = (k : ℕ) → k < l.place → fits_at l.pattern l.name k ≡ true
