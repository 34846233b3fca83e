use Rattle.std.proofs.Common.{◌≡◌, ℕ, ◌<◌, ◌%◌, get_or, length}
use Rattle.std.specs.Prelude.{nat_le}
use Rattle.mpm_files.proofs.marking.marked.Given as goal

abbrev pub invariant-loop-place : goal.invariant-loop-place
invariant-loop-place l = record {
  size : length l.marked ≡ 11;
  rest : (k : ℕ) → k < l.place → get_or l.marked k 0 % 128 ≡ get_or l.name k 0 % 128;
  marks : (k : ℕ) → k < l.place → nat_le 128 (get_or l.marked k 0) ≡ nat_le 128 (get_or l.marks k 0);
}
