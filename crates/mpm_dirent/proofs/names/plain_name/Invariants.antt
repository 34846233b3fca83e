use Rattle.std.proofs.Common.{◌≡◌, ℕ, ◌<◌, ◌%◌, get_or, length}
use Rattle.mpm_dirent.proofs.names.plain_name.Given as goal

abbrev pub invariant-loop-place : goal.invariant-loop-place
invariant-loop-place l = record {
  size : length l.plain ≡ 11;
  done : (k : ℕ) → k < l.place → get_or l.plain k 0 ≡ get_or l.name k 0 % 128;
}
