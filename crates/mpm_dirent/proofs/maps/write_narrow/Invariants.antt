use Rattle.std.proofs.Common.{◌≡◌, ℕ, ◌<◌, get_or, length}
use Rattle.mpm_dirent.proofs.maps.write_narrow.Given as goal

abbrev pub invariant-loop-place : goal.invariant-loop-place
invariant-loop-place l = record {
  size : length l.map ≡ 16;
  done : (k : ℕ) → k < l.place → get_or l.map k 0 ≡ get_or l.blocks k 0;
}
