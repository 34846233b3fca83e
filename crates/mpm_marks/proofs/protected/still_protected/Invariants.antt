use Rattle.std.proofs.Common.{◌≡◌, ℕ, ◌<◌, false, get_or, length}
use Rattle.mpm_marks.specs.Protected.{is_still_protected}
use Rattle.mpm_marks.proofs.protected.still_protected.Given as goal

abbrev pub invariant-loop-drive : goal.invariant-loop-drive
invariant-loop-drive l = record {
  size : length l.protected ≡ 16;
  done : (k : ℕ) → k < l.drive → get_or l.protected k false ≡ is_still_protected l.drives l.mask k;
}
