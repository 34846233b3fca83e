use Rattle.std.proofs.Common.{◌≡◌, ℕ, ◌<◌, ◌≤◌, get_or, length}
use Rattle.mpm_prl.specs.Relocation.{relocated_byte}
use Rattle.mpm_prl.proofs.relocation.patch.Given as goal

abbrev pub invariant-loop-place : goal.invariant-loop-place
invariant-loop-place l = record {
  size : length l.code ≡ length l.initial.code;
  done : (k : ℕ) → k < l.place → get_or l.code k 0 ≡ relocated_byte l.initial.code l.bits l.page k;
  left : (k : ℕ) → l.place ≤ k → get_or l.code k 0 ≡ get_or l.initial.code k 0;
}
