use Rattle.std.proofs.Common.{◌≡◌, ℕ, ◌<◌, false}
use Rattle.std.specs.Prelude.{bytes_eq, decimal}
use Rattle.mpm_residents.proofs.tmp.line.user_number.Given as goal

abbrev pub invariant-loop-user : goal.invariant-loop-user
invariant-loop-user l = (k : ℕ) → k < l.user → bytes_eq (decimal k) l.digits ≡ false
