use Rattle.std.proofs.Common.{◌≡◌, ℕ, ◌<◌, get_or, true}
use Rattle.mpm_command.specs.Texts.{is_of}
use Rattle.mpm_command.proofs.text.run_length.Given as goal

abbrev pub invariant-loop-place : goal.invariant-loop-place
invariant-loop-place l = (k : ℕ) → k < l.place → is_of l.kind (get_or l.text k 0) ≡ true
