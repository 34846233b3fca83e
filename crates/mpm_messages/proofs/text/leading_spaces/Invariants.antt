use Rattle.std.proofs.Common.{◌≡◌, ℕ, ◌<◌, get_or, true}
use Rattle.mpm_messages.specs.Texts.{is_space}
use Rattle.mpm_messages.proofs.text.leading_spaces.Given as goal

abbrev pub invariant-loop-place : goal.invariant-loop-place
invariant-loop-place l = (k : ℕ) → k < l.place → is_space (get_or l.text k 0) ≡ true
