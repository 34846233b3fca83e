use Rattle.std.proofs.Common.{◌≡◌, ℕ, ◌<◌, get_or, true}
use Rattle.mpm_messages.specs.Texts.{is_text}
use Rattle.mpm_messages.proofs.text.text_length.Given as goal

abbrev pub invariant-loop-place : goal.invariant-loop-place
invariant-loop-place l = (k : ℕ) → k < l.place → is_text (get_or l.message k 0) ≡ true
