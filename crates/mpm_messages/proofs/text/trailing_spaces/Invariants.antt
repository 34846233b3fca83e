use Rattle.std.proofs.Common.{◌≡◌, ℕ, ◌<◌, ◌≤◌, length, get_or, true}
use Rattle.mpm_messages.specs.Texts.{is_space}
use Rattle.mpm_messages.proofs.text.trailing_spaces.Given as goal

abbrev pub invariant-loop-end : goal.invariant-loop-end
invariant-loop-end l = (l.end ≤ length l.text) × ((k : ℕ) → l.end ≤ k → k < length l.text → is_space (get_or l.text k 0) ≡ true)

abbrev pub decreases-loop-end : goal.decreases-loop-end
decreases-loop-end l = l.end
