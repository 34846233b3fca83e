use Rattle.std.proofs.Common.{◌≡◌, ℕ, ◌<◌, get_or, true}
use Rattle.mpm_names.specs.Characters.{is_character}
use Rattle.mpm_names.proofs.spelling.character_count.Given as goal

abbrev pub invariant-loop-place : goal.invariant-loop-place
invariant-loop-place l = (k : ℕ) → k < l.place → is_character (get_or l.text k 0) ≡ true
