use Rattle.std.proofs.Common.{◌≡◌, ℕ, ◌<◌, get_or, false}
use Rattle.mpm_spool.specs.SpoolLists.{is_comma}
use Rattle.mpm_spool.proofs.list.comma_place.Given as goal

abbrev pub invariant-loop-place : goal.invariant-loop-place
invariant-loop-place l = (k : ℕ) → k < l.place → is_comma (get_or l.text k 0) ≡ false
