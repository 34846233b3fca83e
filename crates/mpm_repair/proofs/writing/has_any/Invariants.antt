use Rattle.std.proofs.Common.{◌≡◌, ◌*◌, []}
use Rattle.mpm_repair.specs.Freeing.{listed_from}
use Rattle.mpm_repair.proofs.writing.has_any.Given as goal

abbrev pub invariant-loop-place : goal.invariant-loop-place
invariant-loop-place l = listed_from l.slots (4 * l.sector) l.place ≡ []
