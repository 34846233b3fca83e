use Rattle.std.proofs.Common.{◌≡◌, ◌*◌}
use Rattle.mpm_repair.specs.Freeing.{listed_from, freed_within}
use Rattle.mpm_repair.proofs.writing.free_in.Given as goal

abbrev pub invariant-loop-place : goal.invariant-loop-place
invariant-loop-place l = l.bytes ≡ freed_within (listed_from l.slots (4 * l.sector) l.place) l.fn.bytes
