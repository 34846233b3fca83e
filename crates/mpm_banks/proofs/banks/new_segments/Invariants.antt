use Rattle.std.proofs.Common.{◌≡◌, map, take}
use Rattle.mpm_banks.specs.Allocations.{new_segment}
use Rattle.mpm_banks.proofs.banks.new_segments.Given as goal

abbrev pub invariant-loop-spec : goal.invariant-loop-spec
invariant-loop-spec l = l.segments.items ≡ map new_segment (take l.spec-index l.specs)
