use Rattle.std.proofs.Common.{◌≡◌, ◌++◌, map, take, drop}
use Rattle.mpm_banks.specs.Allocations.{freed}
use Rattle.mpm_banks.proofs.banks.release_each.Given as goal

abbrev pub invariant-loop-segment : goal.invariant-loop-segment
invariant-loop-segment l =
    l.segments ≡ map (freed l.owner) (take l.segment-index l.initial.segments) ++ drop l.segment-index l.initial.segments
