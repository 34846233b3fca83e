use Rattle.std.proofs.Common.{take}
use Rattle.mpm_mount.specs.Searching.{IsNext}
use Rattle.mpm_mount.proofs.searching.least.Given as goal

abbrev pub invariant-loop-slot : goal.invariant-loop-slot
invariant-loop-slot l = IsNext l.kind l.search (take l.slot l.entries) l.found
