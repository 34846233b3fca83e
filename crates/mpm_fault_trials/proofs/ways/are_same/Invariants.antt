use Rattle.std.proofs.Common.{◌≡◌, Some}
use Rattle.mpm_port.specs.Disks.{size_of}
use Rattle.mpm_port.specs.MemoryDisks.{disks_of}
use Rattle.mpm_fault_trials.proofs.ways.are_same.Given as goal

abbrev pub invariant-loop-sector : goal.invariant-loop-sector
invariant-loop-sector l = (size_of (disks_of l.first) 0 ≡ Some 256256) × (size_of (disks_of l.second) 0 ≡ Some 256256)
