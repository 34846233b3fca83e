use Rattle.std.proofs.Common.{◌≡◌, Some}
use Rattle.mpm_port.specs.Disks.{size_of}
use Rattle.mpm_port.specs.MemoryDisks.{disks_of}
use Rattle.mpm_cache.specs.Coherent.{IsCoherent, HasNoAlias}
use Rattle.mpm_disk_trials.proofs.sectors.go_so.Given as goal

abbrev pub invariant-loop-line : goal.invariant-loop-line
invariant-loop-line g l = (size_of (disks_of l.drives) 0 ≡ Some 256256) × IsCoherent l.cache (disks_of l.drives) × HasNoAlias l.cache (disks_of l.drives) 0
