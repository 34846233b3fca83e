use Rattle.std.proofs.Common.{◌≡◌, Some}
use Rattle.mpm_port.specs.Disks.{size_of}
use Rattle.mpm_port.specs.MemoryDisks.{disks_of}
use Rattle.mpm_blocks.specs.Geometries.{geometry_of}
use Rattle.mpm_cache.specs.Coherent.{IsCoherent, HasNoAlias}
use Rattle.mpm_disk_trials.proofs.sectors.put_blocks.Given as goal

abbrev pub invariant-loop-number : goal.invariant-loop-number
invariant-loop-number g l = (size_of (disks_of l.drives) 0 ≡ Some (geometry_of l.fresh.kind).bytes) × IsCoherent l.cache (disks_of l.drives) × HasNoAlias l.cache (disks_of l.drives) 0
