use Rattle.std.proofs.Common.{◌≡◌, Some}
use Rattle.mpm_port.specs.Disks.{size_of}
use Rattle.mpm_port.specs.MemoryDisks.{disks_of}
use Rattle.mpm_blocks.specs.Geometries.{geometry_of}
use Rattle.mpm_cache.specs.Coherent.{IsCoherent}
use Rattle.mpm_disk_trials.proofs.sectors.block_holds.Given as goal

abbrev pub invariant-loop-sector : goal.invariant-loop-sector
invariant-loop-sector g l = (size_of (disks_of l.drives) 0 ≡ Some (geometry_of l.fresh.kind).bytes) × IsCoherent l.cache (disks_of l.drives)
