use Rattle.std.proofs.Common.{ℕ, ◌<◌, Some}
use Rattle.mpm_port.specs.Disks.{IsInsideDrive, size_of}
use Rattle.mpm_port.specs.MemoryDisks.{disks_of}
use Rattle.mpm_cache.specs.Coherent.{IsCoherent, HasNoAlias}
use Rattle.mpm_disk_trials.proofs.caches.pass_all.Given as goal

abbrev pub invariant-loop-number : goal.invariant-loop-number
invariant-loop-number g l = IsCoherent l.cache (disks_of l.drives) × HasNoAlias l.cache (disks_of l.drives) 0 × ((sector : ℕ) → sector < 257 → IsInsideDrive (size_of (disks_of l.drives) 0) sector)
