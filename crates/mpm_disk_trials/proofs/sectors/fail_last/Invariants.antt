use Rattle.std.proofs.Common.{◌≡◌}
use Rattle.mpm_port.specs.Disks.{size_of}
use Rattle.mpm_port.specs.MemoryDisks.{disks_of}
use Rattle.mpm_disk_trials.proofs.sectors.fail_last.Given as goal

abbrev pub invariant-loop-number : goal.invariant-loop-number
invariant-loop-number l = size_of (disks_of l.drives) 0 ≡ size_of (disks_of l.fn.drives) 0
