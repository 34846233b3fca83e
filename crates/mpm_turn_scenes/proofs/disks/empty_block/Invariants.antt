use Rattle.std.proofs.Common.{◌≡◌, Some}
use Rattle.mpm_port.specs.Disks.{size_of}
use Rattle.mpm_port.specs.MemoryDisks.{disks_of}
use Rattle.mpm_blocks.specs.Geometries.{geometry_of}
use Rattle.mpm_turn_scenes.proofs.disks.empty_block.Given as goal

abbrev pub invariant-loop-record : goal.invariant-loop-record
invariant-loop-record l = size_of (disks_of l.drives) 0 ≡ Some (geometry_of l.kind).bytes
