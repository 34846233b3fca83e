use Rattle.std.proofs.Common.{◌≡◌, Some}
use Rattle.mpm_port.specs.Disks.{size_of}
use Rattle.mpm_port.specs.MemoryDisks.{disks_of}
use Rattle.mpm_blocks.specs.Geometries.{geometry_of}
use Rattle.mpm_turn_scenes.proofs.turns.look.Given as goal

abbrev pub invariant-loop-place : goal.invariant-loop-place
invariant-loop-place l = size_of (disks_of l.drives) 0 ≡ Some (geometry_of l.kind).bytes
