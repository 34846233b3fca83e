use Rattle.mpm_mount.specs.Directories.{is_free}
use Rattle.mpm_mount.proofs.Positions.{found_small}
use Rattle.mpm_mount.proofs.slots.free_slot.Goals as goal

pub as_slot-requires : goal.as_slot-requires
as_slot-requires c = found_small c.free_place.result is_free c.args.entries.now c.free_place.ensures c.requires
