use Rattle.mpm_mount.specs.Faults.{is_named}
use Rattle.mpm_mount.proofs.Positions.{found_small}
use Rattle.mpm_mount.proofs.slots.named_slot.Goals as goal

pub as_slot-requires : goal.as_slot-requires
as_slot-requires c = found_small c.named_place.result (is_named c.args.kind c.args.name.now) c.args.entries.now c.named_place.ensures c.requires
