use Rattle.mpm_mount.specs.Faults.{is_label}
use Rattle.mpm_mount.proofs.Positions.{found_small}
use Rattle.mpm_mount.proofs.slots.label_slot.Goals as goal

pub as_slot-requires : goal.as_slot-requires
as_slot-requires c = found_small c.label_place.result is_label c.args.entries.now c.label_place.ensures c.requires
