use Rattle.mpm_mount.specs.Faults.{is_xfcb}
use Rattle.mpm_mount.proofs.Positions.{found_small}
use Rattle.mpm_mount.proofs.slots.xfcb_slot.Goals as goal

pub as_slot-requires : goal.as_slot-requires
as_slot-requires c = found_small c.xfcb_place.result (is_xfcb c.args.user c.args.name.now) c.args.entries.now c.xfcb_place.ensures c.requires
