use Rattle.mpm_mount.proofs.UsedBy.{new_used}
use Rattle.mpm_mount.proofs.mounting.mount_entries.Goals as goal

pub first_fault-requires-clause-new : goal.first_fault-requires-clause-new
first_fault-requires-clause-new c = new_used c.args.kind c.in-Ok.blocks c.in-Ok.ensures
