use Rattle.std.proofs.Common.{length}
use Rattle.mpm_fault_trials.proofs.placed.is_placed.Goals as goal

pub place-p-requires : goal.place-p-requires
place-p-requires c = c.requires.free (length c.args.program.now) c.if-not-has_room.ensures.there c.if-not-has_room.ensures.room
