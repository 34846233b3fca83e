use Rattle.mpm_bdos.proofs.DeletedFiles.{none_given}
use Rattle.mpm_bdos.proofs.releasing.give_back_deleted.Goals as goal

pub loop-number-init : goal.loop-number-init
loop-number-init c = none_given c.args.opens.now c.args.p
