use Rattle.mpm_machine.proofs.MakingLaws.{makes_silent}
use Rattle.mpm_machine.proofs.DueLaws.{no_ends_out}
use Rattle.mpm_machine.proofs.due.end_due.Goals as goal

pub returns-else-system : goal.returns-else-system
returns-else-system g c = makes_silent _ _ _ _ _ _ _ (no_ends_out c.args.system.now (c.requires.whole.settled c.if-system.false) c.if-system.false c.requires.none)
