use Rattle.mpm_machine.proofs.WholeStepLaws.{whole_due}
use Rattle.mpm_machine.proofs.interrupts.interrupt.Goals as goal

pub come-requires-clause-whole : goal.come-requires-clause-whole
come-requires-clause-whole g c = whole_due c.args.system.now c.take_due.new.self c.requires.whole c.take_due.ensures.rest
