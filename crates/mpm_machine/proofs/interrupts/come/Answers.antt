use Rattle.mpm_kernel.proofs.SoundLaws.{may_come}
use Rattle.mpm_machine.proofs.WholeStepLaws.{sound_unhalted, whole_happened, aborted_lives}
use Rattle.mpm_machine.proofs.interrupts.come.Goals as goal

pub event-requires : goal.event-requires
event-requires g c = record {
  sound = sound_unhalted c.args.system.now c.unhalt.new.self c.requires.whole c.unhalt.ensures;
  comes = may_come c.args.event c.requires.is;
}

pub abort_by_key-requires : goal.abort_by_key-requires
abort_by_key-requires g c = record {
  whole = whole_happened c.args.event c.args.system.now c.unhalt.new.self c.event.new.self (may_come c.args.event c.requires.is) c.requires.whole c.unhalt.ensures c.event.ensures.kernel;
  lives = aborted_lives c.args.event c.args.system.now c.unhalt.new.self c.event.new.self c.requires.whole c.unhalt.ensures c.event.ensures.kernel;
}
