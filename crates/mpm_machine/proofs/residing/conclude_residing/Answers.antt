use Rattle.mpm_procs.specs.Table.{call_of}
use Rattle.mpm_machine.proofs.ResidingLaws.{said_has}
use Rattle.mpm_machine.proofs.residing.conclude_residing.Goals as goal

pub take-requires : goal.take-requires
take-requires g c =
    said_has (call_of c.args.system.now.kernel.dispatcher.procs c.args.p) _ c.args.p c.args.system.now c.speak_kept.new.self c.requires.has
    c.in_ok-speak_kept-in-Done.ensures.system
