use Rattle.mpm_system.proofs.OpeningLaws.{admitted_here, sound_begun}
use Rattle.mpm_system.proofs.opening.begin.Goals as goal

pub give-requires : goal.give-requires
give-requires c =
    let here = admitted_here c.args.kernel.now c.admit.new.self c.in-Ok.p c.args.new c.requires.begins.sound c.requires.begins.console c.in-Ok.ensures.slot c.admit.ensures.kernel in
    record { sound = here.sound; console = here.console; from = tt; to = here.lives }

pub pick-requires : goal.pick-requires
pick-requires c =
    sound_begun c.admit.new.self c.give.new.self c.args.new.console c.in-Ok.p
    (admitted_here c.args.kernel.now c.admit.new.self c.in-Ok.p c.args.new c.requires.begins.sound c.requires.begins.console c.in-Ok.ensures.slot c.admit.ensures.kernel) c.give.ensures.kernel
