use Rattle.mpm_system.proofs.LoadingLaws.{lives_there}
use Rattle.mpm_system.proofs.OpeningLaws.{admitted_here}
use Rattle.mpm_system.proofs.loading.begin_for.Goals as goal

pub give-requires : goal.give-requires
give-requires c =
    let here = admitted_here c.args.kernel.now c.admit.new.self c.in-Ok.q c.args.new c.requires.begins.sound c.requires.begins.console c.in-Ok.ensures.slot c.admit.ensures.kernel in
    record {
      sound = here.sound;
      console = here.console;
      from = lives_there c.args.kernel.now c.admit.new.self c.args.p c.in-Ok.q c.args.new c.requires.lives c.in-Ok.ensures.slot c.admit.ensures.kernel;
      to = here.lives;
    }
