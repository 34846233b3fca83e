use Rattle.std.proofs.Common.{rules, ◌<◌, Option, IfSome, subst, arith}
use Rattle.std.proofs.lemmas.Grind.{common_steps}
use Rattle.mpm_service.specs.declared.service.Served.{Served}
use Rattle.mpm_service.specs.Disk.{begun}
use Rattle.mpm_service.proofs.TurnLaws.{takes_turns}
use Rattle.mpm_service.proofs.service.Service.begin.Goals as goal

pub returns-in-Some : goal.returns-in-Some
unfolding begun
returns-in-Some c =
    let within = subst (λ (o : Option Served). IfSome o (λ call. call.passed < c.self.inside.turn_steps)) c.in-Some.is c.self.invariant.within in
    record {
      service = first_of (search rules, grind (arith, common_steps));
      begun = first_of (search rules, grind (arith, common_steps));
      turns = takes_turns c.self.inside.turn_steps c.args.turns c.in-Some.call.passed c.in-Some.call within c.requires.some;
      steps = first_of (search rules, grind (arith, common_steps));
    }
