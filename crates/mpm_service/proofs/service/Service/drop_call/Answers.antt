use Rattle.std.proofs.Common.{rules, ◌<◌, Option, IfSome, sym, subst, arith}
use Rattle.std.proofs.lemmas.Grind.{common_steps}
use Rattle.mpm_service.specs.declared.service.Served.{Served}
use Rattle.mpm_service.specs.Disk.{HasBegun}
use Rattle.mpm_service.specs.Places.{without_call}
use Rattle.mpm_service.proofs.PlaceLaws.{sound_without, begun_without}
use Rattle.mpm_service.proofs.service.Service.drop_call.Goals as goal

pub invariant_of-self : goal.invariant_of-self
invariant_of-self c =
    sound_without (record { turn_steps = c.self.inside.turn_steps; waiting = c.self.inside.waiting; served = c.self.inside.served }) c.args.p c.remove-waited.new.self c.without-self-inside.result c.self.invariant c.remove-waited.ensures.list c.without-self-inside.ensures

pub returns : goal.returns
unfolding without_call
returns c = record {
  service = first_of (search rules, grind (arith, common_steps));
  steps = first_of (search rules, grind (arith, common_steps));
  begun = λ begun. (
      subst (λ (o : Option Served). IfSome o (λ call. 0 < call.left)) (sym c.without-self-inside.ensures)
      (begun_without c.self.inside.served c.args.p (subst HasBegun (sym c.self.view_is) begun))
      );
}
