use Rattle.std.proofs.Common.{◌∙◌, sym, rules, arith}
use Rattle.std.proofs.lemmas.Grind.{common_steps}
use Rattle.mpm_system.specs.Coming.{coming}
use Rattle.mpm_machine.proofs.StepLaws.{makes_acted}
use Rattle.mpm_machine.proofs.acting.begin.Goals as goal

pub returns : goal.returns
returns g c = record {
  done = makes_acted (coming c.args.system.now) c.args.system.now c.interrupt.new.system (sym c.in_ok-came.ensures.came ∙ c.if-came.false)
      c.in_ok-came.ensures.done.system c.in_ok-came.ensures.done.wrote.ok c.act.ensures.done;
  instruction = first_of (search rules, grind (arith, common_steps));
}
