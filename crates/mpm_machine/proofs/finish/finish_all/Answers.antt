use Rattle.std.proofs.Common.{arith, rules}
use Rattle.std.proofs.lemmas.Grind.{common_steps}
use Rattle.mpm_machine.proofs.FinishLaws.{finished_nobody, finished_few}
use Rattle.mpm_machine.proofs.finish.finish_all.Goals as goal

pub returns-else-has_completed : goal.returns-else-has_completed
returns-else-has_completed c = record {
  system = finished_nobody c.args.system.now (c.has_completed.ensures.some.0 c.if-has_completed.false);
  few = omega arith;
}

pub returns-then-has_completed : goal.returns-then-has_completed
returns-then-has_completed c = record {
  system = first_of (search rules, grind (arith, common_steps));
  few = finished_few c.args.system.now c.finish_each.new.system c.finish_each.ensures c.has_completed.ensures.few;
}
