use Rattle.std.proofs.Common.{arith}
use Rattle.mpm_machine.proofs.FinishLaws.{answered_none}
use Rattle.mpm_machine.proofs.finish.answer_all.Goals as goal

pub returns-else-has_completed : goal.returns-else-has_completed
returns-else-has_completed c = record {
  system = answered_none c.args.system.now (c.has_completed.ensures.some.0 c.if-has_completed.false);
  few = omega arith;
}
