use Rattle.std.proofs.Common.{rules, arith}
use Rattle.std.proofs.lemmas.Grind.{common_steps}
use Rattle.mpm_kernel.proofs.QueueingLaws.{lives_by_write, waits_by_write}
use Rattle.mpm_kernel.proofs.kernel.Kernel.give_to.Goals as goal

pub returns : goal.returns
returns c = record {
  kernel = first_of (search rules, grind (arith, common_steps));
  outcome = first_of (search rules, grind (arith, common_steps));
  other = first_of (search (rules, lives_by_write), grind (arith, common_steps, lives_by_write));
  not_now = waits_by_write _ _ c.args.p c.args.q c.write.new.self c.write.new.procs c.write.result c.self.view_is c.write.ensures.answered c.write.ensures.queues
      c.write.ensures.procs;
}
