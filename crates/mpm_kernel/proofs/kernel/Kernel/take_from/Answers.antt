use Rattle.std.proofs.Common.{sym, subst, rules, arith}
use Rattle.std.proofs.lemmas.Grind.{common_steps}
use Rattle.mpm_kernel.specs.Kernel.{IsSoundKernel}
use Rattle.mpm_kernel.proofs.QueueingLaws.{lives_by_read, waits_by_read}
use Rattle.mpm_kernel.proofs.kernel.Kernel.take_from.Goals as goal

pub returns : goal.returns
returns c = record {
  kernel = first_of (search rules, grind (arith, common_steps));
  outcome = first_of (search rules, grind (arith, common_steps));
  other = lives_by_read _ c.args.p c.args.q c.read.new.procs c.read.result (subst IsSoundKernel (sym c.self.view_is) c.requires.sound) c.read.ensures.answered
      c.read.ensures.procs;
  not_now = waits_by_read _ _ c.args.p c.args.q c.read.new.self c.read.new.procs c.read.result c.self.view_is c.read.ensures.answered c.read.ensures.queues
      c.read.ensures.procs;
  reply = first_of (search rules, grind (arith, common_steps));
}
