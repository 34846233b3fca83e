use Rattle.std.proofs.Common.{rules, arith}
use Rattle.std.proofs.lemmas.Grind.{common_steps}
use Rattle.mpm_core.proofs.Agreeing.{agree}
use Rattle.mpm_core.proofs.saved.Core.replay.Goals as goal

pub returns : goal.returns
returns c = record {
  runs = first_of (search rules, grind (arith, common_steps));
  agrees = agree c.args.most c.args.self.now c.run_on.new.self c.run_on.result c.run_on.ensures.replayed;
}
