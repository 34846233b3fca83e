use Rattle.mpm_files.proofs.Planned.{service_begins}
use Rattle.std.proofs.Common.{rules, arith}
use Rattle.std.proofs.lemmas.Grind.{common_steps}
use Rattle.mpm_files.proofs.planning.plan.Goals as goal

pub returns : goal.returns
returns c = record {
  work = first_of (search rules, grind (arith, common_steps));
  service = λ image before stands.
      service_begins image c.args.mounted.now before c.args.job.now c.count_units-count.result stands c.count_units-count.ensures;
}
