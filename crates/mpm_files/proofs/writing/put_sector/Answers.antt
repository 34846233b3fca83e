use Rattle.std.proofs.Common.{refl, arith, rules}
use Rattle.mpm_files.proofs.WorkingLaws.{works_as}
use Rattle.std.proofs.lemmas.Grind.{common_steps}
use Rattle.mpm_files.proofs.writing.put_sector.Goals as goal

pub returns : goal.returns
returns g c = record {
  puts = first_of (search rules, grind (arith, common_steps));
  long = first_of (search rules, grind (arith, common_steps));
  works = works_as g.D.Drives 1 c.args.mounted.now c.args.mounted.now c.disk_of.result _ _ _ _ _ _ _ c.disk_of.ensures.disk (record { drive = refl; kind = refl })
      (omega (arith, c.put.ensures.calls)) c.put.ensures.leaves c.put.ensures.cause;
}
