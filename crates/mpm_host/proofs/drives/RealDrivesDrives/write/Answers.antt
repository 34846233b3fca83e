-- A write that was done is in the image, and one that wasn't changes none.
use Rattle.std.proofs.Common.{rules, arith}
use Rattle.std.proofs.lemmas.Grind.{common_steps}
use Rattle.mpm_host.proofs.Holding.{writes, writes_none, writes_beside, untold_still}
use Rattle.mpm_host.proofs.drives.RealDrivesDrives.write.Goals as goal

pub returns-clause-answers : goal.returns-clause-answers
returns-clause-answers c = record {
  ok = first_of (search (rules, writes, writes_none, untold_still), grind (arith, common_steps, writes, writes_none));
  err = first_of (search (rules, writes, writes_none, untold_still), grind (arith, common_steps, writes, writes_none));
  told = first_of (search (rules, untold_still), grind (arith, common_steps));
  cause = first_of (search rules, grind (arith, common_steps));
  names = first_of (search rules, grind (arith, common_steps));
  unsynced = first_of (search rules, grind (arith, common_steps));
  beside = first_of (search rules, grind (arith, common_steps));
}
