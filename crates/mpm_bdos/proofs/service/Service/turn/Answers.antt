use Rattle.std.proofs.Common.{rules, arith}
use Rattle.std.proofs.lemmas.Grind.{common_steps}
use Rattle.mpm_bdos.proofs.Fitting.{stays_same, told_same, unsynced_same}
use Rattle.mpm_bdos.proofs.service.Service.turn.Goals as goal

pub returns : goal.returns
returns g c = record {
  ok = first_of (search (rules, stays_same, told_same, unsynced_same), grind (arith, common_steps, stays_same, told_same, unsynced_same));
  err = first_of (search (rules, stays_same, told_same, unsynced_same), grind (arith, common_steps, stays_same, told_same, unsynced_same));
  progress = first_of (search (rules, stays_same, told_same, unsynced_same), grind (arith, common_steps, stays_same, told_same, unsynced_same));
  idle = first_of (search (rules, stays_same, told_same, unsynced_same), grind (arith, common_steps, stays_same, told_same, unsynced_same));
  done = first_of (search (rules, stays_same, told_same, unsynced_same), grind (arith, common_steps, stays_same, told_same, unsynced_same));
  still = first_of (search (rules, stays_same, told_same, unsynced_same), grind (arith, common_steps, stays_same, told_same, unsynced_same));
  kept = first_of (search (rules, stays_same, told_same, unsynced_same), grind (arith, common_steps, stays_same, told_same, unsynced_same));
  left = first_of (search (rules, stays_same, told_same, unsynced_same), grind (arith, common_steps, stays_same, told_same, unsynced_same));
  takes = first_of (search (rules, stays_same, told_same, unsynced_same), grind (arith, common_steps, stays_same, told_same, unsynced_same));
  cause = first_of (search (rules, stays_same, told_same, unsynced_same), grind (arith, common_steps, stays_same, told_same, unsynced_same));
}
