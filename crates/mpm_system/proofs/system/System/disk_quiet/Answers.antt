use Rattle.std.proofs.Common.{Some, None, subst, arith}
use Rattle.mpm_system.specs.Idling.{CanPass}
use Rattle.mpm_system.proofs.IdlingLaws.{quiet_passes}
use Rattle.mpm_system.proofs.system.System.disk_quiet.Goals as goal

pub returns-in-Some : goal.returns-in-Some
returns-in-Some c = record {
  few = omega (arith, c.min.ensures);
  passing = subst (CanPass c.min.result) c.disk.ensures (quiet_passes c.disk.result.now (Some c.in-Some.steps) c.min.result c.in-Some.ensures.steps c.in-Some.ensures.few (omega (arith, c.min.ensures)));
}

pub returns-in-None : goal.returns-in-None
returns-in-None c = record {
  few = omega arith;
  passing = subst (CanPass c.args.most) c.disk.ensures (quiet_passes c.disk.result.now None c.args.most c.in-None.ensures.steps c.in-None.ensures.few (omega arith));
}
