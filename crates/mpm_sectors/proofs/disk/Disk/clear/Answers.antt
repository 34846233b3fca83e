use Rattle.std.proofs.Common.{rules, refl, ◌∙◌, arith}
use Rattle.std.proofs.lemmas.Grind.{common_steps}
use Rattle.mpm_sectors.proofs.WriteLaws.{zeros_at_first, zeros_one_more, zeros_stopped}
use Rattle.mpm_sectors.proofs.LeavesLaws.{leaves_itself, leaves_over}
use Rattle.mpm_sectors.proofs.disk.Disk.clear.Goals as goal

pub loop-number-init : goal.loop-number-init
loop-number-init g c = record {
  written = zeros_at_first c.args.self.now.drive c.args.self.now.kind c.args.first (g.D.Drives.disks c.args.drives.now);
  calls = omega arith;
  leaves = leaves_itself g.D.Drives.disks g.D.Drives.told g.D.Drives.failed_names g.D.Drives.unsynced c.args.self.now.drive c.args.cache.now c.args.drives.now c.requires.ready.coherent;
  unsynced = λ some. absurd (omega (arith, some));
  faults = refl;
}

pub loop-number-preserved : goal.loop-number-preserved
loop-number-preserved g c = record {
  written = zeros_one_more c.args.self.now.drive c.args.self.now.kind c.args.first c.loop-number.number (g.D.Drives.disks c.args.drives.now)
      (g.D.Drives.disks c.loop-number.drives) (g.D.Drives.disks c.put.new.drives) c.loop-number.invariant.written c.in-Ok.ensures.puts.ok;
  calls = omega (arith, c.put.ensures.calls, c.loop-number.invariant.calls);
  leaves = leaves_over g.D.Drives.disks g.D.Drives.told g.D.Drives.failed_names g.D.Drives.unsynced c.args.self.now.drive c.args.cache.now c.loop-number.cache c.put.new.cache
      c.args.drives.now c.loop-number.drives c.put.new.drives c.loop-number.invariant.leaves c.put.ensures.leaves;
  unsynced = λ some. c.put.ensures.unsynced;
  faults = c.in-Ok.ensures.cause.stays ∙ c.loop-number.invariant.faults;
}

pub returns-in-Err : goal.returns-in-Err
returns-in-Err g c = record {
  puts = record {
    ok = tt;
    err = zeros_stopped c.args.self.now.drive c.args.self.now.kind c.args.first c.loop-number.number c.args.count (g.D.Drives.disks c.args.drives.now)
        (g.D.Drives.disks c.loop-number.drives) (g.D.Drives.disks c.put.new.drives) (omega arith) c.loop-number.invariant.written c.in-Err.ensures.puts.err;
  };
  calls = record { all = tt; most = omega (arith, c.put.ensures.calls, c.loop-number.invariant.calls) };
  leaves = leaves_over g.D.Drives.disks g.D.Drives.told g.D.Drives.failed_names g.D.Drives.unsynced c.args.self.now.drive c.args.cache.now c.loop-number.cache c.put.new.cache
      c.args.drives.now c.loop-number.drives c.put.new.drives c.loop-number.invariant.leaves c.put.ensures.leaves;
  unsynced = c.put.ensures.unsynced;
  owed = λ some. c.put.ensures.unsynced;
  cause = first_of (search rules, grind (arith, common_steps));
}

pub returns : goal.returns
returns g c = record {
  puts = first_of (search rules, grind (arith, common_steps));
  calls = first_of (search rules, grind (arith, common_steps));
  leaves = c.loop-number.invariant.leaves;
  unsynced = tt;
  owed = λ some. c.loop-number.invariant.unsynced (omega (arith, some, c.loop-number-test.false));
  cause = first_of (search rules, grind (arith, common_steps));
}
