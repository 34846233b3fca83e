use Rattle.std.proofs.Common.{arith, rules, refl}
use Rattle.mpm_files.proofs.TurnDone.{idle_turn, unit_left}
use Rattle.std.proofs.lemmas.Grind.{common_steps}
use Rattle.mpm_files.proofs.WorkingLaws.{works_not}
use Rattle.mpm_files.proofs.turning.do_unit.Goals as goal

pub do_next-requires : goal.do_next-requires
do_next-requires g c = record { ready = c.requires.ready; left = unit_left (g.D.Drives.disks c.args.drives.now) c.args.mounted.now c.args.work.now c.requires.left c.if-work.true }

pub returns-else-work : goal.returns-else-work
returns-else-work g c = record {
  ok = λ before job j suits service h.
      idle_turn (g.D.Drives.disks c.args.drives.now) c.args.mounted.now before job j c.args.work.now service h (omega (arith, c.if-work.false));
  err = first_of (search rules, grind (arith, common_steps));
  counts = record { units = refl; ended = refl };
  reads = λ kind. record { calls = omega arith; uncalled = λ cached. refl; unsynced = λ other. refl };
  idle = first_of (search rules, grind (arith, common_steps));
  works = works_not g.D.Drives _ _ _ _ _ _ c.requires.ready.coherent;
}

pub returns-then-work : goal.returns-then-work
returns-then-work g c = record {
  ok = first_of (search rules, grind (arith, common_steps));
  err = first_of (search rules, grind (arith, common_steps));
  counts = c.do_next.ensures.counts;
  reads = c.do_next.ensures.reads;
  idle = λ rests. absurd (omega (arith, rests, c.if-work.true));
  works = c.do_next.ensures.works;
}
