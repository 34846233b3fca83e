use Rattle.std.proofs.Common.{◌+◌, ap, ◌∙◌}
use Rattle.mpm_files.specs.declared.work.Work.{Work}
use Rattle.mpm_files.proofs.TurnDone.{in_time, still_more, turn_ends, told_same}
use Rattle.mpm_files.proofs.WorkingLaws.{works_done, works_failed}
use Rattle.mpm_files.proofs.turning.turn.Goals as goal

pub end_turn-requires : goal.end_turn-requires
end_turn-requires g c =
    let left = c.requires.left in
    still_more c.args.work.now c.do_unit.new.work c.do_unit.ensures.counts.ended c.do_unit.ensures.counts.units (in_time left.before left.job left.ended c.args.work.now left.service.service.serving left.left)

pub returns-in-Ok : goal.returns-in-Ok
returns-in-Ok g c =
    let did = c.do_unit.ensures in
    record {
      ok = λ before job j suits service h.
          turn_ends (g.D.Drives.disks c.do_unit.new.drives) c.do_unit.new.mounted before job j c.do_unit.new.work c.end_turn.new.work
          c.end_turn.ensures.counted (c.in-Ok.ensures.ok before job j suits service h);
      err = λ before job j suits service h. tt;
      progress = c.end_turn.ensures.progress ∙ told_same _ _ c.args.work.now c.do_unit.new.work did.counts.ended did.counts.units;
      counted = ap (λ (work : Work). work.ended) c.end_turn.ensures.counted ∙ ap (λ k. k + 1) did.counts.ended;
      units = ap (λ (work : Work). work.units) c.end_turn.ensures.counted ∙ did.counts.units;
      reads = did.reads;
      idle = did.idle;
      works = works_done g.D.Drives _ _ _ _ _ _ _ _ _ _ _ c.in-Ok.ensures.works;
    }

pub returns-in-Err : goal.returns-in-Err
returns-in-Err g c =
    let did = c.do_unit.ensures in
    record {
      ok = λ before job j suits service h. tt;
      err = c.in-Err.ensures.err;
      progress = tt;
      counted = tt;
      units = did.counts.units;
      reads = did.reads;
      idle = did.idle;
      works = works_failed g.D.Drives _ _ _ _ _ _ _ _ _ _ c.in-Err.ensures.works;
    }
