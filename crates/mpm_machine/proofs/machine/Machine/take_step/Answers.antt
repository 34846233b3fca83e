use Rattle.std.proofs.Common.{◌∙◌, Ok, Err, refl, ap, arith}
use Rattle.mpm_output.specs.Outside.{seen}
use Rattle.mpm_bdos.specs.Serving.{Kept}
use Rattle.mpm_machine.specs.declared.machine.StepFault.TheVariants.{DiskFault, WriteFault}
use Rattle.mpm_machine.specs.Faults.{itself}
use Rattle.mpm_machine.specs.Stepping.{files_begun, stepped}
use Rattle.mpm_machine.proofs.FilesStepLaws.{stepped_by, has_stepped_to, begun_stops_by, ended_stops_by}
use Rattle.mpm_machine.proofs.TakeStepLaws.{no_sink, does_nothing, not_at_once, step_calls, turn_calls, turn_fails_so, write_stops, begun_stops_on, work_cause, begun_cause, begun_fails, ended_fails, ended_stays, holds_ended}
use Rattle.mpm_machine.proofs.PartsLaws.{uses_as, uses_both, uses_kept}
use Rattle.mpm_machine.proofs.machine.Machine.take_step.Goals as goal

pub work-requires : goal.work-requires
work-requires g c = c.requires.between.holds

pub begin_step-requires : goal.begin_step-requires
begin_step-requires g c = record {
  may =
      let between = c.requires.between in
      record {
        most = c.requires.most;
        whole = between.whole;
        no_completions = between.no_completions;
        holds = c.work.ensures.holds;
        files = between.holds.files;
        stands = c.in_default.ensures.ok between.holds.files between.holds.stands;
      };
}

pub end_step-requires : goal.end_step-requires
end_step-requires g c =
    let begun = c.in-Ok.ensures.begun in
    record {
      whole = begun.whole;
      completed = begun.completed;
      calls = record { filed = begun.holds.filed; own = begun.holds.own; begun = begun.holds.begun };
      room = begun.room;
    }

-- a drive failed in the disk's work

pub returns-in-Err : goal.returns-in-Err
returns-in-Err g c =
    let old = c.args.self.now.system in
    let failed = c.in-Err.ensures in
    record {
      ok = λ files stands. tt;
      stops = λ files stands. record {
        text = refl;
        images = turn_fails_so old (g.D.Drives.disks c.work.new.drives) files c.work.new.bdos.mounted (failed.err files stands);
      };
      made = tt;
      uses = uses_as itself (Err DiskFault) failed.uses (λ bare. (failed.uses.none bare).sink);
      calls = record {
        rests = λ none. let idle = failed.idle (does_nothing old none).1 in record { sink = idle.sink; drives = idle.drives; calls = idle.calls };
        calls = λ files stands.
            turn_calls old c.args.self.now.bdos (g.D.Drives.disks c.args.drives.now) files _ _ stands (λ none. no_sink (failed.idle none).sink) c.work.ensures.few;
        few = λ some. c.work.ensures.few;
      };
      ends = record { trace = refl; cause = work_cause _ (g.S.Sink.faults c.args.sink.now) _ _ failed.cause };
    }

-- what it begins with stopped

pub returns-in-Err-begin_step : goal.returns-in-Err-begin_step
returns-in-Err-begin_step g c =
    let old = c.args.self.now.system in
    let fault = c.in-Err-begin_step.fault in
    let failed = c.in-Err-begin_step.ensures in
    record {
      ok = λ files stands. tt;
      stops = λ files stands.
          let stopped = failed.stops files (c.in_default.ensures.ok files stands) in
          record {
            text = begun_stops_by fault files _ _ old stopped.text;
            images = begun_stops_on fault old c.begin_step.new.self.bdos (g.D.Drives.disks c.begin_step.new.drives) files c.requires.between.whole c.requires.between.holds.calls.filed
                stopped.images stopped.stands;
          };
      made = tt;
      uses = uses_both itself (Err fault) c.work.ensures.uses failed.uses (λ bare. (failed.uses.none (c.work.ensures.uses.none bare).bare).sink);
      calls = record {
        rests = λ none.
            let parts = does_nothing old none in
            let idle = failed.rests.idle parts.0 in
            let worked = c.work.ensures.idle parts.1 in
            record { sink = idle.sink; drives = idle.drives ∙ worked.drives; calls = idle.calls ∙ worked.calls };
        calls = λ files stands.
            step_calls old c.args.self.now.bdos (g.D.Drives.disks c.args.drives.now) files _ _ _ stands c.work.ensures.few (λ off. (c.work.ensures.idle off).calls)
            (λ some. (failed.rests.apart some).calls) (failed.calls files (c.in_default.ensures.ok files stands));
        few = λ some. let same = (failed.rests.idle (not_at_once old some)).calls in omega (arith, same, c.work.ensures.few);
      };
      ends = record { trace = failed.ends.trace; cause = begun_fails _ fault _ _ _ _ _ c.in_default.ensures.cause failed.ends.cause };
    }

-- the rest of it did

pub returns-in-Err-end_step : goal.returns-in-Err-end_step
returns-in-Err-end_step g c =
    let old = c.args.self.now.system in
    let instruction = c.in-Ok.instruction in
    let begun = c.begin_step.new.self in
    let disks = g.D.Drives.disks c.begin_step.new.drives in
    let m = seen g.S.Sink.written g.S.Sink.faults c.begin_step.new.render c.begin_step.new.sink in
    let n = seen g.S.Sink.written g.S.Sink.faults c.end_step.new.render c.end_step.new.sink in
    let first = c.in-Ok.ensures in
    let failed = c.in-Err-end_step.ensures in
    let mounted = ap (λ (k : Kept). k.mounted) c.end_step.ensures.leaves.kept in
    record {
      ok = λ files stands. tt;
      stops = λ files stands.
          let so = first.ok files (c.in_default.ensures.ok files stands) in
          record {
            text = ended_stops_by instruction files _ m n old begun.system begun.bdos disks first.instruction so (failed.err disks (files_begun old files) so.stands);
            images = write_stops instruction files old begun.system disks c.end_step.new.self.bdos.mounted first.instruction so.system (failed.stands disks (files_begun old files) so.stands);
          };
      made = tt;
      uses = uses_kept _ itself _ _ c.end_step.new.self.bdos.mounted _ _ (Err WriteFault) mounted (uses_both itself (Err WriteFault) c.work.ensures.uses first.uses (λ bare. refl));
      calls = record {
        rests = λ none.
            let parts = does_nothing old none in
            let idle = first.rests.idle parts.0 in
            let worked = c.work.ensures.idle parts.1 in
            record { sink = refl; drives = idle.drives ∙ worked.drives; calls = idle.calls ∙ worked.calls };
        calls = λ files stands.
            step_calls old c.args.self.now.bdos (g.D.Drives.disks c.args.drives.now) files _ _ _ stands c.work.ensures.few (λ off. (c.work.ensures.idle off).calls)
            (λ some. (first.rests.apart some).calls) (first.calls files (c.in_default.ensures.ok files stands));
        few = λ some. let same = (first.rests.idle (not_at_once old some)).calls in omega (arith, same, c.work.ensures.few);
      };
      ends = record { trace = c.end_step.ensures.ends.trace ∙ c.begin_step.ensures.ends.trace; cause = ended_fails _ _ _ _ _ _ _ (begun_cause _ (Ok instruction) _ _ _ _ _ c.in_default.ensures.cause first.ends.cause) failed.ends.cause };
    }

-- and all was done

pub returns-in-Ok-end_step : goal.returns-in-Ok-end_step
returns-in-Ok-end_step g c =
    let old = c.args.self.now.system in
    let instruction = c.in-Ok.instruction in
    let begun = c.begin_step.new.self in
    let new = c.end_step.new.self in
    let disks = g.D.Drives.disks c.begin_step.new.drives in
    let m = seen g.S.Sink.written g.S.Sink.faults c.begin_step.new.render c.begin_step.new.sink in
    let n = seen g.S.Sink.written g.S.Sink.faults c.end_step.new.render c.end_step.new.sink in
    let first = c.in-Ok.ensures in
    let last = c.in-Ok-end_step.ensures in
    let mounted = ap (λ (k : Kept). k.mounted) c.end_step.ensures.leaves.kept in
    let files = c.requires.between.holds.files in
    record {
      ok = λ files stands.
          let so = first.ok files (c.in_default.ensures.ok files stands) in
          has_stepped_to instruction files _ m n old begun.system new.system begun.bdos new.bdos disks first.instruction so (last.ok disks (files_begun old files) so.stands);
      stops = λ files stands. tt;
      made = record {
        made = stepped_by instruction old begun.system new.system first.instruction first.begun.made last.made;
        holds = record {
          calls = holds_ended g.D.Drives.disks begun.system.kernel new.system.kernel begun.bdos new.bdos c.begin_step.new.drives first.begun.holds last.ended.calls.filed last.ended.calls.own
              last.ended.calls.begun c.end_step.ensures.leaves.kept c.end_step.ensures.leaves.workless;
          files = (stepped old files).files;
          stands =
              let so = first.ok files (c.in_default.ensures.ok files c.requires.between.holds.stands) in
              (has_stepped_to instruction files _ m n old begun.system new.system begun.bdos new.bdos disks first.instruction so (last.ok disks (files_begun old files) so.stands)).stands;
        };
        turn_steps = last.ended.turn_steps ∙ first.begun.turn_steps;
      };
      uses = uses_kept _ itself _ _ new.bdos.mounted _ _ _ mounted (uses_both itself _ c.work.ensures.uses first.uses (λ bare. tt));
      calls = record {
        rests = λ none.
            let parts = does_nothing old none in
            let idle = first.rests.idle parts.0 in
            let worked = c.work.ensures.idle parts.1 in
            record { sink = tt; drives = idle.drives ∙ worked.drives; calls = idle.calls ∙ worked.calls };
        calls = λ files stands.
            step_calls old c.args.self.now.bdos (g.D.Drives.disks c.args.drives.now) files _ _ _ stands c.work.ensures.few (λ off. (c.work.ensures.idle off).calls)
            (λ some. (first.rests.apart some).calls) (first.calls files (c.in_default.ensures.ok files stands));
        few = λ some. let same = (first.rests.idle (not_at_once old some)).calls in omega (arith, same, c.work.ensures.few);
      };
      ends = record { trace = c.end_step.ensures.ends.trace ∙ c.begin_step.ensures.ends.trace; cause = ended_stays _ _ _ _ _ _ _ _ (begun_cause _ (Ok instruction) _ _ _ _ _ c.in_default.ensures.cause first.ends.cause) last.ends.cause };
    }
