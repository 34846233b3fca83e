use Rattle.mpm_machine.proofs.StandingLaws.{step_at, step_stands, step_stops, step_shows}
use Rattle.mpm_machine.proofs.GoingSteps.{interprets_stepped}
use Rattle.mpm_machine.proofs.NextLaws.{step_by}
use Rattle.mpm_machine.proofs.FailingLaws.{step_leaves}
use Rattle.mpm_machine.proofs.MadeLaws.{made_whole, made_no_completions, made_nobody_due, made_steps}
use Rattle.mpm_machine.proofs.machine.Machine.step.Goals as goal

pub take_step-requires : goal.take_step-requires
take_step-requires g c = record { most = c.requires.most; between = c.requires.between }

-- it stopped
pub returns-in-Err : goal.returns-in-Err
returns-in-Err g c =
    let failed = c.in-Err.ensures in
    record {
      ok = λ s first stands. tt;
      model = λ s here. tt;
      stops = λ s first stands. record {
        text = step_stops c.args.self.now _ c.in-Err.fault _ _ s first (λ files so. (failed.stops files so).text) stands;
        shown = step_shows c.args.self.now _ c.in-Err.fault _ _ s first (λ files so. (failed.stops files so).text) stands;
        images =
            step_leaves c.args.self.now (g.D.Drives.disks c.args.drives.now) (g.D.Drives.disks c.take_step.new.drives) c.take_step.new.self.bdos.mounted c.in-Err.fault
            c.args.render.now (g.S.Sink.written c.args.sink.now) s first (λ files so. (failed.stops files so).images) stands;
      };
      law = λ s is. step_by s c.args.self.now.system is c.requires.between.whole c.requires.between.no_completions;
      leaves = tt;
      holds = tt;
      drives = failed.uses.drives;
      ends = failed.ends;
      rests = λ off. let rests = failed.calls.rests off in (rests.sink, rests.drives, rests.calls);
      none = λ bare. let none = failed.uses.none bare in (none.sink, none.drives, none.bare);
      calls = failed.calls.calls;
      few = failed.calls.few;
    }

-- it was done

pub returns-in-Ok : goal.returns-in-Ok
returns-in-Ok g c =
    let old = c.args.self.now.system in
    let new = c.take_step.new.self.system in
    let done = c.in-Ok.ensures in
    record {
      ok = λ s first stands. step_stands c.args.self.now c.take_step.new.self _ _ _ _ s first done.ok stands;
      model = λ s here. step_at c.args.self.now c.take_step.new.self _ _ _ _ s done.ok here;
      stops = λ s first stands. tt;
      law = λ s is. step_by s old is c.requires.between.whole c.requires.between.no_completions;
      leaves = record {
        count = made_steps old new done.made.made;
        whole = made_whole old new c.requires.between.whole done.made.made;
        no_completions = made_no_completions old new done.made.made;
        due = λ some. made_nobody_due old new c.requires.between.whole done.made.made;
        locks = c.recall_sound.ensures;
        interprets = interprets_stepped old new c.requires.between.whole done.made.made;
        turn_steps = done.made.turn_steps;
      };
      holds = done.made.holds;
      drives = done.uses.drives;
      ends = done.ends;
      rests = λ off. let rests = done.calls.rests off in (tt, rests.drives, rests.calls);
      none = λ bare. let none = done.uses.none bare in (tt, none.drives, none.bare);
      calls = done.calls.calls;
      few = done.calls.few;
    }
