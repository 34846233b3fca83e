use Rattle.std.proofs.Common.{◌∙◌, ℕ, sym, ap, subst, refl, arith, ◌+◌}
use Rattle.mpm_bdos.specs.Serving.{Kept}
use Rattle.mpm_system.specs.declared.system.System.{System}
use Rattle.mpm_machine.specs.State.{State, IsAt, StandsWithDrives}
use Rattle.mpm_machine.specs.After.{after, ShowsBefore}
use Rattle.mpm_machine.specs.Mounting.{HasNoDrive}
use Rattle.mpm_machine.specs.Failing.{StopsWithImages}
use Rattle.mpm_machine.proofs.NextLaws.{after_more, ends_in_step, so_in_step, turns_step, turns_fewer}
use Rattle.mpm_machine.proofs.DriveLaws.{keeps_still}
use Rattle.mpm_machine.proofs.PartsLaws.{keeps_since}
use Rattle.mpm_machine.proofs.machine.Machine.advance.Goals as goal

pub run_on-done-requires : goal.run_on-done-requires
run_on-done-requires g c =
    record { between = c.requires.between; room = c.requires.room }

pub step-requires : goal.step-requires
step-requires g c =
    let went = c.run_on-done.ensures.went in
    record {
      most = omega (arith, c.requires.room, c.run_on-done.ensures.count, went.done, c.if-done-most.false);
      between = record { whole = went.whole; no_completions = went.no_completions; holds = went.holds };
    }

-- nothing else was to be done

pub returns-then-done-most : goal.returns-then-done-most
returns-then-done-most g c =
    let ran = c.run_on-done.ensures.went in
    record {
      ok = λ s first stands. ran.ok s first stands;
      model = ran.model;
      stops = λ s first stands. tt;
      advanced = record {
        some = omega (arith, c.requires.some, c.if-done-most.true);
        few = c.run_on-done.ensures.count;
        leaves = record {
          count = ran.done;
          whole = ran.whole;
          no_completions = ran.no_completions;
          due = ran.due;
          locks = c.recall_sound.ensures;
          interprets = ran.interprets;
          turn_steps = ran.turn_steps;
        };
      };
      holds = ran.holds;
      uses = record {
        drives = record { keeps = keeps_still _ _ _ _ (ap (λ (k : Kept). k.mounted) ran.bdos); names = refl; unsynced = λ number was. was };
        none = λ bare. record { sink = tt; drives = refl; bare = subst (λ (k : Kept). HasNoDrive k.mounted) (sym ran.bdos) bare };
      };
      calls = λ s here. omega arith;
      few = λ turns. omega arith;
      ends = record { trace = refl; cause = record { stays = refl; failed = tt } };
    }

-- the last was a step of another sort

pub returns : goal.returns
returns g c =
    let done = c.run_on-done.result in
    let ran = c.run_on-done.ensures.went in
    let stepped = c.in_default.ensures in
    let bare_then = λ (bare : HasNoDrive c.args.self.now.bdos.mounted). subst (λ (k : Kept). HasNoDrive k.mounted) (sym ran.bdos) bare in
    record {
      ok = λ s first stands.
          let P : State → Type 0 = λ t. StandsWithDrives c.step.new.self c.step.new.render (g.S.Sink.written c.step.new.sink) (g.D.Drives.disks c.step.new.drives) t first in
          subst P (sym (after_more done s))
          (stepped.ok (after done s) first (ran.ok s first stands));
      model = λ s here.
          subst (IsAt c.step.new.self (g.D.Drives.disks c.step.new.drives)) (sym (after_more done s)) (stepped.model (after done s) (ran.model s here));
      stops = λ s first stands. tt;
      advanced = record {
        some = omega arith;
        few = omega (arith, c.run_on-done.ensures.count, c.if-done-most.false);
        leaves = record {
          count = omega (arith, ran.done, stepped.leaves.count);
          whole = stepped.leaves.whole;
          no_completions = stepped.leaves.no_completions;
          due = λ some. stepped.leaves.due (omega arith);
          locks = stepped.leaves.locks;
          interprets = λ i. stepped.leaves.interprets (ran.interprets i);
          turn_steps = stepped.leaves.turn_steps ∙ ran.turn_steps;
        };
      };
      holds = stepped.holds;
      uses = record {
        drives = record { keeps = keeps_since _ _ _ _ _ _ _ ran.bdos stepped.drives.keeps; names = stepped.drives.names; unsynced = stepped.drives.unsynced };
        none = λ bare. let none = stepped.none (bare_then bare) in record { sink = tt; drives = none.1; bare = none.2 };
      };
      calls = λ s here. turns_step g.D.Drives.disks done c.run_on-done.new.self c.args.drives.now s _ _ (ran.model s here) stepped.calls;
      few = λ turns. omega (arith, stepped.few (omega (arith, turns, ran.turn_steps)));
      ends = record { trace = stepped.ends.trace; cause = record { stays = stepped.ends.cause.stays; failed = tt } };
    }

-- that step failed

pub returns-in-Err : goal.returns-in-Err
returns-in-Err g c =
    let done = c.run_on-done.result in
    let ran = c.run_on-done.ensures.went in
    let failed = c.in-Err.ensures in
    let fault = c.in-Err.fault in
    let steps : System → ℕ = λ system. system.steps in
    record {
      ok = λ s first stands. tt;
      model = λ s here. tt;
      stops = λ s first stands.
          let same = ap steps stands.system.parts in
          let stops = failed.stops (after done s) first (ran.ok s first stands) in
          record {
            text = ends_in_step fault c.args.render.now.trace (g.S.Sink.written c.step.new.sink) first s c.args.most done _
                (omega (arith, c.run_on-done.ensures.count, c.if-done-most.false)) (omega (arith, c.steps_done-step.ensures, ran.done, same)) stops.text;
            shown = so_in_step (λ t. ShowsBefore fault c.step.new.render (g.S.Sink.written c.step.new.sink) t first) s done _
                (omega (arith, c.steps_done-step.ensures, ran.done, same)) stops.shown;
            images = so_in_step (StopsWithImages fault (g.D.Drives.disks c.step.new.drives) c.step.new.self.bdos.mounted) s done _
                (omega (arith, c.steps_done-step.ensures, ran.done, same)) stops.images;
          };
      advanced = tt;
      holds = tt;
      uses = record {
        drives = record { keeps = keeps_since _ _ _ _ _ _ _ ran.bdos failed.drives.keeps; names = failed.drives.names; unsynced = failed.drives.unsynced };
        none = λ bare.
            let none = failed.none (subst (λ (k : Kept). HasNoDrive k.mounted) (sym ran.bdos) bare) in
            record { sink = none.0; drives = none.1; bare = none.2 };
      };
      calls = λ s here.
          let few = turns_step g.D.Drives.disks done c.run_on-done.new.self c.args.drives.now s _ _ (ran.model s here) failed.calls in
          let all = turns_fewer (done + 1) c.args.most s (omega (arith, c.run_on-done.ensures.count, c.if-done-most.false)) in
          omega (arith, few, all);
      few = λ turns. omega (arith, c.requires.some, failed.few (omega (arith, turns, ran.turn_steps)));
      ends = record { trace = failed.ends.trace; cause = record { stays = tt; failed = failed.ends.cause.failed } };
    }
