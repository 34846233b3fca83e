use Rattle.std.proofs.Common.{◌≡◌, ◌∙◌, ◌+◌, ◌-◌, ℕ, sym, subst, refl, arith, Bool, ◌≤◌, ◌*◌}
use Rattle.mpm_machine.specs.State.{State, IsAt, StandsWithDrives}
use Rattle.mpm_machine.specs.Failing.{StopsWithImages}
use Rattle.mpm_machine.specs.Faults.{FailureCounts, counts, HasFailed}
use Rattle.mpm_machine.specs.After.{after, EndsInStep, ShowsBefore}
use Rattle.mpm_machine.proofs.NextLaws.{after_nothing, after_both, ends_later, step_in_run, so_later, turns_both}
use Rattle.mpm_machine.proofs.DriveLaws.{keeps_still, keeps_both}
use Rattle.mpm_machine.proofs.machine.Machine.run.Goals as goal
use Rattle.mpm_machine.specs.OneStep.{turns_in}

pub loop-left-init : goal.loop-left-init
loop-left-init g c = record {
  done = 0;
  is = omega arith;
  stands = λ s first stands.
      let P : State → Type 0 = λ t. StandsWithDrives c.args.self.now c.args.render.now (g.S.Sink.written c.args.sink.now) (g.D.Drives.disks c.args.drives.now) t first in
      subst P (sym (after_nothing s)) stands;
  model = λ s here. subst (IsAt c.args.self.now (g.D.Drives.disks c.args.drives.now)) (sym (after_nothing s)) here;
  interprets = λ i. i;
  due = λ some. absurd (omega (arith, some));
  few = omega arith;
  whole = c.requires.between.whole;
  no_completions = c.requires.between.no_completions;
  steps = omega arith;
  faults = refl;
  trace = refl;
  holds = c.requires.between.holds;
  names = refl;
  keeps = keeps_still _ _ _ _ refl;
  bare = λ none. none;
  still = λ zero. refl;
  none = λ none. refl;
  calls = λ s here. omega arith;
  few_calls = λ turns. omega arith;
  turn_steps = refl;
  unsynced = λ number was. was;
}

pub advance-requires : goal.advance-requires
advance-requires g c =
    let so_far = c.loop-left.invariant in
    record {
      some = c.loop-left-test.true;
      room = omega (arith, c.requires.most, so_far.is, so_far.steps);
      between = record { whole = so_far.whole; no_completions = so_far.no_completions; holds = so_far.holds };
    }

pub loop-left-preserved : goal.loop-left-preserved
loop-left-preserved g c =
    let so_far = c.loop-left.invariant in
    let done = c.in-Ok.ensures in
    let leaves = done.advanced.leaves in
    record {
      done = so_far.done + c.in-Ok.more;
      is = omega (arith, done.advanced.few, so_far.is);
      stands = λ s first stands.
          let P : State → Type 0 = λ t. StandsWithDrives c.advance.new.self c.advance.new.render (g.S.Sink.written c.advance.new.sink) (g.D.Drives.disks c.advance.new.drives) t first in
          subst P (sym (after_both so_far.done c.in-Ok.more s)) (done.ok (after so_far.done s) first (so_far.stands s first stands));
      model = λ s here.
          subst (IsAt c.advance.new.self (g.D.Drives.disks c.advance.new.drives)) (sym (after_both so_far.done c.in-Ok.more s)) (done.model (after so_far.done s) (so_far.model s here));
      interprets = λ i. leaves.interprets (so_far.interprets i);
      due = λ some. leaves.due done.advanced.some;
      few = omega (arith, done.advanced.few, so_far.is);
      whole = leaves.whole;
      no_completions = leaves.no_completions;
      steps = omega (arith, leaves.count, so_far.steps);
      faults = done.ends.cause.stays ∙ so_far.faults;
      trace = done.ends.trace ∙ so_far.trace;
      holds = done.holds;
      names = done.uses.drives.names ∙ so_far.names;
      keeps = keeps_both _ _ _ _ _ _ c.args.self.now.bdos.mounted c.loop-left.self.bdos.mounted c.advance.new.self.bdos.mounted so_far.keeps done.uses.drives.keeps;
      bare = λ none. (done.uses.none (so_far.bare none)).bare;
      still = λ zero. absurd (omega (arith, zero, done.advanced.some));
      none = λ none. (done.uses.none (so_far.bare none)).drives ∙ so_far.none none;
      calls = λ s here. omega (arith, so_far.calls s here, done.calls (after so_far.done s) (so_far.model s here), turns_both so_far.done c.in-Ok.more s);
      few_calls = λ turns. omega (arith, so_far.few_calls turns, done.few (omega (arith, turns, so_far.turn_steps)));
      turn_steps = leaves.turn_steps ∙ so_far.turn_steps;
      unsynced = λ number was. done.uses.drives.unsynced number (so_far.unsynced number was);
    }

-- a step failed

pub returns-in-Err : goal.returns-in-Err
returns-in-Err g c =
    let done = c.loop-left.invariant.done in
    let fault = c.in-Err.error.fault in
    let step = c.in-Err.error.step in
    let written = g.S.Sink.written c.advance.new.sink in
    let disks = g.D.Drives.disks c.advance.new.drives in
    let so_far = c.loop-left.invariant in
    let left : c.loop-left.left ≡ c.args.n - done = omega (arith, so_far.is) in
    record {
      ok = λ s first stands. tt;
      model = λ s here. tt;
      stops = λ s first stands.
          let P : Bool → Type 0 = λ trace. EndsInStep fault trace written first (after done s) (c.args.n - done) step in
          let Q : ℕ → Type 0 = λ most. EndsInStep fault c.loop-left.render.trace written first (after done s) most step in
          let there = so_far.stands s first stands in
          let stops = c.in-Err.ensures.stops (after done s) first there in
          record {
            text = ends_later fault c.args.render.now.trace written first s c.args.n done step so_far.few (subst P so_far.trace (subst Q left stops.text));
            shown = so_later (λ t. ShowsBefore fault c.advance.new.render written t first) s done step stops.text.later stops.shown;
            images = so_later (StopsWithImages fault disks c.advance.new.self.bdos.mounted) s done step stops.text.later stops.images;
          };
      each = λ s is k below. step_in_run k s c.args.self.now.system is c.requires.between.whole c.requires.between.no_completions;
      leaves = tt;
      ends = record {
        trace = c.in-Err.ensures.ends.trace ∙ so_far.trace;
        cause = record {
          stays = tt;
          failed = subst (λ (old : FailureCounts). HasFailed fault old (counts g.S.Sink.faults g.D.Drives.faults c.advance.new.sink c.advance.new.drives)) so_far.faults c.in-Err.ensures.ends.cause.failed;
        };
      };
      drives = record {
        keeps = keeps_both _ _ _ _ _ _ c.args.self.now.bdos.mounted c.loop-left.self.bdos.mounted c.advance.new.self.bdos.mounted so_far.keeps c.in-Err.ensures.uses.drives.keeps;
        names = c.in-Err.ensures.uses.drives.names ∙ so_far.names;
        unsynced = λ number was. c.in-Err.ensures.uses.drives.unsynced number (so_far.unsynced number was);
      };
      holds = tt;
      still = λ zero. absurd (omega (arith, zero, c.loop-left.invariant.is, c.loop-left-test.true));
      none = λ none. let bare = c.in-Err.ensures.uses.none (so_far.bare none) in (bare.sink, bare.drives ∙ so_far.none none, bare.bare);
      calls = λ s here.
          let few = c.in-Err.ensures.calls (after done s) (so_far.model s here) in
          let all = turns_both done c.loop-left.left s in
          subst (λ (n : ℕ). c.advance.new.calls ≤ c.args.calls.now + 20 * turns_in n s) so_far.is (omega (arith, so_far.calls s here, few, all));
      few = λ turns. omega (arith, so_far.few_calls turns, so_far.is, c.in-Err.ensures.few (omega (arith, turns, so_far.turn_steps)));
    }

-- all were done

pub returns : goal.returns
returns g c =
    let done = c.loop-left.invariant.done in
    let so_far = c.loop-left.invariant in
    let all : done ≡ c.args.n = omega (arith, so_far.is, c.loop-left-test.false) in
    record {
      ok = λ s first stands.
          let P : ℕ → Type 0 = λ k. StandsWithDrives c.loop-left.self c.loop-left.render (g.S.Sink.written c.loop-left.sink) (g.D.Drives.disks c.loop-left.drives) (after k s) first in
          subst P all (so_far.stands s first stands);
      model = λ s here.
          let P : ℕ → Type 0 = λ k. IsAt c.loop-left.self (g.D.Drives.disks c.loop-left.drives) (after k s) in
          subst P all (so_far.model s here);
      stops = λ s first stands. tt;
      each = λ s is k below. step_in_run k s c.args.self.now.system is c.requires.between.whole c.requires.between.no_completions;
      leaves = record {
        count = omega (arith, so_far.steps, all);
        whole = so_far.whole;
        no_completions = so_far.no_completions;
        due = λ some. so_far.due (omega (arith, some, all));
        locks = c.recall_sound.ensures;
        interprets = so_far.interprets;
        turn_steps = so_far.turn_steps;
      };
      ends = record { trace = so_far.trace; cause = record { stays = so_far.faults; failed = tt } };
      drives = record { keeps = so_far.keeps; names = so_far.names; unsynced = so_far.unsynced };
      holds = so_far.holds;
      still = λ zero. so_far.still (omega (arith, zero, so_far.few));
      none = λ none. (tt, so_far.none none, so_far.bare none);
      calls = λ s here. subst (λ (n : ℕ). c.loop-left.calls ≤ c.args.calls.now + 20 * turns_in n s) all (so_far.calls s here);
      few = λ turns. omega (arith, so_far.few_calls turns, so_far.few);
    }
