use Rattle.std.proofs.Common.{ap, sym, arith}
use Rattle.mpm_system.specs.declared.system.System.{System}
use Rattle.mpm_machine.proofs.MovingLaws.{quiet_steps}
use Rattle.mpm_machine.proofs.PassingLaws.{passes_nothing}
use Rattle.mpm_machine.proofs.IdleLaws.{Idles, idle_state, idle_settled, idle_whole, idle_handed}
use Rattle.mpm_machine.proofs.PassedLaws.{alike_itself, calls_idle}
use Rattle.mpm_machine.proofs.NextLaws.{still_state}
use Rattle.mpm_machine.proofs.NobodyDueLaws.{none_aborted_due}
use Rattle.mpm_machine.proofs.ahead.idle.Goals as goal

pub pass-requires : goal.pass-requires
pass-requires c = record {
  sound = c.requires.whole.sound;
  room = omega (arith, c.requires.room, c.quiet_for-few.ensures.few);
  short = omega (arith, c.requires.room, c.quiet_for-few.ensures.few);
  passing = c.quiet_for-few.ensures.passing;
}

-- nothing is done, as no process runs and none is ready

pub returns : goal.returns
returns c =
    let old = c.args.system.now in
    let new = c.pass.new.self in
    let done = c.quiet_for-few.result in
    let none_deferred = c.if-not-is_idle.ensures.none_deferred in
    let on : Idles old done = record {
      idle = λ some. c.if-not-is_idle.ensures.idle;
      no_completions = c.requires.no_completions;
      settled = c.requires.whole.settled none_deferred;
      none_deferred = none_deferred;
      passing = c.quiet_for-few.ensures.passing;
      quiet = quiet_steps done old c.quiet_for-few.ensures.quiet;
    } in
    record {
      count = c.quiet_for-few.ensures.few;
      went = record {
        states = λ s is inside. idle_state done old new s on inside c.pass.ensures is;
        disk = ap (λ (system : System). system.kernel.disk) c.pass.ensures;
        calls = calls_idle done old new c.pass.ensures;
        due = λ some. none_aborted_due new.kernel (idle_settled done old new on c.pass.ensures);
        whole = idle_whole done old new c.requires.whole c.pass.ensures;
        no_completions = idle_handed done old new c.requires.no_completions c.pass.ensures;
        done = ap (λ (system : System). system.steps) c.pass.ensures;
      };
    }

-- a process runs or is ready, or an end may be put off

pub returns-then-not-is_idle : goal.returns-then-not-is_idle
returns-then-not-is_idle c =
    let old = c.args.system.now in
    record {
      count = omega arith;
      went = record {
        states = λ s is inside. still_state old s is;
        disk = sym (passes_nothing old.kernel.disk);
        calls = alike_itself old.kernel.dispatcher.procs;
        due = λ some. absurd (omega (arith, some));
        whole = c.requires.whole;
        no_completions = c.requires.no_completions;
        done = omega arith;
      };
    }
