use Rattle.std.proofs.Common.{◌≤◌, ◌-◌, arith}
use Rattle.mpm_kernel.proofs.SoundLaws.{runner_lives}
use Rattle.mpm_system.specs.Idling.{CanPass}
use Rattle.mpm_system.proofs.WholeLaws.{segment_is_home}
use Rattle.mpm_system.proofs.IdlingLaws.{fewer_can}
use Rattle.mpm_machine.specs.Moving.{Quiet}
use Rattle.mpm_machine.proofs.MovingLaws.{moved_disk, quiet_ahead, moved_state, moved_settled, whole_moved, no_completions_moved, steps_moved, ahead_moved}
use Rattle.mpm_machine.proofs.PassedLaws.{calls_moved}
use Rattle.mpm_machine.proofs.NobodyDueLaws.{none_aborted_due}
use Rattle.mpm_machine.proofs.ahead.run_burst.Goals as goal

pub run_process-requires : goal.run_process-requires
run_process-requires c =
    let here = c.args.ahead.now in
    let ahead = c.requires.ahead in
    let lives = runner_lives c.args.system.now.kernel here.p c.requires.whole.sound ahead.on.running in
    let few : c.min-few.result ≤ c.args.most = omega (arith, c.min-few.ensures, c.saturating_sub.ensures) in
    let within : c.min-few.result ≤ here.last - c.args.system.now.steps = omega (arith, c.min-few.ensures, c.saturating_sub.ensures) in
    record {
      lives = lives;
      home = segment_is_home c.args.system.now here.p here.seg c.requires.whole lives ahead.on.home;
      room = omega (arith, c.requires.room, few);
      sound = c.requires.whole.sound;
      short = omega (arith, c.requires.room, few);
      passing = fewer_can c.min-few.result (here.last - c.args.system.now.steps) c.args.system.now.kernel.disk within ahead.passing;
    }

pub returns : goal.returns
returns c =
    let here = c.args.ahead.now in
    let old = c.args.system.now in
    let new = c.run_process.new.system in
    let done = c.run_process.result in
    let ahead = c.requires.ahead in
    let on = ahead.on in
    let lives = runner_lives old.kernel here.p c.requires.whole.sound on.running in
    let moved = c.run_process.ensures.moved in
    let few : done ≤ c.args.most = omega (arith, c.min-few.ensures, c.saturating_sub.ensures, c.run_process.ensures.count) in
    let within : done ≤ here.last - old.steps = omega (arith, c.min-few.ensures, c.saturating_sub.ensures, c.run_process.ensures.count) in
    let quiet : Quiet done old = quiet_ahead done here old within ahead in
    let passing : CanPass done old.kernel.disk = fewer_can done (here.last - old.steps) old.kernel.disk within ahead.passing in
    record {
      count = few;
      went = record {
        states = λ s is inside. moved_state done here.p here.seg old new s c.requires.whole on moved quiet passing inside is;
        disk = moved_disk done here.p here.seg old new moved;
        calls = calls_moved done here.p here.seg old new moved;
        due = λ some. none_aborted_due new.kernel (moved_settled done here.p here.seg old new c.requires.whole on moved);
        whole = whole_moved done here.p here.seg old new c.requires.whole lives moved;
        no_completions = no_completions_moved done here.p here.seg old new moved on.no_completions;
        done = steps_moved done here.p here.seg old new moved;
      };
      still = ahead_moved done here old new c.requires.whole within moved ahead;
    }
