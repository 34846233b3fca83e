use Rattle.std.proofs.Common.{◌∙◌, Some, ap, arith, ℕ, Option, sym}
use Rattle.mpm_output.specs.Outside.{seen}
use Rattle.mpm_system.specs.declared.system.System.{System}
use Rattle.mpm_machine.specs.Faults.{itself}
use Rattle.mpm_machine.specs.DiskStep.{file_called}
use Rattle.mpm_machine.proofs.WholeStepLaws.{whole_all_answered}
use Rattle.mpm_machine.proofs.DueLaws.{no_completions_answered}
use Rattle.mpm_machine.proofs.FileStepLaws.{call_records, called_few, begun_with_has_room}
use Rattle.mpm_machine.proofs.BegunLaws.{keeps_made, holds_kept, holds_answered}
use Rattle.mpm_machine.proofs.WithFilesLaws.{lives_to_call, ready_to_call, made_so, made_completed, gate_stands, gate_whole, gate_serves, gate_begun_to, gate_made, gate_err, gate_still, gate_apart, gate_images, gate_calls, gate_idle}
use Rattle.mpm_machine.proofs.PartsLaws.{uses_as}
use Rattle.mpm_machine.proofs.machine.Machine.begin_with_files.Goals as goal
use Rattle.mpm_machine.specs.Stepping.{is_instruction}

pub make_file_call-requires : goal.make_file_call-requires
make_file_call-requires g c = record {
  process = record { whole = c.requires.may.whole; lives = lives_to_call c.args.p c.args.self.now.system c.requires.may.whole c.requires.caller };
  most = c.requires.may.most;
}

pub call_or_wait-requires : goal.call_or_wait-requires
call_or_wait-requires g c =
    let old = c.args.self.now.system in
    let made = c.make_file_call.new.self in
    let is = c.make_file_call.ensures in
    let may = c.requires.may in
    let m = made_so c.args.p old made may.whole c.requires.caller is in
    let is_ready = ready_to_call c.args.p old may.whole c.requires.caller in
    record {
      may = record {
        whole = m.whole;
        completed = made_completed c.args.p old made may.no_completions.answered is;
        none = call_records c.args.p old made may.no_completions.written is;
        lives = m.lives;
        ready = m.ready is_ready;
        holds = holds_kept g.D.Drives.disks old made c.args.self.now.bdos c.args.drives.now (keeps_made c.args.p old made may.whole.sound is_ready is) may.holds;
        files = may.files;
        stands = gate_stands c.args.p old made c.args.self.now.bdos (g.D.Drives.disks c.args.drives.now) may.files is may.stands;
      };
    }

pub answer_all-requires : goal.answer_all-requires
answer_all-requires g c =
    let old = c.args.self.now.system in
    let made = c.make_file_call.new.self in
    let is = c.make_file_call.ensures in
    let may = c.requires.may in
    let has = c.in-Ok.ensures.made in
    record {
      whole = gate_whole c.args.p old made c.call_or_wait.new.self.system (made_so c.args.p old made may.whole c.requires.caller is)
          (ready_to_call c.args.p old may.whole c.requires.caller) has;
      room = begun_with_has_room (Some c.args.p) has.0 old c.call_or_wait.new.self.system may.no_completions.written
          (has.1 ∙ ap (λ (s : System). (file_called has.0 c.args.p s).system) is);
    }

-- it was done

pub returns-in-Ok : goal.returns-in-Ok
returns-in-Ok g c =
    let p = c.args.p in
    let old = c.args.self.now.system in
    let made = c.make_file_call.new.self in
    let called = c.call_or_wait.new.self in
    let new = c.answer_all.new.system in
    let is = c.make_file_call.ensures in
    let may = c.requires.may in
    let kept = c.args.self.now.bdos in
    let disks = g.D.Drives.disks c.args.drives.now in
    let done = c.in-Ok.ensures in
    let m = made_so p old made may.whole c.requires.caller is in
    let is_ready = ready_to_call p old may.whole c.requires.caller in
    let answers = c.answer_all.ensures.system in
    let filed = (holds_kept g.D.Drives.disks old made kept c.args.drives.now (keeps_made p old made may.whole.sound is_ready is) may.holds).filed in
    let whole = gate_whole p old made called.system m is_ready done.made in
    let serves = gate_serves p old made called.system new is m is_ready filed done.made answers in
    record {
      ok = λ files stands.
          gate_begun_to p files (seen g.S.Sink.written g.S.Sink.faults c.args.render.now c.args.sink.now)
          (seen g.S.Sink.written g.S.Sink.faults c.call_or_wait.new.render c.call_or_wait.new.sink) old made called.system new called.bdos
          (g.D.Drives.disks c.call_or_wait.new.drives) c.requires.caller is m is_ready filed done.made answers (done.ok files (gate_stands p old made kept disks files is stands));
      stops = λ files stands. tt;
      instruction = sym (ap (λ (caller : Option ℕ). is_instruction caller old) c.requires.caller);
      begun = record {
        made = gate_made p old made called.system new c.requires.caller is done.made answers;
        served = serves.served;
        turn_steps = serves.steps;
        whole = whole_all_answered called.system new whole answers;
        completed = ap (λ (s : System). s.kernel.dispatcher.completed) answers ∙ no_completions_answered called.system;
        room = omega (arith, c.answer_all.ensures.few, called_few done.made.0 p made called.system (call_records p old made may.no_completions.written is) done.made.1);
        holds = holds_answered g.D.Drives.disks done.made.0 p made called.system new called.bdos c.call_or_wait.new.drives m.whole m.lives (m.ready is_ready) whole done.made.1 answers
            c.call_or_wait.ensures.holds;
      };
      uses = uses_as itself _ done.uses (λ bare. tt);
      rests = record {
        idle = λ off. let idle = done.rests.idle (gate_idle p old made c.requires.caller is off) in record { sink = tt; drives = idle.drives; calls = idle.calls };
        apart = λ some. let apart = done.rests.apart (gate_apart p old made is some) in record { sink = tt; drives = apart.drives; calls = apart.calls };
      };
      calls = λ files stands. gate_calls p old made kept disks files _ _ c.requires.caller is stands done.calls (λ some. (done.rests.apart some).calls);
      ends = record { trace = done.ends.trace; cause = record { stays = done.ends.cause.stays; failed = tt } };
    }

-- where it stopped

pub returns-in-Err : goal.returns-in-Err
returns-in-Err g c =
    let p = c.args.p in
    let fault = c.in-Err.fault in
    let old = c.args.self.now.system in
    let made = c.make_file_call.new.self in
    let is = c.make_file_call.ensures in
    let kept = c.args.self.now.bdos in
    let disks = g.D.Drives.disks c.args.drives.now in
    let disks' = g.D.Drives.disks c.call_or_wait.new.drives in
    let failed = c.in-Err.ensures in
    record {
      ok = λ files stands. tt;
      stops = λ files stands.
          let here = gate_stands p old made kept disks files is stands in
          record {
            text = gate_err fault p files _ _ old made c.requires.caller is (failed.err files here);
            images = gate_images fault p old made kept disks disks' c.call_or_wait.new.self.bdos.mounted files c.requires.caller is stands failed.images (λ some. (failed.rests.apart some).sink);
            stands = gate_still fault p old made c.call_or_wait.new.self.bdos disks' files c.requires.caller is (failed.stands files here);
          };
      instruction = tt;
      begun = tt;
      uses = uses_as itself _ failed.uses (λ bare. (failed.uses.none bare).sink);
      rests = record {
        idle = λ off. let idle = failed.rests.idle (gate_idle p old made c.requires.caller is off) in record { sink = idle.sink; drives = idle.drives; calls = idle.calls };
        apart = λ some. let apart = failed.rests.apart (gate_apart p old made is some) in record { sink = apart.sink; drives = apart.drives; calls = apart.calls };
      };
      calls = λ files stands. gate_calls p old made kept disks files _ _ c.requires.caller is stands failed.calls (λ some. (failed.rests.apart some).calls);
      ends = record { trace = failed.ends.trace; cause = record { stays = tt; failed = failed.ends.cause.failed } };
    }
