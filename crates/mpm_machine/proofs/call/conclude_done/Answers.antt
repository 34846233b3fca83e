use Rattle.mpm_procs.specs.Table.{call_of}
use Rattle.mpm_output.specs.Outside.{TheSink}
use Rattle.mpm_output.proofs.WritingLaws.{fails_before}
use Rattle.mpm_machine.specs.Serving.{completing}
use Rattle.mpm_machine.proofs.CallLaws.{lives_said, room_popped, popped_after, completed_system, wrote_text, text_fails}
use Rattle.mpm_machine.proofs.MakingLaws.{makes_after, makes_none}
use Rattle.mpm_machine.proofs.call.conclude_done.Goals as goal

pub returns-in_err-put_echo : goal.returns-in_err-put_echo
returns-in_err-put_echo g c = makes_none _ _ _ _ _ _ _ _ _ c.from_residual.ensures.0 (fails_before TheSink _ _ _ _ c.in_err-put_echo.ensures.wrote.err)

pub returns-in_err-speak : goal.returns-in_err-speak
returns-in_err-speak g c =
    let old = c.args.system.now in
    makes_after _ (completing c.args.reply.now (call_of old.kernel.dispatcher.procs c.args.p) c.args.p c.args.seg old) c.in_ok-put_echo.ensures.wrote.ok
    (makes_none _ _ _ _ _ _ _ _ _ c.from_residual-in_err-speak.ensures.0 (text_fails TheSink _ _ c.args.reply.now c.args.p c.args.seg old c.in_err-speak.ensures.wrote.err))

pub pop-requires : goal.pop-requires
pop-requires g c =
    record { lives = lives_said c.args.p c.args.seg c.args.system.now c.speak.new.self c.requires.whole c.requires.lives c.in_ok-speak.ensures.system }

pub fulfil-requires : goal.fulfil-requires
fulfil-requires g c =
    let so = popped_after c.args.p c.args.seg c.args.system.now c.speak.new.self c.pop.new.self c.requires.whole c.requires.lives c.in_ok-speak.ensures.system c.pop.ensures in
    record {
      whole = so.whole;
      lives = so.lives;
      room = room_popped c.args.p c.args.seg c.args.system.now c.speak.new.self c.pop.new.self c.requires.room c.in_ok-speak.ensures.system c.pop.ensures;
    }

pub returns : goal.returns
returns g c =
    let old = c.args.system.now in
    let so = popped_after c.args.p c.args.seg old c.speak.new.self c.pop.new.self c.requires.whole c.requires.lives c.in_ok-speak.ensures.system c.pop.ensures in
    makes_after _ (completing c.args.reply.now (call_of old.kernel.dispatcher.procs c.args.p) c.args.p c.args.seg old) c.in_ok-put_echo.ensures.wrote.ok (record {
      system = completed_system c.args.reply.now c.args.p c.args.seg old c.pop.new.self c.fulfil.new.system so c.fulfil.ensures;
      wrote = record { ok = wrote_text _ _ c.args.reply.now c.args.p c.args.seg old c.in_ok-speak.ensures.wrote.ok; err = tt };
    })
