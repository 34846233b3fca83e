use Rattle.mpm_output.specs.Outside.{TheSink}
use Rattle.mpm_machine.proofs.MakingLaws.{makes_none}
use Rattle.mpm_machine.proofs.FileLaws.{room_told, told_stays, told_fails, wrote_told, told_system}
use Rattle.mpm_machine.proofs.file_calls.tell_and_meet.Goals as goal

pub returns-in_err-tell_error : goal.returns-in_err-tell_error
returns-in_err-tell_error g c =
    makes_none _ _ _ _ _ _ _ _ _ c.from_residual.ensures.0
    (told_fails TheSink c.args.answers c.args.error c.args.reply.now c.args.p c.args.system.now _ _ c.in_err-tell_error.ensures.wrote.err)

pub answer_or_end-requires : goal.answer_or_end-requires
answer_or_end-requires g c =
    let told = told_stays c.args.error c.args.p c.args.system.now c.tell_error.new.self c.requires.whole c.requires.lives c.tell_error.ensures.system in
    record {
      whole = told.whole;
      lives = told.lives;
      room = room_told c.args.error c.args.p c.args.system.now c.tell_error.new.self c.requires.room c.tell_error.ensures.system;
    }

pub returns : goal.returns
returns g c = record {
  system = told_system c.args.answers c.args.error c.args.reply.now c.args.p c.args.system.now c.tell_error.new.self c.answer_or_end.new.system
      c.tell_error.ensures.system c.answer_or_end.ensures;
  wrote = record { ok = wrote_told c.args.answers c.args.error c.args.reply.now c.args.p c.args.system.now _ _ c.in_ok-tell_error.ensures.wrote.ok; err = tt };
}
