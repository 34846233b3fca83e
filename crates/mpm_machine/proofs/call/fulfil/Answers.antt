use Rattle.std.proofs.Common.{◌∙◌}
use Rattle.mpm_machine.proofs.EntryLaws.{lives_inside, room_inside, answers_inside}
use Rattle.mpm_machine.proofs.call.fulfil.Goals as goal

pub answer-requires : goal.answer-requires
answer-requires c = record {
  lives = lives_inside c.args.reply.now c.args.p c.args.system.now c.enter.new.system c.requires.lives c.enter.ensures.system;
  room = room_inside c.args.reply.now c.args.p c.args.system.now c.enter.new.system c.requires.room c.enter.ensures.system;
}

pub returns : goal.returns
returns c =
    c.answer.ensures ∙ answers_inside c.args.reply.now c.enter.new.reply c.args.p c.args.seg c.args.system.now c.enter.new.system c.enter.ensures.system c.enter.ensures.reply
