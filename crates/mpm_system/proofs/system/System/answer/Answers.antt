use Rattle.std.proofs.Common.{◌∙◌}
use Rattle.mpm_system.proofs.WholeLaws.{lives_replied, room_replied, answers_recorded}
use Rattle.mpm_system.proofs.system.System.answer.Goals as goal

pub record-requires : goal.record-requires
record-requires c = record {
  lives = lives_replied c.args.reply.now _ c.args.p c.args.seg c.args.self.now c.reply.new.self c.requires.lives c.reply.ensures;
  room = room_replied c.args.reply.now _ c.args.p c.args.seg c.args.self.now c.reply.new.self c.requires.room c.reply.ensures;
}

pub returns : goal.returns
returns c = c.record.ensures ∙ answers_recorded c.args.reply.now c.args.p c.args.seg c.args.self.now c.reply.new.self c.reply.ensures
