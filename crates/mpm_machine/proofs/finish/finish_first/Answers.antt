use Rattle.std.proofs.Common.{◌∙◌, sym, ap, length, arith}
use Rattle.mpm_system.specs.declared.system.System.{System}
use Rattle.mpm_machine.proofs.SendingLaws.{was_let_in, lives_let_in, reply_let_in}
use Rattle.mpm_machine.proofs.finish.finish_first.Goals as goal

pub chains-requires : goal.chains-requires
chains-requires c =
    lives_let_in c.args.p c.args.system.now c.let_in.new.self (was_let_in c.args.p c.args.system.now c.let_in.new.self c.requires.answers.whole c.let_in.ensures)
    c.requires.answers.lives

pub end-requires : goal.end-requires
end-requires c =
    let in_time = was_let_in c.args.p c.args.system.now c.let_in.new.self c.requires.answers.whole c.let_in.ensures in
    record { whole = in_time.whole; lives = lives_let_in c.args.p c.args.system.now c.let_in.new.self in_time c.requires.answers.lives }

pub finish-requires : goal.finish-requires
finish-requires c =
    let in_time = was_let_in c.args.p c.args.system.now c.let_in.new.self c.requires.answers.whole c.let_in.ensures in
    record {
      answers = record {
        whole = in_time.whole;
        lives = lives_let_in c.args.p c.args.system.now c.let_in.new.self in_time c.requires.answers.lives;
        room = omega (arith, c.requires.answers.room, ap (λ (s : System). length s.records) c.let_in.ensures);
      };
      reply = c.requires.reply ∙ sym (reply_let_in c.args.p c.args.system.now c.let_in.new.self in_time);
    }
