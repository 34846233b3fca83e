use Rattle.std.proofs.Common.{◌∙◌, length, sym, ap, arith}
use Rattle.mpm_system.specs.declared.system.System.{System}
use Rattle.mpm_machine.proofs.FinishLaws.{answered_system, answered_nobody, answered_few, first_has_room, rest_have_room}
use Rattle.mpm_machine.proofs.WholeStepLaws.{whole_first_so}
use Rattle.mpm_machine.proofs.finish.answer_each.Goals as goal

pub finish_first-requires : goal.finish_first-requires
finish_first-requires c = record {
  answers = record {
    whole = c.next_completed.ensures.whole;
    lives = c.in-Some.ensures.lives;
    room = first_has_room c.args.system.now c.next_completed.new.system c.requires.room c.in-Some.ensures.system;
  };
  reply = c.in-Some.ensures.reply;
}

pub finish_all-requires : goal.finish_all-requires
finish_all-requires c = record {
  whole = whole_first_so c.in-Some.p c.args.system.now c.next_completed.new.system c.finish_first.new.system c.requires.whole (sym c.in-Some.ensures.process)
      c.in-Some.ensures.system c.finish_first.ensures;
  room = rest_have_room c.in-Some.p c.args.system.now c.next_completed.new.system c.finish_first.new.system c.requires.room c.in-Some.ensures.system c.finish_first.ensures;
}

pub returns-in-Some : goal.returns-in-Some
returns-in-Some c = record {
  system = answered_system c.in-Some.p c.args.system.now c.next_completed.new.system c.finish_first.new.system _ (sym c.in-Some.ensures.process) c.in-Some.ensures.system
      c.finish_first.ensures c.finish_all.ensures.system;
  few = answered_few c.in-Some.p c.args.system.now c.next_completed.new.system c.finish_first.new.system c.finish_all.new.system c.in-Some.ensures.system c.finish_first.ensures
      c.finish_all.ensures.few;
}

pub returns-in_default : goal.returns-in_default
returns-in_default c = record {
  system = c.in_default.ensures.nothing ∙ sym (answered_nobody c.args.system.now (sym c.in_default.ensures.process));
  few = omega (arith, ap (λ (s : System). length s.records) c.in_default.ensures.nothing);
}
