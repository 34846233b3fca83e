use Rattle.std.proofs.Common.{rules, arith}
use Rattle.std.proofs.lemmas.Grind.{common_steps}
use Rattle.mpm_system.specs.Coming.{coming, counted}
use Rattle.mpm_machine.proofs.TallyLaws.{begun_has_room}
use Rattle.mpm_machine.proofs.WholeStepLaws.{whole_counted, whole_after_begun}
use Rattle.mpm_machine.proofs.StepLaws.{alone_room}
use Rattle.mpm_machine.proofs.acting.begin_alone.Goals as goal

pub answer_all-requires : goal.answer_all-requires
answer_all-requires g c = record {
  whole = whole_after_begun (counted c.args.system.now) c.begin.new.system (whole_counted c.args.system.now c.requires.whole) c.in_ok-instruction.ensures.done.system;
  room = begun_has_room (coming (counted c.args.system.now)) (counted c.args.system.now) c.begin.new.system c.requires.no_completions.written c.in_ok-instruction.ensures.done.system;
}

pub returns : goal.returns
returns g c = record {
  system = first_of (search rules, grind (arith, common_steps));
  room = alone_room c.args.system.now c.begin.new.system c.answer_all.new.system c.requires.no_completions.written c.in_ok-instruction.ensures.done.system c.answer_all.ensures.few;
  instruction = first_of (search rules, grind (arith, common_steps));
  wrote = first_of (search rules, grind (arith, common_steps));
}
