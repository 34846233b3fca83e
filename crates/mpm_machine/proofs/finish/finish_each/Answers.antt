use Rattle.std.proofs.Common.{◌∙◌, sym}
use Rattle.mpm_machine.proofs.FinishLaws.{completed_none, finished_more, finished_system, finished_first, fewer_left, has_room, others_have_room}
use Rattle.mpm_machine.proofs.WholeStepLaws.{whole_left}
use Rattle.mpm_machine.proofs.finish.finish_each.Goals as goal

pub finish-requires : goal.finish-requires
finish-requires c = record {
  answers = record {
    whole = c.next_completed.ensures.whole;
    lives = c.in-Some.ensures.lives;
    room = has_room c.loop-p.system c.next_completed.new.system c.in-Some.p c.loop-p.invariant.room (sym c.in-Some.ensures.process) c.in-Some.ensures.system;
  };
  reply = c.in-Some.ensures.reply;
}

pub loop-p-smaller : goal.loop-p-smaller
loop-p-smaller c =
    let now = c.loop-p.system in
    fewer_left now c.finish.new.system c.in-Some.p (sym c.in-Some.ensures.process)
    (finished_first now c.next_completed.new.system c.finish.new.system c.in-Some.p c.in-Some.ensures.system c.finish.ensures)

pub loop-p-preserved : goal.loop-p-preserved
loop-p-preserved c =
    let now = c.loop-p.system in
    let p = c.in-Some.p in
    let first = sym c.in-Some.ensures.process in
    let is = finished_first now c.next_completed.new.system c.finish.new.system p c.in-Some.ensures.system c.finish.ensures in
    record {
      so = finished_more c.args.system.now now c.finish.new.system p c.loop-p.invariant.so first is;
      whole = whole_left now c.finish.new.system p c.loop-p.invariant.whole first is;
      room = others_have_room now c.finish.new.system p c.loop-p.invariant.room first is;
    }

pub returns : goal.returns
returns c =
    let none = completed_none c.loop-p.system.kernel.dispatcher.completed (sym c.in_default.ensures.process) in
    c.in_default.ensures.nothing ∙ finished_system c.args.system.now c.loop-p.system c.loop-p.invariant.so none
