use Rattle.std.proofs.Common.{◌∙◌, rules, arith}
use Rattle.std.proofs.lemmas.Grind.{common_steps}
use Rattle.mpm_processor.specs.Moving.{View, view_of, moved}
use Rattle.mpm_processor.proofs.MovingLaws.{moves_join, unmoved, no_move, view_is}
use Rattle.mpm_processor.proofs.PlainLaws.{ran_once, ran_none}
use Rattle.mpm_processor.proofs.instruction.execute_others.Goals as goal

pub returns-in-Illegal : goal.returns-in-Illegal
returns-in-Illegal c =
    let view : View = view_of c.args.spec c.args.regs.now c.args.segment.now c.args.common.now c.args.devices.now in
    let new : View = view_of c.args.spec c.execute_other.new.regs c.execute_other.new.segment c.execute_other.new.common c.execute_other.new.devices in
    let is = view_is new (moved 0 view) c.execute_other.ensures.registers c.execute_other.ensures.memory c.execute_other.ensures.devices in
    let none = c.execute_other.ensures.illegal.0 c.in-Illegal.is in
    record {
      count = omega arith;
      moved = ran_none c.args.burst.inside view new none is;
      stopped = λ zero can. no_move c.args.burst.inside 0 view new none (is ∙ unmoved 0 view none) can;
    }

pub returns-then-regs-pc : goal.returns-then-regs-pc
returns-then-regs-pc c =
    let view : View = view_of c.args.spec c.args.regs.now c.args.segment.now c.args.common.now c.args.devices.now in
    let new : View = view_of c.args.spec c.execute_other.new.regs c.execute_other.new.segment c.execute_other.new.common c.execute_other.new.devices in
    let is = view_is new (moved 0 view) c.execute_other.ensures.registers c.execute_other.ensures.memory c.execute_other.ensures.devices in
    record {
      count = first_of (search rules, grind (arith, common_steps));
      moved = ran_once c.args.burst.inside c.execute_other.result view new c.requires.gate c.in-Ran.is c.execute_other.ensures.illegal is;
      stopped = first_of (search rules, grind (arith, common_steps));
    }

pub returns : goal.returns
returns c =
    let view : View = view_of c.args.spec c.args.regs.now c.args.segment.now c.args.common.now c.args.devices.now in
    let new : View = view_of c.args.spec c.execute_other.new.regs c.execute_other.new.segment c.execute_other.new.common c.execute_other.new.devices in
    let is = view_is new (moved 0 view) c.execute_other.ensures.registers c.execute_other.ensures.memory c.execute_other.ensures.devices in
    record {
      count = first_of (search rules, grind (arith, common_steps));
      moved = moves_join c.args.burst.inside 1 c.execute_loads.result 0 view new _
          (ran_once c.args.burst.inside c.execute_other.result view new c.requires.gate c.in-Ran.is c.execute_other.ensures.illegal is) (c.execute_loads.ensures.moved c.args.burst.inside);
      stopped = first_of (search rules, grind (arith, common_steps));
    }
