use Rattle.std.proofs.Common.{◌+◌, IsSome, is_some, ap, arith, rules}
use Rattle.std.proofs.lemmas.Grind.{common_steps}
use Rattle.mpm_processor.proofs.MovingLaws.{moves_none, moves_join}
use Rattle.mpm_processor.proofs.PlainLaws.{rare_in}
use Rattle.mpm_processor.proofs.instruction.execute_from.Goals as goal

pub loop-spec-init : goal.loop-spec-init
loop-spec-init c = record {
  moved = moves_none c.args.burst.inside 0 _;
  below = c.requires.some;
  gate = c.requires.gate;
  rare = c.requires.rare;
}

pub returns-then-others-eq0 : goal.returns-then-others-eq0
returns-then-others-eq0 c = record {
  count = first_of (search rules, grind (arith, common_steps));
  moved = moves_join c.args.burst.inside c.loop-spec.done c.execute_others-others.result 0 _ _ _ c.loop-spec.invariant.moved c.execute_others-others.ensures.moved;
  stopped = first_of (search rules, grind (arith, common_steps));
}

pub returns-in-None : goal.returns-in-None
returns-in-None c = record {
  count = first_of (search rules, grind (arith, common_steps));
  moved = moves_join c.args.burst.inside (c.loop-spec.done + c.execute_others-others.result) c.execute_plain-paused.result.done 0 _ _ _
      (moves_join c.args.burst.inside c.loop-spec.done c.execute_others-others.result 0 _ _ _ c.loop-spec.invariant.moved c.execute_others-others.ensures.moved)
      c.execute_plain-paused.ensures.moved;
  stopped = first_of (search rules, grind (arith, common_steps));
}

pub loop-spec-preserved : goal.loop-spec-preserved
loop-spec-preserved c =
    let paused = c.execute_plain-paused.ensures in
    let some : IsSome c.execute_plain-paused.result.opcode = ap is_some c.in-Some.is in
    record {
      moved = moves_join c.args.burst.inside (c.loop-spec.done + c.execute_others-others.result) c.execute_plain-paused.result.done 0 _ _ _
          (moves_join c.args.burst.inside c.loop-spec.done c.execute_others-others.result 0 _ _ _ c.loop-spec.invariant.moved c.execute_others-others.ensures.moved)
          paused.moved;
      below = omega (arith, paused.below some);
      gate = paused.gate some;
      rare = rare_in _ c.in-Some.opcode _ _ c.in-Some.is paused.rare;
    }
