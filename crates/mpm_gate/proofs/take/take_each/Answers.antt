use Rattle.std.proofs.Common.{refl}
use Rattle.mpm_gate.proofs.TakenLaws.{taken_none, taken_one_more, taken_room}
use Rattle.mpm_gate.proofs.take.take_each.Goals as goal

pub loop-k-init : goal.loop-k-init
loop-k-init c = taken_none _ _ _ _ refl

pub push-requires : goal.push-requires
push-requires c = taken_room _ _ _ c.args.count _ _ c.loop-k.invariant c.requires c.loop-k-test.true

pub loop-k-preserved : goal.loop-k-preserved
loop-k-preserved c = taken_one_more _ _ _ _ _ _ _ c.loop-k.invariant c.byte.ensures c.push.ensures
