use Rattle.std.proofs.Common.{◌<◌, arith}
use Rattle.mpm_file_scenes.proofs.CallLaws.{may_turn, one_more}
use Rattle.mpm_file_scenes.proofs.scene.takes_turns.Goals as goal

pub turn-requires : goal.turn-requires
turn-requires g c =
    let more : c.loop-turn.turn < c.args.turns = omega (arith, c.loop-turn-test.true, c.loop-turn.auto.turn-end) in
    may_turn g.D.Drives.disks _ _ _ _ c.loop-turn.invariant more

pub loop-turn-preserved : goal.loop-turn-preserved
loop-turn-preserved g c =
    let more : c.loop-turn.turn < c.args.turns = omega (arith, c.loop-turn-test.true, c.loop-turn.auto.turn-end) in
    one_more g.D.Drives _ _ _ _ _ _ _ _ _ c.loop-turn.invariant more c.in-Ok.ensures
