use Rattle.std.proofs.Common.{◌<◌, arith}
use Rattle.mpm_file_scenes.proofs.CallLaws.{entered, may_turn, one_more}
use Rattle.mpm_file_scenes.proofs.scene.serves_in_turns.Goals as goal

pub start-turns-requires-clause-caller : goal.start-turns-requires-clause-caller
start-turns-requires-clause-caller g c = c.requires.caller _

pub loop-turn-init : goal.loop-turn-init
loop-turn-init g c = entered g.D.Drives.disks _ _ _ _ _ _ _ _ c.requires.between c.requires.file c.start-turns.ensures

pub turn-requires : goal.turn-requires
turn-requires g c =
    let more : c.loop-turn._turn < c.start-turns.result = omega (arith, c.loop-turn-test.true, c.loop-turn.auto._turn-end) in
    may_turn g.D.Drives.disks _ _ _ _ c.loop-turn.invariant more

pub loop-turn-preserved : goal.loop-turn-preserved
loop-turn-preserved g c =
    let more : c.loop-turn._turn < c.start-turns.result = omega (arith, c.loop-turn-test.true, c.loop-turn.auto._turn-end) in
    one_more g.D.Drives _ _ _ _ _ _ _ _ _ c.loop-turn.invariant more c.in_ok-turn.ensures
