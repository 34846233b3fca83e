use Rattle.std.proofs.Common.{◌<◌, arith}
use Rattle.mpm_files.specs.Serving.{turns_in}
use Rattle.mpm_turn_scenes.proofs.TurnLaws.{may_turn, one_more, same_again, stands_on}
use Rattle.mpm_turn_scenes.proofs.turns.ends.Goals as goal

pub turn-requires : goal.turn-requires
turn-requires g c =
    may_turn _ _ _ _ _ _ c.loop-turn.invariant.0 (omega (arith, c.loop-turn-test.true, c.turns-turn-end.ensures, c.loop-turn.auto._turn-end))

pub loop-turn-preserved : goal.loop-turn-preserved
loop-turn-preserved g c =
    let more : c.loop-turn._turn < turns_in c.args.work.now = omega (arith, c.loop-turn-test.true, c.turns-turn-end.ensures, c.loop-turn.auto._turn-end) in
    (one_more _ _ _ _ _ _ _ _ _ _ _ _ _ _ c.loop-turn.invariant.0 more c.in-Ok-Again.ensures, same_again _ _ _ c.loop-turn.invariant.1 c.turn.ensures.works.disk)

pub returns-in-Ok-Done-clause-stands : goal.returns-in-Ok-Done-clause-stands
returns-in-Ok-Done-clause-stands g c =
    let more : c.loop-turn._turn < turns_in c.args.work.now = omega (arith, c.loop-turn-test.true, c.turns-turn-end.ensures, c.loop-turn.auto._turn-end) in
    stands_on _ _ _ _ _ _ (one_more _ _ _ _ _ _ _ _ _ _ _ _ _ _ c.loop-turn.invariant.0 more c.in-Ok-Done.ensures)
