use Rattle.std.proofs.Common.{arith}
use Rattle.mpm_processor.proofs.MovingLaws.{moves_none, moves_join}
use Rattle.mpm_processor.proofs.instruction.InstructionsBurst.run.Goals as goal

pub returns-then-most-eq0 : goal.returns-then-most-eq0
returns-then-most-eq0 c = record {
  count = omega arith;
  moved = moves_none c.args.self.now.inside 0 _;
  stopped = λ less. absurd (omega (arith, less, c.if-most-eq0.true));
}

pub returns-in-Some : goal.returns-in-Some
returns-in-Some c =
    let paused = c.execute_plain-paused.ensures in
    let more = c.execute_from.ensures in
    record {
      count = omega (arith, paused.count, more.count);
      moved = moves_join c.args.self.now.inside c.execute_plain-paused.result.done c.execute_from.result 0 _ _ _ paused.moved more.moved;
      stopped = λ less. more.stopped (omega (arith, less));
    }
