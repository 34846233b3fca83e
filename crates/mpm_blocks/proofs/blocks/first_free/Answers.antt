use Rattle.std.proofs.Common.{not, arith, ap}
use Rattle.mpm_blocks.proofs.Positions.{found_at, nowhere}
use Rattle.mpm_blocks.proofs.blocks.first_free.Goals as goal

pub returns-then-not-is_used-clause-place : goal.returns-then-not-is_used-clause-place
returns-then-not-is_used-clause-place c =
    found_at not c.args.used.now c.loop-block.block (omega arith) c.loop-block.invariant (ap not c.if-not-is_used.true)

pub returns-clause-place : goal.returns-clause-place
returns-clause-place c = nowhere not c.args.used.now c.loop-block.block (omega arith) (omega arith) c.loop-block.invariant
