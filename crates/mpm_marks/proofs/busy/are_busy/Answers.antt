use Rattle.std.proofs.Common.{arith}
use Rattle.mpm_marks.proofs.Walked.{busy_none}
use Rattle.mpm_marks.proofs.busy.are_busy.Goals as goal

pub returns : goal.returns
returns c =
    busy_none c.args.opens.now c.args.marks.now c.args.p c.args.function c.args.own c.args.mask c.loop-drive.drive (omega (arith, c.loop-drive-test.false)) c.loop-drive.invariant
