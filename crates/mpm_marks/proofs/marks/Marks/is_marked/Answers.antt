use Rattle.std.proofs.Common.{arith}
use Rattle.mpm_marks.proofs.Walked.{marked_none}
use Rattle.mpm_marks.proofs.marks.Marks.is_marked.Goals as goal

pub returns : goal.returns
returns c =
    marked_none c.args.self.now c.args.p c.args.drive c.loop-other.other (omega (arith, c.loop-other-test.false)) c.loop-other.invariant
