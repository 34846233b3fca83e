use Rattle.mpm_marks.specs.Marks.{is_marked_by}
use Rattle.mpm_marks.proofs.Walked.{NonePasses}
use Rattle.mpm_marks.proofs.marks.Marks.is_marked.Given as goal

abbrev pub invariant-loop-other : goal.invariant-loop-other
invariant-loop-other l = NonePasses (is_marked_by l.self l.p l.drive) l.other
