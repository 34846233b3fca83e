use Rattle.mpm_marks.specs.Busy.{is_named_busy}
use Rattle.mpm_marks.proofs.Walked.{NonePasses}
use Rattle.mpm_marks.proofs.busy.are_busy.Given as goal

abbrev pub invariant-loop-drive : goal.invariant-loop-drive
invariant-loop-drive l = NonePasses (is_named_busy l.opens l.marks l.p l.function l.own l.mask) l.drive
