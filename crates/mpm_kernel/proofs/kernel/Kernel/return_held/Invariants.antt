use Rattle.mpm_kernel.proofs.EndingLaws.{ReturnedSo}
use Rattle.mpm_kernel.proofs.kernel.Kernel.return_held.Given as goal

abbrev pub invariant-loop-q : goal.invariant-loop-q
invariant-loop-q l = ReturnedSo l.p l.initial.self l.self l.q
