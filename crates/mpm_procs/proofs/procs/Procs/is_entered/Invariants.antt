use Rattle.mpm_procs.specs.Finding.{is_inside_of}
use Rattle.mpm_procs.proofs.Finding.{FailedTo}
use Rattle.mpm_procs.proofs.procs.Procs.is_entered.Given as goal

abbrev pub invariant-loop-slot : goal.invariant-loop-slot
invariant-loop-slot l = FailedTo (is_inside_of l.self l.q) l.slot
