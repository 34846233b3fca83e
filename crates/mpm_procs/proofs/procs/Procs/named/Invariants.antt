use Rattle.mpm_procs.specs.Finding.{is_called}
use Rattle.mpm_procs.proofs.Finding.{FailedTo}
use Rattle.mpm_procs.proofs.procs.Procs.named.Given as goal

abbrev pub invariant-loop-slot : goal.invariant-loop-slot
invariant-loop-slot l = FailedTo (is_called l.self l.name) l.slot
