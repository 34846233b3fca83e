use Rattle.mpm_queues.specs.Queues.{holds}
use Rattle.mpm_queues.proofs.Finding.{FailedTo}
use Rattle.mpm_queues.proofs.queues.Queues.held.Given as goal

abbrev pub invariant-loop-q : goal.invariant-loop-q
invariant-loop-q l = FailedTo (holds l.self l.p) l.q
