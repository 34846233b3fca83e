use Rattle.mpm_queues.specs.Queues.{is_free}
use Rattle.mpm_queues.proofs.Finding.{FailedTo}
use Rattle.mpm_queues.proofs.queues.Queues.lowest_free.Given as goal

abbrev pub invariant-loop-q : goal.invariant-loop-q
invariant-loop-q l = FailedTo (is_free l.self) l.q
