use Rattle.mpm_queues.specs.Queues.{is_named}
use Rattle.mpm_queues.proofs.Finding.{FailedTo}
use Rattle.mpm_queues.proofs.queues.Queues.find.Given as goal

abbrev pub invariant-loop-q : goal.invariant-loop-q
invariant-loop-q l = FailedTo (is_named l.self l.name) l.q
