use Rattle.std.proofs.Common.{◌≡◌, replicate}
use Rattle.mpm_queues.specs.Queue.{no_queue}
use Rattle.mpm_queues.proofs.queues.empty_stores.Given as goal

abbrev pub invariant-loop-number : goal.invariant-loop-number
invariant-loop-number l = l.queues.items ≡ replicate l._number no_queue
