use Rattle.mpm_locks.proofs.Unlocking.{FreesTo}
use Rattle.mpm_locks.proofs.records.unlock_records.Given as goal

abbrev pub invariant-loop-k : goal.invariant-loop-k
invariant-loop-k l = FreesTo l.initial.opens l.opens l.item l.first l.k
