use Rattle.mpm_locks.specs.Locks as records
use Rattle.mpm_locks.proofs.Counting.{CountsTo}
use Rattle.mpm_locks.proofs.records.count_free.Given as goal

abbrev pub invariant-loop-k : goal.invariant-loop-k
invariant-loop-k l = CountsTo (records.is_locked_off l.opens l.p l.file) l.first l.count l.k
