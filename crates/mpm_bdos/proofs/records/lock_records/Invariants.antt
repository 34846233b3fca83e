use Rattle.mpm_bdos.proofs.Locking.{LocksTo}
use Rattle.mpm_bdos.proofs.records.lock_records.Given as goal

abbrev pub invariant-loop-k : goal.invariant-loop-k
invariant-loop-k l = LocksTo l.mounted l.initial.opens l.opens l.item l.file l.first l.count l.k
