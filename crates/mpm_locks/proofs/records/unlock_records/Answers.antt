use Rattle.mpm_locks.proofs.Unlocking.{one_freed}
use Rattle.mpm_locks.proofs.records.unlock_records.Goals as goal

pub loop-k-preserved : goal.loop-k-preserved
loop-k-preserved c =
    one_freed c.args.opens.now c.loop-k.opens c.unlock.new.self c.args.item c.args.first c.loop-k.k c.from.result c.loop-k.invariant
    c.from.ensures c.unlock.ensures.opens c.unlock.ensures.live
