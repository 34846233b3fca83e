use Rattle.std.proofs.Common.{◌∙◌, ◌+◌, sym, ap, arith}
use Rattle.mpm_locks.specs.Locks as records
use Rattle.mpm_locks.proofs.Counting.{one_counted, counted_stop}
use Rattle.mpm_locks.proofs.records.count_free.Goals as goal

pub returns-then-is_locked_off-clause-value : goal.returns-then-is_locked_off-clause-value
returns-then-is_locked_off-clause-value c =
    counted_stop (records.is_locked_off c.args.opens.now c.args.p c.args.file) c.args.first c.args.count c.loop-k.k c.loop-k.invariant
    (omega (arith, c.loop-k-test.true))
    (ap (λ k. records.is_locked_off c.args.opens.now c.args.p c.args.file (c.args.first + k)) (sym c.from.ensures) ∙ sym c.is_locked_off.ensures ∙ c.if-is_locked_off.true)

pub loop-k-preserved : goal.loop-k-preserved
loop-k-preserved c =
    one_counted (records.is_locked_off c.args.opens.now c.args.p c.args.file) c.args.first c.args.count c.loop-k.k c.loop-k.invariant
    (ap (λ k. records.is_locked_off c.args.opens.now c.args.p c.args.file (c.args.first + k)) (sym c.from.ensures) ∙ sym c.is_locked_off.ensures ∙ c.if-is_locked_off.false)
