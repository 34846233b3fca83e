use Rattle.std.proofs.Common.{ap, sym, ◌∙◌, slice_set, arith}
use Rattle.std.proofs.lemmas.List.Edits.{map_over_more}
use Rattle.mpm_flags.specs.States.{without_waiter}
use Rattle.mpm_flags.proofs.flags.leave_each.Goals as goal

pub loop-flag-preserved : goal.loop-flag-preserved
loop-flag-preserved c =
    ap (slice_set c.loop-flag.flags c.loop-flag.flag-index)
    (c.leave.ensures ∙ ap (without_waiter c.args.p) (sym c.flag-item.is))
    ∙ map_over_more (without_waiter c.args.p) c.args.flags.now c.loop-flag.flags c.loop-flag.flag-index c.flag-item.result
    (omega arith) c.loop-flag.invariant c.flag-item.is
