use Rattle.std.proofs.Common.{ap, sym, ◌∙◌, slice_set, arith}
use Rattle.std.proofs.lemmas.List.Edits.{map_over_more}
use Rattle.mpm_consoles.specs.Console.{without_wait_of}
use Rattle.mpm_consoles.proofs.consoles.leave_each.Goals as goal

pub loop-console-preserved : goal.loop-console-preserved
loop-console-preserved c =
    ap (slice_set c.loop-console.consoles c.loop-console.console-index)
    (c.leave.ensures ∙ ap (without_wait_of c.args.p) (sym c.console-item.is))
    ∙ map_over_more (without_wait_of c.args.p) c.args.consoles.now c.loop-console.consoles c.loop-console.console-index c.console-item.result
    (omega arith) c.loop-console.invariant c.console-item.is
