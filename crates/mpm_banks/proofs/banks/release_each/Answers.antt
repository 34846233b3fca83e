use Rattle.std.proofs.Common.{ap, sym, ◌∙◌, slice_set, arith}
use Rattle.std.proofs.lemmas.List.Edits.{map_over_more}
use Rattle.mpm_banks.specs.Allocations.{freed}
use Rattle.mpm_banks.proofs.banks.release_each.Goals as goal

pub loop-segment-preserved : goal.loop-segment-preserved
loop-segment-preserved c =
    ap (slice_set c.loop-segment.segments c.loop-segment.segment-index)
    (c.release.ensures ∙ ap (freed c.args.owner) (sym c.segment-item.is))
    ∙ map_over_more (freed c.args.owner) c.args.segments.now c.loop-segment.segments c.loop-segment.segment-index c.segment-item.result
    (omega arith) c.loop-segment.invariant c.segment-item.is
