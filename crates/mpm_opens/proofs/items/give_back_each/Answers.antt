use Rattle.std.proofs.Common.{ap, sym, ◌∙◌, slice_set, arith}
use Rattle.std.proofs.lemmas.List.Edits.{map_over_more}
use Rattle.mpm_opens.specs.Kinds.{is_among}
use Rattle.mpm_opens.specs.Items.{left_in}
use Rattle.mpm_opens.proofs.items.give_back_each.Goals as goal

pub loop-place-preserved : goal.loop-place-preserved
loop-place-preserved c =
    ap (slice_set c.loop-place.places c.loop-place.place-index)
    (c.give_back_at.ensures ∙ ap (left_in c.args.p (is_among c.args.files.now)) (sym c.place-item.is))
    ∙ map_over_more (left_in c.args.p (is_among c.args.files.now)) c.args.places.now c.loop-place.places c.loop-place.place-index c.place-item.result
    (omega arith) c.loop-place.invariant c.place-item.is
