use Rattle.std.proofs.Common.{ap, ◌∙◌, map, length}
use Rattle.std.proofs.lemmas.List.{with_items_is, length-map}
use Rattle.mpm_banks.specs.Allocations.{freed}
use Rattle.mpm_banks.proofs.SegmentLaws.{all_released_is_memory}
use Rattle.mpm_banks.proofs.banks.Banks.release_all.Goals as goal

pub invariant_of-self : goal.invariant_of-self
invariant_of-self c =
    let each = freed c.args.owner in
    let size = ap length c.release_each.ensures ∙ length-map c.as_mut_slice.result.now each ∙ c.as_mut_slice.ensures.len in
    let made = c.release_each.ensures ∙ ap (map each) c.as_mut_slice.ensures.value in
    all_released_is_memory _ c.self.inside.segments.items c.self.inside.common c.args.owner
    (with_items_is c.self.inside.segments c.release_each.new.segments size ∙ made) c.self.invariant
