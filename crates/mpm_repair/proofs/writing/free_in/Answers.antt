use Rattle.std.proofs.Common.{◌∙◌, ◌+◌, ◌*◌, sym, ap}
use Rattle.mpm_fault_lines.specs.Lists.{listed_at}
use Rattle.mpm_repair.specs.Freeing.{listed_from, freed_within}
use Rattle.mpm_repair.proofs.FreedSectors.{listed_next, within_nothing, within_both}
use Rattle.mpm_repair.proofs.writing.free_in.Goals as goal

pub loop-place-init : goal.loop-place-init
loop-place-init c = sym (within_nothing c.args.slots.now (4 * c.args.sector) c.args.bytes.now)

pub loop-place-preserved : goal.loop-place-preserved
loop-place-preserved c =
    let before = listed_from c.args.slots.now (4 * c.args.sector) c.loop-place.place in
    let slot = listed_at c.args.slots.now (4 * c.args.sector + c.loop-place.place) in
    c.free_one.ensures ∙ ap (freed_within slot) c.loop-place.invariant ∙ sym (within_both before slot c.args.bytes.now)
    ∙ ap (λ slots. freed_within slots c.args.bytes.now) (sym (listed_next c.args.slots.now (4 * c.args.sector) c.loop-place.place))
