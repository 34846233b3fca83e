use Rattle.std.proofs.Common.{◌∙◌, ◌+◌, ◌*◌, ◌++◌, ◌∷◌, [], Bool, sym, ap}
use Rattle.std.specs.Prelude.{if◌then◌else◌}
use Rattle.mpm_fault_lines.specs.Lists.{listed_at}
use Rattle.mpm_repair.proofs.FreedSectors.{listed_next, listed_nothing}
use Rattle.mpm_repair.proofs.writing.has_any.Goals as goal

pub loop-place-init : goal.loop-place-init
loop-place-init c = listed_nothing c.args.slots.now (4 * c.args.sector)

pub loop-place-preserved : goal.loop-place-preserved
loop-place-preserved c =
    listed_next c.args.slots.now (4 * c.args.sector) c.loop-place.place
    ∙ ap (λ before. before ++ listed_at c.args.slots.now (4 * c.args.sector + c.loop-place.place)) c.loop-place.invariant
    ∙ ap (λ (marked : Bool). if marked then (4 * c.args.sector + c.loop-place.place) ∷ [] else []) (sym c.if-has.ensures)
