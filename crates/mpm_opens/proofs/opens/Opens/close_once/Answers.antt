use Rattle.std.proofs.Common.{◌<◌, sym, subst}
use Rattle.std.specs.Prelude.{IsSome}
use Rattle.mpm_opens.specs.declared.kinds.Item.{Item}
use Rattle.mpm_opens.specs.Items.{place_at, item_at, closed_once}
use Rattle.mpm_opens.specs.Opens.{OpenFiles}
use Rattle.mpm_opens.proofs.OpenLaws.{with_item, closed_is_same}
use Rattle.mpm_opens.proofs.opens.Opens.close_once.Goals as goal

pub invariant_of-self : goal.invariant_of-self
invariant_of-self c =
    let P : OpenFiles → Type 0 = λ opens. IsSome (place_at opens.items c.args.item) in
    let live : IsSome (place_at c.self.inside.items c.args.item) = subst P (sym c.self.view_is) c.requires in
    let Q : Item → Type 0 = λ item. 1 < item.count in
    let item = item_at c.self.inside.items c.args.item in
    rw c.close_once.ensures
    (with_item c.self.inside.items c.self.inside.locks c.args.item (closed_once item) live
    (closed_is_same item (subst Q c.get-found.ensures.item c.if-found-gt1.true)) c.self.invariant)
