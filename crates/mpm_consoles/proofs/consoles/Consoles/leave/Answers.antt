use Rattle.std.proofs.Common.{ap, ◌∙◌, map, length}
use Rattle.std.proofs.lemmas.List.{with_items_is, length-map}
use Rattle.mpm_consoles.specs.Console.{without_wait_of}
use Rattle.mpm_consoles.specs.Consoles.{Consoles}
use Rattle.mpm_consoles.proofs.SoundLaws.{sound_leaving}
use Rattle.mpm_consoles.proofs.consoles.Consoles.leave.Goals as goal

pub invariant_of-self : goal.invariant_of-self
invariant_of-self c =
    let t : Consoles = record { consoles = c.self.inside.consoles.items; printers = c.self.inside.printers.items; waiters = c.self.inside.waiters } in
    let each = without_wait_of c.args.p in
    let size = ap length c.leave_each.ensures ∙ length-map c.as_mut_slice.result.now each ∙ c.as_mut_slice.ensures.len in
    let made = c.leave_each.ensures ∙ ap (map each) c.as_mut_slice.ensures.value in
    sound_leaving t c.args.p _ c.remove.new.self c.self.invariant
    (with_items_is c.self.inside.consoles c.leave_each.new.consoles size ∙ made) c.remove.ensures.lists
