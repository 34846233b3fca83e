use Rattle.std.proofs.Common.{ap, sym, ◌∙◌}
use Rattle.mpm_ready.specs.Tables.{removed}
use Rattle.mpm_ready.proofs.Changes.{nothing_removed, out_stands, out_removes}
use Rattle.mpm_ready.proofs.lists.Lists.remove.Goals as goal

pub returns-in_err-place-clause-lists : goal.returns-in_err-place-clause-lists
returns-in_err-place-clause-lists c =
    sym c.self.view_is ∙ nothing_removed c.self.inside.links c.args.p c.self.invariant c.place.ensures.slot (sym c.place.ensures.place ∙ c.in_err-place.was) ∙ ap (λ lists. removed lists c.args.p) c.self.view_is

pub invariant_of-self : goal.invariant_of-self
invariant_of-self c =
    out_stands c.self.inside.links c.take_out.new.self c.args.p _ c.self.invariant c.place.ensures.slot (sym c.place.ensures.place ∙ c.in_ok-place.was) c.take_out.ensures

pub returns-clause-lists : goal.returns-clause-lists
returns-clause-lists c =
    out_removes c.self.inside.links c.take_out.new.self c.args.p _ c.self.invariant c.place.ensures.slot (sym c.place.ensures.place ∙ c.in_ok-place.was) c.take_out.ensures ∙ ap (λ lists. removed lists c.args.p) c.self.view_is
