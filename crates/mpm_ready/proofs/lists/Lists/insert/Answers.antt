use Rattle.std.proofs.Common.{ap, ◌∙◌}
use Rattle.mpm_ready.specs.Tables.{list_of, inserted}
use Rattle.mpm_ready.proofs.Changes.{put_stands, put_inserts}
use Rattle.mpm_ready.proofs.lists.Lists.insert.Goals as goal

pub invariant_of-self : goal.invariant_of-self
invariant_of-self c =
    let unlisted = ap (λ lists. list_of lists c.args.p) c.self.view_is ∙ c.requires.unlisted in
    put_stands c.self.inside.links c.put.new.self c.args.list c.args.p c.args.priority c.self.invariant c.requires.below c.put.ensures.slot unlisted c.put.ensures.links

pub returns-clause-lists : goal.returns-clause-lists
returns-clause-lists c =
    let unlisted = ap (λ lists. list_of lists c.args.p) c.self.view_is ∙ c.requires.unlisted in
    put_inserts c.self.inside.links c.put.new.self c.args.list c.args.p c.args.priority c.self.invariant c.requires.below c.put.ensures.slot unlisted c.put.ensures.links
    ∙ ap (λ lists. inserted lists c.args.list (record { slot = c.args.p; priority = c.args.priority })) c.self.view_is
