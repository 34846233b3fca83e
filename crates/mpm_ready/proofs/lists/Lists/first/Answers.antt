use Rattle.std.proofs.Common.{ap, ◌∙◌}
use Rattle.mpm_ready.specs.Order.{first_of}
use Rattle.mpm_ready.specs.Tables.{list_at}
use Rattle.mpm_ready.proofs.Changes.{first_is}
use Rattle.mpm_ready.proofs.lists.Lists.first.Goals as goal

pub returns-clause-first : goal.returns-clause-first
returns-clause-first c =
    first_is c.self.inside.links c.args.list _ c.self.invariant c.requires c.first.ensures ∙ ap (λ lists. first_of (list_at lists c.args.list)) c.self.view_is
