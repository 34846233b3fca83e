use Rattle.std.proofs.Common.{◌+◌, ◌∙◌, ap, slice_set}
use Rattle.mpm_spool.proofs.Items.{list_of_parts, one_more}
use Rattle.mpm_spool.proofs.list.push.Goals as goal

pub returns-clause-list : goal.returns-clause-list
returns-clause-list c = λ items is.
    ap (λ place. list_of_parts (c.args.list.now.count + 1) (slice_set c.args.list.now.items place c.args.item)) c.from.ensures
    ∙ one_more items c.args.list.now c.args.item is c.requires
