use Rattle.std.proofs.Common.{◌∙◌, rules}
use Rattle.std.proofs.lemmas.List.{with_items_is, places}
use Rattle.mpm_core.proofs.SavedLaws.{filled_is}
use Rattle.mpm_core.proofs.saved.Core.fill.Goals as goal

pub returns : goal.returns
returns c =
    let buffer = with_items_is c.self.inside.segment c.put_first.new.all (search (rules, places)) ∙ c.put_first.ensures in
    filled_is c.args.head _ c.args.segment.now _ c.args.common.now _ buffer c.requires.segment c.copy_from_slice.ensures.items
