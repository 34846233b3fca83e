use Rattle.std.proofs.Common.{◌∙◌}
use Rattle.mpm_base.proofs.Tests.{not_back}
use Rattle.std.specs.Prelude.{is_some}
use Rattle.mpm_refusals.specs.Looking.{entry_found}
use Rattle.mpm_refusals.proofs.Deleted.{nothing_deleted}
use Rattle.mpm_refusals.proofs.missing.deletes_nothing.Goals as goal

pub returns : goal.returns
returns c = λ image drive stands.
    not_back c.is_none.result (is_some c.found_in.result) c.is_none.ensures
    ∙ nothing_deleted drive c.args.user c.args.pattern.now (entry_found c.args.mounted.now.kind c.args.user) c.found_in.result (c.found_in.ensures image drive stands)
