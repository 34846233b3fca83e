use Rattle.std.proofs.Common.{◌∙◌}
use Rattle.mpm_dirent.specs.Names.{plain}
use Rattle.mpm_refusals.proofs.SharedFiles.{shared_so}
use Rattle.mpm_refusals.proofs.sharing.is_shared.Goals as goal

pub returns : goal.returns
returns c = λ image drive stands.
    c.shared_by.ensures
    ∙ shared_so drive (record { user = c.args.user; name = plain c.args.name.now }) c.attributes.result c.attributes-2.result
    (c.attributes.ensures image drive stands) (c.attributes-2.ensures image drive stands)
