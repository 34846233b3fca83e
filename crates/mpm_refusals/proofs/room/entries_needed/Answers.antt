use Rattle.std.proofs.Common.{◌∙◌, ap}
use Rattle.mpm_dirent.specs.Names.{plain}
use Rattle.mpm_refusals.specs.Refusals.{needed_by}
use Rattle.mpm_refusals.proofs.Rooms.{needed_so}
use Rattle.mpm_refusals.proofs.room.entries_needed.Goals as goal

pub returns : goal.returns
returns c = λ image drive stands.
    c.needed_by.ensures ∙ ap (λ makes. needed_by c.args.function makes c.lacks_xfcb.result c.lacks_label.result) c.makes_xfcb.ensures
    ∙ needed_so drive (record { user = c.args.user; name = plain c.args.block.now.name }) c.args.block.now c.args.function c.label_byte.result c.lacks_xfcb.result c.lacks_label.result
    (c.label_byte.ensures image drive stands) (c.lacks_xfcb.ensures image drive stands) (c.lacks_label.ensures image drive stands)
