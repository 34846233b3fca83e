use Rattle.std.proofs.Common.{◌∙◌, ap}
use Rattle.std.specs.Prelude.{option_map}
use Rattle.mpm_dirent.specs.Names.{plain}
use Rattle.mpm_mount.specs.Images.{protection_of}
use Rattle.mpm_refusals.proofs.PasswordLaws.{admitted_by, admitted_freely}
use Rattle.mpm_refusals.proofs.passwords.file_admits.Goals as goal

pub returns-in-Some : goal.returns-in-Some
returns-in-Some c = λ image drive stands.
    c.admits.ensures.admitted
    ∙ admitted_by drive (record { user = c.args.user; name = plain c.args.name.now }) c.args.need c.args.given.now c.args.default.now c.in-Some.xfcb c.label_byte.result
    (c.xfcb.ensures.stands image drive stands ∙ ap (option_map protection_of) c.in-Some.is) (c.label_byte.ensures image drive stands)

pub returns-in-None : goal.returns-in-None
returns-in-None c = λ image drive stands.
    admitted_freely drive (record { user = c.args.user; name = plain c.args.name.now }) c.args.need c.args.given.now c.args.default.now
    (c.xfcb.ensures.stands image drive stands ∙ ap (option_map protection_of) c.in-None.is)
