use Rattle.std.proofs.Common.{◌∙◌, ap}
use Rattle.std.specs.Prelude.{option_map}
use Rattle.mpm_mount.specs.Looking.{label_of}
use Rattle.mpm_refusals.proofs.PasswordLaws.{label_lets_in, no_label_lets_in}
use Rattle.mpm_refusals.proofs.passwords.label_admits.Goals as goal

pub returns-in-Some : goal.returns-in-Some
returns-in-Some c = λ image drive stands.
    c.admits_label.ensures.admitted
    ∙ label_lets_in drive.label c.in-Some.label c.args.given.now c.args.default.now (c.label.ensures image drive stands ∙ ap (option_map label_of) c.in-Some.is)

pub returns-in-None : goal.returns-in-None
returns-in-None c = λ image drive stands.
    no_label_lets_in drive.label c.args.given.now c.args.default.now (c.label.ensures image drive stands ∙ ap (option_map label_of) c.in-None.is)
