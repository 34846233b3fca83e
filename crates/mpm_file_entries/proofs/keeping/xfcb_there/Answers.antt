use Rattle.std.proofs.Common.{◌∙◌, sym, ap}
use Rattle.std.specs.Prelude.{option_map, unwrap_or}
use Rattle.mpm_mount.specs.Images.{protection_of}
use Rattle.mpm_file_entries.specs.Protections.{no_protection}
use Rattle.mpm_file_entries.proofs.keeping.xfcb_there.Goals as goal

pub returns-in-Some : goal.returns-in-Some
returns-in-Some c = λ image drive stands.
    c.of_xfcb.ensures ∙ sym (ap (λ kept. unwrap_or kept no_protection) (c.xfcb.ensures.stands image drive stands ∙ ap (option_map protection_of) c.in-Some.is))

pub returns-in-None : goal.returns-in-None
returns-in-None c = λ image drive stands.
    c.none.ensures ∙ sym (ap (λ kept. unwrap_or kept no_protection) (c.xfcb.ensures.stands image drive stands ∙ ap (option_map protection_of) c.in-None.is))
