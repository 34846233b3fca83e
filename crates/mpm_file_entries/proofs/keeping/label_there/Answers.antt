use Rattle.std.proofs.Common.{◌∙◌, sym, ap}
use Rattle.std.specs.Prelude.{option_map}
use Rattle.mpm_mount.specs.Looking.{label_of}
use Rattle.mpm_file_entries.specs.Protections.{kept_by_label}
use Rattle.mpm_file_entries.proofs.keeping.label_there.Goals as goal

pub returns-in-Some : goal.returns-in-Some
returns-in-Some c = λ image drive stands.
    c.of_label.ensures ∙ sym (ap kept_by_label (c.label.ensures image drive stands ∙ ap (option_map label_of) c.in-Some.is))

pub returns-in-None : goal.returns-in-None
returns-in-None c = λ image drive stands.
    c.none.ensures ∙ sym (ap kept_by_label (c.label.ensures image drive stands ∙ ap (option_map label_of) c.in-None.is))
