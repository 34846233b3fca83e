use Rattle.std.proofs.Common.{◌∙◌, sym, ap}
use Rattle.mpm_refusals.specs.Subjects.{is_set}
use Rattle.mpm_refusals.proofs.files.is_read_only.Goals as goal

pub returns : goal.returns
returns c = λ image drive stands. c.is_set.ensures ∙ ap (λ attributes. is_set attributes 8) (sym (c.attributes.ensures image drive stands))
