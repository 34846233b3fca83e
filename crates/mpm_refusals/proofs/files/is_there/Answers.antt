use Rattle.std.proofs.Common.{◌∙◌, sym, ap}
use Rattle.std.specs.Prelude.{is_some}
use Rattle.mpm_refusals.proofs.files.is_there.Goals as goal

pub returns : goal.returns
returns c = λ image drive stands. c.is_some.ensures ∙ ap is_some (sym (c.attributes.ensures image drive stands))
