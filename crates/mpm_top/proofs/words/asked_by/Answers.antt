use Rattle.std.proofs.Common.{◌∙◌, sym, arith}
use Rattle.std.proofs.lemmas.Bool.Decides.{nat_tests}
use Rattle.mpm_top.proofs.CommandLaws.{asked_is}
use Rattle.mpm_top.proofs.words.asked_by.Goals as goal

pub returns : goal.returns
returns c =
    asked_is c.in-Some.form c.args.file.now c.args.steps.now c.in-Some-steps_of.steps c.args.trace _
    (grind (arith, nat_tests, c.is_empty.ensures, c.if-is_empty.false)) (sym c.form_of.ensures ∙ c.in-Some.is) (sym c.steps_of.ensures.number ∙ c.in-Some-steps_of.is)
    (grind (arith, c.steps_of.ensures.limit, c.in-Some-steps_of.is))
