use Rattle.std.proofs.Common.{◌∙◌, arith}
use mir.Facts.{to_z_pos}
use mir.Syntax.{w8, w16}
use Rattle.mpm_sched.proofs.DateLaws.{date_is}
use Rattle.mpm_sched.proofs.date.date_of.Goals as goal

pub returns-in-Ok : goal.returns-in-Ok
returns-in-Ok c =
    date_is c.in-Ok.civil c.args.year c.args.month c.args.day c.number_of.result (c.in-Ok.ensures.value.0 ∙ to_z_pos w16 (omega (arith, c.requires.last)))
    (c.in-Ok.ensures.value.1 ∙ to_z_pos w8 (omega (arith, c.requires.month))) (c.in-Ok.ensures.value.2 ∙ to_z_pos w8 (omega (arith, c.requires.day))) c.number_of.ensures
