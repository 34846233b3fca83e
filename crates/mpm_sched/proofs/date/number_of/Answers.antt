use Rattle.mpm_sched.proofs.DateLaws.{numbered, fits_word, is_number}
use Rattle.mpm_sched.proofs.date.number_of.Goals as goal

pub overflow_cast-result : goal.overflow_cast-result
overflow_cast-result c =
    fits_word c.args.civil c.as_hours.result
    (numbered c.args.civil c.date.result c.duration_since.result.nanos c.as_hours.result c.requires.first c.requires.last c.date.ensures.0 c.date.ensures.1 c.date.ensures.2 c.duration_since.ensures c.as_hours.ensures)

pub returns : goal.returns
returns c =
    is_number c.args.civil c.as_hours.result
    (numbered c.args.civil c.date.result c.duration_since.result.nanos c.as_hours.result c.requires.first c.requires.last c.date.ensures.0 c.date.ensures.1 c.date.ensures.2 c.duration_since.ensures c.as_hours.ensures)
