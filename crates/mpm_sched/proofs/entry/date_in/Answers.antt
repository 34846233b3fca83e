use Rattle.mpm_sched.proofs.Formed.{reads}
use Rattle.mpm_sched.proofs.entry.date_in.Goals as goal

pub two_at-requires-clause-digits : goal.two_at-requires-clause-digits
two_at-requires-clause-digits c = (reads c.args.text.now c.requires).year

pub two_at-requires-2-clause-digits : goal.two_at-requires-2-clause-digits
two_at-requires-2-clause-digits c = (reads c.args.text.now c.requires).month

pub two_at-requires-3-clause-digits : goal.two_at-requires-3-clause-digits
two_at-requires-3-clause-digits c = (reads c.args.text.now c.requires).day
