use Rattle.std.proofs.Common.{arith}
use Rattle.mpm_sched.proofs.Formed.{reads}
use Rattle.mpm_sched.proofs.entry.entry_at.Goals as goal

pub overflow_sub-result : goal.overflow_sub-result
overflow_sub-result c = omega (arith, c.byte_at.ensures, (reads c.args.text.now c.requires.form).low)
