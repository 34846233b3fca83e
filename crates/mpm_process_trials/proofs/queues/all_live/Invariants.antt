use Rattle.std.proofs.Common.{◌<◌, ℕ}
use Rattle.mpm_procs.specs.Table.{Lives}
use Rattle.mpm_process_trials.proofs.queues.all_live.Given as goal

abbrev pub invariant-loop-p : goal.invariant-loop-p
invariant-loop-p l = (w : ℕ) → w < l.p → Lives l.procs w
