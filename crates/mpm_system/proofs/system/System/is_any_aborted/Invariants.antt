use Rattle.mpm_kernel.specs.Kernel.{is_aborted}
use Rattle.mpm_queues.proofs.Finding.{FailedTo}
use Rattle.mpm_system.proofs.system.System.is_any_aborted.Given as goal

abbrev pub invariant-loop-number : goal.invariant-loop-number
invariant-loop-number l = FailedTo (is_aborted l.self.kernel.dispatcher.procs) l.number
