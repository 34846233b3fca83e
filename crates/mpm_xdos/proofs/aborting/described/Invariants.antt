use Rattle.std.specs.Prelude.{◌&&◌}
use Rattle.mpm_procs.specs.Table.{lives}
use Rattle.mpm_queues.proofs.Finding.{FailedTo}
use Rattle.mpm_xdos.specs.Aborting.{is_described}
use Rattle.mpm_xdos.proofs.aborting.described.Given as goal

abbrev pub invariant-loop-number : goal.invariant-loop-number
invariant-loop-number l = FailedTo (λ slot. lives l.kernel.dispatcher.procs slot && is_described l.call l.kernel.dispatcher.procs slot) l.number
