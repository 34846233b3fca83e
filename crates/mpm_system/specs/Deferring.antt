-- Whether an end by an abort may be put off. (MP/M II Programmer's Guide, "Function 157: Abort Specified Process".)
use Rattle.std.specs.Prelude.{Bool, ◌&&◌, is_some}
use Rattle.mpm_procs.specs.Table.{Table}
use Rattle.mpm_queues.specs.Queues.{lowest}
use Rattle.mpm_kernel.specs.Kernel.{is_aborted}
use Rattle.mpm_system.specs.declared.system.System.{System}

-- an end by an abort is still put off
abbrev pub is_any_aborted : Table → Bool
is_any_aborted procs = is_some (lowest (is_aborted procs))

-- what is known of ends that are put off
abbrev pub noted : System → System
noted system = record system { abort_deferred = system.abort_deferred && is_any_aborted system.kernel.dispatcher.procs }
