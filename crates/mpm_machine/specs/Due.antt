-- Ends by an abort that were put off: a process that was aborted while it held the message of a mutual exclusion queue, or while
-- its call was in service, ends in the first step after which neither is so. (MP/M II Programmer's Guide, "Function 157: Abort Specified Process".)
use Rattle.std.specs.Prelude.{◌≡◌, ℕ, Bool, false, not, ◌&&◌, if◌then◌else◌, List, [], ◌∷◌}
use Rattle.std.specs.List.{range_with_len}
use Rattle.mpm_kernel.specs.Kernel.{Kernel, is_aborted}
use Rattle.mpm_xdos.specs.Aborting.{waits_to_end}
use Rattle.mpm_system.specs.declared.system.System.{System}
use Rattle.mpm_system.specs.Deferring.{noted}
use Rattle.mpm_machine.specs.Ending.{ended}
use Rattle.mpm_machine.specs.Finishing.{all_finished}

-- the end of a process is due: it was aborted, and needn't wait
abbrev pub is_due : Kernel → ℕ → Bool
is_due kernel p = is_aborted kernel.dispatcher.procs p && not (waits_to_end kernel p)

-- nobody's end is due: whose end is put off still holds the message of a mutual exclusion queue, or his call is in service
unfoldable pub NobodyDue : Kernel → Type 0
NobodyDue kernel = (p : ℕ) → is_due kernel p ≡ false

-- a process ends, where that is due, and the held calls that its end completes are answered
unfoldable pub ended_if_due : ℕ → System → System
ended_if_due p system = if is_due system.kernel p then all_finished (ended p system) else system

-- the processes of slots end, where that is due, one after another
unfoldable pub due_terminated : List ℕ → System → System
due_terminated [] system = system
due_terminated (p ∷ ps) system = due_terminated ps (ended_if_due p system)

-- those of all slots, in rising order
abbrev pub all_due_terminated : System → System
all_due_terminated system = due_terminated (range_with_len 0 32) system

-- the ends that are due come
unfoldable pub with_ends : System → System
with_ends system = noted (all_due_terminated system)
