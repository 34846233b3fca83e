-- Aborts: which process a call names, and its end, at once or later. (MP/M II Programmer's Guide, "Function 157: Abort
-- Specified Process".)
use Rattle.std.specs.Prelude.{ℕ, ◌+◌, ◌*◌, Bool, true, List, Option, Some, None, is_some, ◌&&◌, ◌||◌, ◌==◌, bytes_eq, if◌then◌else◌}
use Rattle.mpm_base.specs.Calls.{Taken, byte_in, word_at, eight_at}
use Rattle.mpm_procs.specs.Table.{Table, lives, process_in, call_of}
use Rattle.mpm_procs.specs.declared.process.Process.{Process}
use Rattle.mpm_queues.specs.Queues.{lowest, lowest_held}
use Rattle.mpm_kernel.specs.Kernel.{Kernel, is_resident, with_changed}
use Rattle.mpm_kernel.specs.Disk.{is_served}
use Rattle.mpm_kernel.specs.Ending.{discharged}
use Rattle.mpm_banks.specs.Memory.{Memory}
use Rattle.mpm_xdos.specs.Ending.{memory_without}

-- the abort parameter block: the address of a process descriptor at 0, an abort code at 2, which isn't looked at, the name of
-- a process at 4, the number of its console at 12
abbrev pub address_in : Taken → ℕ
address_in call = word_at call 0

abbrev pub name_in : Taken → List ℕ
name_in call = eight_at call 4

abbrev pub console_in : Taken → ℕ
console_in call = byte_in call 12

-- the address of the copy of the process descriptor of a slot, in common memory
abbrev pub copy_address : ℕ → ℕ
copy_address slot = 63488 + 52 * slot

-- a process has the name and the console that a call gives
unfoldable pub has_name : Taken → Process → Bool
has_name call process = bytes_eq process.name.0 (name_in call) && process.console == console_in call

-- a process is the one that a call describes: by the address of its descriptor or, where that is 0, by its name and console
unfoldable pub is_described : Taken → Table → ℕ → Bool
is_described call procs slot =
    if address_in call == 0 then has_name call (process_in procs slot) else copy_address slot == address_in call

-- the living process that a call describes, the lowest of them
abbrev pub described : Taken → Table → Option ℕ
described call procs = lowest (λ slot. lives procs slot && is_described call procs slot)

-- a resident, which has no segment, isn't aborted
abbrev pub unless_resident : Table → Option ℕ → Option ℕ
unless_resident procs None = None
unless_resident procs (Some slot) = if is_some (process_in procs slot).seg then Some slot else None

-- the process that the call of a process is to abort, if any
unfoldable pub target : Table → ℕ → Option ℕ
target procs p = unless_resident procs (described (call_of procs p) procs)

-- the end of a process by an abort is put off while it holds the message of a mutual exclusion queue, and while a call of it is
-- in service
abbrev pub waits_to_end : Kernel → ℕ → Bool
waits_to_end kernel p = is_served kernel p || is_some (lowest_held kernel.queues p)

-- the end of a process is put off
abbrev pub with_abort_due : Kernel → ℕ → Kernel
with_abort_due kernel p = with_changed kernel p (record (process_in kernel.dispatcher.procs p) { abort_due = true })

-- the kernel and memory after an abort: a resident stays, another process ends, or its end is put off
unfoldable pub abort_done : Kernel → ℕ → Kernel
abort_done kernel p =
    if is_resident kernel.dispatcher.procs p then kernel
    else (if waits_to_end kernel p then with_abort_due kernel p else (discharged kernel p))

unfoldable pub memory_after_abort : Memory → Kernel → ℕ → Memory
memory_after_abort memory kernel p =
    if is_resident kernel.dispatcher.procs p || waits_to_end kernel p then memory else (memory_without memory kernel p)
