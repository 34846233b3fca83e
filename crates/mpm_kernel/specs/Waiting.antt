-- Waiting for devices, for flags and for the clock. (MP/M II Programmer's Guide, "Function 131: Poll", "Function 132: Flag
-- Wait", "Function 133: Flag Set", "Function 141: Delay".)
use Rattle.std.specs.Prelude.{ℕ, Bool, false, [], ◌∷◌, ◌==◌, ◌&&◌, nat_le, nat_lt, slice_index_or, if◌then◌else◌}
use Rattle.mpm_base.specs.Calls.{Taken, Answer}
use Rattle.mpm_flags.specs.States.{flag_at, with_flag, waited_for, wait_answer, after_set, set_answer}
use Rattle.mpm_flags.specs.declared.flags.FlagWait.{FlagWait}
use Rattle.mpm_flags.specs.declared.flags.FlagWait.TheVariants.{Passed, Waits, Underrun}
use Rattle.mpm_flags.specs.declared.flags.FlagSet.{FlagSet}
use Rattle.mpm_flags.specs.declared.flags.FlagSet.TheVariants.{Set, Woke, Overrun}
use Rattle.mpm_clock.specs.Times.{delayed}
use Rattle.mpm_procs.specs.Table.{call_of}
use Rattle.mpm_kernel.specs.Completion.{completion_of}
use Rattle.mpm_kernel.specs.Kernel.{Kernel, poll_list, dispatched}
use Rattle.mpm_dispatcher.specs.Dispatch.{unlisted, moved, all_woken, behind_equals}
use Rattle.mpm_kernel.specs.Called.{Called, valued, done, blocked, low_parameter, failure_code}

-- function 131: a process waits for one of sixteen devices, unless it is ready; a poll keeps it ready
unfoldable pub polled : Taken → ℕ → Kernel → Called
polled call p kernel =
    let device = low_parameter call in
    if nat_lt 15 device then valued failure_code kernel
    else (if slice_index_or kernel.devices.ready device false then done kernel
    else (blocked p (dispatched (moved (poll_list device) p) kernel)))

-- the flags of processes: flags 0 to 3 are the system's
abbrev pub is_flag : ℕ → Bool
is_flag flag = nat_le 4 flag && nat_le flag 31

-- a process waits for a flag
abbrev pub flag_waited_for : Kernel → ℕ → ℕ → Kernel
flag_waited_for kernel p flag =
    record kernel { flags = with_flag kernel.flags flag (waited_for p (flag_at kernel.flags flag)) }

-- it passed, waits from now on, or may not wait since another one does
unfoldable pub waited : FlagWait → ℕ → Kernel → Called
waited Passed p kernel = done kernel
waited Waits p kernel = blocked p (dispatched (unlisted p) kernel)
waited Underrun p kernel = valued failure_code kernel

-- function 132
unfoldable pub flag_waited : Taken → ℕ → Kernel → Called
flag_waited call p kernel =
    let flag = low_parameter call in
    if is_flag flag then waited (wait_answer p (flag_at kernel.flags flag)) p (flag_waited_for kernel p flag)
    else (valued failure_code kernel)

-- who waited for a flag that is set is woken
unfoldable pub with_woken : FlagSet → Kernel → Kernel
with_woken Set kernel = kernel
with_woken Overrun kernel = kernel
with_woken (Woke p) kernel = dispatched (all_woken (p ∷ [])) kernel

-- a flag is set
unfoldable pub signalled : ℕ → Kernel → Kernel
signalled flag kernel =
    with_woken (set_answer (flag_at kernel.flags flag))
    (record kernel { flags = with_flag kernel.flags flag (after_set (flag_at kernel.flags flag)) })

abbrev pub set_value : FlagSet → ℕ
set_value Set = 0
set_value Overrun = failure_code
set_value (Woke p) = 0

-- function 133: a flag is set, where there is one of that number
unfoldable pub set_if_flag : ℕ → Kernel → Called
set_if_flag flag kernel =
    if is_flag flag then valued (set_value (set_answer (flag_at kernel.flags flag))) (signalled flag kernel)
    else (valued failure_code kernel)

abbrev pub flag_set : Taken → Kernel → Called
flag_set call kernel = set_if_flag (low_parameter call) kernel

-- function 141: a process waits for ticks; for none, it is put after its equals, as function 142 does
unfoldable pub process_delayed : Taken → ℕ → Kernel → Called
process_delayed call p kernel =
    if call.word == 0 then done (dispatched (behind_equals p) kernel)
    else (blocked p (record (dispatched (unlisted p) kernel) { clock = delayed kernel.clock p call.word }))

-- the reply of the held call of a process as it is completed
abbrev pub completion_reply : Kernel → ℕ → Answer
completion_reply kernel p = completion_of (call_of kernel.dispatcher.procs p)
