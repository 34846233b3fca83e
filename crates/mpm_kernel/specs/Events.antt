-- What events do. (MP/M II System Guide, "Polled Devices", "Interrupt Service Routines", "Tick".)
use Rattle.std.specs.Prelude.{ℕ, ◌<◌, ⊤, true, List, Option, Some, None, ◌==◌, drop, slice_set, if◌then◌else◌}
use Rattle.mpm_clock.specs.Delays.{woken_by_tick}
use Rattle.mpm_clock.specs.Times.{ticked}
use Rattle.mpm_dispatcher.specs.Dispatch.{first_completed, slots_in, with_completed, all_woken, runner_behind}
use Rattle.mpm_procs.specs.Table.{call_of}
use Rattle.mpm_queues.specs.Queue.{block_size}
use Rattle.mpm_script.specs.declared.event.Event.{Event}
use Rattle.mpm_script.specs.declared.event.Event.TheVariants.{Tick, Key, Ready, Int}
use Rattle.mpm_kernel.specs.Kernel.{Kernel, poll_list, afresh, dispatched}
use Rattle.mpm_base.specs.Calls.{word_at}
use Rattle.mpm_base.specs.declared.functions.TheConstants.{CALL_RESIDENT_SYSTEM_PROCEDURE}
use Rattle.mpm_kernel.specs.Waiting.{is_flag, signalled}
use Rattle.mpm_kernel.specs.Procedures.{inside, procedure_queue}
use Rattle.mpm_kernel.specs.Consoling.{key_came}

-- an event that may come: its device or its flag is there
abbrev pub MayCome : Event → Type 0
MayCome Tick = ⊤
MayCome (Key console byte) = ⊤
MayCome (Ready device byte) = device < 16
MayCome (Int flag) = flag < 32

-- the time goes on by a tick
abbrev pub with_tick : Kernel → Kernel
with_tick kernel = record kernel { clock = ticked kernel.clock }

-- a tick of the clock: those whose delays end are woken, and who runs is put after its equals
unfoldable pub clock_ticked : Kernel → Kernel
clock_ticked kernel =
    dispatched runner_behind (dispatched (all_woken (woken_by_tick kernel.clock.delays)) (with_tick kernel))

-- those who poll a device, in the order in which they stand
unfoldable pub pollers : Kernel → ℕ → List ℕ
pollers kernel device = slots_in kernel.dispatcher.lists (poll_list device)

-- a device is ready, with the byte that it sent last
abbrev pub with_ready : Kernel → ℕ → ℕ → Kernel
with_ready kernel device byte = record kernel {
  devices = record { ready = slice_set kernel.devices.ready device true; last = slice_set kernel.devices.last device byte };
}

-- a device becomes ready: those who poll it are woken
unfoldable pub device_ready : Kernel → ℕ → ℕ → Kernel
device_ready kernel device byte = dispatched (all_woken (pollers kernel device)) (with_ready kernel device byte)

-- a flag is set as by function 133, where there is such a flag; one that is set already stays so
unfoldable pub flag_came : ℕ → Kernel → Kernel
flag_came flag kernel = if is_flag flag then signalled flag kernel else kernel

-- an event
unfoldable pub happens : Event → Kernel → Kernel
happens Tick kernel = clock_ticked kernel
happens (Key console byte) kernel = key_came console byte kernel
happens (Ready device byte) kernel = device_ready kernel device byte
happens (Int flag) kernel = flag_came flag kernel

abbrev pub happened : Event → Kernel → Kernel
happened event kernel = happens event (afresh kernel)

-- a call 151 that was held got the message of its queue, which follows its block
abbrev pub inside_of : Option ℕ → ℕ → ℕ → Kernel → Kernel
inside_of None p message kernel = kernel
inside_of (Some q) p message kernel = inside p q message kernel

unfoldable pub with_procedure : ℕ → Kernel → Kernel
with_procedure p kernel =
    let call = call_of kernel.dispatcher.procs p in
    if call.function == CALL_RESIDENT_SYSTEM_PROCEDURE then inside_of (procedure_queue kernel.queues call) p (word_at call block_size) kernel else kernel

abbrev pub with_first : Option ℕ → Kernel → Kernel
with_first None kernel = kernel
with_first (Some p) kernel = with_procedure p kernel

-- the kernel once the process whose held call was completed first is handed out
unfoldable pub handed_out : Kernel → Kernel
handed_out kernel = with_first (first_completed kernel.dispatcher.completed) (dispatched (with_completed (drop 1 kernel.dispatcher.completed)) kernel)
