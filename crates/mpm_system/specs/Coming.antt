-- The event that comes in a step, and the step that is counted. (MP/M II System Guide, "Interrupt Service Routines".)
use Rattle.std.specs.Prelude.{ℕ, ◌+◌, Bool, true, false, not, ◌&&◌, ◌||◌, if◌then◌else◌, Option, Some, None, is_none}
use Rattle.mpm_procs.specs.Table.{process_in}
use Rattle.mpm_script.specs.declared.event.Event.{Event}
use Rattle.mpm_kernel.specs.Kernel.{Kernel}
use Rattle.mpm_interrupts.specs.Interrupts.{due}
use Rattle.mpm_system.specs.declared.system.System.{System}
use Rattle.mpm_system.specs.Taking.{with_regs}

-- an interrupt may come: no process runs, or a resident does, which has no segment, or the process that runs has interrupts on
-- and no EI that has not taken effect yet
abbrev pub lets_in : Option ℕ → Kernel → Bool
lets_in None kernel = true
lets_in (Some p) kernel =
    let process = process_in kernel.dispatcher.procs p in
    is_none process.seg || (process.regs.iff1 && not process.regs.shadow)

-- the event that comes in a step
unfoldable pub coming : System → Option Event
coming system =
    if lets_in system.kernel.dispatcher.running system.kernel then due system.steps system.interrupts else None

-- the process that runs waits for an interrupt no more
abbrev pub unhalted : Option ℕ → Kernel → Kernel
unhalted None kernel = kernel
unhalted (Some p) kernel = with_regs kernel p (record (process_in kernel.dispatcher.procs p).regs { halted = false })

-- one more step counted
abbrev pub counted : System → System
counted system = record system { steps = system.steps + 1 }
