-- The end of a process: it waits no more, its messages go back, its consoles and printers pass on, and its slot is free. (MP/M
-- II Programmer's Guide, "Function 0: System Reset", "Function 143: Terminate Process", "Mutual Exclusion Queues".)
use Rattle.std.specs.Prelude.{◌≡◌, ◌≢◌, ℕ, zero, suc, List, length, [], ◌∷◌, Some, if◌then◌else◌}
use Rattle.std.specs.List.{AllByRecursion, range_with_len}
use Rattle.mpm_flags.specs.States.{flags_without_waiter}
use Rattle.mpm_clock.specs.Times.{clock_without_delay}
use Rattle.mpm_queues.specs.Queues.{holds}
use Rattle.mpm_queues.specs.Handling.{queues_without_waiter}
use Rattle.mpm_consoles.specs.Handling.{units_without_waiter}
use Rattle.mpm_base.specs.declared.unit.Unit.TheVariants.{Console as ConsoleUnit, Printer as PrinterUnit}
use Rattle.mpm_service.specs.Places.{without_call}
use Rattle.mpm_procs.specs.Table.{Lives, without}
use Rattle.mpm_kernel.specs.Kernel.{Kernel, IsSoundKernel, places, dispatched}
use Rattle.mpm_dispatcher.specs.Dispatch.{with_procs, descheduled}
use Rattle.mpm_kernel.specs.Consoling.{unit_left}
use Rattle.mpm_kernel.specs.Procedures.{given_back_to, given_back}

-- a process stands in no list, waits neither for a flag nor for the clock nor at a queue nor for a console or a printer, and
-- has no call at the disk
unfoldable pub dropped_out : ℕ → Kernel → Kernel
dropped_out p kernel = record kernel {
  dispatcher = descheduled p kernel.dispatcher;
  flags = flags_without_waiter kernel.flags p;
  clock = clock_without_delay kernel.clock p;
  queues = queues_without_waiter kernel.queues p;
  units = units_without_waiter kernel.units p;
  disk = without_call kernel.disk p;
}

-- the message of a mutual exclusion queue that it holds goes back
unfoldable pub returned : ℕ → ℕ → Kernel → Kernel
returned p q kernel = if holds kernel.queues p q then given_back_to (Some q) p kernel else kernel

-- those of the queues of some numbers, one after the other
unfoldable pub all_returned : List ℕ → ℕ → Kernel → Kernel
all_returned [] p kernel = kernel
all_returned (q ∷ qs) p kernel = all_returned qs p (returned p q kernel)

-- so many consoles and printers that it owns pass on, by rising number
unfoldable pub consoles_left : ℕ → ℕ → Kernel → Kernel
consoles_left p zero kernel = kernel
consoles_left p (suc n) kernel = unit_left p (ConsoleUnit n) (consoles_left p n kernel)

unfoldable pub printers_left : ℕ → ℕ → Kernel → Kernel
printers_left p zero kernel = kernel
printers_left p (suc n) kernel = unit_left p (PrinterUnit n) (printers_left p n kernel)

-- first all its consoles, and then its printers
unfoldable pub units_left : ℕ → Kernel → Kernel
units_left p kernel =
    let afterwards = consoles_left p (length kernel.units.consoles) kernel in printers_left p (length afterwards.units.printers) afterwards

-- first the message of its resident procedure goes back, then those of mutual exclusion queues, by rising number, and then its
-- consoles and printers pass on
unfoldable pub relieved : ℕ → Kernel → Kernel
relieved p kernel = units_left p (all_returned (range_with_len 0 32) p (given_back p (dropped_out p kernel)))

-- the slot of a process is free
abbrev pub vacated : ℕ → Kernel → Kernel
vacated p kernel = dispatched (with_procs (without kernel.dispatcher.procs p)) kernel

-- a process ends
unfoldable pub discharged : Kernel → ℕ → Kernel
discharged kernel p = vacated p (relieved p kernel)

-- what is so of it while it gives these up: it lives and stands nowhere, and only others' held calls are completed
pub record IsLeaving (p : ℕ) (kernel : Kernel) : Type 0 where
  pub sound : IsSoundKernel kernel
  pub lives : Lives kernel.dispatcher.procs p
  pub nowhere : places kernel p ≡ 0
  pub others : AllByRecursion (λ q. Lives kernel.dispatcher.procs q × (q ≢ p)) kernel.dispatcher.completed
