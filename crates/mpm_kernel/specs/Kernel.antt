-- The kernel as the record of its parts, each the value of the crate that keeps it.
use Rattle.std.specs.Prelude.{◌≡◌, ℕ, ◌+◌, ◌<◌, ◌≤◌, Bool, true, false, List, [], Option, Some, None, is_none, replicate, ◌==◌, ◌&&◌, count_by, length, if◌then◌else◌}
use Rattle.std.specs.List.{AllByRecursion}
use Rattle.mpm_base.specs.declared.devices.Devices.{Devices}
use Rattle.mpm_ready.specs.Tables.{list_of, IsTable}
use Rattle.mpm_flags.specs.States.{no_flags}
use Rattle.mpm_flags.specs.declared.flags.Flag.{Flag}
use Rattle.mpm_flags.specs.declared.flags.Flag.TheVariants.{Clear, Set, Waits}
use Rattle.mpm_clock.specs.Delays.{delays_of}
use Rattle.mpm_clock.specs.declared.moment.Moment.{Moment}
use Rattle.mpm_clock.specs.Times.{Clock, new_clock}
use Rattle.mpm_queues.specs.Queues.{Queues, no_queues, IsMade, width_of, waits, AreSoundQueues}
use Rattle.mpm_consoles.specs.Consoles.{Consoles, no_owners, HasUnit, owns, waits as waits_for_unit, gate_waits, AreSoundConsoles}
use Rattle.mpm_base.specs.declared.unit.Unit.{Unit}
use Rattle.mpm_base.specs.declared.unit.Unit.TheVariants.{Console as ConsoleUnit}
use Rattle.mpm_procs.specs.Table.{Table, HasSlots, lives, Lives, process_in, with_process}
use Rattle.mpm_procs.specs.declared.process.Process.{Process}
use Rattle.mpm_service.specs.Disk.{DiskService, no_service}
use Rattle.mpm_service.specs.Places.{at_disk}
use Rattle.mpm_dispatcher.specs.Dispatch.{new_dispatcher, IsReady, with_procs, with_completed}
use Rattle.mpm_dispatcher.specs.declared.dispatcher.Dispatcher.{Dispatcher}

-- the dispatcher, which has the processes, the flags, the clock, the polled devices, the consoles and printers with those who wait for
-- them, the queues, how many of them are the system's, and the file calls at the disk. The system's queues have the lowest numbers. Left to
-- be handed out are what the last call that echoes or the last event wrote to its console by itself, and the process that the last event
-- aborts
pub record Kernel : Type 0 where
  pub dispatcher : Dispatcher
  pub flags : List Flag
  pub clock : Clock
  pub devices : Devices
  pub units : Consoles
  pub queues : Queues
  pub system_queues : ℕ
  pub disk : DiskService
  pub echo : List ℕ
  pub aborted : Option ℕ

-- the kernel of a machine as it begins at a moment: no process lives, and no call waits for the disk, whose turns have no steps
unfoldable pub new_kernel : ℕ → ℕ → Moment → Kernel
new_kernel consoles printers now = record {
  dispatcher = new_dispatcher;
  flags = no_flags;
  clock = new_clock now;
  devices = record { ready = replicate 16 false; last = replicate 16 0 };
  units = no_owners consoles printers;
  queues = no_queues;
  system_queues = 0;
  disk = no_service 0;
  echo = [];
  aborted = None;
}

-- the kernel with another dispatcher, by what becomes of it
abbrev pub dispatched : (Dispatcher → Dispatcher) → Kernel → Kernel
dispatched f kernel = record kernel { dispatcher = f kernel.dispatcher }

-- the number of the list of those who poll a device
abbrev pub poll_list : ℕ → ℕ
poll_list device = 1 + device

-- the kernel with a process changed
abbrev pub with_changed : Kernel → ℕ → Process → Kernel
with_changed kernel p process = dispatched (with_procs (with_process kernel.dispatcher.procs p process)) kernel

-- the kernel as a call begins: it has completed no held call yet, and one that echoes has echoed nothing
abbrev pub call_begun : Bool → Kernel → Kernel
call_begun echoes kernel = record (dispatched (with_completed []) kernel) { echo = if echoes then [] else kernel.echo }

-- the kernel as an event begins: nothing is left to be handed out
abbrev pub afresh : Kernel → Kernel
afresh kernel = record (dispatched (with_completed []) kernel) { echo = []; aborted = None }

-- a process is a resident: it lives in no memory segment
abbrev pub is_resident : Table → ℕ → Bool
is_resident procs p = is_none (process_in procs p).seg

-- a process lives, and its end by an abort is put off
abbrev pub is_aborted : Table → ℕ → Bool
is_aborted procs p = lives procs p && (process_in procs p).abort_due

-- the places where a process stands: in a list, at flags, with delays, at queues, where it waits for a console or a printer, at its gate as
-- the owner of a console, and at the disk, where it waits or is served

unfoldable pub in_lists : Option ℕ → ℕ
in_lists None = 0
in_lists (Some list) = 1

abbrev pub is_waiter : ℕ → Flag → Bool
is_waiter p Clear = false
is_waiter p Set = false
is_waiter p (Waits other) = other == p

unfoldable pub flags_of : List Flag → ℕ → ℕ
flags_of flags p = count_by (is_waiter p) flags

-- those outside the kernel's lists
abbrev pub waits_in : List Flag → Clock → Queues → ℕ → ℕ
waits_in flags clock queues p = flags_of flags p + delays_of clock.delays p + waits queues p

abbrev pub waits_at_units : Consoles → ℕ → ℕ
waits_at_units units p = waits_for_unit units p + gate_waits units p

abbrev pub waits_of : Kernel → ℕ → ℕ
waits_of kernel p =
    waits_in kernel.flags kernel.clock kernel.queues p + waits_at_units kernel.units p + at_disk kernel.disk p

abbrev pub places : Kernel → ℕ → ℕ
places kernel p = in_lists (list_of kernel.dispatcher.lists p) + waits_of kernel p

-- each process whose held call was completed lives
abbrev pub CompletedLive : Kernel → Type 0
CompletedLive kernel = AllByRecursion (λ p. Lives kernel.dispatcher.procs p) kernel.dispatcher.completed

-- what is so of each process: its console is there, and its printer where there are printers, and its multi-sector count is 1
-- to 16
pub record IsFit (units : Consoles) (process : Process) : Type 0 where
  pub console : process.console < length units.consoles
  pub printer : 0 < length units.printers → process.printer < length units.printers
  pub some : 1 ≤ process.multi
  pub few : process.multi ≤ 16

-- a console is there
abbrev pub IsConsole : Kernel → ℕ → Type 0
IsConsole kernel console = console < length kernel.units.consoles

-- a process owns a console, which is there
pub record OwnsConsole (p console : ℕ) (kernel : Kernel) : Type 0 where
  pub has : IsConsole kernel console
  pub owner : owns kernel.units p (ConsoleUnit console) ≡ true

-- a queue of messages of two bytes is there, as a resident procedure has one
abbrev pub IsOfTwo : Queues → ℕ → Type 0
IsOfTwo queues q = width_of queues q ≡ Some 2

-- what is so of the kernel after each step. The owners of consoles and printers live. A process is in at most one place, and only living
-- ones are. The system's queues are there, and so are those in whose resident procedures processes are
pub record IsSoundKernel (kernel : Kernel) : Type 0 where
  pub units : AreSoundConsoles kernel.units
  pub owners : (unit : Unit) (p : ℕ) → HasUnit kernel.units unit → owns kernel.units p unit ≡ true → Lives kernel.dispatcher.procs p
  pub slots : HasSlots kernel.dispatcher.procs
  pub table : IsTable kernel.dispatcher.lists
  pub flags : length kernel.flags ≡ 32
  pub queues : AreSoundQueues kernel.queues
  pub system : (q : ℕ) → q < kernel.system_queues → IsMade kernel.queues q
  pub inside : (p q : ℕ) → Lives kernel.dispatcher.procs p → (process_in kernel.dispatcher.procs p).procedure ≡ Some q → IsOfTwo kernel.queues q
  pub fit : (p : ℕ) → Lives kernel.dispatcher.procs p → IsFit kernel.units (process_in kernel.dispatcher.procs p)
  pub once : (p : ℕ) → places kernel p ≤ 1
  pub live : (p : ℕ) → 0 < places kernel p → Lives kernel.dispatcher.procs p
  pub runs : (p : ℕ) → kernel.dispatcher.running ≡ Some p → IsReady kernel.dispatcher p

-- a process lives in a sound kernel
pub record LivesInKernel (p : ℕ) (kernel : Kernel) : Type 0 where
  pub sound : IsSoundKernel kernel
  pub lives : Lives kernel.dispatcher.procs p

-- a ready process of a sound kernel, which may call it
pub record MayCall (p : ℕ) (kernel : Kernel) : Type 0 where
  pub sound : IsSoundKernel kernel
  pub lives : Lives kernel.dispatcher.procs p
  pub ready : IsReady kernel.dispatcher p

-- and may use a unit, which is there
pub record MayUseUnit (p : ℕ) (unit : Unit) (kernel : Kernel) : Type 0 where
  pub sound : IsSoundKernel kernel
  pub lives : Lives kernel.dispatcher.procs p
  pub ready : IsReady kernel.dispatcher p
  pub there : HasUnit kernel.units unit

-- and may make a call that completes others', for which there is room
pub record MayComplete (p : ℕ) (kernel : Kernel) : Type 0 where
  pub sound : IsSoundKernel kernel
  pub lives : Lives kernel.dispatcher.procs p
  pub ready : IsReady kernel.dispatcher p
  pub room : length kernel.dispatcher.completed < 64

-- a unit of a sound kernel
pub record HasSoundUnit (unit : Unit) (kernel : Kernel) : Type 0 where
  pub sound : IsSoundKernel kernel
  pub there : HasUnit kernel.units unit

-- a living process uses a console that it owns
pub record UsesConsole (p console : ℕ) (kernel : Kernel) : Type 0 where
  pub lives : Lives kernel.dispatcher.procs p
  pub has : IsConsole kernel console
  pub owner : owns kernel.units p (ConsoleUnit console) ≡ true

-- a kernel becomes another one, which is sound; and so that whose held call it completed lives
pub record BecomesSound (value new : Kernel) : Type 0 where
  pub kernel : new ≡ value
  pub sound : IsSoundKernel new

pub record BecomesWhole (value new : Kernel) : Type 0 where
  pub kernel : new ≡ value
  pub sound : IsSoundKernel new
  pub live : CompletedLive new
