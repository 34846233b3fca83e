-- How a program is laid out in its segment, and how its process begins. (MP/M II System Guide, "Memory Segment Base Page
-- Initialization".)
use Rattle.std.specs.Prelude.{◌≡◌, ℕ, zero, suc, ◌+◌, ◌-◌, ◌*◌, ◌<◌, ◌≤◌, Bool, true, false, List, [], ◌∷◌, ◌++◌, Option, Some, None, length, count_by, codes, if◌then◌else◌}
use Rattle.mpm_base.specs.declared.number.Name8.{Name8}
use Rattle.mpm_base.specs.declared.segment.SegmentSpec.{SegmentSpec}
use Rattle.mpm_banks.specs.Gates.{last_page}
use Rattle.mpm_command.specs.BasePages.{base_page}
use Rattle.mpm_banks.specs.Memory.{Memory, segment_of, with_bytes}
use Rattle.mpm_banks.specs.Allocations.{new_memory, occupied, spec_of}
use Rattle.mpm_banks.specs.declared.segment.Segment.{Segment}
use Rattle.mpm_banks.specs.declared.segment.Allocation.{Allocation}
use Rattle.mpm_banks.specs.declared.segment.Allocation.TheVariants.{Free, Reserved, Occupied}
use Rattle.mpm_procs.specs.Table.{living, process_in, lowest_free}
use Rattle.mpm_procs.specs.declared.process.NewProcess.{NewProcess}
use Rattle.mpm_kernel.specs.Kernel.{Kernel, IsSoundKernel, with_changed, new_kernel, dispatched}
use Rattle.mpm_dispatcher.specs.Dispatch.{admitted, picked}
use Rattle.mpm_kernel.specs.Disk.{in_turns}
use Rattle.mpm_service.specs.Disk.{no_service}
use Rattle.mpm_kernel.specs.Queueing.{with_system_queue, OnlySystems}
use Rattle.mpm_queues.specs.Queues.{Queues, no_queues, made}
use Rattle.mpm_kernel.specs.Consoling.{given}
use Rattle.mpm_residents.specs.Terminals.{opening}
use Rattle.mpm_residents.specs.Interpreters.{opening as opening_interpreter}
use Rattle.mpm_residents.specs.declared.native.Native.{Native}
use Rattle.mpm_residents.specs.declared.native.Native.TheVariants.{Tmp, Cli, Spool, Sched}
use Rattle.mpm_sched.specs.Schedulers.{opening as opening_scheduler}
use Rattle.mpm_spool.specs.Spoolers.{opening as opening_spooler}
use Rattle.mpm_clock.specs.declared.moment.Moment.{Moment}
use Rattle.mpm_script.specs.declared.event.Timed.{Timed}
use Rattle.mpm_machine_file.specs.declared.machine_file.MachineFile.{MachineFile}
use Rattle.mpm_gate.specs.Gates.{IsHome}
use Rattle.mpm_system.specs.declared.system.System.{System}
use Rattle.mpm_system.specs.Owing.{nobody_owes}
use Rattle.mpm_system.specs.Whole.{IsWhole, NoCompletions}

-- a segment with a program: its base page, with an empty command tail, the program after it, and below the last page the word
-- on which the stack begins, the address of the base page
unfoldable pub laid_out : Memory → ℕ → List ℕ → Memory
laid_out memory seg program =
    let base = (segment_of memory seg).base in
    let page = last_page memory seg in
    with_bytes (with_bytes (with_bytes memory seg (256 * base) (base_page page [])) seg (256 * base + 256) program) seg (256 * page - 2) (0 ∷ base ∷ [])

-- the process of a program: it begins after the base page, with user 0 and drive A
unfoldable pub placed_process : SegmentSpec → ℕ → Name8 → ℕ → ℕ → NewProcess
placed_process spec seg name priority console = record {
  name = name;
  priority = priority;
  console = console;
  seg = Some seg;
  pc = 256 * spec.base + 256;
  sp = 256 * (spec.base + spec.pages - 1) - 2;
  dma = 256 * spec.base + 128;
  user = 0;
  drive = 0;
}

-- the moment at which the machine of a machine file begins
abbrev pub moment_of : MachineFile → Moment
moment_of file = record { date = file.date; hour = file.hour; minute = file.minute; second = file.second }

-- the machine of a machine file and of the events of its script, in which no process lives
unfoldable pub booted : MachineFile → List Timed → System
booted file events = record {
  steps = 0;
  interrupts = record { tick_every = file.tick_every; ticks = 0; script = events };
  kernel = in_turns file.disk_turn (new_kernel file.consoles file.printers (moment_of file));
  memory = new_memory file.segments;
  abort_deferred = false;
  residents = [];
  records = [];
  owed = nobody_owes;
}

-- a process may begin in a sound kernel, as its console is there
pub record MayBegin (new : NewProcess) (kernel : Kernel) : Type 0 where
  pub sound : IsSoundKernel kernel
  pub console : new.console < length kernel.units.consoles

-- a process lives in the segment
abbrev pub is_lived_in : Allocation → Bool
is_lived_in Free = false
is_lived_in (Reserved owner) = false
is_lived_in Occupied = true

abbrev pub is_occupied : Segment → Bool
is_occupied segment = is_lived_in segment.allocation

-- a machine into which programs may be placed: no step was done, and no more processes live than segments are lived in
pub record IsBare (system : System) : Type 0 where
  pub whole : IsWhole system
  pub no_completions : NoCompletions system
  pub start : system.steps ≡ 0
  pub few : length system.memory.segments ≤ 16
  pub counted : living system.kernel.dispatcher.procs ≤ count_by is_occupied system.memory.segments

-- the machine of a machine file without processes, whose disk serves nobody
pub record StandsBare (file : MachineFile) (events : List Timed) (system : System) : Type 0 where
  pub booted : system ≡ booted file events
  pub bare : IsBare system
  pub disk : system.kernel.disk ≡ no_service file.disk_turn

-- a program of a length can be placed into a segment in which no process lives, with a console
pub record MayPlace (system : System) (seg console size : ℕ) : Type 0 where
  pub bare : IsBare system
  pub home : IsHome system.memory seg
  pub empty : is_occupied (segment_of system.memory seg) ≡ false
  pub has_console : console < length system.kernel.units.consoles
  pub room : size + 640 ≤ 256 * (segment_of system.memory seg).pages

-- the system with a program placed: its process owns its console where nobody does, and the first of the ready list runs
unfoldable pub with_placed : System → ℕ → ℕ → Name8 → ℕ → ℕ → List ℕ → System
with_placed system p seg name priority console program = record system {
  kernel = dispatched (picked false) (given console None (Some p)
      (dispatched (admitted p (placed_process (spec_of system.memory seg) seg name priority console)) system.kernel));
  memory = occupied (laid_out system.memory seg program) seg;
}

-- the machine of a program: one console, no printer, one segment of 192 pages, no ticks
abbrev pub program_file : MachineFile
program_file = record {
  consoles = 1;
  printers = 0;
  tick_every = 0;
  disk_turn = 0;
  date = 1;
  hour = 0;
  minute = 0;
  second = 0;
  segments = record { base = 0; pages = 192 } ∷ [];
  drives = [];
  script = None;
  spool = false;
  sched = false;
}

-- the system as a program begins: it is the process `PROGRAM ` in the one segment
unfoldable pub opening_system : List ℕ → System
opening_system program = with_placed (booted program_file []) 0 0 (record { 0 = codes "PROGRAM " }) 200 0 program

-- the process of a resident: it has no memory segment
unfoldable pub resident_process : Name8 → ℕ → ℕ → NewProcess
resident_process name priority console =
    record { name = name; priority = priority; console = console; seg = None; pc = 0; sp = 0; dma = 0; user = 0; drive = 0 }

-- it begins in a slot, and is ready. Residents take extended errors as answers
unfoldable pub with_begun : Option ℕ → NewProcess → Kernel → Kernel
with_begun None new kernel = kernel
with_begun (Some p) new kernel =
    let begun = dispatched (admitted p new) kernel in with_changed begun p (record (process_in begun.dispatcher.procs p) { error_mode = 255 })

-- a resident begins in a slot: its process, and what acts in it
abbrev pub with_native : Option ℕ → Native → List Native → List Native
with_native None native natives = natives
with_native (Some p) native natives = natives ++ native ∷ []

unfoldable pub with_resident : Option ℕ → NewProcess → Native → System → System
with_resident slot new native system = record system { kernel = with_begun slot new system.kernel; residents = with_native slot native system.residents }

-- the process of the command line interpreter begins in a slot, and is ready; it reads
-- sixteen records at a time.
unfoldable pub with_interpreter : Option ℕ → Kernel → Kernel
with_interpreter None kernel = kernel
with_interpreter (Some p) kernel =
    let begun = dispatched (admitted p (resident_process (record { 0 = codes "cli     " }) 190 0)) kernel in
    with_changed begun p (record (process_in begun.dispatcher.procs p) { error_mode = 255; multi = 16 })

-- the name of the terminal message processor of a console
abbrev pub terminal_name : ℕ → Name8
terminal_name console = record { 0 = codes "Tmp" ++ ((48 + console) ∷ codes "    ") }

-- a terminal message processor begins in a slot, for a console
abbrev pub terminal_process : ℕ → NewProcess
terminal_process console = resident_process (terminal_name console) 198 console

abbrev pub with_terminal : Option ℕ → ℕ → System → System
with_terminal slot console system = with_resident slot (terminal_process console) (Tmp (opening console)) system

-- what is so of a system in which residents have begun: it is whole, and its steps, records, completions, consoles and disk are as they were
pub record Begun (old new : System) : Type 0 where
  pub whole : IsWhole new
  pub completed : new.kernel.dispatcher.completed ≡ old.kernel.dispatcher.completed
  pub consoles : length new.kernel.units.consoles ≡ length old.kernel.units.consoles
  pub disk : new.kernel.disk ≡ old.kernel.disk
  pub steps : new.steps ≡ old.steps
  pub records : new.records ≡ old.records
  pub owed : new.owed ≡ old.owed

-- one for each console, by number, each in the lowest free slot
unfoldable pub with_terminals : ℕ → System → System
with_terminals zero system = system
with_terminals (suc n) system =
    let others = with_terminals n system in with_terminal (lowest_free others.kernel.dispatcher.procs) n others

-- the command queue, which is the system's: messages of 130 bytes, with room for 15
abbrev pub command_queue : Name8
command_queue = record { 0 = codes "CliQ    " }

abbrev pub with_command_queue : Kernel → Kernel
with_command_queue kernel = with_system_queue kernel command_queue 130 15

-- the command queue, and the command line interpreter in the lowest slot
unfoldable pub begun_by_interpreter : System → System
begun_by_interpreter system =
    let queued = with_command_queue system.kernel in
    record system { kernel = with_interpreter (lowest_free queued.dispatcher.procs) queued }

-- it is the resident of that slot
abbrev pub with_interpreting : ℕ → System → System
with_interpreting consoles system = record system { residents = system.residents ++ Cli (opening_interpreter consoles) ∷ [] }

-- the spooler's queues, which are the system's: one for lists of files, of 128 bytes, with room for 8, and one by which it is stopped, of one
-- byte, with room for one
abbrev pub spool_queue : Name8
spool_queue = record { 0 = codes "SPOOL   " }

abbrev pub stop_queue : Name8
stop_queue = record { 0 = codes "STOPSPLR" }

abbrev pub with_spool_queues : Kernel → Kernel
with_spool_queues kernel = with_system_queue (with_system_queue kernel spool_queue 128 8) stop_queue 1 1

abbrev pub spooler_name : Name8
spooler_name = record { 0 = codes "Spool   " }

abbrev pub spooler_process : NewProcess
spooler_process = resident_process spooler_name 200 0

-- the spooler, where a machine has one: its queues, and then its process
unfoldable pub with_spooler : Bool → System → System
with_spooler false system = system
with_spooler true system =
    let queued = record system { kernel = with_spool_queues system.kernel } in
    with_resident (lowest_free queued.kernel.dispatcher.procs) spooler_process (Spool opening_spooler) queued

-- the scheduler's queue, which is the system's: messages of 128 bytes, with room for 8. It has the next number, 3 where there is a spooler
abbrev pub schedule_queue : Name8
schedule_queue = record { 0 = codes "SCHED   " }

abbrev pub schedule_number : Bool → ℕ
schedule_number spool = if spool then 3 else 1

abbrev pub with_schedule_queue : Kernel → Kernel
with_schedule_queue kernel = with_system_queue kernel schedule_queue 128 8

abbrev pub scheduler_name : Name8
scheduler_name = record { 0 = codes "Sched   " }

abbrev pub scheduler_process : NewProcess
scheduler_process = resident_process scheduler_name 195 0

-- the scheduler, where a machine has one, of a queue of a number: its queue, and then its process
unfoldable pub with_scheduler : Bool → ℕ → System → System
with_scheduler false queue system = system
with_scheduler true queue system =
    let queued = record system { kernel = with_schedule_queue system.kernel } in
    with_resident (lowest_free queued.kernel.dispatcher.procs) scheduler_process (Sched (opening_scheduler queue)) queued

-- the queues of a system that has none of its own yet, with the command queue, and with the spooler's after it
abbrev pub command_queues : Queues
command_queues = made no_queues 0 command_queue 130 15

abbrev pub spooling_queues : Bool → Queues
spooling_queues false = command_queues
spooling_queues true = made (made command_queues 1 spool_queue 128 8) 2 stop_queue 1 1

-- and with the scheduler's after those
abbrev pub resident_queues : Bool → Bool → Queues
resident_queues spool false = spooling_queues spool
resident_queues spool true = made (spooling_queues spool) (schedule_number spool) schedule_queue 128 8

-- a kernel has these queues, and all of them are the system's
pub record OnlyHas (queues : Queues) (kernel : Kernel) : Type 0 where
  pub systems : OnlySystems kernel
  pub are : kernel.queues ≡ queues

-- a whole system of so many consoles that has no queues and no residents yet
pub record AwaitsResidents (count : ℕ) (system : System) : Type 0 where
  pub whole : IsWhole system
  pub consoles : count ≡ length system.kernel.units.consoles
  pub queues : OnlyHas no_queues system.kernel
  pub nobody : system.residents ≡ []

-- so is the system as the terminals' begin, as one of them does, and what they leave: any queues that there are stay the only ones
pub record AwaitsTerminals (count : ℕ) (system : System) : Type 0 where
  pub whole : IsWhole system
  pub consoles : count ≡ length system.kernel.units.consoles
  pub first : length system.residents ≤ 1

pub record AwaitsTerminal (n : ℕ) (system : System) : Type 0 where
  pub whole : IsWhole system
  pub console : n < length system.kernel.units.consoles
  pub room : length system.residents < 11

pub record BeginsTerminals (count : ℕ) (old new : System) : Type 0 where
  pub system : new ≡ with_terminals count old
  pub begun : Begun old new
  pub few : length new.residents ≤ length old.residents + count
  pub queues : (others : Queues) → OnlyHas others old.kernel → OnlyHas others new.kernel

-- and as the spooler or the scheduler begins, beside which there are these queues alone
pub record AwaitsOneMore (others : Queues) (system : System) : Type 0 where
  pub whole : IsWhole system
  pub queues : OnlyHas others system.kernel
  pub room : length system.residents < 11

-- what a machine has as it is run, beside what its file says: these, a terminal message processor for each console in the slots after
-- the interpreter's, and then the spooler and the scheduler, where they are asked for
unfoldable pub begun_residents : ℕ → Bool → Bool → System → System
begun_residents consoles spool sched system =
    with_scheduler sched (schedule_number spool) (with_spooler spool (with_terminals consoles (with_interpreting consoles (begun_by_interpreter system))))

-- and then the first of the ready list runs
unfoldable pub with_residents : ℕ → Bool → Bool → System → System
with_residents consoles spool sched system =
    let begun = begun_residents consoles spool sched system in record begun { kernel = dispatched (picked false) begun.kernel }

pub record BeginsResidents (consoles : ℕ) (spool sched : Bool) (old new : System) : Type 0 where
  pub system : new ≡ with_residents consoles spool sched old
  pub whole : IsWhole new
  pub no_completions : NoCompletions new
  pub disk : new.kernel.disk ≡ old.kernel.disk
  pub steps : new.steps ≡ old.steps

-- the machine of a machine file and of the events of its script, as it is run
unfoldable pub opened : MachineFile → List Timed → System
opened file events = with_residents file.consoles file.spool file.sched (booted file events)
