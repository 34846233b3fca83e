-- What the command line interpreter hands to the machine: bytes of a program's file come into a segment, code there is moved to
-- the segment's first page, the program's process begins, and a console is given back. A console that isn't there, or code
-- without a mark for each byte, is no such thing, and nothing is done then. (MP/M II System Guide, "Page Relocatable
-- Programs", "Memory Segment Base Page Initialization"; User's Guide, "Command Line Interpreter".)
use Rattle.std.specs.Prelude.{◌≡◌, ◌≢◌, ◌<◌, ℕ, ◌+◌, ◌*◌, Bool, true, false, ◌&&◌, nat_lt, nat_le, if◌then◌else◌, List, [], ◌∷◌, length, Option, Some, None}
use Rattle.z80_regs.specs.Words.{onward}
use Rattle.mpm_base.specs.Calls.{Answer, answering}
use Rattle.mpm_banks.specs.Memory.{Memory, segment_of, byte_at, with_bytes}
use Rattle.mpm_banks.specs.Ranges.{range_of, range_bytes, put_range}
use Rattle.mpm_banks.specs.Allocations.{occupied}
use Rattle.mpm_banks.specs.declared.range.Range.{Range}
use Rattle.mpm_prl.specs.Relocation.{relocated}
use Rattle.mpm_procs.specs.Table.{lowest_free}
use Rattle.mpm_procs.specs.declared.process.NewProcess.{NewProcess}
use Rattle.mpm_dispatcher.specs.Dispatch.{admitted}
use Rattle.mpm_kernel.specs.Kernel.{Kernel, dispatched}
use Rattle.mpm_kernel.specs.Called.{failure_code}
use Rattle.mpm_kernel.specs.Consoling.{given}
use Rattle.mpm_residents.specs.declared.cli.act.Act.{Act}
use Rattle.mpm_residents.specs.declared.cli.act.Act.TheVariants.{Ask, PlaceBytes, MoveCode, BeginProcess, GiveConsole}
use Rattle.mpm_system.specs.declared.system.System.{System}

-- bytes come into a segment, from an address on
abbrev pub placing : ℕ → ℕ → List ℕ → System → System
placing seg address bytes system = record system { memory = with_bytes system.memory seg address bytes }

-- the code of a range of memory is moved to a page, as its marks say
abbrev pub moved : Option Range → List ℕ → ℕ → Memory → Memory
moved None marks page memory = memory
moved (Some range) marks page memory = put_range memory range (relocated (range_bytes memory range) marks page)

-- so many bytes of code can be moved: there are some, and there is a mark for each
abbrev pub may_move : ℕ → List ℕ → Bool
may_move count marks = nat_lt 0 count && nat_le count (8 * length marks)

-- so many bytes of code in a segment, from an address on, are moved; what doesn't lie wholly in it stays
abbrev pub moving : ℕ → ℕ → ℕ → List ℕ → ℕ → System → System
moving seg address count marks page system = record system {
  memory = if may_move count marks then moved (range_of system.memory seg address count) marks page system.memory else system.memory;
}

-- there is a console of that number
abbrev pub is_console : ℕ → Kernel → Bool
is_console console kernel = nat_lt console (length kernel.units.consoles)

-- the owner of a console gives it to the process that waits for it first
abbrev pub giving : ℕ → ℕ → System → System
giving console p system = record system {
  kernel = if is_console console system.kernel then given console (Some p) None system.kernel else system.kernel;
}

-- a process may live in a segment: there is one of that number, it has four pages at least and ends below common memory
abbrev pub may_live : Memory → ℕ → Bool
may_live memory seg =
    nat_lt seg (length memory.segments)
    && (nat_le 4 (segment_of memory seg).pages && nat_le ((segment_of memory seg).base + (segment_of memory seg).pages) 192)

-- there is a slot
abbrev pub is_slot : Option ℕ → Bool
is_slot None = false
is_slot (Some q) = true

-- a process begins in a slot; where the one that hands it over owns its console, it becomes the owner
abbrev pub begun_for : ℕ → NewProcess → Option ℕ → Kernel → Kernel
begun_for p new None kernel = kernel
begun_for p new (Some q) kernel = given new.console (Some p) (Some q) (dispatched (admitted q new) kernel)

-- the process of a program begins in a segment, where it may live there, its console is there and a slot is free: it lives there
-- from now on, with the address of the base page on its stack
abbrev pub begins : ℕ → NewProcess → System → Bool
begins seg new system =
    may_live system.memory seg && (is_console new.console system.kernel && is_slot (lowest_free system.kernel.dispatcher.procs))

abbrev pub beginning : ℕ → NewProcess → ℕ → System → System
beginning seg new p system =
    if begins seg new system then record system {
      kernel = begun_for p (record new { seg = Some seg }) (lowest_free system.kernel.dispatcher.procs) system.kernel;
      memory = occupied (with_bytes system.memory seg new.sp (0 ∷ (segment_of system.memory seg).base ∷ [])) seg;
    } else system

-- what the interpreter of a slot hands over, by the bytes that go with it, is done
abbrev pub handed_over : Act → List ℕ → ℕ → System → System
handed_over Ask bytes p system = system
handed_over (PlaceBytes seg address count) bytes p system = placing seg address bytes system
handed_over (MoveCode seg address count page) bytes p system = moving seg address count bytes page system
handed_over (BeginProcess seg new) bytes p system = beginning seg new p system
handed_over (GiveConsole console) bytes p system = giving console p system

-- and it is answered by 0, or by FFh where no process can begin
abbrev pub handed_value : Act → System → ℕ
handed_value (BeginProcess seg new) system = if begins seg new system then 0 else failure_code
handed_value _ system = 0

abbrev pub handed_answer : Act → System → Answer
handed_answer act system = answering (handed_value act system)

-- of memory only so many bytes of one segment change, from an address on
pub record ChangesOnly (seg address count : ℕ) (old new : Memory) : Type 0 where
  pub others : (other at : ℕ) → other ≢ seg → at < 49152 → byte_at new other at ≡ byte_at old other at
  pub rest : (at : ℕ) → ((k : ℕ) → k < count → at ≢ onward address k) → byte_at new seg at ≡ byte_at old seg at
