-- The command line interpreter of a machine in every step: it acts in slot 0 alone, lives there in no segment, and the segment
-- that it names is the one that it has reserved. (MP/M II User's Guide, "Command Line Interpreter"; Programmer's Guide,
-- functions 128 to 130; System Guide, "Resident System Processes".)
use Rattle.std.specs.Prelude.{◌≡◌, ◌≢◌, ℕ, ◌+◌, ◌*◌, ◌<◌, ◌≤◌, ◌==◌, ◌||◌, if◌then◌else◌, Bool, true, false, length, Some, None}
use Rattle.mpm_banks.specs.Memory.{Memory, HasSegment, segment_of}
use Rattle.mpm_banks.specs.Allocations.{spec_of}
use Rattle.mpm_banks.specs.declared.segment.Allocation.TheVariants.{Reserved}
use Rattle.mpm_base.specs.declared.functions.TheConstants.{SET_BDOS_ERROR_MODE, CHAIN_TO_PROGRAM}
use Rattle.mpm_kernel.specs.Awaiting.{AwaitsIn}
use Rattle.mpm_procs.specs.Table.{Lives, process_in, call_of}
use Rattle.mpm_gate.specs.Gates.{IsHome}
use Rattle.mpm_service.specs.Places.{at_disk}
use Rattle.mpm_residents.specs.Interpreters.{Interpreter, next_call}
use Rattle.mpm_residents.specs.declared.cli.table.Row.{Row}
use Rattle.mpm_residents.specs.declared.cli.table.Row.TheVariants.{ReadCommand}
use Rattle.mpm_residents.specs.Standing.{is_loading, InterpreterStands}
use Rattle.mpm_residents.specs.Natives.{native_in, interprets_if_there}
use Rattle.mpm_residents.specs.declared.native.Native.TheVariants.{Cli}
use Rattle.mpm_system.specs.declared.system.System.{System}
use Rattle.mpm_machine.specs.FileCalls.{is_of_files}

-- the segment that an interpreter names is there, slot 0 has reserved it, and it lies where the interpreter has it
pub record HasReserved (cli : Interpreter) (memory : Memory) : Type 0 where
  pub there : HasSegment memory cli.seg
  pub reserved : (segment_of memory cli.seg).allocation ≡ Reserved 0
  pub spec : spec_of memory cli.seg ≡ cli.spec

-- the functions that set the error mode, or chain: an interpreter calls none of them
abbrev pub sets_or_chains : ℕ → Bool
sets_or_chains f = f == SET_BDOS_ERROR_MODE || f == CHAIN_TO_PROGRAM

-- an interpreter acts in slot 0 and in no other. Its process lives in no segment, takes extended errors as answers, no end of it is put
-- off, and none of these functions is what it called last. The interpreter counts the consoles that there are
pub record IsActing (system : System) : Type 0 where
  pub cli : Interpreter
  pub acts : native_in system.residents 0 ≡ Some (Cli cli)
  pub alone : (p : ℕ) → interprets_if_there (native_in system.residents p) ≡ true → p ≡ 0
  pub lives : Lives system.kernel.dispatcher.procs 0
  pub resides : (process_in system.kernel.dispatcher.procs 0).seg ≡ None
  pub answers : (process_in system.kernel.dispatcher.procs 0).error_mode ≡ 255
  pub goes_on : (process_in system.kernel.dispatcher.procs 0).abort_due ≡ false
  pub calls : sets_or_chains (call_of system.kernel.dispatcher.procs 0).function ≡ false
  pub stands : InterpreterStands cli
  pub consoles : cli.consoles ≡ length system.kernel.units.consoles

-- an interpreter awaits a command as it reads one, and the answer to its file call while that is at the disk, at which it stands at so many
-- places. Else it awaits nothing, is ready, and each answer comes at once
abbrev pub is_reading : Row → Bool
is_reading ReadCommand = true
is_reading _ = false

abbrev pub awaited : ℕ → Row → ℕ
awaited places of_row = if is_reading of_row then 1 else places

-- and there are sixteen segments at most, in each of which a process may live. Where the interpreter has a segment, it is the one that it
-- has reserved. Where its call is at the disk, its row makes one on files. No held call of slot 0 is completed but the one that reads a
-- command
pub record Interprets (system : System) : Type 0 where
  pub acting : IsActing system
  pub few : length system.memory.segments ≤ 16
  pub homes : (seg : ℕ) → HasSegment system.memory seg → IsHome system.memory seg
  pub has : is_loading acting.cli.row ≡ true → HasReserved acting.cli system.memory
  pub filed : 0 < at_disk system.kernel.disk 0 → is_of_files (next_call acting.cli).function ≡ true
  pub awaits : AwaitsIn (awaited (at_disk system.kernel.disk 0) acting.cli.row) 0 system.kernel

-- an address of a segment that slot 0 has reserved, within the segment's pages
pub record IsOwnAddress (memory : Memory) (seg at : ℕ) : Type 0 where
  pub reserved : (segment_of memory seg).allocation ≡ Reserved 0
  pub first : 256 * (segment_of memory seg).base ≤ at
  pub below : at < 256 * ((segment_of memory seg).base + (segment_of memory seg).pages)

-- so it is of a segment in which no process lives
pub record IsOwnOfNobody (system : System) (seg at : ℕ) : Type 0 where
  pub own : IsOwnAddress system.memory seg at
  pub nobody : (p : ℕ) → Lives system.kernel.dispatcher.procs p → (process_in system.kernel.dispatcher.procs p).seg ≢ Some seg
