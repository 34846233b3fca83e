-- What the instructions of one process make of it alone, one after another, until one can't be done here: registers, and memory as
-- the process reaches it. (This project's own.)
use Rattle.std.specs.Prelude.{◌≡◌, ◌⊎◌, ◌↔◌, IsNone, ℕ, ◌<◌, List, Option, Some, None, Bool, true, false, replicate, if◌then◌else◌}
use Rattle.z80_regs.specs.declared.regs.Regs.{Regs}
use Rattle.z80_decode.specs.declared.instr.Instr.{Instr}
use Rattle.z80_decode.specs.Decoding.{instr_of}
use Rattle.z80_ext.specs.Instruction.{IsLoadUpAt, four_from}
use Rattle.z80_ext.specs.declared.stepped.Stepped.{Stepped}
use Rattle.z80_ext.specs.declared.stepped.Stepped.TheVariants as stepped
use Rattle.mpm_base.specs.declared.devices.Devices.{Devices}
use Rattle.mpm_base.specs.declared.segment.SegmentSpec.{SegmentSpec}
use Rattle.mpm_banks.specs.Memory.{Memory, byte_at}
use Rattle.mpm_gate.specs.Gates.{gate_of}
use Rattle.mpm_gate.specs.declared.gate.Gate.{Gate as GateThere}
use Rattle.mpm_processor.specs.Moving.{View, view_of, instruction_in, moved, moves}
use Rattle.mpm_replay.specs.Ports.{reads_port, reads_unless}
use Rattle.mpm_replay.specs.declared.stopping.Why.{Why}
use Rattle.mpm_replay.specs.declared.stopping.Why.TheVariants.{Steps, Gate, Illegal, Input}
use Rattle.mpm_replay.specs.declared.stopping.Next.{Next}
use Rattle.mpm_replay.specs.declared.stopping.Next.TheVariants as next
use Rattle.mpm_replay.specs.declared.replaying.Replayed.{Replayed}

-- no device has sent anything: no instruction that is done here reads one
abbrev pub no_devices : Devices
no_devices = record { ready = replicate 16 false; last = replicate 16 0 }

abbrev pub portless : SegmentSpec → Regs → List ℕ → List ℕ → View
portless spec regs segment common = view_of spec regs segment common no_devices

-- the four bytes at PC
abbrev pub bytes_at : View → List ℕ
bytes_at view = four_from (byte_at view.memory 0) view.regs.pc

-- why an instruction isn't done: none is listed, or it reads a port
abbrev pub stop_of : Option Instr → Option Why
stop_of None = Some Illegal
stop_of (Some instr) = if reads_port instr then Some Input else None

abbrev pub stop_before : List ℕ → Option Why
stop_before bytes = stop_of (instr_of bytes)

-- in a HALT what is at PC doesn't count
abbrev pub stop_unless : Bool → List ℕ → Option Why
stop_unless true bytes = None
stop_unless false bytes = stop_before bytes

-- and where a gate is nothing else does
abbrev pub stop_by : Option GateThere → Option Why → Option Why
stop_by (Some gate) other = Some Gate
stop_by None other = other

-- why the process of a view, which is in a resident procedure or in none, does no instruction here, if it does none
unfoldable pub stop_at : Bool → View → Option Why
stop_at inside view = stop_by (gate_of inside view.memory 0 view.regs.pc) (stop_unless view.regs.halted (bytes_at view))

-- what stops it before its instruction is decoded whole: a gate, or an instruction that reads a port
abbrev pub input_if : Bool → Option Why
input_if reads = if reads then Some Input else None

abbrev pub held_by : Option GateThere → Bool → Option Why
held_by (Some gate) reads = Some Gate
held_by None reads = input_if reads

unfoldable pub held_at : Bool → View → Option Why
held_at inside view = held_by (gate_of inside view.memory 0 view.regs.pc) (reads_unless view.regs.halted (instr_of (bytes_at view)))

-- what stops a process that does this next
abbrev pub stopped_by : Next → Option Why
stopped_by (next.Stops why) = Some why
stopped_by next.Loads = None
stopped_by next.Steps = None

-- what stops it that is at no gate
abbrev pub input_at : View → Option Why
input_at view = input_if (reads_unless view.regs.halted (instr_of (bytes_at view)))

-- what a process reaches beside its registers: the bytes of its segment, those of common memory, and devices
pub record Reach : Type 0 where
  pub segment : List ℕ
  pub common : List ℕ
  pub devices : Devices

abbrev pub reach : List ℕ → List ℕ → Devices → Reach
reach segment common devices = record { segment = segment; common = common; devices = devices }

-- what a process does next was found: what stops it, or that it is a transfer of LDIR. Nothing has changed
pub record FindsNext (stop : View → Option Why) (view : View) (old new : Reach) (found : Next) : Type 0 where
  pub stops : stopped_by found ≡ stop view
  pub loads : found ≡ next.Loads → IsLoadUpAt view.regs (byte_at view.memory 0)
  pub segment : new.segment ≡ old.segment
  pub common : new.common ≡ old.common
  pub devices : new.devices ≡ old.devices

-- one instruction was done, or none is listed and nothing has changed
pub record ReplaysInstruction (old new : View) (answer : Stepped) : Type 0 where
  pub illegal : (answer ≡ stepped.Illegal) ↔ IsNone (instruction_in 0 old)
  pub unlisted : (answer ≡ stepped.Illegal) ↔ ((old.regs.halted ≡ false) × IsNone (instr_of (bytes_at old)))
  pub moves : new ≡ moved 0 old

-- what is left of a view: what an instruction leaves, where there was no reason to stop
abbrev pub left_by : Option Why → View → View
left_by None view = moved 0 view
left_by (Some why) view = view

-- one instruction is done, or none is for a reason
pub record AdvancesView (inside : Bool) (old new : View) (stopped : Option Why) : Type 0 where
  pub stop : stopped ≡ stop_at inside old
  pub left : new ≡ left_by stopped old

-- it ends early for the reason that is there then, or it has done all
abbrev pub EndsReplay : Bool → ℕ → View → Replayed → Type 0
EndsReplay inside most view replayed =
    ((replayed.done < most) × (stop_at inside view ≡ Some replayed.why)) ⊎ ((replayed.done ≡ most) × (replayed.why ≡ Steps))

-- a replay of at most so many instructions: `done` is the least number, below that, of instructions after which there is a reason to stop,
-- and all of them where there is none. What is left is what so many leave
pub record IsReplay (inside : Bool) (most : ℕ) (old : View) (regs : Regs) (memory : Memory) (replayed : Replayed) : Type 0 where
  pub goes : (k : ℕ) → k < replayed.done → stop_at inside (moves k 0 old) ≡ None
  pub ends : EndsReplay inside most (moves replayed.done 0 old) replayed
  pub registers : regs ≡ (moves replayed.done 0 old).regs
  pub reached : memory ≡ (moves replayed.done 0 old).memory
