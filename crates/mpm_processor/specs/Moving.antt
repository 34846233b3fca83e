-- Instructions of one process, one after another, as long as nothing else may come between them.
use Rattle.std.specs.Prelude.{◌≡◌, ◌↔◌, ℕ, zero, suc, ◌<◌, ◌≤◌, Bool, List, Option, None, IsNone, IsSome, IfSome, MatchOption, is_none}
use Rattle.z80_regs.specs.declared.regs.Regs.{Regs}
use Rattle.z80_regs.specs.Outcome.{StepOutcome}
use Rattle.z80_ext.specs.Instruction.{IsRareAt, is_plain_at, unbegun, instruction, registers_after, actions_of}
use Rattle.z80_ext.specs.declared.stepped.Stepped.{Stepped}
use Rattle.z80_ext.specs.declared.stepped.Stepped.TheVariants.{Illegal}
use Rattle.mpm_base.specs.declared.devices.Devices.{Devices}
use Rattle.mpm_base.specs.declared.segment.SegmentSpec.{SegmentSpec}
use Rattle.mpm_banks.specs.Allocations.{FitsBelowCommon}
use Rattle.mpm_banks.specs.Memory.{Memory, byte_at}
use Rattle.mpm_banks.specs.Sides.{alone}
use Rattle.mpm_banks.specs.Ports.{port_byte}
use Rattle.mpm_banks.specs.Actions.{memory_after, devices_after}
use Rattle.mpm_processor.specs.declared.instruction.Instructions.{Instructions}
use Rattle.mpm_processor.specs.declared.instruction.Paused.{Paused}
use Rattle.mpm_gate.specs.Gates.{gate_of}

-- what an instruction changes: the registers of its process, memory, and the devices
pub record View : Type 0 where
  pub regs : Regs
  pub memory : Memory
  pub devices : Devices

-- the view of what a process reaches: registers, devices, and the bytes of its segment and of common memory
abbrev pub view_of : SegmentSpec → Regs → List ℕ → List ℕ → Devices → View
view_of spec regs segment common devices = record { regs = regs; memory = alone spec segment common; devices = devices }

-- the instruction that stands there
abbrev pub instruction_in : ℕ → View → Option StepOutcome
instruction_in seg view = instruction view.regs (byte_at view.memory seg) (port_byte view.devices)

-- the view after it
abbrev pub moved : ℕ → View → View
moved seg view =
    let outcome = instruction_in seg view in
    record {
      regs = registers_after outcome view.regs;
      memory = memory_after (actions_of outcome) seg view.memory;
      devices = devices_after (actions_of outcome) view.devices;
    }

-- the view after n of them
unfoldable pub moves : ℕ → ℕ → View → View
moves zero seg view = view
moves (suc n) seg view = moved seg (moves n seg view)

-- a listed instruction stands there, and no gate for a process that is in a resident procedure or isn't
pub record CanMove (inside : Bool) (seg : ℕ) (view : View) : Type 0 where
  pub no_gate : gate_of inside view.memory seg view.regs.pc ≡ None
  pub listed : IsSome (instruction_in seg view)

-- n instructions, each of which could be done
pub record Moves (inside : Bool) (n seg : ℕ) (old new : View) : Type 0 where
  pub is : new ≡ moves n seg old
  pub each : (k : ℕ) → k < n → CanMove inside seg (moves k seg old)

-- n instructions of at most so many, which stop early only where none can be done
pub record Bursts (inside : Bool) (most seg n : ℕ) (old new : View) : Type 0 where
  pub count : n ≤ most
  pub moved : Moves inside n seg old new
  pub stopped : n < most → CanMove inside seg new → ⊥

-- what a burst of instructions leaves in a memory of one segment
abbrev pub BurstOf : Instructions → Regs → Memory → Devices → ℕ → Regs → Memory → Devices → Type 0
BurstOf burst regs memory devices n new_regs new_memory new_devices =
    Bursts burst.inside burst.most 0 n (record { regs = regs; memory = memory; devices = devices })
    (record { regs = new_regs; memory = new_memory; devices = new_devices })

-- one instruction is executed, whatever it is; where none is listed nothing changes
pub record Executes (old new : View) (result : Stepped) : Type 0 where
  pub illegal : (result ≡ Illegal) ↔ IsNone (instruction_in 0 old)
  pub registers : new.regs ≡ registers_after (instruction_in 0 old) old.regs
  pub memory : new.memory ≡ memory_after (actions_of (instruction_in 0 old)) 0 old.memory
  pub devices : new.devices ≡ devices_after (actions_of (instruction_in 0 old)) old.devices

-- what a plain instruction does, but for how it begins
abbrev pub unbegun_in : View → StepOutcome
unbegun_in view = unbegun view.regs (byte_at view.memory 0) (port_byte view.devices)

-- a plain instruction is executed, but for how it begins; where it isn't plain its opcode is answered, and nothing changes
pub record ExecutesUnbegun (old new : View) (result : Option ℕ) : Type 0 where
  pub plain : is_none result ≡ is_plain_at old.regs (byte_at old.memory 0)
  pub rare : IfSome result (λ rare. IsRareAt rare old.regs (byte_at old.memory 0))
  pub registers : MatchOption result (new.regs ≡ (unbegun_in old).registers) (λ rare. new.regs ≡ old.regs)
  pub memory : MatchOption result (new.memory ≡ memory_after (unbegun_in old).actions 0 old.memory) (λ rare. new.memory ≡ old.memory)
  pub devices : MatchOption result (new.devices ≡ devices_after (unbegun_in old).actions old.devices) (λ rare. new.devices ≡ old.devices)

-- a burst may go on from an instruction of that opcode, which isn't plain
pub record MayExecute (opcode : ℕ) (burst : Instructions) (spec : SegmentSpec) (view : View) : Type 0 where
  pub fits : FitsBelowCommon spec
  pub some : 0 < burst.most
  pub rare : IsRareAt opcode view.regs (byte_at view.memory 0)
  pub gate : gate_of burst.inside view.memory 0 view.regs.pc ≡ None

-- what plain instructions in a row leave, at most so many: they stop early only at a gate, or at what isn't one of them
pub record IsPaused (inside : Bool) (most : ℕ) (old new : View) (paused : Paused) : Type 0 where
  pub count : paused.done ≤ most
  pub moved : Moves inside paused.done 0 old new
  pub stopped : paused.opcode ≡ None → paused.done < most → CanMove inside 0 new → ⊥
  pub below : IsSome paused.opcode → paused.done < most
  pub gate : IsSome paused.opcode → gate_of inside new.memory 0 new.regs.pc ≡ None
  pub rare : IfSome paused.opcode (λ opcode. IsRareAt opcode new.regs (byte_at new.memory 0))
