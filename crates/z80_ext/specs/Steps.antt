-- What a call of the processor asks and leaves: an instruction but for how it begins, and a whole step.
use Rattle.std.specs.Prelude.{◌≡◌, ◌↔◌, ℕ, Bool, Option, IsNone, IfSome, MatchOption, is_none}
use Rattle.z80_regs.specs.Words.{onward}
use Rattle.z80_regs.specs.Outcome.{StepOutcome, LeavesBus}
use Rattle.z80_regs.specs.declared.bus.Bus.{Ghosts}
use Rattle.z80_regs.specs.declared.regs.Regs.{Regs}
use Rattle.z80_decode.specs.declared.instr.Instr.{Instr}
use Rattle.z80_exec.specs.declared.source.Fetched.{Fetched}
use Rattle.z80_exec.specs.Leaving.{LeavesWhere}
use Rattle.z80_ext.specs.declared.stepped.Stepped.{Stepped}
use Rattle.z80_ext.specs.declared.stepped.Stepped.TheVariants.{Illegal}
use Rattle.z80_ext.specs.Instruction.{IsRareAt, is_plain_instr, is_plain_at, unbegun_of, unbegun, registers_after, actions_of}

-- the opcode at an address and the two bytes after it
pub record IsFetched (memory : ℕ → ℕ) (address : ℕ) (fetched : Fetched) : Type 0 where
  pub opcode : fetched.opcode ≡ memory address
  pub first : fetched.first ≡ memory (onward address 1)
  pub second : fetched.second ≡ memory (onward address 2)

-- an instruction, but for how it begins, is done where it is plain, as the result says
abbrev pub ActsAs : {B : Type 0} → Ghosts B → Option Instr → Bool → Regs → Regs → B → B → Type 0
ActsAs of instr result old_regs new_regs old new =
    LeavesWhere of (is_plain_instr instr) (unbegun_of instr old_regs (of.byte old) (of.port_byte old)) result old_regs new_regs old new

-- the instruction at PC, but for how it begins, is done where it is plain; where it isn't its opcode is answered, and nothing changes
pub record StepsUnbegun {B : Type 0} (of : Ghosts B) (result : Option ℕ) (old_regs new_regs : Regs) (old new : B) : Type 0 where
  pub plain : is_none result ≡ is_plain_at old_regs (of.byte old)
  pub rare : IfSome result (λ rare. IsRareAt rare old_regs (of.byte old))
  pub registers : MatchOption result
      (new_regs ≡ (unbegun old_regs (of.byte old) (of.port_byte old)).registers)
      (λ rare. new_regs ≡ old_regs)
  pub bus : MatchOption result
      (LeavesBus of.wrote of.took (unbegun old_regs (of.byte old) (of.port_byte old)).actions old new)
      (λ rare. new ≡ old)

-- a step has an outcome, or none: then it is illegal, and nothing changes
pub record Steps {B : Type 0} (of : Ghosts B) (outcome : Option StepOutcome) (result : Stepped) (old_regs new_regs : Regs) (old new : B) : Type 0 where
  pub illegal : (result ≡ Illegal) ↔ IsNone outcome
  pub registers : new_regs ≡ registers_after outcome old_regs
  pub bus : LeavesBus of.wrote of.took (actions_of outcome) old new
