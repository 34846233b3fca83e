-- One step of the processor: the instruction at PC, or R alone where it stands in a HALT. (UM0080, "Z80 Instruction
-- Description" and "HALT".)
use Rattle.std.specs.Prelude.{◌≡◌, ◌==◌, ◌&&◌, ◌+◌, ◌*◌, ◌/◌, ◌%◌, ℕ, Bool, List, [], ◌∷◌, Option, None, Some, true, false, if◌then◌else◌}
use Rattle.z80_regs.specs.Words.{onward, refreshed}
use Rattle.z80_regs.specs.Outcome.{Action, StepOutcome}
use Rattle.z80_regs.specs.declared.regs.Regs.{Regs}
use Rattle.z80_decode.specs.declared.instr.Instr.{Instr}
use Rattle.z80_decode.specs.declared.instr.Page.{Page}
use Rattle.z80_decode.specs.declared.instr.Page.TheVariants.{Main, Cb, Ed, Ix, Iy, IxCb, IyCb}
use Rattle.z80_decode.specs.declared.page_forms.ExtendedForm.{ExtendedForm}
use Rattle.z80_decode.specs.declared.page_forms.ExtendedForm.TheVariants.{AddPair, SubtractPair, StorePair, LoadPair}
use Rattle.z80_decode.specs.Opcodes.{form_of}
use Rattle.z80_decode.specs.PageOpcodes.{extended_form_of}
use Rattle.z80_decode.specs.Decoding.{extended_instr_by, instr_of}
use Rattle.z80_exec.specs.Operands.{quiet}
use Rattle.z80_exec.specs.Performing.{behind, main_outcome, is_plain}
use Rattle.z80_ext.specs.declared.index.IndexRegister.TheVariants as index
use Rattle.z80_ext.specs.Bits.{bits_outcome}
use Rattle.z80_ext.specs.Extended.{extended_outcome}
use Rattle.z80_ext.specs.Index.{index_outcome, index_bits_outcome}

-- the refresh register n further on
abbrev pub refreshed_times : ℕ → ℕ → ℕ
refreshed_times n r = r / 128 * 128 + (r + n) % 128

-- R one on
abbrev pub risen : Regs → Regs
risen regs = record regs { r = refreshed regs.r }

-- an instruction begins: R is one on, and the shadow of an EI before it ends
abbrev pub begun : Regs → Regs
begun regs = record (risen regs) { shadow = false }

-- so many instructions begin, one after another
abbrev pub begun_times : ℕ → Regs → Regs
begun_times n regs = record regs { r = refreshed_times n regs.r; shadow = (n == 0) && regs.shadow }

-- the four bytes from an address on
abbrev pub four_from : (ℕ → ℕ) → ℕ → List ℕ
four_from memory address =
    memory address ∷ memory (onward address 1) ∷ memory (onward address 2) ∷ memory (onward address 3) ∷ []

-- the outcome of an instruction, by its page
abbrev pub page_outcome : Page → Instr → Regs → (ℕ → ℕ) → (ℕ → ℕ) → StepOutcome
page_outcome Main instr regs memory ports = main_outcome instr regs memory ports
page_outcome Cb instr regs memory ports = bits_outcome instr regs memory
page_outcome Ed instr regs memory ports = extended_outcome instr regs memory ports
page_outcome Ix instr regs memory ports = index_outcome index.Ix instr regs memory
page_outcome Iy instr regs memory ports = index_outcome index.Iy instr regs memory
page_outcome IxCb instr regs memory ports = index_bits_outcome index.Ix instr regs memory
page_outcome IyCb instr regs memory ports = index_bits_outcome index.Iy instr regs memory

-- the outcome of an instruction, where there is one
abbrev pub outcome_of : Option Instr → Regs → (ℕ → ℕ) → (ℕ → ℕ) → Option StepOutcome
outcome_of None regs memory ports = None
outcome_of (Some instr) regs memory ports = Some (page_outcome instr.page instr (begun regs) memory ports)

-- the outcome of the instruction after EDh at PC, where there is one
abbrev pub extended_outcome_at : Regs → (ℕ → ℕ) → (ℕ → ℕ) → Option StepOutcome
extended_outcome_at regs memory ports =
    let opcode = memory (onward regs.pc 1) in
    outcome_of (extended_instr_by (extended_form_of opcode) opcode (memory (onward regs.pc 2)) (memory (onward regs.pc 3))) regs memory ports

-- the outcome of a step, from the registers, what each address reads and what each port reads as the step begins:
-- no byte is read after a write of the same step; None where no listed instruction is at PC
unfoldable pub instruction : Regs → (ℕ → ℕ) → (ℕ → ℕ) → Option StepOutcome
instruction regs memory ports =
    if regs.halted then Some (quiet (risen regs))
    else (outcome_of (instr_of (four_from memory regs.pc)) regs memory ports)

-- what an instruction does, but for how it begins; nothing where there is none
abbrev pub unbegun_of : Option Instr → Regs → (ℕ → ℕ) → (ℕ → ℕ) → StepOutcome
unbegun_of None regs memory ports = quiet regs
unbegun_of (Some instr) regs memory ports = page_outcome instr.page instr regs memory ports

-- what the instruction at PC does, but for how it begins
abbrev pub unbegun : Regs → (ℕ → ℕ) → (ℕ → ℕ) → StepOutcome
unbegun regs memory ports = unbegun_of (instr_of (four_from memory regs.pc)) regs memory ports

-- after EDh, ADC HL,ss, SBC HL,ss, LD (nn),dd and LD dd,(nn)
abbrev pub is_of_pair : Option ExtendedForm → Bool
is_of_pair (Some (AddPair pair)) = true
is_of_pair (Some (SubtractPair pair)) = true
is_of_pair (Some (StorePair pair)) = true
is_of_pair (Some (LoadPair pair)) = true
is_of_pair other = false

-- an opcode of a page is plain: neither HALT nor EI, and of a pair after EDh
abbrev pub is_plain_on : Page → ℕ → Bool
is_plain_on Main opcode = is_plain (form_of opcode)
is_plain_on Ed opcode = is_of_pair (extended_form_of opcode)
is_plain_on other opcode = true

-- a listed instruction that is plain
abbrev pub is_plain_instr : Option Instr → Bool
is_plain_instr None = false
is_plain_instr (Some instr) = is_plain_on instr.page instr.opcode

-- a plain instruction is at PC
abbrev pub is_plain_at : Regs → (ℕ → ℕ) → Bool
is_plain_at regs memory = is_plain_instr (instr_of (four_from memory regs.pc))

-- the registers after a step: as they were where it had no outcome
abbrev pub registers_after : Option StepOutcome → Regs → Regs
registers_after None regs = regs
registers_after (Some outcome) regs = outcome.registers

-- what a step does to the bus: nothing where it had no outcome
abbrev pub actions_of : Option StepOutcome → List Action
actions_of None = []
actions_of (Some outcome) = outcome.actions

-- the processor stands in a HALT, or what it is about to do isn't plain
pub record IsRareAt (opcode : ℕ) (regs : Regs) (memory : ℕ → ℕ) : Type 0 where
  pub here : opcode ≡ memory regs.pc
  pub rare : regs.halted ≡ false → is_plain_at regs memory ≡ false

-- the registers after HALT, 76h, and after EI
abbrev pub halted_or_enabled : ℕ → Regs → Regs
halted_or_enabled opcode regs =
    if opcode == 118 then record (behind 1 (begun regs)) { halted = true }
    else (record (behind 1 (begun regs)) { iff1 = true; iff2 = true; shadow = true })

-- the processor is about to do LDIR, EDh B0h
pub record IsLoadUpAt (regs : Regs) (memory : ℕ → ℕ) : Type 0 where
  pub runs : regs.halted ≡ false
  pub prefix : memory regs.pc ≡ 237
  pub opcode : memory (onward regs.pc 1) ≡ 176
