-- Rotations, shifts, and the single bits of a byte. (UM0080, "Rotate and Shift Group", "Bit Set, Reset, and Test
-- Group".)
use Rattle.std.specs.Prelude.{ℕ, ◌-◌, ◌%◌, ◌==◌, bit_and, bit_or}
use Rattle.z80_regs.specs.Outcome.{StepOutcome}
use Rattle.z80_regs.specs.declared.regs.Regs.{Regs}
use Rattle.z80_alu.specs.declared.kinds.Rotate.{Rotate}
use Rattle.z80_alu.specs.declared.kinds.Rotate.TheVariants.{Rlc, Rrc, Rl, Rr, Sla, Sra, Srl, Sll}
use Rattle.z80_alu.specs.Flags.{has}
use Rattle.z80_alu.specs.Bits.{rotated, rotated_flags}
use Rattle.z80_alu.specs.Single.{bit_test_flags}
use Rattle.z80_decode.specs.declared.instr.Instr.{Instr}
use Rattle.z80_decode.specs.declared.forms.Operand.{Operand}
use Rattle.z80_decode.specs.declared.page_forms.Shift.{Shift}
use Rattle.z80_decode.specs.declared.page_forms.Shift.TheVariants.{LeftCircular, RightCircular, Left, Right, LeftArithmetic, RightArithmetic, LeftLogical, RightLogical}
use Rattle.z80_decode.specs.declared.page_forms.BitChange.{BitChange}
use Rattle.z80_decode.specs.declared.page_forms.BitChange.TheVariants as change
use Rattle.z80_decode.specs.declared.page_forms.BitForm.{BitForm}
use Rattle.z80_decode.specs.declared.page_forms.BitForm.TheVariants.{Test, Change}
use Rattle.z80_decode.specs.Fields.{operand_of}
use Rattle.z80_decode.specs.PageOpcodes.{bit_form_of}
use Rattle.z80_exec.specs.Operands.{quiet, stored, operand_byte, with_operand}
use Rattle.z80_exec.specs.Performing.{behind}

-- RLC, RRC, RL, RR, SLA, SRA, SLL, SRL
abbrev pub kind_of : Shift → Rotate
kind_of LeftCircular = Rlc
kind_of RightCircular = Rrc
kind_of Left = Rl
kind_of Right = Rr
kind_of LeftArithmetic = Sla
kind_of RightArithmetic = Sra
kind_of LeftLogical = Sll
kind_of RightLogical = Srl

-- the byte that a rotation, a shift, RES or SET makes of a byte, with F before
abbrev pub changed_byte : BitChange → ℕ → ℕ → ℕ
changed_byte (change.Rotate shift) byte f = rotated (kind_of shift) byte (has f 1)
changed_byte (change.Reset weight) byte f = bit_and byte (255 - weight)
changed_byte (change.Set weight) byte f = bit_or byte weight

-- F after it: RES and SET leave it
abbrev pub changed_flags : BitChange → ℕ → ℕ → ℕ
changed_flags (change.Rotate shift) byte f = rotated_flags (kind_of shift) byte f
changed_flags (change.Reset weight) byte f = f
changed_flags (change.Set weight) byte f = f

-- the registers with that F
abbrev pub bits_changed : BitChange → ℕ → Regs → Regs
bits_changed change byte regs = record regs { f = changed_flags change byte regs.f }

-- BIT of a byte
abbrev pub bit_tested : ℕ → ℕ → Regs → Regs
bit_tested weight byte regs = record regs { f = bit_test_flags (bit_and byte weight == 0) regs.f }

-- the instructions of an operand whose byte is known
abbrev pub operand_bits : BitForm → Operand → ℕ → Regs → StepOutcome
operand_bits (Test weight) operand byte regs = quiet (bit_tested weight byte regs)
operand_bits (Change change) operand byte regs =
    with_operand operand (changed_byte change byte regs.f) (bits_changed change byte regs)

-- the instructions of the byte at an address
abbrev pub memory_bits : BitForm → ℕ → ℕ → Regs → StepOutcome
memory_bits (Test weight) address byte regs = quiet (bit_tested weight byte regs)
memory_bits (Change change) address byte regs =
    stored address (changed_byte change byte regs.f) (bits_changed change byte regs)

-- an instruction after CBh
unfoldable pub bits_outcome : Instr → Regs → (ℕ → ℕ) → StepOutcome
bits_outcome instr regs memory =
    let operand = operand_of (instr.opcode % 8) in
    operand_bits (bit_form_of instr.opcode) operand (operand_byte operand regs memory) (behind instr.length regs)
