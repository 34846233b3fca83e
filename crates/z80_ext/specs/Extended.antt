-- What the instructions after EDh do. (UM0080, "8-Bit Load Group", "16-Bit Load Group", "16-Bit Arithmetic Group",
-- "Rotate and Shift Group", "Call and Return Group", "Input and Output Group".)
use Rattle.std.specs.Prelude.{ℕ, ◌+◌, ◌*◌, ◌/◌, ◌%◌, false, Option, None, Some}
use Rattle.z80_regs.specs.Outcome.{StepOutcome}
use Rattle.z80_regs.specs.declared.regs.Regs.{Regs}
use Rattle.z80_alu.specs.Flags.{has}
use Rattle.z80_alu.specs.Bytes.{difference_of, difference_flags}
use Rattle.z80_alu.specs.Pairs.{word_sum_of, word_sum_flags, word_difference_of, word_difference_flags}
use Rattle.z80_alu.specs.Single.{interrupt_load_flags, byte_flags}
use Rattle.z80_decode.specs.declared.instr.Instr.{Instr}
use Rattle.z80_decode.specs.declared.forms.Pair.{Pair}
use Rattle.z80_decode.specs.declared.forms.Pair.TheVariants.{HL}
use Rattle.z80_decode.specs.declared.forms.Operand.{Operand}
use Rattle.z80_decode.specs.declared.page_forms.ExtendedForm.{ExtendedForm}
use Rattle.z80_decode.specs.declared.page_forms.ExtendedForm.TheVariants as extended
use Rattle.z80_decode.specs.PageOpcodes.{extended_form_of}
use Rattle.z80_regs.specs.Words.{word_from}
use Rattle.z80_exec.specs.Operands.{quiet, stored, hl_of, pair_word, with_pair, with_operand}
use Rattle.z80_exec.specs.Loads.{word_stored}
use Rattle.z80_exec.specs.Flow.{returned}
use Rattle.z80_exec.specs.Performing.{behind}
use Rattle.z80_ext.specs.Block.{after_input, block_performed}

-- IN r,(C): the port C, the low byte alone
abbrev pub operand_input : Operand → Regs → (ℕ → ℕ) → StepOutcome
operand_input operand regs ports = after_input regs.c
    (with_operand operand (ports regs.c) (record regs { f = byte_flags (ports regs.c) regs.f }))

-- ADC HL,ss
abbrev pub pair_added_with_carry : Pair → Regs → Regs
pair_added_with_carry pair regs =
    record (with_pair HL (word_sum_of (hl_of regs) (pair_word pair regs) (has regs.f 1)) regs) {
      f = word_sum_flags (hl_of regs) (pair_word pair regs) (has regs.f 1) regs.f;
    }

-- SBC HL,ss
abbrev pub pair_subtracted : Pair → Regs → Regs
pair_subtracted pair regs =
    record (with_pair HL (word_difference_of (hl_of regs) (pair_word pair regs) (has regs.f 1)) regs) {
      f = word_difference_flags (hl_of regs) (pair_word pair regs) (has regs.f 1) regs.f;
    }

-- NEG: 0 - A
abbrev pub negated : Regs → Regs
negated regs = record regs { a = difference_of 0 regs.a false; f = difference_flags 0 regs.a false regs.f }

-- RETN: IFF1 is as it was before the non-maskable interrupt
abbrev pub nonmaskable_returned : Regs → (ℕ → ℕ) → Regs
nonmaskable_returned regs memory = record (returned regs memory) { iff1 = regs.iff2 }

-- LD A,I and LD A,R, of the value
abbrev pub a_loaded : ℕ → Regs → Regs
a_loaded value regs = record regs { a = value; f = interrupt_load_flags value regs.iff2 regs.f }

-- the low digit of A and the two digits of a byte, of four bits each: RRD moves them to the right, so that A has the
-- byte's low one and the byte has A's, then its own high one
abbrev pub digits_right : ℕ → Regs → StepOutcome
digits_right byte regs =
    let a = regs.a / 16 * 16 + byte % 16 in
    stored (hl_of regs) (regs.a % 16 * 16 + byte / 16) (record regs { a = a; f = byte_flags a regs.f })

-- RLD moves them to the left: A has the byte's high one and the byte has its own low one, then A's
abbrev pub digits_left : ℕ → Regs → StepOutcome
digits_left byte regs =
    let a = regs.a / 16 * 16 + byte / 16 in
    stored (hl_of regs) (byte % 16 * 16 + regs.a % 16) (record regs { a = a; f = byte_flags a regs.f })

-- a form's instruction
unfoldable pub extended_performed : ExtendedForm → Instr → Regs → (ℕ → ℕ) → (ℕ → ℕ) → StepOutcome
extended_performed (extended.Input operand) instr regs memory ports = operand_input operand regs ports
extended_performed (extended.Output operand) instr regs memory ports = quiet regs
extended_performed (extended.SubtractPair pair) instr regs memory ports = quiet (pair_subtracted pair regs)
extended_performed (extended.AddPair pair) instr regs memory ports = quiet (pair_added_with_carry pair regs)
extended_performed (extended.StorePair pair) instr regs memory ports =
    word_stored instr.operand (pair_word pair regs) regs
extended_performed (extended.LoadPair pair) instr regs memory ports =
    quiet (with_pair pair (word_from memory instr.operand) regs)
extended_performed extended.Negate instr regs memory ports = quiet (negated regs)
extended_performed extended.ReturnNonmaskable instr regs memory ports = quiet (nonmaskable_returned regs memory)
extended_performed extended.ReturnInterrupt instr regs memory ports = quiet (returned regs memory)
extended_performed (extended.Mode mode) instr regs memory ports = quiet (record regs { mode = mode })
extended_performed extended.StoreI instr regs memory ports = quiet (record regs { i = regs.a })
extended_performed extended.StoreR instr regs memory ports = quiet (record regs { r = regs.a })
extended_performed extended.LoadI instr regs memory ports = quiet (a_loaded regs.i regs)
extended_performed extended.LoadR instr regs memory ports = quiet (a_loaded regs.r regs)
extended_performed extended.RotateRight instr regs memory ports = digits_right (memory (hl_of regs)) regs
extended_performed extended.RotateLeft instr regs memory ports = digits_left (memory (hl_of regs)) regs
extended_performed (extended.Block transfer direction repeats) instr regs memory ports =
    block_performed transfer direction repeats regs memory ports

-- an instruction by its form
abbrev pub extended_by : Option ExtendedForm → Instr → Regs → (ℕ → ℕ) → (ℕ → ℕ) → StepOutcome
extended_by None instr regs memory ports = quiet regs
extended_by (Some form) instr regs memory ports =
    extended_performed form instr (behind instr.length regs) memory ports

-- an instruction after EDh
unfoldable pub extended_outcome : Instr → Regs → (ℕ → ℕ) → (ℕ → ℕ) → StepOutcome
extended_outcome instr regs memory ports = extended_by (extended_form_of instr.opcode) instr regs memory ports
