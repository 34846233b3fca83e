-- What the instructions that set flags make of the registers, by the sums and flags of z80_alu. (UM0080, "8-Bit
-- Arithmetic Group", "General-Purpose Arithmetic and CPU Control Groups", "16-Bit Arithmetic Group".)
use Rattle.std.specs.Prelude.{ℕ, ◌-◌, false}
use Rattle.z80_regs.specs.declared.regs.Regs.{Regs}
use Rattle.z80_regs.specs.Outcome.{StepOutcome}
use Rattle.z80_alu.specs.declared.kinds.Logic.TheVariants as logic
use Rattle.z80_alu.specs.declared.kinds.Rotate.{Rotate}
use Rattle.z80_alu.specs.declared.kinds.Rotate.TheVariants.{Rlc, Rrc, Rl, Rr}
use Rattle.z80_alu.specs.Flags.{has}
use Rattle.z80_alu.specs.Bytes.{sum_of, sum_flags, difference_of, difference_flags, increment_flags, decrement_flags}
use Rattle.z80_alu.specs.Bits.{combined, logic_flags, rotated, rotated_a_flags}
use Rattle.z80_alu.specs.Decimal.{decimal_of, decimal_flags}
use Rattle.z80_alu.specs.Pairs.{word_sum_of, word_add_flags}
use Rattle.z80_alu.specs.Single.{complement_flags_of}
use Rattle.z80_decode.specs.declared.forms.Pair.{Pair}
use Rattle.z80_decode.specs.declared.forms.Pair.TheVariants.{HL}
use Rattle.z80_decode.specs.declared.forms.Operand.{Operand}
use Rattle.z80_decode.specs.declared.forms.Math.{Math}
use Rattle.z80_decode.specs.declared.forms.Math.TheVariants.{Add, AddCarry, Subtract, SubtractCarry, And, Xor, Or, Compare}
use Rattle.z80_decode.specs.declared.forms.Rotation.{Rotation}
use Rattle.z80_decode.specs.declared.forms.Rotation.TheVariants.{LeftCircular, RightCircular, Left, Right}
use Rattle.z80_exec.specs.Operands.{hl_of, pair_word, with_pair, with_operand}

-- A and a byte; CP is SUB that leaves A
abbrev pub calculated : Math → ℕ → Regs → Regs
calculated Add byte regs =
    record regs { a = sum_of regs.a byte false; f = sum_flags regs.a byte false regs.f }
calculated AddCarry byte regs =
    record regs { a = sum_of regs.a byte (has regs.f 1); f = sum_flags regs.a byte (has regs.f 1) regs.f }
calculated Subtract byte regs =
    record regs { a = difference_of regs.a byte false; f = difference_flags regs.a byte false regs.f }
calculated SubtractCarry byte regs =
    record regs { a = difference_of regs.a byte (has regs.f 1); f = difference_flags regs.a byte (has regs.f 1) regs.f }
calculated And byte regs =
    record regs { a = combined logic.And regs.a byte; f = logic_flags logic.And regs.a byte regs.f }
calculated Xor byte regs =
    record regs { a = combined logic.Xor regs.a byte; f = logic_flags logic.Xor regs.a byte regs.f }
calculated Or byte regs =
    record regs { a = combined logic.Or regs.a byte; f = logic_flags logic.Or regs.a byte regs.f }
calculated Compare byte regs = record regs { f = difference_flags regs.a byte false regs.f }

-- INC and DEC of an operand whose byte is known
abbrev pub incremented : Operand → ℕ → Regs → StepOutcome
incremented operand byte regs =
    with_operand operand (sum_of byte 1 false) (record regs { f = increment_flags byte regs.f })

abbrev pub decremented : Operand → ℕ → Regs → StepOutcome
decremented operand byte regs =
    with_operand operand (difference_of byte 1 false) (record regs { f = decrement_flags byte regs.f })

-- ADD HL,ss
abbrev pub pair_added : Pair → Regs → Regs
pair_added pair regs = record (with_pair HL (word_sum_of (hl_of regs) (pair_word pair regs) false) regs) {
  f = word_add_flags (hl_of regs) (pair_word pair regs) regs.f;
}

-- which rotation of a byte is made of A
abbrev pub rotate_of : Rotation → Rotate
rotate_of LeftCircular = Rlc
rotate_of RightCircular = Rrc
rotate_of Left = Rl
rotate_of Right = Rr

-- RLCA, RRCA, RLA, RRA
abbrev pub a_rotated : Rotation → Regs → Regs
a_rotated rotation regs = record regs {
  a = rotated (rotate_of rotation) regs.a (has regs.f 1);
  f = rotated_a_flags (rotate_of rotation) regs.a regs.f;
}

-- DAA
abbrev pub decimal_adjusted : Regs → Regs
decimal_adjusted regs = record regs { a = decimal_of regs.a regs.f; f = decimal_flags regs.a regs.f }

-- CPL: each bit of A changes
abbrev pub complemented : Regs → Regs
complemented regs = record regs { a = 255 - regs.a; f = complement_flags_of regs.f }
