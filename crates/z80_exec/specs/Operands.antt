-- The operands of the instructions. (UM0080, "Z80 Instruction Description".)
use Rattle.std.specs.Prelude.{ℕ, [], ◌∷◌}
use Rattle.z80_regs.specs.Words.{word_of, low, high}
use Rattle.z80_regs.specs.Outcome.{Write, StepOutcome}
use Rattle.z80_regs.specs.declared.regs.Regs.{Regs}
use Rattle.z80_decode.specs.declared.forms.Pair.{Pair}
use Rattle.z80_decode.specs.declared.forms.Pair.TheVariants.{BC, DE, HL, SP}
use Rattle.z80_decode.specs.declared.forms.Operand.{Operand}
use Rattle.z80_decode.specs.declared.forms.Operand.TheVariants.{B, C, D, E, H, L, Memory, A}

-- the bus stays as it is
abbrev pub quiet : Regs → StepOutcome
quiet regs = record { registers = regs; actions = [] }

-- the registers stay, and a byte is written to memory
abbrev pub stored : ℕ → ℕ → Regs → StepOutcome
stored address byte regs = record { registers = regs; actions = Write address byte ∷ [] }

-- HL
abbrev pub hl_of : Regs → ℕ
hl_of regs = word_of regs.l regs.h

-- the word in a pair
abbrev pub pair_word : Pair → Regs → ℕ
pair_word BC regs = word_of regs.c regs.b
pair_word DE regs = word_of regs.e regs.d
pair_word HL regs = hl_of regs
pair_word SP regs = regs.sp

-- the registers with a word in a pair
abbrev pub with_pair : Pair → ℕ → Regs → Regs
with_pair BC word regs = record regs { b = high word; c = low word }
with_pair DE word regs = record regs { d = high word; e = low word }
with_pair HL word regs = record regs { h = high word; l = low word }
with_pair SP word regs = record regs { sp = word }

-- the byte of an operand
abbrev pub operand_byte : Operand → Regs → (ℕ → ℕ) → ℕ
operand_byte B regs memory = regs.b
operand_byte C regs memory = regs.c
operand_byte D regs memory = regs.d
operand_byte E regs memory = regs.e
operand_byte H regs memory = regs.h
operand_byte L regs memory = regs.l
operand_byte Memory regs memory = memory (hl_of regs)
operand_byte A regs memory = regs.a

-- a byte goes to an operand
abbrev pub with_operand : Operand → ℕ → Regs → StepOutcome
with_operand B byte regs = quiet (record regs { b = byte })
with_operand C byte regs = quiet (record regs { c = byte })
with_operand D byte regs = quiet (record regs { d = byte })
with_operand E byte regs = quiet (record regs { e = byte })
with_operand H byte regs = quiet (record regs { h = byte })
with_operand L byte regs = quiet (record regs { l = byte })
with_operand Memory byte regs = stored (hl_of regs) byte regs
with_operand A byte regs = quiet (record regs { a = byte })
