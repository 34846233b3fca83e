-- What the instructions without prefix do, with PC after them: every byte is read from memory and ports as they stand
-- before. (UM0080, "Z80 Instruction Description".)
use Rattle.std.specs.Prelude.{ℕ, Bool, Option, None, Some, true, false}
use Rattle.z80_regs.specs.Words.{onward, back, low, word_from}
use Rattle.z80_regs.specs.Outcome.{StepOutcome}
use Rattle.z80_regs.specs.declared.regs.Regs.{Regs}
use Rattle.z80_alu.specs.Single.{carry_set_flags, carry_complemented_flags}
use Rattle.z80_decode.specs.declared.instr.Instr.{Instr}
use Rattle.z80_decode.specs.declared.forms.Pair.TheVariants.{HL}
use Rattle.z80_decode.specs.declared.forms.Form.{Form}
use Rattle.z80_decode.specs.declared.forms.Form.TheVariants.{Nop, ExchangeAf, DecrementJump, JumpRelative, JumpRelativeIf, LoadPair, AddPair, StoreAAt, LoadAFrom, StoreHl, LoadHl, StoreA, LoadA, IncrementPair, DecrementPair, Increment, Decrement, LoadNumber, Rotate, DecimalAdjust, Complement, SetCarry, ComplementCarry, Load, Halt, Calculate, CalculateNumber, ReturnIf, Pop, Return, Exchange, JumpHl, LoadSpHl, JumpIf, Jump, Output, Input, ExchangeStack, ExchangeDe, DisableInterrupts, EnableInterrupts, CallIf, Push, Call, Restart}
use Rattle.z80_decode.specs.declared.instr.Page.TheVariants.{Main}
use Rattle.z80_decode.specs.Opcodes.{form_of}
use Rattle.z80_decode.specs.Decoding.{tail_of, instr_with}
use Rattle.z80_exec.specs.Operands.{quiet, stored, hl_of, pair_word, with_pair, operand_byte, with_operand}
use Rattle.z80_exec.specs.Conditions.{holds}
use Rattle.z80_exec.specs.Loads.{word_stored, af_exchanged, set_exchanged, de_exchanged, stack_exchanged, pair_pushed, pair_popped, a_input}
use Rattle.z80_exec.specs.Calculations.{calculated, incremented, decremented, pair_added, a_rotated, decimal_adjusted, complemented}
use Rattle.z80_exec.specs.Flow.{relative, jumped_if, decrement_jumped, called, called_if, returned, returned_if}

-- PC n further on
abbrev pub behind : ℕ → Regs → Regs
behind n regs = record regs { pc = onward regs.pc n }

-- the byte n of an instruction
abbrev pub number : Instr → ℕ
number instr = low instr.operand

-- a form's instruction
unfoldable pub performed : Form → Instr → Regs → (ℕ → ℕ) → (ℕ → ℕ) → StepOutcome
performed Nop instr regs memory ports = quiet regs
performed Halt instr regs memory ports = quiet (record regs { halted = true })
performed DisableInterrupts instr regs memory ports = quiet (record regs { iff1 = false; iff2 = false })
performed EnableInterrupts instr regs memory ports =
    quiet (record regs { iff1 = true; iff2 = true; shadow = true })
performed (Load to from) instr regs memory ports = with_operand to (operand_byte from regs memory) regs
performed (LoadNumber to) instr regs memory ports = with_operand to (number instr) regs
performed (LoadPair pair) instr regs memory ports = quiet (with_pair pair instr.operand regs)
performed (StoreAAt pair) instr regs memory ports = stored (pair_word pair regs) regs.a regs
performed (LoadAFrom pair) instr regs memory ports = quiet (record regs { a = memory (pair_word pair regs) })
performed StoreA instr regs memory ports = stored instr.operand regs.a regs
performed LoadA instr regs memory ports = quiet (record regs { a = memory instr.operand })
performed StoreHl instr regs memory ports = word_stored instr.operand (hl_of regs) regs
performed LoadHl instr regs memory ports = quiet (with_pair HL (word_from memory instr.operand) regs)
performed LoadSpHl instr regs memory ports = quiet (record regs { sp = hl_of regs })
performed ExchangeAf instr regs memory ports = quiet (af_exchanged regs)
performed Exchange instr regs memory ports = quiet (set_exchanged regs)
performed ExchangeDe instr regs memory ports = quiet (de_exchanged regs)
performed ExchangeStack instr regs memory ports = stack_exchanged regs memory
performed (Push pair) instr regs memory ports = pair_pushed pair regs
performed (Pop pair) instr regs memory ports = quiet (pair_popped pair regs memory)
performed (Calculate math from) instr regs memory ports =
    quiet (calculated math (operand_byte from regs memory) regs)
performed (CalculateNumber math) instr regs memory ports = quiet (calculated math (number instr) regs)
performed (Increment operand) instr regs memory ports =
    incremented operand (operand_byte operand regs memory) regs
performed (Decrement operand) instr regs memory ports =
    decremented operand (operand_byte operand regs memory) regs
performed (IncrementPair pair) instr regs memory ports =
    quiet (with_pair pair (onward (pair_word pair regs) 1) regs)
performed (DecrementPair pair) instr regs memory ports =
    quiet (with_pair pair (back (pair_word pair regs) 1) regs)
performed (AddPair pair) instr regs memory ports = quiet (pair_added pair regs)
performed (Rotate rotation) instr regs memory ports = quiet (a_rotated rotation regs)
performed DecimalAdjust instr regs memory ports = quiet (decimal_adjusted regs)
performed Complement instr regs memory ports = quiet (complemented regs)
performed SetCarry instr regs memory ports = quiet (record regs { f = carry_set_flags regs.f })
performed ComplementCarry instr regs memory ports = quiet (record regs { f = carry_complemented_flags regs.f })
performed Jump instr regs memory ports = quiet (record regs { pc = instr.operand })
performed JumpHl instr regs memory ports = quiet (record regs { pc = hl_of regs })
performed (JumpIf condition) instr regs memory ports =
    quiet (jumped_if (holds condition regs.f) instr.operand regs)
performed JumpRelative instr regs memory ports =
    quiet (record regs { pc = relative regs.pc instr.displacement })
performed (JumpRelativeIf condition) instr regs memory ports =
    quiet (jumped_if (holds condition regs.f) (relative regs.pc instr.displacement) regs)
performed DecrementJump instr regs memory ports = quiet (decrement_jumped instr.displacement regs)
performed Call instr regs memory ports = called instr.operand regs
performed (CallIf condition) instr regs memory ports = called_if (holds condition regs.f) instr.operand regs
performed (Restart address) instr regs memory ports = called address regs
performed Return instr regs memory ports = quiet (returned regs memory)
performed (ReturnIf condition) instr regs memory ports =
    quiet (returned_if (holds condition regs.f) regs memory)
performed Input instr regs memory ports = a_input (number instr) regs ports
performed Output instr regs memory ports = quiet regs

-- an instruction by its form: PC goes past it first; where there is no form nothing changes
abbrev pub outcome_by : Option Form → Instr → Regs → (ℕ → ℕ) → (ℕ → ℕ) → StepOutcome
outcome_by None instr regs memory ports = quiet regs
outcome_by (Some form) instr regs memory ports = performed form instr (behind instr.length regs) memory ports

-- an instruction without prefix
unfoldable pub main_outcome : Instr → Regs → (ℕ → ℕ) → (ℕ → ℕ) → StepOutcome
main_outcome instr regs memory ports = outcome_by (form_of instr.opcode) instr regs memory ports

-- the same of a form, by the opcode and the two bytes after it
abbrev pub next_with : Form → ℕ → ℕ → ℕ → Regs → (ℕ → ℕ) → (ℕ → ℕ) → StepOutcome
next_with form opcode first second regs memory ports =
    let instr = instr_with (tail_of form) Main 1 opcode first second in
    performed form instr (behind instr.length regs) memory ports

-- a listed instruction without prefix that neither halts the processor nor casts a shadow
abbrev pub is_plain : Option Form → Bool
is_plain None = false
is_plain (Some Halt) = false
is_plain (Some EnableInterrupts) = false
is_plain (Some form) = true
