-- A plain instruction looks at neither R, the shadow of an EI nor a HALT, and leaves them as they are.
use Rattle.std.proofs.Common.{◌≡◌, ◌∙◌, ℕ, Bool, true, false, Option, None, Some, refl, ap}
use Rattle.z80_regs.specs.Outcome.{StepOutcome}
use Rattle.z80_regs.specs.declared.regs.Regs.{Regs}
use Rattle.z80_decode.specs.declared.instr.Instr.{Instr}
use Rattle.z80_decode.specs.declared.forms.Form.{Form}
use Rattle.z80_decode.specs.declared.forms.Form.TheVariants.{Nop, ExchangeAf, DecrementJump, JumpRelative, JumpRelativeIf, LoadPair, AddPair, StoreAAt, LoadAFrom, StoreHl, LoadHl, StoreA, LoadA, IncrementPair, DecrementPair, Increment, Decrement, LoadNumber, Rotate, DecimalAdjust, Complement, SetCarry, ComplementCarry, Load, Halt, Calculate, CalculateNumber, ReturnIf, Pop, Return, Exchange, JumpHl, LoadSpHl, JumpIf, Jump, Output, Input, ExchangeStack, ExchangeDe, DisableInterrupts, EnableInterrupts, CallIf, Push, Call, Restart}
use Rattle.z80_decode.specs.declared.forms.Operand.{Operand}
use Rattle.z80_decode.specs.declared.forms.Operand.TheVariants.{B, C, D, E, H, L, Memory, A}
use Rattle.z80_decode.specs.declared.forms.Pair.{Pair}
use Rattle.z80_decode.specs.declared.forms.Pair.TheVariants as pair
use Rattle.z80_decode.specs.declared.forms.StackPair.{StackPair}
use Rattle.z80_decode.specs.declared.forms.StackPair.TheVariants as stack
use Rattle.z80_decode.specs.declared.forms.Math.{Math}
use Rattle.z80_decode.specs.declared.forms.Math.TheVariants as math
use Rattle.z80_regs.specs.Words.{onward, back}
use Rattle.z80_alu.specs.Bytes.{increment_flags, decrement_flags}
use Rattle.z80_exec.specs.Operands.{quiet, stored, pair_word, with_pair, operand_byte, with_operand}
use Rattle.z80_exec.specs.Loads.{pair_pushed, pair_popped}
use Rattle.z80_exec.specs.Calculations.{calculated, incremented, decremented, pair_added}
use Rattle.z80_exec.specs.Conditions.{holds}
use Rattle.z80_exec.specs.Flow.{relative, jumped_if, counted_down, called_if, returned_if}
use Rattle.z80_exec.specs.Performing.{behind, number, performed, outcome_by, is_plain}

-- registers with another R, shadow and HALT, and an outcome with them
abbrev pub beside : ℕ → Bool → Bool → Regs → Regs
beside x s h regs = record regs { r = x; shadow = s; halted = h }

abbrev pub outcome_beside : ℕ → Bool → Bool → StepOutcome → StepOutcome
outcome_beside x s h outcome = record outcome { registers = beside x s h outcome.registers }

pub byte_beside : (operand : Operand) (x : ℕ) (s h : Bool) (regs : Regs) (memory : ℕ → ℕ) → operand_byte operand (beside x s h regs) memory ≡ operand_byte operand regs memory
byte_beside B x s h regs memory = refl
byte_beside C x s h regs memory = refl
byte_beside D x s h regs memory = refl
byte_beside E x s h regs memory = refl
byte_beside H x s h regs memory = refl
byte_beside L x s h regs memory = refl
byte_beside Memory x s h regs memory = refl
byte_beside A x s h regs memory = refl

pub set_beside : (operand : Operand) (byte x : ℕ) (s h : Bool) (regs : Regs) → with_operand operand byte (beside x s h regs) ≡ outcome_beside x s h (with_operand operand byte regs)
set_beside B byte x s h regs = refl
set_beside C byte x s h regs = refl
set_beside D byte x s h regs = refl
set_beside E byte x s h regs = refl
set_beside H byte x s h regs = refl
set_beside L byte x s h regs = refl
set_beside Memory byte x s h regs = refl
set_beside A byte x s h regs = refl

pub word_beside : (p : Pair) (x : ℕ) (s h : Bool) (regs : Regs) → pair_word p (beside x s h regs) ≡ pair_word p regs
word_beside pair.BC x s h regs = refl
word_beside pair.DE x s h regs = refl
word_beside pair.HL x s h regs = refl
word_beside pair.SP x s h regs = refl

pub pair_beside : (p : Pair) (word x : ℕ) (s h : Bool) (regs : Regs) → with_pair p word (beside x s h regs) ≡ beside x s h (with_pair p word regs)
pair_beside pair.BC word x s h regs = refl
pair_beside pair.DE word x s h regs = refl
pair_beside pair.HL word x s h regs = refl
pair_beside pair.SP word x s h regs = refl

push_beside : (p : StackPair) (x : ℕ) (s h : Bool) (regs : Regs) → pair_pushed p (beside x s h regs) ≡ outcome_beside x s h (pair_pushed p regs)
push_beside stack.BC x s h regs = refl
push_beside stack.DE x s h regs = refl
push_beside stack.HL x s h regs = refl
push_beside stack.AF x s h regs = refl

pop_beside : (p : StackPair) (x : ℕ) (s h : Bool) (regs : Regs) (memory : ℕ → ℕ) → quiet (pair_popped p (beside x s h regs) memory) ≡ outcome_beside x s h (quiet (pair_popped p regs memory))
pop_beside stack.BC x s h regs memory = refl
pop_beside stack.DE x s h regs memory = refl
pop_beside stack.HL x s h regs memory = refl
pop_beside stack.AF x s h regs memory = refl

pub calculated_beside : (m : Math) (byte x : ℕ) (s h : Bool) (regs : Regs) → quiet (calculated m byte (beside x s h regs)) ≡ outcome_beside x s h (quiet (calculated m byte regs))
calculated_beside math.Add byte x s h regs = refl
calculated_beside math.AddCarry byte x s h regs = refl
calculated_beside math.Subtract byte x s h regs = refl
calculated_beside math.SubtractCarry byte x s h regs = refl
calculated_beside math.And byte x s h regs = refl
calculated_beside math.Xor byte x s h regs = refl
calculated_beside math.Or byte x s h regs = refl
calculated_beside math.Compare byte x s h regs = refl

jump_beside : (met : Bool) (target x : ℕ) (s h : Bool) (regs : Regs) → quiet (jumped_if met target (beside x s h regs)) ≡ outcome_beside x s h (quiet (jumped_if met target regs))
jump_beside true target x s h regs = refl
jump_beside false target x s h regs = refl

call_beside : (met : Bool) (target x : ℕ) (s h : Bool) (regs : Regs) → called_if met target (beside x s h regs) ≡ outcome_beside x s h (called_if met target regs)
call_beside true target x s h regs = refl
call_beside false target x s h regs = refl

return_beside : (met : Bool) (x : ℕ) (s h : Bool) (regs : Regs) (memory : ℕ → ℕ) → quiet (returned_if met (beside x s h regs) memory) ≡ outcome_beside x s h (quiet (returned_if met regs memory))
return_beside true x s h regs memory = refl
return_beside false x s h regs memory = refl

-- an instruction of a plain form, form by form
performed_beside : (form : Form) (instr : Instr) (x : ℕ) (s h : Bool) (regs : Regs) (memory ports : ℕ → ℕ) → is_plain (Some form) ≡ true
    → performed form instr (beside x s h regs) memory ports ≡ outcome_beside x s h (performed form instr regs memory ports)
unfolding performed
performed_beside Nop instr x s h regs memory ports plain = refl
performed_beside ExchangeAf instr x s h regs memory ports plain = refl
performed_beside DecrementJump instr x s h regs memory ports plain = jump_beside _ _ x s h (counted_down regs)
performed_beside JumpRelative instr x s h regs memory ports plain = refl
performed_beside (JumpRelativeIf condition) instr x s h regs memory ports plain = jump_beside (holds condition regs.f) (relative regs.pc instr.displacement) x s h regs
performed_beside (LoadPair p) instr x s h regs memory ports plain = ap quiet (pair_beside p instr.operand x s h regs)
performed_beside (AddPair p) instr x s h regs memory ports plain = add_beside p x s h regs where
  add_beside : (p : Pair) (x : ℕ) (s h : Bool) (regs : Regs) → quiet (pair_added p (beside x s h regs)) ≡ outcome_beside x s h (quiet (pair_added p regs))
  add_beside pair.BC x s h regs = refl
  add_beside pair.DE x s h regs = refl
  add_beside pair.HL x s h regs = refl
  add_beside pair.SP x s h regs = refl
performed_beside (StoreAAt p) instr x s h regs memory ports plain = ap (λ word. stored word regs.a (beside x s h regs)) (word_beside p x s h regs)
performed_beside (LoadAFrom p) instr x s h regs memory ports plain = ap (λ word. quiet (record (beside x s h regs) { a = memory word })) (word_beside p x s h regs)
performed_beside StoreHl instr x s h regs memory ports plain = refl
performed_beside LoadHl instr x s h regs memory ports plain = refl
performed_beside StoreA instr x s h regs memory ports plain = refl
performed_beside LoadA instr x s h regs memory ports plain = refl
performed_beside (IncrementPair p) instr x s h regs memory ports plain =
    ap (λ word. quiet (with_pair p (onward word 1) (beside x s h regs))) (word_beside p x s h regs) ∙ ap quiet (pair_beside p _ x s h regs)
performed_beside (DecrementPair p) instr x s h regs memory ports plain =
    ap (λ word. quiet (with_pair p (back word 1) (beside x s h regs))) (word_beside p x s h regs) ∙ ap quiet (pair_beside p _ x s h regs)
performed_beside (Increment operand) instr x s h regs memory ports plain =
    ap (λ byte. incremented operand byte (beside x s h regs)) (byte_beside operand x s h regs memory)
    ∙ set_beside operand _ x s h (record regs { f = increment_flags (operand_byte operand regs memory) regs.f })
performed_beside (Decrement operand) instr x s h regs memory ports plain =
    ap (λ byte. decremented operand byte (beside x s h regs)) (byte_beside operand x s h regs memory)
    ∙ set_beside operand _ x s h (record regs { f = decrement_flags (operand_byte operand regs memory) regs.f })
performed_beside (LoadNumber operand) instr x s h regs memory ports plain = set_beside operand (number instr) x s h regs
performed_beside (Rotate rotation) instr x s h regs memory ports plain = refl
performed_beside DecimalAdjust instr x s h regs memory ports plain = refl
performed_beside Complement instr x s h regs memory ports plain = refl
performed_beside SetCarry instr x s h regs memory ports plain = refl
performed_beside ComplementCarry instr x s h regs memory ports plain = refl
performed_beside (Load to from) instr x s h regs memory ports plain =
    ap (λ byte. with_operand to byte (beside x s h regs)) (byte_beside from x s h regs memory) ∙ set_beside to _ x s h regs
performed_beside Halt instr x s h regs memory ports plain = absurd (cc)
performed_beside (Calculate m from) instr x s h regs memory ports plain =
    ap (λ byte. quiet (calculated m byte (beside x s h regs))) (byte_beside from x s h regs memory) ∙ calculated_beside m _ x s h regs
performed_beside (CalculateNumber m) instr x s h regs memory ports plain = calculated_beside m (number instr) x s h regs
performed_beside (ReturnIf condition) instr x s h regs memory ports plain = return_beside (holds condition regs.f) x s h regs memory
performed_beside (Pop p) instr x s h regs memory ports plain = pop_beside p x s h regs memory
performed_beside Return instr x s h regs memory ports plain = refl
performed_beside Exchange instr x s h regs memory ports plain = refl
performed_beside JumpHl instr x s h regs memory ports plain = refl
performed_beside LoadSpHl instr x s h regs memory ports plain = refl
performed_beside (JumpIf condition) instr x s h regs memory ports plain = jump_beside (holds condition regs.f) instr.operand x s h regs
performed_beside Jump instr x s h regs memory ports plain = refl
performed_beside Output instr x s h regs memory ports plain = refl
performed_beside Input instr x s h regs memory ports plain = refl
performed_beside ExchangeStack instr x s h regs memory ports plain = refl
performed_beside ExchangeDe instr x s h regs memory ports plain = refl
performed_beside DisableInterrupts instr x s h regs memory ports plain = refl
performed_beside EnableInterrupts instr x s h regs memory ports plain = absurd (cc)
performed_beside (CallIf condition) instr x s h regs memory ports plain = call_beside (holds condition regs.f) instr.operand x s h regs
performed_beside (Push p) instr x s h regs memory ports plain = push_beside p x s h regs
performed_beside Call instr x s h regs memory ports plain = refl
performed_beside (Restart address) instr x s h regs memory ports plain = refl

-- and one by its form
pub main_beside : (form : Option Form) (instr : Instr) (x : ℕ) (s h : Bool) (regs : Regs) (memory ports : ℕ → ℕ) → is_plain form ≡ true
    → outcome_by form instr (beside x s h regs) memory ports ≡ outcome_beside x s h (outcome_by form instr regs memory ports)
main_beside None instr x s h regs memory ports plain = refl
main_beside (Some form) instr x s h regs memory ports plain = performed_beside form instr x s h (behind instr.length regs) memory ports plain
