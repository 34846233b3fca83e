-- What an instruction without prefix does to a bus has its width, where the registers, its operand and what is read have
-- theirs.
use Rattle.std.proofs.Common.{ℕ, ◌<◌, Option, None, Some, rules, arith}
use Rattle.std.specs.Prelude.{All}
use Rattle.std.proofs.lemmas.Grind.{common_steps}
use Rattle.z80_regs.specs.Ranges.{RegistersFit, ReadsBytes, ActionFits}
use Rattle.z80_regs.specs.declared.regs.Regs.{Regs}
use Rattle.z80_decode.specs.declared.instr.Instr.{Instr}
use Rattle.z80_decode.specs.declared.forms.Form.{Form}
use Rattle.z80_decode.specs.declared.forms.Form.TheVariants.{Nop, ExchangeAf, DecrementJump, JumpRelative, JumpRelativeIf, LoadPair, AddPair, StoreAAt, LoadAFrom, StoreHl, LoadHl, StoreA, LoadA, IncrementPair, DecrementPair, Increment, Decrement, LoadNumber, Rotate, DecimalAdjust, Complement, SetCarry, ComplementCarry, Load, Halt, Calculate, CalculateNumber, ReturnIf, Pop, Return, Exchange, JumpHl, LoadSpHl, JumpIf, Jump, Output, Input, ExchangeStack, ExchangeDe, DisableInterrupts, EnableInterrupts, CallIf, Push, Call, Restart}
use Rattle.z80_decode.specs.Opcodes.{form_of}
use Rattle.z80_decode.specs.declared.forms.Operand.{Operand}
use Rattle.z80_decode.specs.declared.forms.Operand.TheVariants.{B, C, D, E, H, L, Memory, A}
use Rattle.z80_exec.specs.Operands.{hl_of, operand_byte, with_operand}
use Rattle.z80_exec.specs.Loads.{word_written, top_replaced}
use Rattle.z80_exec.specs.Performing.{behind, performed, outcome_by, main_outcome}

-- HL
pub hl_fits : (regs : Regs) → RegistersFit regs → hl_of regs < 65536
hl_fits regs fit = omega (arith, fit.h, fit.l)

-- the byte of an operand
pub byte_fits : (operand : Operand) (regs : Regs) (memory : ℕ → ℕ) → RegistersFit regs → ReadsBytes 65536 memory →
    operand_byte operand regs memory < 256
byte_fits B regs memory fit reads = fit.b
byte_fits C regs memory fit reads = fit.c
byte_fits D regs memory fit reads = fit.d
byte_fits E regs memory fit reads = fit.e
byte_fits H regs memory fit reads = fit.h
byte_fits L regs memory fit reads = fit.l
byte_fits Memory regs memory fit reads = reads (hl_of regs) (hl_fits regs fit)
byte_fits A regs memory fit reads = fit.a

-- a byte that goes to an operand
pub set_fits : (operand : Operand) (byte : ℕ) (regs : Regs) → hl_of regs < 65536 → byte < 256 →
    All ActionFits (with_operand operand byte regs).actions
set_fits B byte regs address small = search (rules, common_steps)
set_fits C byte regs address small = search (rules, common_steps)
set_fits D byte regs address small = search (rules, common_steps)
set_fits E byte regs address small = search (rules, common_steps)
set_fits H byte regs address small = search (rules, common_steps)
set_fits L byte regs address small = search (rules, common_steps)
set_fits Memory byte regs address small = search (rules, common_steps)
set_fits A byte regs address small = search (rules, common_steps)

-- a word that goes to memory
pub word_fits : (address word : ℕ) → address < 65536 → word < 65536 → All ActionFits (word_written address word)
word_fits address word small other = search (rules, common_steps)

-- a word in the place of that on the stack
pub top_fits : (word : ℕ) (regs : Regs) → RegistersFit regs → word < 65536 → All ActionFits (top_replaced word regs)
top_fits word regs fit small = search (rules, common_steps)

-- the registers once PC is past the instruction
pub behind_fits : (length : ℕ) (regs : Regs) → RegistersFit regs → RegistersFit (behind length regs)
behind_fits length regs fit = search (arith, rules)

-- what the instruction of each form does
performed_fits : (form : Form) (instr : Instr) (regs : Regs) (memory ports : ℕ → ℕ) → RegistersFit regs →
    instr.operand < 65536 → ReadsBytes 65536 memory → ReadsBytes 256 ports →
    All ActionFits (performed form instr regs memory ports).actions
unfolding performed
performed_fits Nop instr regs memory ports fit small reads takes = search (rules, common_steps)
performed_fits ExchangeAf instr regs memory ports fit small reads takes = search (rules, common_steps)
performed_fits DecrementJump instr regs memory ports fit small reads takes = search (rules, common_steps)
performed_fits JumpRelative instr regs memory ports fit small reads takes = search (rules, common_steps)
performed_fits (JumpRelativeIf condition) instr regs memory ports fit small reads takes = search (rules, common_steps)
performed_fits (LoadPair pair) instr regs memory ports fit small reads takes = search (rules, common_steps)
performed_fits (AddPair pair) instr regs memory ports fit small reads takes = search (rules, common_steps)
performed_fits (StoreAAt pair) instr regs memory ports fit small reads takes = search (rules, common_steps)
performed_fits (LoadAFrom pair) instr regs memory ports fit small reads takes = search (rules, common_steps)
performed_fits StoreHl instr regs memory ports fit small reads takes =
    word_fits instr.operand (hl_of regs) small (hl_fits regs fit)
performed_fits LoadHl instr regs memory ports fit small reads takes = search (rules, common_steps)
performed_fits StoreA instr regs memory ports fit small reads takes = search (rules, common_steps)
performed_fits LoadA instr regs memory ports fit small reads takes = search (rules, common_steps)
performed_fits (IncrementPair pair) instr regs memory ports fit small reads takes = search (rules, common_steps)
performed_fits (DecrementPair pair) instr regs memory ports fit small reads takes = search (rules, common_steps)
performed_fits (Increment operand) instr regs memory ports fit small reads takes = search (rules, common_steps)
performed_fits (Decrement operand) instr regs memory ports fit small reads takes = search (rules, common_steps)
performed_fits (LoadNumber operand) instr regs memory ports fit small reads takes = search (rules, common_steps)
performed_fits (Rotate rotation) instr regs memory ports fit small reads takes = search (rules, common_steps)
performed_fits DecimalAdjust instr regs memory ports fit small reads takes = search (rules, common_steps)
performed_fits Complement instr regs memory ports fit small reads takes = search (rules, common_steps)
performed_fits SetCarry instr regs memory ports fit small reads takes = search (rules, common_steps)
performed_fits ComplementCarry instr regs memory ports fit small reads takes = search (rules, common_steps)
performed_fits (Load to from) instr regs memory ports fit small reads takes =
    set_fits to _ regs (hl_fits regs fit) (byte_fits from regs memory fit reads)
performed_fits Halt instr regs memory ports fit small reads takes = search (rules, common_steps)
performed_fits (Calculate math from) instr regs memory ports fit small reads takes = search (rules, common_steps)
performed_fits (CalculateNumber math) instr regs memory ports fit small reads takes = search (rules, common_steps)
performed_fits (ReturnIf condition) instr regs memory ports fit small reads takes = search (rules, common_steps)
performed_fits (Pop pair) instr regs memory ports fit small reads takes = search (rules, common_steps)
performed_fits Return instr regs memory ports fit small reads takes = search (rules, common_steps)
performed_fits Exchange instr regs memory ports fit small reads takes = search (rules, common_steps)
performed_fits JumpHl instr regs memory ports fit small reads takes = search (rules, common_steps)
performed_fits LoadSpHl instr regs memory ports fit small reads takes = search (rules, common_steps)
performed_fits (JumpIf condition) instr regs memory ports fit small reads takes = search (rules, common_steps)
performed_fits Jump instr regs memory ports fit small reads takes = search (rules, common_steps)
performed_fits Output instr regs memory ports fit small reads takes = search (rules, common_steps)
performed_fits Input instr regs memory ports fit small reads takes = search (rules, common_steps)
performed_fits ExchangeStack instr regs memory ports fit small reads takes =
    top_fits (hl_of regs) regs fit (hl_fits regs fit)
performed_fits ExchangeDe instr regs memory ports fit small reads takes = search (rules, common_steps)
performed_fits DisableInterrupts instr regs memory ports fit small reads takes = search (rules, common_steps)
performed_fits EnableInterrupts instr regs memory ports fit small reads takes = search (rules, common_steps)
performed_fits (CallIf condition) instr regs memory ports fit small reads takes = search (rules, common_steps)
performed_fits (Push pair) instr regs memory ports fit small reads takes = search (rules, common_steps)
performed_fits Call instr regs memory ports fit small reads takes = search (rules, common_steps)
performed_fits (Restart address) instr regs memory ports fit small reads takes = search (rules, common_steps)

-- what an instruction does; where its opcode is a prefix, nothing
by_fits : (form : Option Form) (instr : Instr) (regs : Regs) (memory ports : ℕ → ℕ) → RegistersFit regs →
    instr.operand < 65536 → ReadsBytes 65536 memory → ReadsBytes 256 ports →
    All ActionFits (outcome_by form instr regs memory ports).actions
by_fits None instr regs memory ports fit small reads takes = search (rules, common_steps)
by_fits (Some form) instr regs memory ports fit small reads takes =
    performed_fits form instr (behind instr.length regs) memory ports (behind_fits instr.length regs fit) small reads takes

pub main_fits : (instr : Instr) (regs : Regs) (memory ports : ℕ → ℕ) → RegistersFit regs →
    instr.operand < 65536 → ReadsBytes 65536 memory → ReadsBytes 256 ports →
    All ActionFits (main_outcome instr regs memory ports).actions
unfolding main_outcome
main_fits instr regs memory ports fit small reads takes =
    by_fits (form_of instr.opcode) instr regs memory ports fit small reads takes
