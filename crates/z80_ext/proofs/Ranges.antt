-- What a step does to a bus has its width, where the registers and what is read have theirs.
use Rattle.std.proofs.Common.{ℕ, ◌<◌, Option, None, Some, rules, arith}
use Rattle.std.specs.Prelude.{All}
use Rattle.std.proofs.lemmas.List.Elements.{All-nil}
use Rattle.std.proofs.lemmas.Grind.{common_steps}
use Rattle.z80_regs.specs.Words.{onward}
use Rattle.z80_regs.specs.Ranges.{RegistersFit, ReadsBytes, ActionFits}
use Rattle.z80_regs.specs.declared.regs.Regs.{Regs}
use Rattle.z80_decode.specs.declared.instr.Instr.{Instr}
use Rattle.z80_decode.specs.declared.instr.Page.{Page}
use Rattle.z80_decode.specs.declared.instr.Page.TheVariants.{Main, Cb, Ed, Ix, Iy, IxCb, IyCb}
use Rattle.z80_decode.specs.Decoding.{instr_of}
use Rattle.z80_decode.proofs.Operands.{OperandFits, operand_fits}
use Rattle.z80_exec.specs.Operands.{quiet}
use Rattle.z80_exec.proofs.Ranges.{main_fits}
use Rattle.z80_ext.specs.declared.index.IndexRegister.TheVariants as index
use Rattle.z80_ext.proofs.PageRanges.{choice_fits, bits_fit, extended_fits, index_fits, index_bits_fit}
use Rattle.z80_ext.specs.Instruction.{risen, begun, four_from, page_outcome, outcome_of, instruction, actions_of}

-- what an instruction does, by its page
page_fits : (page : Page) (instr : Instr) (regs : Regs) (memory ports : ℕ → ℕ) → RegistersFit regs →
    instr.operand < 65536 → ReadsBytes 65536 memory → ReadsBytes 256 ports →
    All ActionFits (page_outcome page instr regs memory ports).actions
page_fits Main instr regs memory ports fit small reads takes = main_fits instr regs memory ports fit small reads takes
page_fits Cb instr regs memory ports fit small reads takes = bits_fit instr regs memory fit reads
page_fits Ed instr regs memory ports fit small reads takes = extended_fits instr regs memory ports fit small reads takes
page_fits Ix instr regs memory ports fit small reads takes = index_fits index.Ix instr regs memory fit small reads
page_fits Iy instr regs memory ports fit small reads takes = index_fits index.Iy instr regs memory fit small reads
page_fits IxCb instr regs memory ports fit small reads takes = index_bits_fit index.Ix instr regs memory reads
page_fits IyCb instr regs memory ports fit small reads takes = index_bits_fit index.Iy instr regs memory reads

-- the registers that an instruction begins with
begun_fits : (regs : Regs) → RegistersFit regs → RegistersFit (begun regs)
begun_fits regs fit = search rules

-- what an instruction does, where there is one
outcome_fits : (instr : Option Instr) (regs : Regs) (memory ports : ℕ → ℕ) → RegistersFit regs →
    OperandFits instr → ReadsBytes 65536 memory → ReadsBytes 256 ports →
    All ActionFits (actions_of (outcome_of instr regs memory ports))
outcome_fits None regs memory ports fit small reads takes = search (rules, common_steps)
outcome_fits (Some instr) regs memory ports fit small reads takes =
    page_fits instr.page instr (begun regs) memory ports (begun_fits regs fit) small reads takes

-- the operand of the instruction at PC
at_pc_fits : (memory : ℕ → ℕ) (pc : ℕ) → ReadsBytes 65536 memory → OperandFits (instr_of (four_from memory pc))
at_pc_fits memory pc reads =
    operand_fits (four_from memory pc) (reads (onward pc 1) (omega arith)) (reads (onward pc 2) (omega arith))
    (reads (onward pc 3) (omega arith))

-- what a step does
pub actions_fit : (regs : Regs) (memory ports : ℕ → ℕ) → RegistersFit regs → ReadsBytes 65536 memory →
    ReadsBytes 256 ports → All ActionFits (actions_of (instruction regs memory ports))
unfolding instruction
actions_fit regs memory ports fit reads takes =
    choice_fits (λ outcome. All ActionFits (actions_of outcome)) regs.halted (Some (quiet (risen regs))) (outcome_of (instr_of (four_from memory regs.pc)) regs memory ports)
    (All-nil ActionFits)
    (outcome_fits (instr_of (four_from memory regs.pc)) regs memory ports fit (at_pc_fits memory regs.pc reads) reads takes)
