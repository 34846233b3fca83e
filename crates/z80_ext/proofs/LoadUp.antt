-- LDIR at PC does one transfer.
use Rattle.std.proofs.Common.{◌≡◌, ℕ, [], ◌∷◌, Some, true, refl, ap, subst, sym, ◌∙◌, if◌then◌else◌}
use Rattle.z80_regs.specs.Words.{onward}
use Rattle.z80_regs.specs.declared.regs.Regs.{Regs}
use Rattle.z80_decode.specs.declared.instr.Instr.{Instr}
use Rattle.z80_decode.specs.declared.instr.Page.TheVariants.{Ed}
use Rattle.z80_decode.specs.declared.page_forms.Direction.TheVariants.{Up}
use Rattle.z80_decode.specs.Opcodes.{form_of, high_quarter}
use Rattle.z80_decode.specs.PageOpcodes.{third_quarter, transfer_of, extended_form_of}
use Rattle.z80_decode.specs.Decoding.{prefixed_instr_of, main_instr_of, instr_of}
use Rattle.z80_exec.specs.Performing.{behind}
use Rattle.z80_ext.specs.Block.{block_loaded}
use Rattle.z80_ext.specs.Extended.{extended_outcome, extended_performed}
use Rattle.z80_exec.specs.Operands.{quiet}
use Rattle.z80_ext.specs.Instruction.{IsLoadUpAt, risen, begun, four_from, outcome_of, instruction}

abbrev load_up : Instr
load_up = record { length = 2; page = Ed; opcode = 176; displacement = 0; operand = 0 }

-- what the bytes EDh B0h begin with
by_bytes : (a b c d : ℕ) → a ≡ 237 → b ≡ 176 → instr_of (a ∷ b ∷ c ∷ d ∷ []) ≡ Some load_up
unfolding instr_of main_instr_of form_of high_quarter prefixed_instr_of extended_form_of third_quarter transfer_of
by_bytes a b c d prefix opcode =
    let P : ℕ → Type 0 = λ x. instr_of (x ∷ b ∷ c ∷ d ∷ []) ≡ Some load_up in
    let Q : ℕ → Type 0 = λ x. instr_of (237 ∷ x ∷ c ∷ d ∷ []) ≡ Some load_up in
    subst P (sym prefix) (subst Q (sym opcode) refl)

-- and what that does
does : (regs : Regs) (memory ports : ℕ → ℕ) → outcome_of (Some load_up) regs memory ports ≡ Some (block_loaded Up true (behind 2 (begun regs)) memory)
unfolding extended_outcome extended_performed extended_form_of third_quarter transfer_of
does regs memory ports = refl

pub load_up_is : (regs : Regs) (memory ports : ℕ → ℕ) → IsLoadUpAt regs memory →
    instruction regs memory ports ≡ Some (block_loaded Up true (behind 2 (begun regs)) memory)
unfolding instruction
load_up_is regs memory ports at =
    ap (λ halted. if halted then Some (quiet (risen regs)) else (outcome_of (instr_of (four_from memory regs.pc)) regs memory ports)) at.runs
    ∙ ap (λ instr. outcome_of instr regs memory ports) (by_bytes (memory regs.pc) (memory (onward regs.pc 1)) _ _ at.prefix at.opcode)
    ∙ does regs memory ports
