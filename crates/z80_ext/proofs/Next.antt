-- The step that reads by the opcode does the instruction that four bytes begin with.
use Rattle.std.proofs.Common.{◌≡◌, ℕ, Bool, true, false, Option, None, Some, if◌then◌else◌, ◌∙◌, ap, refl, sym, rules}
use Rattle.std.specs.Prelude.{IsNone, ◌↔◌, is_some}
use Rattle.std.proofs.lemmas.Grind.{common_steps}
use Rattle.z80_regs.specs.Words.{onward}
use Rattle.z80_regs.specs.Outcome.{StepOutcome}
use Rattle.z80_regs.specs.declared.regs.Regs.{Regs}
use Rattle.z80_decode.specs.declared.instr.Instr.{Instr}
use Rattle.z80_decode.specs.declared.instr.Page.{Page}
use Rattle.z80_decode.specs.declared.instr.Page.TheVariants.{Main}
use Rattle.z80_decode.specs.declared.forms.Form.{Form}
use Rattle.z80_decode.specs.declared.page_forms.BitForm.{BitForm}
use Rattle.z80_decode.specs.declared.forms.Tail.{Tail}
use Rattle.z80_decode.specs.declared.forms.Tail.TheVariants.{Nothing, Byte, Word, Displacement, DisplacementByte}
use Rattle.z80_decode.specs.Opcodes.{form_of}
use Rattle.z80_decode.specs.PageOpcodes.{indexed_bit_form_of}
use Rattle.z80_decode.specs.Decoding.{tail_of, index_bit_instr_by, instr_with, main_instr_by, main_instr_of, main_or_prefixed, instr_of}
use Rattle.z80_exec.specs.Performing.{behind, performed, next_with, main_outcome, is_plain}
use Rattle.z80_exec.specs.Operands.{quiet}
use Rattle.z80_exec.specs.Flow.{relative}
use Rattle.z80_ext.specs.declared.index.IndexRegister.{IndexRegister}
use Rattle.z80_ext.specs.declared.index.IndexRegister.TheVariants.{Ix, Iy}
use Rattle.z80_ext.specs.Bits.{memory_bits}
use Rattle.z80_ext.specs.Index.{page_of, bits_page_of, index_word, indexed_address, index_outcome, index_bits_by, index_bits_outcome}
use Rattle.z80_ext.specs.Instruction.{risen, four_from, page_outcome, outcome_of, unbegun_of, unbegun, is_plain_on, is_plain_instr, is_plain_at, instruction, registers_after}

-- the pages of the index registers
pub index_page : (index : IndexRegister) (instr : Instr) (regs : Regs) (memory ports : ℕ → ℕ) →
    page_outcome (page_of index) instr regs memory ports ≡ index_outcome index instr regs memory
index_page Ix instr regs memory ports = refl
index_page Iy instr regs memory ports = refl

pub index_bits_page : (index : IndexRegister) (instr : Instr) (regs : Regs) (memory ports : ℕ → ℕ) →
    page_outcome (bits_page_of index) instr regs memory ports ≡ index_bits_outcome index instr regs memory
index_bits_page Ix instr regs memory ports = refl
index_bits_page Iy instr regs memory ports = refl

-- are plain
pub page_plain : (index : IndexRegister) (opcode : ℕ) → is_plain_on (page_of index) opcode ≡ true
page_plain Ix opcode = refl
page_plain Iy opcode = refl

pub bits_page_plain : (index : IndexRegister) (opcode : ℕ) → is_plain_on (bits_page_of index) opcode ≡ true
bits_page_plain Ix opcode = refl
bits_page_plain Iy opcode = refl

-- an instruction after DDh CBh or FDh CBh, by its form
pub bits_plain : (index : IndexRegister) (displacement byte : ℕ) (form : Option BitForm) → indexed_bit_form_of byte ≡ form
    → is_some form ≡ is_plain_instr (index_bit_instr_by (indexed_bit_form_of byte) (bits_page_of index) displacement byte)
bits_plain index displacement byte None is = sym (ap (λ f. is_plain_instr (index_bit_instr_by f (bits_page_of index) displacement byte)) is)
bits_plain index displacement byte (Some form) is =
    sym (ap (λ f. is_plain_instr (index_bit_instr_by f (bits_page_of index) displacement byte)) is ∙ bits_page_plain index byte)

word_behind : (index : IndexRegister) (regs : Regs) → index_word index (behind 4 regs) ≡ index_word index regs
word_behind Ix regs = refl
word_behind Iy regs = refl

pub bits_done : (index : IndexRegister) (form : BitForm) (displacement byte address : ℕ) (regs : Regs) (memory ports : ℕ → ℕ) → indexed_bit_form_of byte ≡ Some form
    → address ≡ relative (index_word index (behind 4 regs)) displacement
    → memory_bits form address (memory address) (behind 4 regs)
    ≡ unbegun_of (index_bit_instr_by (indexed_bit_form_of byte) (bits_page_of index) displacement byte) regs memory ports
unfolding index_bits_outcome
bits_done index form displacement byte address regs memory ports is at =
    let instr : Instr = record { length = 4; page = bits_page_of index; opcode = byte; displacement = displacement; operand = 0 } in
    let here : address ≡ indexed_address index instr regs = at ∙ ap (λ word. relative word displacement) (word_behind index regs) in
    ap (λ a. memory_bits form a (memory a) (behind 4 regs)) here
    ∙ sym (ap (λ f. unbegun_of (index_bit_instr_by f (bits_page_of index) displacement byte) regs memory ports) is
    ∙ index_bits_page index instr regs memory ports
    ∙ ap (λ f. index_bits_by f index instr regs memory) is)

-- whether an instruction is plain, whatever follows its opcode
pub tail_plain : (tail : Tail) (page : Page) (place opcode first second : ℕ) →
    is_plain_instr (Some (instr_with tail page place opcode first second)) ≡ is_plain_on page opcode
tail_plain Nothing page place opcode first second = refl
tail_plain Byte page place opcode first second = refl
tail_plain Word page place opcode first second = refl
tail_plain Displacement page place opcode first second = refl
tail_plain DisplacementByte page place opcode first second = refl

-- an instruction without prefix, by what follows its opcode
by_tail : (tail : Tail) (form : Form) (opcode first second : ℕ) (regs : Regs) (memory ports : ℕ → ℕ) →
    form_of opcode ≡ Some form →
    let instr = instr_with tail Main 1 opcode first second in
    page_outcome instr.page instr regs memory ports ≡ performed form instr (behind instr.length regs) memory ports
unfolding main_outcome
by_tail Nothing form opcode first second regs memory ports known = search (rules, common_steps)
by_tail Byte form opcode first second regs memory ports known = search (rules, common_steps)
by_tail Word form opcode first second regs memory ports known = search (rules, common_steps)
by_tail Displacement form opcode first second regs memory ports known = search (rules, common_steps)
by_tail DisplacementByte form opcode first second regs memory ports known = search (rules, common_steps)

main_is : (form : Form) (regs : Regs) (memory : ℕ → ℕ) → form_of (memory regs.pc) ≡ Some form →
    instr_of (four_from memory regs.pc)
    ≡ Some (instr_with (tail_of form) Main 1 (memory regs.pc) (memory (onward regs.pc 1)) (memory (onward regs.pc 2)))
unfolding instr_of main_instr_of
main_is form regs memory known =
    ap (λ f. main_or_prefixed (main_instr_by f (memory regs.pc) (memory (onward regs.pc 1)) (memory (onward regs.pc 2))) (four_from memory regs.pc)) known

pub main_plain : (form : Form) (regs : Regs) (memory : ℕ → ℕ) → form_of (memory regs.pc) ≡ Some form → is_plain_at regs memory ≡ is_plain (Some form)
main_plain form regs memory known =
    ap is_plain_instr (main_is form regs memory known)
    ∙ tail_plain (tail_of form) Main 1 (memory regs.pc) (memory (onward regs.pc 1)) (memory (onward regs.pc 2))
    ∙ ap is_plain known

pub main_does : (form : Form) (regs : Regs) (memory ports : ℕ → ℕ) → form_of (memory regs.pc) ≡ Some form →
    unbegun regs memory ports ≡ next_with form (memory regs.pc) (memory (onward regs.pc 1)) (memory (onward regs.pc 2)) regs memory ports
main_does form regs memory ports known =
    ap (λ instr. unbegun_of instr regs memory ports) (main_is form regs memory known)
    ∙ by_tail (tail_of form) form (memory regs.pc) (memory (onward regs.pc 1)) (memory (onward regs.pc 2)) regs memory ports known

-- no listed instruction is done exactly where none is at PC and the processor doesn't stand in a HALT

by_halt : (halted : Bool) (instr : Option Instr) (regs : Regs) (memory ports : ℕ → ℕ)
    → IsNone (if halted then Some (quiet (risen regs)) else (outcome_of instr regs memory ports)) ↔ ((halted ≡ false) × IsNone instr)
by_halt true instr regs memory ports = (λ none. absurd (cc none), λ both. absurd (cc both.0))
by_halt false None regs memory ports = (λ none. (refl, refl), λ both. refl)
by_halt false (Some instr) regs memory ports = (λ none. absurd (cc none), λ both. absurd (cc both.1))

pub unlisted_exactly : (regs : Regs) (memory ports : ℕ → ℕ)
    → IsNone (instruction regs memory ports) ↔ ((regs.halted ≡ false) × IsNone (instr_of (four_from memory regs.pc)))
unfolding instruction
unlisted_exactly regs memory ports = by_halt regs.halted (instr_of (four_from memory regs.pc)) regs memory ports

-- in a HALT R rises, and that is all

rests : (b : Bool) (outcome : Option StepOutcome) (regs : Regs) → b ≡ true → registers_after (if b then Some (quiet (risen regs)) else outcome) regs ≡ risen regs
rests true outcome regs halted = refl
rests false outcome regs halted = absurd (cc)

pub halted_rises : (regs : Regs) (memory ports : ℕ → ℕ) → regs.halted ≡ true → registers_after (instruction regs memory ports) regs ≡ risen regs
unfolding instruction
halted_rises regs memory ports halted = rests regs.halted _ regs halted
