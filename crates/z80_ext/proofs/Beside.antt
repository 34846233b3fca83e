-- A plain instruction after a prefix looks at neither R, the shadow of an EI nor a HALT, and leaves them as they are, as a
-- plain one without prefix does.
use Rattle.std.proofs.Common.{◌≡◌, ◌∙◌, ◌%◌, ℕ, Bool, true, Option, None, Some, refl, ap}
use Rattle.z80_regs.specs.Words.{word_from}
use Rattle.z80_regs.specs.declared.regs.Regs.{Regs}
use Rattle.z80_alu.specs.Bytes.{increment_flags, decrement_flags}
use Rattle.z80_decode.specs.declared.instr.Instr.{Instr}
use Rattle.z80_decode.specs.declared.instr.Page.{Page}
use Rattle.z80_decode.specs.declared.instr.Page.TheVariants as page
use Rattle.z80_decode.specs.declared.forms.Pair.{Pair}
use Rattle.z80_decode.specs.declared.forms.Pair.TheVariants as pair
use Rattle.z80_decode.specs.declared.forms.Operand.{Operand}
use Rattle.z80_decode.specs.declared.forms.Operand.TheVariants as operand
use Rattle.z80_decode.specs.declared.page_forms.BitForm.{BitForm}
use Rattle.z80_decode.specs.declared.page_forms.BitForm.TheVariants.{Test, Change}
use Rattle.z80_decode.specs.declared.page_forms.ExtendedForm.{ExtendedForm}
use Rattle.z80_decode.specs.declared.page_forms.ExtendedForm.TheVariants as extended
use Rattle.z80_decode.specs.declared.page_forms.IndexForm.{IndexForm}
use Rattle.z80_decode.specs.declared.page_forms.IndexForm.TheVariants.{AddPair, LoadNumber, Store, Load, Increment, Decrement, IncrementByte, DecrementByte, LoadByte, LoadHalf, LoadFrom, StoreTo, Calculate, Pop, ExchangeStack, Push, Jump, LoadSp}
use Rattle.z80_decode.specs.Fields.{operand_of}
use Rattle.z80_decode.specs.Opcodes.{form_of}
use Rattle.z80_decode.specs.PageOpcodes.{bit_form_of, indexed_bit_form_of, extended_form_of, index_form_of}
use Rattle.z80_exec.specs.Operands.{quiet, stored, operand_byte, with_operand}
use Rattle.z80_exec.specs.Loads.{word_stored}
use Rattle.z80_exec.specs.Calculations.{calculated}
use Rattle.z80_exec.specs.Performing.{behind, number, main_outcome}
use Rattle.z80_exec.proofs.Beside.{beside, outcome_beside, byte_beside, set_beside, word_beside, pair_beside, calculated_beside, main_beside}
use Rattle.z80_ext.specs.declared.index.IndexRegister.{IndexRegister}
use Rattle.z80_ext.specs.declared.index.IndexRegister.TheVariants.{Ix, Iy}
use Rattle.z80_ext.specs.Bits.{changed_byte, bits_changed, operand_bits, memory_bits, bits_outcome}
use Rattle.z80_ext.specs.Extended.{pair_added_with_carry, pair_subtracted, extended_performed, extended_by, extended_outcome}
use Rattle.z80_ext.specs.Index.{index_byte, with_index_byte, indexed_address, index_added, byte_incremented, byte_decremented, index_performed, index_by, index_outcome, index_bits_by, index_bits_outcome}
use Rattle.z80_ext.specs.Instruction.{page_outcome, is_of_pair, is_plain_on, is_plain_instr, unbegun_of}

-- rotations, shifts and single bits

operand_bits_beside : (form : BitForm) (at : Operand) (byte x : ℕ) (s h : Bool) (regs : Regs)
    → operand_bits form at byte (beside x s h regs) ≡ outcome_beside x s h (operand_bits form at byte regs)
operand_bits_beside (Test weight) at byte x s h regs = refl
operand_bits_beside (Change change) at byte x s h regs = set_beside at (changed_byte change byte regs.f) x s h (bits_changed change byte regs)

memory_bits_beside : (form : BitForm) (address byte x : ℕ) (s h : Bool) (regs : Regs)
    → memory_bits form address byte (beside x s h regs) ≡ outcome_beside x s h (memory_bits form address byte regs)
memory_bits_beside (Test weight) address byte x s h regs = refl
memory_bits_beside (Change change) address byte x s h regs = refl

bits_beside : (instr : Instr) (x : ℕ) (s h : Bool) (regs : Regs) (memory : ℕ → ℕ)
    → bits_outcome instr (beside x s h regs) memory ≡ outcome_beside x s h (bits_outcome instr regs memory)
unfolding bits_outcome
bits_beside instr x s h regs memory =
    let form = bit_form_of instr.opcode in
    let at = operand_of (instr.opcode % 8) in
    ap (λ byte. operand_bits form at byte (beside x s h (behind instr.length regs))) (byte_beside at x s h regs memory)
    ∙ operand_bits_beside form at (operand_byte at regs memory) x s h (behind instr.length regs)

-- operands, where an index register stands for HL

index_byte_beside : (index : IndexRegister) (at : Operand) (address x : ℕ) (s h : Bool) (regs : Regs) (memory : ℕ → ℕ)
    → index_byte index at address (beside x s h regs) memory ≡ index_byte index at address regs memory
index_byte_beside Ix operand.B address x s h regs memory = refl
index_byte_beside Ix operand.C address x s h regs memory = refl
index_byte_beside Ix operand.D address x s h regs memory = refl
index_byte_beside Ix operand.E address x s h regs memory = refl
index_byte_beside Ix operand.H address x s h regs memory = refl
index_byte_beside Ix operand.L address x s h regs memory = refl
index_byte_beside Ix operand.Memory address x s h regs memory = refl
index_byte_beside Ix operand.A address x s h regs memory = refl
index_byte_beside Iy operand.B address x s h regs memory = refl
index_byte_beside Iy operand.C address x s h regs memory = refl
index_byte_beside Iy operand.D address x s h regs memory = refl
index_byte_beside Iy operand.E address x s h regs memory = refl
index_byte_beside Iy operand.H address x s h regs memory = refl
index_byte_beside Iy operand.L address x s h regs memory = refl
index_byte_beside Iy operand.Memory address x s h regs memory = refl
index_byte_beside Iy operand.A address x s h regs memory = refl

set_index_beside : (index : IndexRegister) (at : Operand) (address byte x : ℕ) (s h : Bool) (regs : Regs)
    → with_index_byte index at address byte (beside x s h regs) ≡ outcome_beside x s h (with_index_byte index at address byte regs)
set_index_beside Ix operand.B address byte x s h regs = refl
set_index_beside Ix operand.C address byte x s h regs = refl
set_index_beside Ix operand.D address byte x s h regs = refl
set_index_beside Ix operand.E address byte x s h regs = refl
set_index_beside Ix operand.H address byte x s h regs = refl
set_index_beside Ix operand.L address byte x s h regs = refl
set_index_beside Ix operand.Memory address byte x s h regs = refl
set_index_beside Ix operand.A address byte x s h regs = refl
set_index_beside Iy operand.B address byte x s h regs = refl
set_index_beside Iy operand.C address byte x s h regs = refl
set_index_beside Iy operand.D address byte x s h regs = refl
set_index_beside Iy operand.E address byte x s h regs = refl
set_index_beside Iy operand.H address byte x s h regs = refl
set_index_beside Iy operand.L address byte x s h regs = refl
set_index_beside Iy operand.Memory address byte x s h regs = refl
set_index_beside Iy operand.A address byte x s h regs = refl

add_beside : (index : IndexRegister) (p : Pair) (x : ℕ) (s h : Bool) (regs : Regs)
    → quiet (index_added index p (beside x s h regs)) ≡ outcome_beside x s h (quiet (index_added index p regs))
add_beside Ix pair.BC x s h regs = refl
add_beside Ix pair.DE x s h regs = refl
add_beside Ix pair.HL x s h regs = refl
add_beside Ix pair.SP x s h regs = refl
add_beside Iy pair.BC x s h regs = refl
add_beside Iy pair.DE x s h regs = refl
add_beside Iy pair.HL x s h regs = refl
add_beside Iy pair.SP x s h regs = refl

address_beside : (index : IndexRegister) (instr : Instr) (x : ℕ) (s h : Bool) (regs : Regs) → indexed_address index instr (beside x s h regs) ≡ indexed_address index instr regs
address_beside Ix instr x s h regs = refl
address_beside Iy instr x s h regs = refl

-- the instructions after DDh and FDh, form by form
performed_beside : (form : IndexForm) (index : IndexRegister) (instr : Instr) (x : ℕ) (s h : Bool) (regs : Regs) (memory : ℕ → ℕ)
    → index_performed form index instr (beside x s h regs) memory ≡ outcome_beside x s h (index_performed form index instr regs memory)
unfolding index_performed
performed_beside (AddPair p) index instr x s h regs memory = add_beside index p x s h regs
performed_beside LoadNumber Ix instr x s h regs memory = refl
performed_beside LoadNumber Iy instr x s h regs memory = refl
performed_beside Store Ix instr x s h regs memory = refl
performed_beside Store Iy instr x s h regs memory = refl
performed_beside Load Ix instr x s h regs memory = refl
performed_beside Load Iy instr x s h regs memory = refl
performed_beside Increment Ix instr x s h regs memory = refl
performed_beside Increment Iy instr x s h regs memory = refl
performed_beside Decrement Ix instr x s h regs memory = refl
performed_beside Decrement Iy instr x s h regs memory = refl
performed_beside Pop Ix instr x s h regs memory = refl
performed_beside Pop Iy instr x s h regs memory = refl
performed_beside ExchangeStack Ix instr x s h regs memory = refl
performed_beside ExchangeStack Iy instr x s h regs memory = refl
performed_beside Push Ix instr x s h regs memory = refl
performed_beside Push Iy instr x s h regs memory = refl
performed_beside Jump Ix instr x s h regs memory = refl
performed_beside Jump Iy instr x s h regs memory = refl
performed_beside LoadSp Ix instr x s h regs memory = refl
performed_beside LoadSp Iy instr x s h regs memory = refl
performed_beside (IncrementByte at) index instr x s h regs memory =
    let address = indexed_address index instr regs in
    ap (λ to. byte_incremented index at to (index_byte index at to (beside x s h regs) memory) (beside x s h regs)) (address_beside index instr x s h regs)
    ∙ ap (λ byte. byte_incremented index at address byte (beside x s h regs)) (index_byte_beside index at address x s h regs memory)
    ∙ set_index_beside index at address _ x s h (record regs { f = increment_flags (index_byte index at address regs memory) regs.f })
performed_beside (DecrementByte at) index instr x s h regs memory =
    let address = indexed_address index instr regs in
    ap (λ to. byte_decremented index at to (index_byte index at to (beside x s h regs) memory) (beside x s h regs)) (address_beside index instr x s h regs)
    ∙ ap (λ byte. byte_decremented index at address byte (beside x s h regs)) (index_byte_beside index at address x s h regs memory)
    ∙ set_index_beside index at address _ x s h (record regs { f = decrement_flags (index_byte index at address regs memory) regs.f })
performed_beside (LoadByte to) index instr x s h regs memory =
    ap (λ address. with_index_byte index to address (number instr) (beside x s h regs)) (address_beside index instr x s h regs)
    ∙ set_index_beside index to (indexed_address index instr regs) (number instr) x s h regs
performed_beside (LoadHalf to from) index instr x s h regs memory =
    let address = indexed_address index instr regs in
    ap (λ at. with_index_byte index to at (index_byte index from at (beside x s h regs) memory) (beside x s h regs)) (address_beside index instr x s h regs)
    ∙ ap (λ byte. with_index_byte index to address byte (beside x s h regs)) (index_byte_beside index from address x s h regs memory)
    ∙ set_index_beside index to address (index_byte index from address regs memory) x s h regs
performed_beside (LoadFrom at) index instr x s h regs memory =
    ap (λ address. with_operand at (memory address) (beside x s h regs)) (address_beside index instr x s h regs)
    ∙ set_beside at (memory (indexed_address index instr regs)) x s h regs
performed_beside (StoreTo at) index instr x s h regs memory =
    ap (λ address. stored address (operand_byte at (beside x s h regs) memory) (beside x s h regs)) (address_beside index instr x s h regs)
    ∙ ap (λ byte. stored (indexed_address index instr regs) byte (beside x s h regs)) (byte_beside at x s h regs memory)
performed_beside (Calculate math from) index instr x s h regs memory =
    let address = indexed_address index instr regs in
    ap (λ at. quiet (calculated math (index_byte index from at (beside x s h regs) memory) (beside x s h regs))) (address_beside index instr x s h regs)
    ∙ ap (λ byte. quiet (calculated math byte (beside x s h regs))) (index_byte_beside index from address x s h regs memory)
    ∙ calculated_beside math (index_byte index from address regs memory) x s h regs

index_by_beside : (form : Option IndexForm) (index : IndexRegister) (instr : Instr) (x : ℕ) (s h : Bool) (regs : Regs) (memory : ℕ → ℕ)
    → index_by form index instr (beside x s h regs) memory ≡ outcome_beside x s h (index_by form index instr regs memory)
index_by_beside None index instr x s h regs memory = refl
index_by_beside (Some form) index instr x s h regs memory = performed_beside form index instr x s h (behind instr.length regs) memory

index_beside : (index : IndexRegister) (instr : Instr) (x : ℕ) (s h : Bool) (regs : Regs) (memory : ℕ → ℕ)
    → index_outcome index instr (beside x s h regs) memory ≡ outcome_beside x s h (index_outcome index instr regs memory)
unfolding index_outcome
index_beside index instr x s h regs memory = index_by_beside (index_form_of instr.opcode) index instr x s h regs memory

index_bits_by_beside : (form : Option BitForm) (index : IndexRegister) (instr : Instr) (x : ℕ) (s h : Bool) (regs : Regs) (memory : ℕ → ℕ)
    → index_bits_by form index instr (beside x s h regs) memory ≡ outcome_beside x s h (index_bits_by form index instr regs memory)
index_bits_by_beside None index instr x s h regs memory = refl
index_bits_by_beside (Some form) index instr x s h regs memory =
    ap (λ address. memory_bits form address (memory address) (beside x s h (behind instr.length regs))) (address_beside index instr x s h regs)
    ∙ memory_bits_beside form (indexed_address index instr regs) _ x s h (behind instr.length regs)

index_bits_beside : (index : IndexRegister) (instr : Instr) (x : ℕ) (s h : Bool) (regs : Regs) (memory : ℕ → ℕ)
    → index_bits_outcome index instr (beside x s h regs) memory ≡ outcome_beside x s h (index_bits_outcome index instr regs memory)
unfolding index_bits_outcome
index_bits_beside index instr x s h regs memory = index_bits_by_beside (indexed_bit_form_of instr.opcode) index instr x s h regs memory

-- the instructions of a pair after EDh

carried_beside : (p : Pair) (x : ℕ) (s h : Bool) (regs : Regs) → quiet (pair_added_with_carry p (beside x s h regs)) ≡ outcome_beside x s h (quiet (pair_added_with_carry p regs))
carried_beside pair.BC x s h regs = refl
carried_beside pair.DE x s h regs = refl
carried_beside pair.HL x s h regs = refl
carried_beside pair.SP x s h regs = refl

subtracted_beside : (p : Pair) (x : ℕ) (s h : Bool) (regs : Regs) → quiet (pair_subtracted p (beside x s h regs)) ≡ outcome_beside x s h (quiet (pair_subtracted p regs))
subtracted_beside pair.BC x s h regs = refl
subtracted_beside pair.DE x s h regs = refl
subtracted_beside pair.HL x s h regs = refl
subtracted_beside pair.SP x s h regs = refl

pair_performed_beside : (form : Option ExtendedForm) (instr : Instr) (x : ℕ) (s h : Bool) (regs : Regs) (memory ports : ℕ → ℕ) → is_of_pair form ≡ true
    → extended_by form instr (beside x s h regs) memory ports ≡ outcome_beside x s h (extended_by form instr regs memory ports)
unfolding extended_performed
pair_performed_beside None instr x s h regs memory ports plain = refl
pair_performed_beside (Some (extended.AddPair p)) instr x s h regs memory ports plain = carried_beside p x s h (behind instr.length regs)
pair_performed_beside (Some (extended.SubtractPair p)) instr x s h regs memory ports plain = subtracted_beside p x s h (behind instr.length regs)
pair_performed_beside (Some (extended.StorePair p)) instr x s h regs memory ports plain =
    ap (λ word. word_stored instr.operand word (beside x s h (behind instr.length regs))) (word_beside p x s h (behind instr.length regs))
pair_performed_beside (Some (extended.LoadPair p)) instr x s h regs memory ports plain =
    ap quiet (pair_beside p (word_from memory instr.operand) x s h (behind instr.length regs))
pair_performed_beside (Some (extended.Input at)) instr x s h regs memory ports plain = absurd (cc)
pair_performed_beside (Some (extended.Output at)) instr x s h regs memory ports plain = absurd (cc)
pair_performed_beside (Some extended.Negate) instr x s h regs memory ports plain = absurd (cc)
pair_performed_beside (Some extended.ReturnNonmaskable) instr x s h regs memory ports plain = absurd (cc)
pair_performed_beside (Some extended.ReturnInterrupt) instr x s h regs memory ports plain = absurd (cc)
pair_performed_beside (Some (extended.Mode mode)) instr x s h regs memory ports plain = absurd (cc)
pair_performed_beside (Some extended.StoreI) instr x s h regs memory ports plain = absurd (cc)
pair_performed_beside (Some extended.StoreR) instr x s h regs memory ports plain = absurd (cc)
pair_performed_beside (Some extended.LoadI) instr x s h regs memory ports plain = absurd (cc)
pair_performed_beside (Some extended.LoadR) instr x s h regs memory ports plain = absurd (cc)
pair_performed_beside (Some extended.RotateRight) instr x s h regs memory ports plain = absurd (cc)
pair_performed_beside (Some extended.RotateLeft) instr x s h regs memory ports plain = absurd (cc)
pair_performed_beside (Some (extended.Block transfer direction repeats)) instr x s h regs memory ports plain = absurd (cc)

pair_outcome_beside : (instr : Instr) (x : ℕ) (s h : Bool) (regs : Regs) (memory ports : ℕ → ℕ) → is_plain_on page.Ed instr.opcode ≡ true
    → extended_outcome instr (beside x s h regs) memory ports ≡ outcome_beside x s h (extended_outcome instr regs memory ports)
unfolding extended_outcome
pair_outcome_beside instr x s h regs memory ports plain = pair_performed_beside (extended_form_of instr.opcode) instr x s h regs memory ports plain

-- a plain instruction of any page

main_outcome_beside : (instr : Instr) (x : ℕ) (s h : Bool) (regs : Regs) (memory ports : ℕ → ℕ) → is_plain_on page.Main instr.opcode ≡ true
    → main_outcome instr (beside x s h regs) memory ports ≡ outcome_beside x s h (main_outcome instr regs memory ports)
unfolding main_outcome
main_outcome_beside instr x s h regs memory ports plain = main_beside (form_of instr.opcode) instr x s h regs memory ports plain

page_beside : (p : Page) (instr : Instr) (x : ℕ) (s h : Bool) (regs : Regs) (memory ports : ℕ → ℕ) → is_plain_on p instr.opcode ≡ true
    → page_outcome p instr (beside x s h regs) memory ports ≡ outcome_beside x s h (page_outcome p instr regs memory ports)
page_beside page.Main instr x s h regs memory ports plain = main_outcome_beside instr x s h regs memory ports plain
page_beside page.Cb instr x s h regs memory ports plain = bits_beside instr x s h regs memory
page_beside page.Ed instr x s h regs memory ports plain = pair_outcome_beside instr x s h regs memory ports plain
page_beside page.Ix instr x s h regs memory ports plain = index_beside Ix instr x s h regs memory
page_beside page.Iy instr x s h regs memory ports plain = index_beside Iy instr x s h regs memory
page_beside page.IxCb instr x s h regs memory ports plain = index_bits_beside Ix instr x s h regs memory
page_beside page.IyCb instr x s h regs memory ports plain = index_bits_beside Iy instr x s h regs memory

pub plain_beside : (instr : Option Instr) (x : ℕ) (s h : Bool) (regs : Regs) (memory ports : ℕ → ℕ) → is_plain_instr instr ≡ true
    → unbegun_of instr (beside x s h regs) memory ports ≡ outcome_beside x s h (unbegun_of instr regs memory ports)
plain_beside None x s h regs memory ports plain = refl
plain_beside (Some instr) x s h regs memory ports plain = page_beside instr.page instr x s h regs memory ports plain
