-- What the instructions after DDh and FDh do: IX or IY stands for HL, its halves for H and L, and (IX+d) or (IY+d) for
-- (HL). (UM0080, "Z80 Instruction Description", "Indexed Addressing"; for the halves "The Undocumented Z80 Documented".)
use Rattle.std.specs.Prelude.{ℕ, ◌==◌, if◌then◌else◌, false, Option, None, Some}
use Rattle.z80_regs.specs.Words.{onward, back, word_of, low, high, word_from}
use Rattle.z80_regs.specs.Outcome.{StepOutcome}
use Rattle.z80_regs.specs.declared.regs.Regs.{Regs}
use Rattle.z80_alu.specs.Bytes.{sum_of, difference_of, increment_flags, decrement_flags}
use Rattle.z80_alu.specs.Pairs.{word_sum_of, word_add_flags}
use Rattle.z80_decode.specs.declared.instr.Instr.{Instr}
use Rattle.z80_decode.specs.declared.instr.Page.{Page}
use Rattle.z80_decode.specs.declared.instr.Page.TheVariants as page
use Rattle.z80_decode.specs.declared.forms.Pair.{Pair}
use Rattle.z80_decode.specs.declared.forms.Pair.TheVariants.{BC, DE, HL, SP}
use Rattle.z80_decode.specs.declared.forms.Operand.{Operand}
use Rattle.z80_decode.specs.declared.forms.Operand.TheVariants as operand
use Rattle.z80_decode.specs.declared.page_forms.BitForm.{BitForm}
use Rattle.z80_decode.specs.declared.page_forms.IndexForm.{IndexForm}
use Rattle.z80_decode.specs.declared.page_forms.IndexForm.TheVariants.{AddPair, LoadNumber, Store, Load, Increment, Decrement, IncrementByte, DecrementByte, LoadByte, LoadHalf, LoadFrom, StoreTo, Calculate, Pop, ExchangeStack, Push, Jump, LoadSp}
use Rattle.z80_decode.specs.PageOpcodes.{indexed_bit_form_of, index_form_of}
use Rattle.z80_exec.specs.Operands.{quiet, stored, pair_word, operand_byte, with_operand}
use Rattle.z80_exec.specs.Loads.{word_stored, top_replaced, word_pushed}
use Rattle.z80_exec.specs.Calculations.{calculated}
use Rattle.z80_exec.specs.Flow.{relative}
use Rattle.z80_exec.specs.Performing.{behind, number}
use Rattle.z80_ext.specs.declared.index.IndexRegister.{IndexRegister}
use Rattle.z80_ext.specs.declared.index.IndexRegister.TheVariants.{Ix, Iy}
use Rattle.z80_ext.specs.Bits.{memory_bits}

-- the register that stands for HL after DDh or FDh
abbrev pub index_behind : ℕ → IndexRegister
index_behind prefix = if prefix == 253 then Iy else Ix

-- the page after its prefix, DDh or FDh
abbrev pub page_of : IndexRegister → Page
page_of Ix = page.Ix
page_of Iy = page.Iy

-- the page after DDh CBh or FDh CBh
abbrev pub bits_page_of : IndexRegister → Page
bits_page_of Ix = page.IxCb
bits_page_of Iy = page.IyCb

-- IX or IY
abbrev pub index_word : IndexRegister → Regs → ℕ
index_word Ix regs = regs.ix
index_word Iy regs = regs.iy

-- the registers with a word in it
abbrev pub with_index : IndexRegister → ℕ → Regs → Regs
with_index Ix word regs = record regs { ix = word }
with_index Iy word regs = record regs { iy = word }

-- the word in a pair, where it stands for HL
abbrev pub index_pair_word : IndexRegister → Pair → Regs → ℕ
index_pair_word index BC regs = pair_word BC regs
index_pair_word index DE regs = pair_word DE regs
index_pair_word index HL regs = index_word index regs
index_pair_word index SP regs = pair_word SP regs

-- IX+d or IY+d: a displacement of 80h or more is negative, 256 less
abbrev pub indexed_address : IndexRegister → Instr → Regs → ℕ
indexed_address index instr regs = relative (index_word index regs) instr.displacement

-- ADD IX,pp
abbrev pub index_added : IndexRegister → Pair → Regs → Regs
index_added index pair regs =
    let one = index_word index regs in
    let other = index_pair_word index pair regs in
    record (with_index index (word_sum_of one other false) regs) { f = word_add_flags one other regs.f }

-- the byte of an operand, with IX+d or IY+d
abbrev pub index_byte : IndexRegister → Operand → ℕ → Regs → (ℕ → ℕ) → ℕ
index_byte index operand.H address regs memory = high (index_word index regs)
index_byte index operand.L address regs memory = low (index_word index regs)
index_byte index operand.Memory address regs memory = memory address
index_byte index other address regs memory = operand_byte other regs memory

-- a byte in an operand
abbrev pub with_index_byte : IndexRegister → Operand → ℕ → ℕ → Regs → StepOutcome
with_index_byte index operand.H address byte regs =
    quiet (with_index index (word_of (low (index_word index regs)) byte) regs)
with_index_byte index operand.L address byte regs =
    quiet (with_index index (word_of byte (high (index_word index regs))) regs)
with_index_byte index operand.Memory address byte regs = stored address byte regs
with_index_byte index other address byte regs = with_operand other byte regs

-- INC and DEC of an operand whose byte is known
abbrev pub byte_incremented : IndexRegister → Operand → ℕ → ℕ → Regs → StepOutcome
byte_incremented index operand address byte regs =
    with_index_byte index operand address (sum_of byte 1 false) (record regs { f = increment_flags byte regs.f })

abbrev pub byte_decremented : IndexRegister → Operand → ℕ → ℕ → Regs → StepOutcome
byte_decremented index operand address byte regs =
    with_index_byte index operand address (difference_of byte 1 false) (record regs { f = decrement_flags byte regs.f })

-- EX (SP),IX
abbrev pub index_exchanged : IndexRegister → Regs → (ℕ → ℕ) → StepOutcome
index_exchanged index regs memory = record {
  registers = with_index index (word_from memory regs.sp) regs;
  actions = top_replaced (index_word index regs) regs;
}

-- PUSH IX
abbrev pub index_pushed : IndexRegister → Regs → StepOutcome
index_pushed index regs = word_pushed (index_word index regs) regs

-- POP IX
abbrev pub index_popped : IndexRegister → Regs → (ℕ → ℕ) → Regs
index_popped index regs memory = with_index index (word_from memory regs.sp) (record regs { sp = onward regs.sp 2 })

-- a form's instruction; the loads between H or L and (IX+d) or (IY+d) are of H and L themselves
unfoldable pub index_performed : IndexForm → IndexRegister → Instr → Regs → (ℕ → ℕ) → StepOutcome
index_performed (AddPair pair) index instr regs memory = quiet (index_added index pair regs)
index_performed LoadNumber index instr regs memory = quiet (with_index index instr.operand regs)
index_performed Store index instr regs memory = word_stored instr.operand (index_word index regs) regs
index_performed Load index instr regs memory = quiet (with_index index (word_from memory instr.operand) regs)
index_performed Increment index instr regs memory =
    quiet (with_index index (onward (index_word index regs) 1) regs)
index_performed Decrement index instr regs memory = quiet (with_index index (back (index_word index regs) 1) regs)
index_performed (IncrementByte at) index instr regs memory =
    let address = indexed_address index instr regs in
    byte_incremented index at address (index_byte index at address regs memory) regs
index_performed (DecrementByte at) index instr regs memory =
    let address = indexed_address index instr regs in
    byte_decremented index at address (index_byte index at address regs memory) regs
index_performed (LoadByte to) index instr regs memory =
    with_index_byte index to (indexed_address index instr regs) (number instr) regs
index_performed (LoadHalf to from) index instr regs memory =
    let address = indexed_address index instr regs in
    with_index_byte index to address (index_byte index from address regs memory) regs
index_performed (LoadFrom operand) index instr regs memory =
    with_operand operand (memory (indexed_address index instr regs)) regs
index_performed (StoreTo operand) index instr regs memory =
    stored (indexed_address index instr regs) (operand_byte operand regs memory) regs
index_performed (Calculate math from) index instr regs memory =
    quiet (calculated math (index_byte index from (indexed_address index instr regs) regs memory) regs)
index_performed Pop index instr regs memory = quiet (index_popped index regs memory)
index_performed ExchangeStack index instr regs memory = index_exchanged index regs memory
index_performed Push index instr regs memory = index_pushed index regs
index_performed Jump index instr regs memory = quiet (record regs { pc = index_word index regs })
index_performed LoadSp index instr regs memory = quiet (record regs { sp = index_word index regs })

-- an instruction by its form
abbrev pub index_by : Option IndexForm → IndexRegister → Instr → Regs → (ℕ → ℕ) → StepOutcome
index_by None index instr regs memory = quiet regs
index_by (Some form) index instr regs memory = index_performed form index instr (behind instr.length regs) memory

-- an instruction after DDh or FDh
unfoldable pub index_outcome : IndexRegister → Instr → Regs → (ℕ → ℕ) → StepOutcome
index_outcome index instr regs memory = index_by (index_form_of instr.opcode) index instr regs memory

-- an instruction after DDh CBh or FDh CBh by its form
abbrev pub index_bits_by : Option BitForm → IndexRegister → Instr → Regs → (ℕ → ℕ) → StepOutcome
index_bits_by None index instr regs memory = quiet regs
index_bits_by (Some form) index instr regs memory =
    let address = indexed_address index instr regs in
    memory_bits form address (memory address) (behind instr.length regs)

-- an instruction after DDh CBh or FDh CBh
unfoldable pub index_bits_outcome : IndexRegister → Instr → Regs → (ℕ → ℕ) → StepOutcome
index_bits_outcome index instr regs memory = index_bits_by (indexed_bit_form_of instr.opcode) index instr regs memory
