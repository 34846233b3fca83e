-- What the instructions after the prefixes do to a bus has its width, where the registers, the operand and what is read
-- have theirs.
use Rattle.std.proofs.Common.{ℕ, ◌<◌, ◌-◌, ◌/◌, ◌%◌, ◌==◌, Option, None, Some, Bool, true, false, rules, arith}
use Rattle.std.specs.Prelude.{All, if◌then◌else◌, nat_lt, not, ◌&&◌}
use Rattle.std.proofs.Math.Pow.{pow-lt}
use Rattle.std.proofs.lemmas.Nat.{and_le_l, or_of_8}
use Rattle.std.proofs.lemmas.List.Elements.{All-nil, All-cons}
use Rattle.std.proofs.lemmas.Grind.{common_steps}
use Rattle.z80_regs.specs.Outcome.{Input, StepOutcome}
use Rattle.z80_regs.specs.Ranges.{RegistersFit, ReadsBytes, ActionFits}
use Rattle.z80_regs.specs.declared.regs.Regs.{Regs}
use Rattle.z80_alu.specs.Flags.{has}
use Rattle.z80_alu.specs.Single.{byte_flags}
use Rattle.z80_alu.proofs.Ranges.{rotated_fits}
use Rattle.z80_decode.specs.declared.instr.Instr.{Instr}
use Rattle.z80_decode.specs.declared.forms.Operand.{Operand}
use Rattle.z80_decode.specs.declared.forms.Operand.TheVariants as operand
use Rattle.z80_decode.specs.declared.forms.Pair.{Pair}
use Rattle.z80_decode.specs.declared.forms.Pair.TheVariants.{BC, DE, HL, SP}
use Rattle.z80_decode.specs.declared.page_forms.BitChange.{BitChange}
use Rattle.z80_decode.specs.declared.page_forms.BitChange.TheVariants as change
use Rattle.z80_decode.specs.declared.page_forms.BitForm.{BitForm}
use Rattle.z80_decode.specs.declared.page_forms.BitForm.TheVariants.{Test, Change}
use Rattle.z80_decode.specs.declared.page_forms.Transfer.{Transfer}
use Rattle.z80_decode.specs.declared.page_forms.Transfer.TheVariants as transfer
use Rattle.z80_decode.specs.declared.page_forms.Direction.{Direction}
use Rattle.z80_decode.specs.declared.page_forms.ExtendedForm.{ExtendedForm}
use Rattle.z80_decode.specs.declared.page_forms.ExtendedForm.TheVariants as extended
use Rattle.z80_decode.specs.declared.page_forms.IndexForm.{IndexForm}
use Rattle.z80_decode.specs.declared.page_forms.IndexForm.TheVariants as index
use Rattle.z80_decode.specs.Fields.{operand_of}
use Rattle.z80_decode.specs.PageOpcodes.{bit_form_of, indexed_bit_form_of, extended_form_of, index_form_of}
use Rattle.z80_exec.specs.Operands.{stored, hl_of, pair_word, operand_byte, with_operand}
use Rattle.z80_exec.specs.StackPairs.{pushed}
use Rattle.z80_exec.specs.Performing.{behind}
use Rattle.z80_exec.proofs.Ranges.{hl_fits, byte_fits, set_fits, word_fits, top_fits, behind_fits}
use Rattle.z80_ext.specs.declared.index.IndexRegister.{IndexRegister}
use Rattle.z80_ext.specs.declared.index.IndexRegister.TheVariants.{Ix, Iy}
use Rattle.z80_ext.specs.Bits.{kind_of, changed_byte, bits_changed, operand_bits, memory_bits, bits_outcome}
use Rattle.z80_ext.specs.Block.{after_input, port_repeated, block_performed}
use Rattle.z80_ext.specs.Extended.{extended_performed, extended_by, extended_outcome}
use Rattle.z80_ext.specs.Index.{index_word, index_byte, with_index_byte, indexed_address, index_performed, index_by, index_outcome, index_bits_by, index_bits_outcome}

-- a choice of two
pub choice_fits : {X : Type 0} (P : X → Type 0) (test : Bool) (one other : X) → P one → P other →
    P (if test then one else other)
choice_fits P true one other fits _ = fits
choice_fits P false one other _ fits = fits

-- a byte that is written
stored_fits : (address byte : ℕ) (regs : Regs) → address < 65536 → byte < 256 →
    All ActionFits (stored address byte regs).actions
stored_fits address byte regs small other = search (rules, common_steps)

-- a word that is pushed
pushed_fits : (word : ℕ) (regs : Regs) → word < 65536 → All ActionFits (pushed word regs)
pushed_fits word regs small = search (rules, common_steps)

-- the word in a pair
pair_fits : (pair : Pair) (regs : Regs) → RegistersFit regs → pair_word pair regs < 65536
pair_fits BC regs fit = omega (arith, fit.b, fit.c)
pair_fits DE regs fit = omega (arith, fit.d, fit.e)
pair_fits HL regs fit = hl_fits regs fit
pair_fits SP regs fit = fit.sp

-- the weight that SET has
abbrev WeightFits : BitChange → Type 0
WeightFits (change.Rotate shift) = Unit
WeightFits (change.Reset weight) = Unit
WeightFits (change.Set weight) = weight < 256

abbrev BitFormFits : BitForm → Type 0
BitFormFits (Test weight) = Unit
BitFormFits (Change change) = WeightFits change

bit_form_fits : (opcode : ℕ) → BitFormFits (bit_form_of opcode)
unfolding bit_form_of
bit_form_fits opcode =
    choice_fits BitFormFits (opcode / 64 == 0) (Change (change.Rotate _)) _ tt
    (choice_fits BitFormFits (opcode / 64 == 1) (Test _) _ tt
    (choice_fits BitFormFits (opcode / 64 == 2) (Change (change.Reset _)) (Change (change.Set _)) tt
    (pow-lt {i = opcode / 8 % 8} {j = 8} (omega arith))))

-- a byte that a rotation, a shift, RES or SET makes of a byte
changed_fits : (change : BitChange) (byte f : ℕ) → WeightFits change → byte < 256 → changed_byte change byte f < 256
changed_fits (change.Rotate shift) byte f weighs small = rotated_fits (kind_of shift) byte (has f 1) small
changed_fits (change.Reset weight) byte f weighs small = omega (arith, and_le_l byte (255 - weight))
changed_fits (change.Set weight) byte f weighs small = or_of_8 byte weight small weighs

operand_bits_fit : (form : BitForm) (operand : Operand) (byte : ℕ) (regs : Regs) → RegistersFit regs →
    BitFormFits form → byte < 256 → All ActionFits (operand_bits form operand byte regs).actions
operand_bits_fit (Test weight) operand byte regs fit weighs small = All-nil ActionFits
operand_bits_fit (Change change) operand byte regs fit weighs small =
    set_fits operand (changed_byte change byte regs.f) (bits_changed change byte regs) (hl_fits regs fit)
    (changed_fits change byte regs.f weighs small)

memory_bits_fit : (form : BitForm) (address byte : ℕ) (regs : Regs) → address < 65536 → BitFormFits form →
    byte < 256 → All ActionFits (memory_bits form address byte regs).actions
memory_bits_fit (Test weight) address byte regs near weighs small = All-nil ActionFits
memory_bits_fit (Change change) address byte regs near weighs small =
    stored_fits address (changed_byte change byte regs.f) (bits_changed change byte regs) near
    (changed_fits change byte regs.f weighs small)

-- after CBh
pub bits_fit : (instr : Instr) (regs : Regs) (memory : ℕ → ℕ) → RegistersFit regs → ReadsBytes 65536 memory →
    All ActionFits (bits_outcome instr regs memory).actions
unfolding bits_outcome
bits_fit instr regs memory fit reads =
    operand_bits_fit (bit_form_of instr.opcode) (operand_of (instr.opcode % 8))
    (operand_byte (operand_of (instr.opcode % 8)) regs memory) (behind instr.length regs)
    (behind_fits instr.length regs fit) (bit_form_fits instr.opcode)
    (byte_fits (operand_of (instr.opcode % 8)) regs memory fit reads)

-- what is done after the reading of a port
input_fits : (port : ℕ) (outcome : StepOutcome) → port < 256 → All ActionFits outcome.actions →
    All ActionFits (after_input port outcome).actions
input_fits port outcome small fits = All-cons ActionFits (Input port) outcome.actions small fits

-- one step of a block instruction
block_fits : (kind : Transfer) (direction : Direction) (repeats : Bool) (regs : Regs) (memory ports : ℕ → ℕ) →
    RegistersFit regs → ReadsBytes 65536 memory → ReadsBytes 256 ports →
    All ActionFits (block_performed kind direction repeats regs memory ports).actions
block_fits transfer.Load direction repeats regs memory ports fit reads takes =
    stored_fits (pair_word DE regs) (memory (hl_of regs)) regs (pair_fits DE regs fit) (reads (hl_of regs) (hl_fits regs fit))
block_fits transfer.Compare direction repeats regs memory ports fit reads takes = All-nil ActionFits
block_fits transfer.Input direction repeats regs memory ports fit reads takes =
    input_fits regs.c (stored (hl_of regs) (ports regs.c) (port_repeated direction repeats regs)) fit.c
    (stored_fits (hl_of regs) (ports regs.c) regs (hl_fits regs fit) (takes regs.c fit.c))
block_fits transfer.Output direction repeats regs memory ports fit reads takes = All-nil ActionFits

-- after EDh
extended_performed_fits : (form : ExtendedForm) (instr : Instr) (regs : Regs) (memory ports : ℕ → ℕ) →
    RegistersFit regs → instr.operand < 65536 → ReadsBytes 65536 memory → ReadsBytes 256 ports →
    All ActionFits (extended_performed form instr regs memory ports).actions
unfolding extended_performed
extended_performed_fits (extended.Input operand) instr regs memory ports fit small reads takes =
    let flagged = record regs { f = byte_flags (ports regs.c) regs.f } in
    input_fits regs.c (with_operand operand (ports regs.c) flagged) fit.c
    (set_fits operand (ports regs.c) flagged (hl_fits regs fit) (takes regs.c fit.c))
extended_performed_fits (extended.Output operand) instr regs memory ports fit small reads takes = All-nil ActionFits
extended_performed_fits (extended.SubtractPair pair) instr regs memory ports fit small reads takes = All-nil ActionFits
extended_performed_fits (extended.AddPair pair) instr regs memory ports fit small reads takes = All-nil ActionFits
extended_performed_fits (extended.StorePair pair) instr regs memory ports fit small reads takes =
    word_fits instr.operand (pair_word pair regs) small (pair_fits pair regs fit)
extended_performed_fits (extended.LoadPair pair) instr regs memory ports fit small reads takes = All-nil ActionFits
extended_performed_fits extended.Negate instr regs memory ports fit small reads takes = All-nil ActionFits
extended_performed_fits extended.ReturnNonmaskable instr regs memory ports fit small reads takes = All-nil ActionFits
extended_performed_fits extended.ReturnInterrupt instr regs memory ports fit small reads takes = All-nil ActionFits
extended_performed_fits (extended.Mode mode) instr regs memory ports fit small reads takes = All-nil ActionFits
extended_performed_fits extended.StoreI instr regs memory ports fit small reads takes = All-nil ActionFits
extended_performed_fits extended.StoreR instr regs memory ports fit small reads takes = All-nil ActionFits
extended_performed_fits extended.LoadI instr regs memory ports fit small reads takes = All-nil ActionFits
extended_performed_fits extended.LoadR instr regs memory ports fit small reads takes = All-nil ActionFits
extended_performed_fits extended.RotateRight instr regs memory ports fit small reads takes =
    stored_fits (hl_of regs) _ regs (hl_fits regs fit) (omega (arith, reads (hl_of regs) (hl_fits regs fit)))
extended_performed_fits extended.RotateLeft instr regs memory ports fit small reads takes =
    stored_fits (hl_of regs) _ regs (hl_fits regs fit) (omega arith)
extended_performed_fits (extended.Block kind direction repeats) instr regs memory ports fit small reads takes =
    block_fits kind direction repeats regs memory ports fit reads takes

extended_by_fits : (form : Option ExtendedForm) (instr : Instr) (regs : Regs) (memory ports : ℕ → ℕ) →
    RegistersFit regs → instr.operand < 65536 → ReadsBytes 65536 memory → ReadsBytes 256 ports →
    All ActionFits (extended_by form instr regs memory ports).actions
extended_by_fits None instr regs memory ports fit small reads takes = All-nil ActionFits
extended_by_fits (Some form) instr regs memory ports fit small reads takes =
    extended_performed_fits form instr (behind instr.length regs) memory ports (behind_fits instr.length regs fit)
    small reads takes

pub extended_fits : (instr : Instr) (regs : Regs) (memory ports : ℕ → ℕ) → RegistersFit regs →
    instr.operand < 65536 → ReadsBytes 65536 memory → ReadsBytes 256 ports →
    All ActionFits (extended_outcome instr regs memory ports).actions
unfolding extended_outcome
extended_fits instr regs memory ports fit small reads takes =
    extended_by_fits (extended_form_of instr.opcode) instr regs memory ports fit small reads takes

-- IX or IY
index_word_fits : (register : IndexRegister) (regs : Regs) → RegistersFit regs → index_word register regs < 65536
index_word_fits Ix regs fit = fit.ix
index_word_fits Iy regs fit = fit.iy

-- IX+d or IY+d
address_fits : (register : IndexRegister) (instr : Instr) (regs : Regs) → indexed_address register instr regs < 65536
address_fits register instr regs =
    choice_fits (λ address. address < 65536) (nat_lt instr.displacement 128) _ _ (omega arith) (omega arith)

-- the byte of an operand
index_byte_fits : (register : IndexRegister) (at : Operand) (address : ℕ) (regs : Regs) (memory : ℕ → ℕ) →
    RegistersFit regs → address < 65536 → ReadsBytes 65536 memory → index_byte register at address regs memory < 256
index_byte_fits register operand.B address regs memory fit near reads = fit.b
index_byte_fits register operand.C address regs memory fit near reads = fit.c
index_byte_fits register operand.D address regs memory fit near reads = fit.d
index_byte_fits register operand.E address regs memory fit near reads = fit.e
index_byte_fits register operand.H address regs memory fit near reads = omega (arith, index_word_fits register regs fit)
index_byte_fits register operand.L address regs memory fit near reads = omega arith
index_byte_fits register operand.Memory address regs memory fit near reads = reads address near
index_byte_fits register operand.A address regs memory fit near reads = fit.a

-- a byte that goes to an operand
index_set_fits : (register : IndexRegister) (at : Operand) (address byte : ℕ) (regs : Regs) → address < 65536 →
    byte < 256 → All ActionFits (with_index_byte register at address byte regs).actions
index_set_fits register operand.B address byte regs near small = All-nil ActionFits
index_set_fits register operand.C address byte regs near small = All-nil ActionFits
index_set_fits register operand.D address byte regs near small = All-nil ActionFits
index_set_fits register operand.E address byte regs near small = All-nil ActionFits
index_set_fits register operand.H address byte regs near small = All-nil ActionFits
index_set_fits register operand.L address byte regs near small = All-nil ActionFits
index_set_fits register operand.Memory address byte regs near small = stored_fits address byte regs near small
index_set_fits register operand.A address byte regs near small = All-nil ActionFits

-- after DDh and FDh
index_performed_fits : (form : IndexForm) (register : IndexRegister) (instr : Instr) (regs : Regs) (memory : ℕ → ℕ) →
    RegistersFit regs → instr.operand < 65536 → ReadsBytes 65536 memory →
    All ActionFits (index_performed form register instr regs memory).actions
unfolding index_performed
index_performed_fits (index.AddPair pair) register instr regs memory fit small reads = All-nil ActionFits
index_performed_fits index.LoadNumber register instr regs memory fit small reads = All-nil ActionFits
index_performed_fits index.Store register instr regs memory fit small reads =
    word_fits instr.operand (index_word register regs) small (index_word_fits register regs fit)
index_performed_fits index.Load register instr regs memory fit small reads = All-nil ActionFits
index_performed_fits index.Increment register instr regs memory fit small reads = All-nil ActionFits
index_performed_fits index.Decrement register instr regs memory fit small reads = All-nil ActionFits
index_performed_fits (index.IncrementByte at) register instr regs memory fit small reads =
    index_set_fits register at (indexed_address register instr regs) _ _ (address_fits register instr regs) (omega arith)
index_performed_fits (index.DecrementByte at) register instr regs memory fit small reads =
    index_set_fits register at (indexed_address register instr regs) _ _ (address_fits register instr regs) (omega arith)
index_performed_fits (index.LoadByte to) register instr regs memory fit small reads =
    index_set_fits register to (indexed_address register instr regs) _ regs (address_fits register instr regs) (omega arith)
index_performed_fits (index.LoadHalf to from) register instr regs memory fit small reads =
    index_set_fits register to (indexed_address register instr regs) _ regs (address_fits register instr regs)
    (index_byte_fits register from (indexed_address register instr regs) regs memory fit
    (address_fits register instr regs) reads)
index_performed_fits (index.LoadFrom operand) register instr regs memory fit small reads =
    set_fits operand _ regs (hl_fits regs fit)
    (reads (indexed_address register instr regs) (address_fits register instr regs))
index_performed_fits (index.StoreTo operand) register instr regs memory fit small reads =
    stored_fits (indexed_address register instr regs) _ regs (address_fits register instr regs)
    (byte_fits operand regs memory fit reads)
index_performed_fits (index.Calculate math from) register instr regs memory fit small reads = All-nil ActionFits
index_performed_fits index.Pop register instr regs memory fit small reads = All-nil ActionFits
index_performed_fits index.ExchangeStack register instr regs memory fit small reads =
    top_fits (index_word register regs) regs fit (index_word_fits register regs fit)
index_performed_fits index.Push register instr regs memory fit small reads =
    pushed_fits (index_word register regs) regs (index_word_fits register regs fit)
index_performed_fits index.Jump register instr regs memory fit small reads = All-nil ActionFits
index_performed_fits index.LoadSp register instr regs memory fit small reads = All-nil ActionFits

index_by_fits : (form : Option IndexForm) (register : IndexRegister) (instr : Instr) (regs : Regs) (memory : ℕ → ℕ) →
    RegistersFit regs → instr.operand < 65536 → ReadsBytes 65536 memory →
    All ActionFits (index_by form register instr regs memory).actions
index_by_fits None register instr regs memory fit small reads = All-nil ActionFits
index_by_fits (Some form) register instr regs memory fit small reads =
    index_performed_fits form register instr (behind instr.length regs) memory (behind_fits instr.length regs fit)
    small reads

pub index_fits : (register : IndexRegister) (instr : Instr) (regs : Regs) (memory : ℕ → ℕ) → RegistersFit regs →
    instr.operand < 65536 → ReadsBytes 65536 memory →
    All ActionFits (index_outcome register instr regs memory).actions
unfolding index_outcome
index_fits register instr regs memory fit small reads =
    index_by_fits (index_form_of instr.opcode) register instr regs memory fit small reads

-- after DDh CBh and FDh CBh
abbrev IndexedBitFormFits : Option BitForm → Type 0
IndexedBitFormFits None = Unit
IndexedBitFormFits (Some form) = BitFormFits form

indexed_bit_form_fits : (opcode : ℕ) → IndexedBitFormFits (indexed_bit_form_of opcode)
unfolding indexed_bit_form_of
indexed_bit_form_fits opcode =
    choice_fits IndexedBitFormFits (opcode % 8 == 6 && not (opcode == 0x36)) (Some (bit_form_of opcode)) None
    (bit_form_fits opcode) tt

index_bits_by_fits : (form : Option BitForm) (register : IndexRegister) (instr : Instr) (regs : Regs)
    (memory : ℕ → ℕ) → IndexedBitFormFits form → ReadsBytes 65536 memory →
    All ActionFits (index_bits_by form register instr regs memory).actions
index_bits_by_fits None register instr regs memory weighs reads = All-nil ActionFits
index_bits_by_fits (Some form) register instr regs memory weighs reads =
    memory_bits_fit form (indexed_address register instr regs) (memory (indexed_address register instr regs))
    (behind instr.length regs) (address_fits register instr regs) weighs
    (reads (indexed_address register instr regs) (address_fits register instr regs))

pub index_bits_fit : (register : IndexRegister) (instr : Instr) (regs : Regs) (memory : ℕ → ℕ) →
    ReadsBytes 65536 memory → All ActionFits (index_bits_outcome register instr regs memory).actions
unfolding index_bits_outcome
index_bits_fit register instr regs memory reads =
    index_bits_by_fits (indexed_bit_form_of instr.opcode) register instr regs memory (indexed_bit_form_fits instr.opcode) reads
