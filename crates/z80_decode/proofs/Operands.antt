-- What is decoded has its width, where the bytes have theirs.
use Rattle.std.proofs.Common.{ℕ, ◌<◌, ◌==◌, List, Option, None, Some, Bool, true, false, arith, slice_index}
use Rattle.std.specs.Prelude.{if◌then◌else◌}
use Rattle.z80_decode.specs.declared.instr.Instr.{Instr}
use Rattle.z80_decode.specs.declared.instr.Page.{Page}
use Rattle.z80_decode.specs.declared.instr.Page.TheVariants.{Main, Ed, Ix, Iy, IxCb, IyCb}
use Rattle.z80_decode.specs.declared.forms.Form.{Form}
use Rattle.z80_decode.specs.declared.forms.Tail.{Tail}
use Rattle.z80_decode.specs.declared.forms.Tail.TheVariants.{Nothing, Byte, Word, Displacement, DisplacementByte}
use Rattle.z80_decode.specs.declared.page_forms.BitForm.{BitForm}
use Rattle.z80_decode.specs.declared.page_forms.ExtendedForm.{ExtendedForm}
use Rattle.z80_decode.specs.declared.page_forms.IndexForm.{IndexForm}
use Rattle.z80_decode.specs.Opcodes.{form_of}
use Rattle.z80_decode.specs.PageOpcodes.{indexed_bit_form_of, extended_form_of, index_form_of}
use Rattle.z80_decode.specs.Decoding.{tail_of, extended_tail_of, index_tail_of, instr_with, bit_instr_of, extended_instr_by, index_instr_by, index_bit_instr_by, index_instr_of, prefixed_instr_of, main_instr_by, main_instr_of, main_or_prefixed, instr_of}

-- an operand has 16 bits, where there is an instruction
abbrev pub OperandFits : Option Instr → Type 0
OperandFits None = Unit
OperandFits (Some instr) = instr.operand < 65536

with_fits : (tail : Tail) (page : Page) (place opcode first second : ℕ) → first < 256 → second < 256 →
    (instr_with tail page place opcode first second).operand < 65536
with_fits Nothing page place opcode first second small other = omega arith
with_fits Byte page place opcode first second small other = omega arith
with_fits Word page place opcode first second small other = omega arith
with_fits Displacement page place opcode first second small other = omega arith
with_fits DisplacementByte page place opcode first second small other = omega arith

-- the instruction of either of two choices
either_fits : (test : Bool) (one other : Option Instr) → OperandFits one → OperandFits other →
    OperandFits (if test then one else other)
either_fits true one other fits _ = fits
either_fits false one other _ fits = fits

bits_fit : (opcode : ℕ) → OperandFits (Some (bit_instr_of opcode))
bits_fit opcode = omega arith

extended_fits : (form : Option ExtendedForm) (opcode first second : ℕ) → first < 256 → second < 256 →
    OperandFits (extended_instr_by form opcode first second)
extended_fits None opcode first second small other = tt
extended_fits (Some form) opcode first second small other =
    with_fits (extended_tail_of form) Ed 2 opcode first second small other

index_by_fits : (form : Option IndexForm) (page : Page) (opcode first second : ℕ) → first < 256 → second < 256 →
    OperandFits (index_instr_by form page opcode first second)
index_by_fits None page opcode first second small other = tt
index_by_fits (Some form) page opcode first second small other =
    with_fits (index_tail_of form) page 2 opcode first second small other

index_bits_fit : (form : Option BitForm) (page : Page) (displacement opcode : ℕ) →
    OperandFits (index_bit_instr_by form page displacement opcode)
index_bits_fit None page displacement opcode = tt
index_bits_fit (Some form) page displacement opcode = omega arith

index_fits : (page bits : Page) (second third fourth : ℕ) → third < 256 → fourth < 256 →
    OperandFits (index_instr_of page bits second third fourth)
unfolding index_instr_of
index_fits page bits second third fourth small other =
    either_fits (second == 203) (index_bit_instr_by (indexed_bit_form_of fourth) bits third fourth)
    (index_instr_by (index_form_of second) page second third fourth)
    (index_bits_fit (indexed_bit_form_of fourth) bits third fourth)
    (index_by_fits (index_form_of second) page second third fourth small other)

prefixed_fits : (bytes : List ℕ) → slice_index bytes 2 < 256 → slice_index bytes 3 < 256 →
    OperandFits (prefixed_instr_of bytes)
unfolding prefixed_instr_of
prefixed_fits bytes small other =
    let second = slice_index bytes 1 in
    let third = slice_index bytes 2 in
    let fourth = slice_index bytes 3 in
    either_fits (slice_index bytes 0 == 203) _ _ (bits_fit second)
    (either_fits (slice_index bytes 0 == 237) _ _ (extended_fits (extended_form_of second) second third fourth small other)
    (either_fits (slice_index bytes 0 == 221) _ _ (index_fits Ix IxCb second third fourth small other)
    (index_fits Iy IyCb second third fourth small other)))

main_by_fits : (form : Option Form) (opcode first second : ℕ) → first < 256 → second < 256 →
    OperandFits (main_instr_by form opcode first second)
main_by_fits None opcode first second small other = tt
main_by_fits (Some form) opcode first second small other = with_fits (tail_of form) Main 1 opcode first second small other

main_fits : (bytes : List ℕ) → slice_index bytes 1 < 256 → slice_index bytes 2 < 256 →
    OperandFits (main_instr_of bytes)
unfolding main_instr_of
main_fits bytes small other =
    main_by_fits (form_of (slice_index bytes 0)) (slice_index bytes 0) (slice_index bytes 1) (slice_index bytes 2)
    small other

or_fits : (instr : Option Instr) (bytes : List ℕ) → OperandFits instr → OperandFits (prefixed_instr_of bytes) →
    OperandFits (main_or_prefixed instr bytes)
or_fits None bytes fits prefixed = prefixed
or_fits (Some instr) bytes fits prefixed = fits

pub operand_fits : (bytes : List ℕ) → slice_index bytes 1 < 256 → slice_index bytes 2 < 256 →
    slice_index bytes 3 < 256 → OperandFits (instr_of bytes)
unfolding instr_of
operand_fits bytes small other last =
    or_fits (main_instr_of bytes) bytes (main_fits bytes small other) (prefixed_fits bytes other last)
