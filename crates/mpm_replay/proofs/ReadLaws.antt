-- Which bytes begin with an instruction that reads a port: the opcode decides without prefix, the next byte after EDh; after the other
-- prefixes none does.
use Rattle.std.proofs.Common.{◌≡◌, ◌∙◌, ℕ, false, [], ◌∷◌, ◌==◌, Option, Some, None, if◌then◌else◌, refl, sym, ap}
use Rattle.std.proofs.lemmas.Bool.{false≢true}
use Rattle.mpm_base.proofs.Choices.{either}
use Rattle.z80_decode.specs.declared.instr.Instr.{Instr}
use Rattle.z80_decode.specs.declared.instr.Page.{Page}
use Rattle.z80_decode.specs.declared.instr.Page.TheVariants.{Main, Ed, Ix, Iy, IxCb, IyCb}
use Rattle.z80_decode.specs.declared.forms.Form.{Form}
use Rattle.z80_decode.specs.declared.forms.Tail.{Tail}
use Rattle.z80_decode.specs.declared.forms.Tail.TheVariants.{Nothing, Byte, Word, Displacement, DisplacementByte}
use Rattle.z80_decode.specs.declared.page_forms.BitForm.{BitForm}
use Rattle.z80_decode.specs.declared.page_forms.ExtendedForm.{ExtendedForm}
use Rattle.z80_decode.specs.declared.page_forms.IndexForm.{IndexForm}
use Rattle.z80_decode.specs.Opcodes.{form_of}
use Rattle.z80_decode.specs.PageOpcodes.{third_quarter, transfer_of, extended_form_of, index_form_of, indexed_bit_form_of}
use Rattle.z80_decode.specs.Decoding.{tail_of, extended_tail_of, index_tail_of, instr_with, bit_instr_of, extended_instr_by, index_instr_by, index_bit_instr_by, index_instr_of, prefixed_instr_of, main_instr_by, main_instr_of, main_or_prefixed, instr_of}
use Rattle.mpm_replay.specs.Ports.{reads_main, reads_extended, reads_on, reads_port, reads_of}

tail_reads : (tail : Tail) (page : Page) (place opcode first second : ℕ) → reads_port (instr_with tail page place opcode first second) ≡ reads_on page opcode
tail_reads Nothing page place opcode first second = refl
tail_reads Byte page place opcode first second = refl
tail_reads Word page place opcode first second = refl
tail_reads Displacement page place opcode first second = refl
tail_reads DisplacementByte page place opcode first second = refl

-- without prefix
pub main_reads : (form : Form) (opcode second third fourth : ℕ) → form_of opcode ≡ Some form
    → reads_main (Some form) ≡ reads_of (instr_of (opcode ∷ second ∷ third ∷ fourth ∷ []))
unfolding instr_of main_instr_of
main_reads form opcode second third fourth is =
    sym (ap (λ f. reads_of (main_or_prefixed (main_instr_by f opcode second third) (opcode ∷ second ∷ third ∷ fourth ∷ []))) is
    ∙ tail_reads (tail_of form) Main 1 opcode second third ∙ ap reads_main is)

-- with one
prefixed : (opcode second third fourth : ℕ) → form_of opcode ≡ None
    → instr_of (opcode ∷ second ∷ third ∷ fourth ∷ []) ≡ prefixed_instr_of (opcode ∷ second ∷ third ∷ fourth ∷ [])
unfolding instr_of main_instr_of
prefixed opcode second third fourth none =
    ap (λ f. main_or_prefixed (main_instr_by f opcode second third) (opcode ∷ second ∷ third ∷ fourth ∷ [])) none

by_extended : (form : Option ExtendedForm) (second third fourth : ℕ) → extended_form_of second ≡ form
    → reads_of (extended_instr_by form second third fourth) ≡ reads_extended form
by_extended None second third fourth is = refl
by_extended (Some form) second third fourth is = tail_reads (extended_tail_of form) Ed 2 second third fourth ∙ ap reads_extended is

pub extended_reads : (opcode second third fourth : ℕ) → form_of opcode ≡ None → opcode ≡ 237
    → reads_extended (extended_form_of second) ≡ reads_of (instr_of (opcode ∷ second ∷ third ∷ fourth ∷ []))
unfolding prefixed_instr_of
extended_reads opcode second third fourth none is =
    sym (ap reads_of (prefixed opcode second third fourth none ∙ ap (λ o. prefixed_instr_of (o ∷ second ∷ third ∷ fourth ∷ [])) is)
    ∙ by_extended (extended_form_of second) second third fourth refl)

-- LDIR, EDh B0h, reads none
pub load_up_reads : (opcode : ℕ) → opcode ≡ 176 → reads_extended (extended_form_of opcode) ≡ false
unfolding extended_form_of third_quarter transfer_of
load_up_reads opcode is = ap (λ o. reads_extended (extended_form_of o)) is

-- those after the other prefixes read none
by_index : (form : Option IndexForm) (page : Page) (second third fourth : ℕ) → reads_on page second ≡ false → reads_of (index_instr_by form page second third fourth) ≡ false
by_index None page second third fourth none = refl
by_index (Some form) page second third fourth none = tail_reads (index_tail_of form) page 2 second third fourth ∙ none

by_bits : (form : Option BitForm) (page : Page) (third fourth : ℕ) → reads_on page fourth ≡ false → reads_of (index_bit_instr_by form page third fourth) ≡ false
by_bits None page third fourth none = refl
by_bits (Some form) page third fourth none = none

index_reads : (page bits : Page) (second third fourth : ℕ) → reads_on page second ≡ false → reads_on bits fourth ≡ false
    → reads_of (index_instr_of page bits second third fourth) ≡ false
unfolding index_instr_of
index_reads page bits second third fourth none no_bits =
    either (λ (i : Option Instr). reads_of i ≡ false) (second == 203) (index_bit_instr_by (indexed_bit_form_of fourth) bits third fourth)
    (index_instr_by (index_form_of second) page second third fourth)
    (λ is. by_bits (indexed_bit_form_of fourth) bits third fourth no_bits) (λ is. by_index (index_form_of second) page second third fourth none)

pub others_read : (opcode second third fourth : ℕ) → form_of opcode ≡ None → (opcode == 237) ≡ false
    → false ≡ reads_of (instr_of (opcode ∷ second ∷ third ∷ fourth ∷ []))
unfolding prefixed_instr_of
others_read opcode second third fourth none other =
    let P : Option Instr → Type 0 = λ i. reads_of i ≡ false in
    let ix = index_instr_of Ix IxCb second third fourth in
    let iy = index_instr_of Iy IyCb second third fourth in
    let index = if opcode == 221 then ix else iy in
    let behind = if opcode == 237 then (extended_instr_by (extended_form_of second) second third fourth) else index in
    sym (ap reads_of (prefixed opcode second third fourth none)
    ∙ either P (opcode == 203) (Some (bit_instr_of second)) behind (λ is. refl)
    (λ is. either P (opcode == 237) (extended_instr_by (extended_form_of second) second third fourth) index (λ yes. absurd (false≢true (sym other ∙ yes)))
    (λ no. either P (opcode == 221) ix iy (λ yes. index_reads Ix IxCb second third fourth refl refl) (λ no. index_reads Iy IyCb second third fourth refl refl))))
