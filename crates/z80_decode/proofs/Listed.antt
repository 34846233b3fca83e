-- Decoding gives an instruction exactly where the bytes begin with a listed one.
use Rattle.std.proofs.Common.{◌≡◌, ℕ, ◌<◌, ◌==◌, ◌||◌, Bool, true, false, not, List, Option, None, Some, slice_index, get_or, map, refl, sym, ap, ◌∙◌, arith}
use Rattle.std.specs.Prelude.{if◌then◌else◌}
use Rattle.std.specs.List.{range_with_len}
use Rattle.std.specs.Option.{is_some}
use Rattle.std.proofs.lemmas.List.FromFn.{get_or-map-range_with_len}
use Rattle.z80_decode.specs.declared.instr.Instr.{Instr}
use Rattle.z80_decode.specs.declared.instr.Page.{Page}
use Rattle.z80_decode.specs.declared.instr.Page.TheVariants.{Ix, Iy, IxCb, IyCb}
use Rattle.z80_decode.specs.declared.forms.Form.{Form}
use Rattle.z80_decode.specs.declared.page_forms.BitForm.{BitForm}
use Rattle.z80_decode.specs.declared.page_forms.ExtendedForm.{ExtendedForm}
use Rattle.z80_decode.specs.declared.page_forms.IndexForm.{IndexForm}
use Rattle.z80_decode.specs.Fields.{pair_of, operand_of}
use Rattle.z80_decode.specs.StackPairs.{stack_pair_of}
use Rattle.z80_decode.specs.Opcodes.{low_quarter, high_quarter, form_of}
use Rattle.z80_decode.specs.PageOpcodes.{indexed_bit_form_of, second_quarter, third_quarter, extended_form_of, index_form_of}
use Rattle.z80_decode.specs.Decoding.{extended_instr_by, index_instr_by, index_bit_instr_by, index_instr_of, prefixed_instr_of, main_instr_by, main_instr_of, main_or_prefixed, instr_of}
use Rattle.z80_decode.specs.Listed.{is_in, listed_behind_ed, listed_behind_dd, is_listed_indexed_bit, is_listed_indexed, is_listed}

-- two tests that answer alike at each number below a limit
alike_below : (one other : ℕ → Bool) (n : ℕ) → map one (range_with_len 0 n) ≡ map other (range_with_len 0 n) →
    (k : ℕ) → k < n → one k ≡ other k
alike_below one other n same k small =
    sym (get_or-map-range_with_len one 0 n k k false small (omega arith))
    ∙ (ap (λ (answers : List Bool). get_or answers k false) same
    ∙ get_or-map-range_with_len other 0 n k k false small (omega arith))

-- whether a byte is a prefix
abbrev is_prefix : ℕ → Bool
is_prefix byte = byte == 0xcb || (byte == 0xed || (byte == 0xdd || byte == 0xfd))

-- the opcodes of each page, all at once
main_table : map (λ opcode. is_some (form_of opcode)) (range_with_len 0 256)
    ≡ map (λ opcode. not (is_prefix opcode)) (range_with_len 0 256)
unfolding form_of high_quarter
main_table = refl

extended_table : map (λ opcode. is_some (extended_form_of opcode)) (range_with_len 0 256)
    ≡ map (is_in listed_behind_ed) (range_with_len 0 256)
unfolding extended_form_of second_quarter third_quarter listed_behind_ed
extended_table = refl

index_table : map (λ opcode. is_some (index_form_of opcode)) (range_with_len 0 256)
    ≡ map (is_in listed_behind_dd) (range_with_len 0 256)
unfolding index_form_of form_of low_quarter high_quarter pair_of operand_of stack_pair_of listed_behind_dd
index_table = refl

index_bits_table : map (λ opcode. is_some (indexed_bit_form_of opcode)) (range_with_len 0 256)
    ≡ map is_listed_indexed_bit (range_with_len 0 256)
unfolding indexed_bit_form_of
index_bits_table = refl

-- an opcode that has a form has an instruction
extended_by : (form : Option ExtendedForm) (opcode first second : ℕ) →
    is_some (extended_instr_by form opcode first second) ≡ is_some form
extended_by None opcode first second = refl
extended_by (Some form) opcode first second = refl

index_by : (form : Option IndexForm) (page : Page) (opcode first second : ℕ) →
    is_some (index_instr_by form page opcode first second) ≡ is_some form
index_by None page opcode first second = refl
index_by (Some form) page opcode first second = refl

index_bits_by : (form : Option BitForm) (page : Page) (displacement opcode : ℕ) →
    is_some (index_bit_instr_by form page displacement opcode) ≡ is_some form
index_bits_by None page displacement opcode = refl
index_bits_by (Some form) page displacement opcode = refl

main_by : (form : Option Form) (opcode first second : ℕ) (bytes : List ℕ) →
    is_some (main_or_prefixed (main_instr_by form opcode first second) bytes)
    ≡ (is_some form || is_some (prefixed_instr_of bytes))
main_by None opcode first second bytes = refl
main_by (Some form) opcode first second bytes = refl

-- one of two choices
choice_by : (test : Bool) (one other : Option Instr) (first second : Bool) → is_some one ≡ first →
    is_some other ≡ second → is_some (if test then one else other) ≡ (if test then first else second)
choice_by true one other first second same _ = same
choice_by false one other first second _ same = same

either_by : (test : Bool) (one other : Option Instr) (answer : Bool) → is_some one ≡ answer → is_some other ≡ answer →
    is_some (if test then one else other) ≡ answer
either_by true one other answer same _ = same
either_by false one other answer _ same = same

-- after DDh and FDh
index_listed : (page bits : Page) (second third fourth : ℕ) → second < 256 → fourth < 256 →
    is_some (index_instr_of page bits second third fourth) ≡ is_listed_indexed second fourth
unfolding index_instr_of
index_listed page bits second third fourth small last =
    choice_by (second == 0xcb) _ _ _ _
    (index_bits_by (indexed_bit_form_of fourth) bits third fourth
    ∙ alike_below (λ opcode. is_some (indexed_bit_form_of opcode)) is_listed_indexed_bit 256 index_bits_table fourth last)
    (index_by (index_form_of second) page second third fourth
    ∙ alike_below (λ opcode. is_some (index_form_of opcode)) (is_in listed_behind_dd) 256 index_table second small)

-- after the prefixes
prefixed_listed : (bytes : List ℕ) → slice_index bytes 1 < 256 → slice_index bytes 3 < 256 →
    is_some (prefixed_instr_of bytes) ≡
    (if slice_index bytes 0 == 0xcb then true
    else (if slice_index bytes 0 == 0xed then is_in listed_behind_ed (slice_index bytes 1)
    else (is_listed_indexed (slice_index bytes 1) (slice_index bytes 3))))
unfolding prefixed_instr_of
prefixed_listed bytes small last =
    let second = slice_index bytes 1 in
    let third = slice_index bytes 2 in
    let fourth = slice_index bytes 3 in
    choice_by (slice_index bytes 0 == 0xcb) _ _ _ _ refl
    (choice_by (slice_index bytes 0 == 0xed) _ _ _ _
    (extended_by (extended_form_of second) second third fourth
    ∙ alike_below (λ opcode. is_some (extended_form_of opcode)) (is_in listed_behind_ed) 256 extended_table second small)
    (either_by (slice_index bytes 0 == 0xdd) _ _ _ (index_listed Ix IxCb second third fourth small last)
    (index_listed Iy IyCb second third fourth small last)))

-- where the first byte is no prefix all are listed
without_prefix : (cb ed index extended indexed : Bool) →
    (not (cb || (ed || index)) || (if cb then true else (if ed then extended else indexed)))
    ≡ (if cb then true else (if ed then extended else (if index then indexed else true)))
without_prefix true ed index extended indexed = refl
without_prefix false true index extended indexed = refl
without_prefix false false true extended indexed = refl
without_prefix false false false extended indexed = refl

pub decoded : (bytes : List ℕ) → slice_index bytes 0 < 256 → slice_index bytes 1 < 256 → slice_index bytes 3 < 256 →
    is_some (instr_of bytes) ≡ is_listed bytes
unfolding instr_of main_instr_of is_listed
decoded bytes head small last =
    let first = slice_index bytes 0 in
    main_by (form_of first) first (slice_index bytes 1) (slice_index bytes 2) bytes
    ∙ rw (
      alike_below (λ opcode. is_some (form_of opcode)) (λ opcode. not (is_prefix opcode)) 256 main_table first head,
      prefixed_listed bytes small last,
    ) (without_prefix (first == 0xcb) (first == 0xed) (first == 0xdd || first == 0xfd)
    (is_in listed_behind_ed (slice_index bytes 1)) (is_listed_indexed (slice_index bytes 1) (slice_index bytes 3)))
