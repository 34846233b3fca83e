-- Steps of what isn't plain: in a HALT, of HALT and EI, after EDh, and where nothing is listed; and what follows a prefix.
use Rattle.std.proofs.Common.{◌≡◌, ◌∙◌, ℕ, ◌<◌, Bool, true, false, ◌||◌, ◌&&◌, ◌==◌, List, [], ◌∷◌, Option, None, Some, is_some, get_or, map, if◌then◌else◌, refl, ap, sym, subst, arith}
use Rattle.std.specs.Prelude.{IsNone}
use Rattle.std.specs.List.{range_with_len}
use Rattle.std.proofs.lemmas.Bool.{eqb-true, false_from_ne_true, and_parts}
use Rattle.std.proofs.lemmas.List.FromFn.{get_or-map-range_with_len}
use Rattle.z80_regs.specs.Words.{onward}
use Rattle.z80_regs.specs.declared.regs.Regs.{Regs}
use Rattle.z80_decode.specs.declared.instr.Page.{Page}
use Rattle.z80_decode.specs.declared.instr.Page.TheVariants.{Ix, Iy, IxCb, IyCb}
use Rattle.z80_decode.specs.declared.forms.Form.{Form}
use Rattle.z80_decode.specs.declared.page_forms.BitForm.{BitForm}
use Rattle.z80_decode.specs.declared.page_forms.IndexForm.{IndexForm}
use Rattle.z80_decode.specs.Opcodes.{form_of, low_quarter, high_quarter}
use Rattle.z80_decode.specs.PageOpcodes.{extended_form_of, indexed_bit_form_of, index_form_of}
use Rattle.z80_decode.specs.Decoding.{index_tail_of, prefixed_instr_of, main_instr_of, instr_of, bit_instr_of, extended_instr_by, index_bit_instr_by, index_instr_by, index_instr_of}
use Rattle.z80_exec.specs.Operands.{quiet}
use Rattle.z80_exec.specs.Performing.{performed, main_outcome, is_plain}
use Rattle.z80_ext.specs.declared.index.IndexRegister.{IndexRegister}
use Rattle.z80_ext.specs.declared.index.IndexRegister.TheVariants as index
use Rattle.z80_ext.specs.Index.{index_behind, page_of, bits_page_of}
use Rattle.z80_ext.specs.Instruction.{risen, halted_or_enabled, four_from, outcome_of, is_plain_on, is_plain_instr, is_plain_at, instruction}
use Rattle.z80_ext.proofs.Next.{page_plain, bits_page_plain, tail_plain, main_plain}

-- a step by its first byte
step_at : (first : ℕ) (regs : Regs) (memory ports : ℕ → ℕ) → regs.halted ≡ false → memory regs.pc ≡ first
    → instruction regs memory ports
    ≡ outcome_of (instr_of (first ∷ memory (onward regs.pc 1) ∷ memory (onward regs.pc 2) ∷ memory (onward regs.pc 3) ∷ [])) regs memory ports
unfolding instruction
step_at first regs memory ports runs here =
    ap (λ halted. if halted then Some (quiet (risen regs)) else (outcome_of (instr_of (four_from memory regs.pc)) regs memory ports)) runs
    ∙ ap (λ byte. outcome_of (instr_of (byte ∷ memory (onward regs.pc 1) ∷ memory (onward regs.pc 2) ∷ memory (onward regs.pc 3) ∷ [])) regs memory ports) here

pub extended_at : (regs : Regs) (memory ports : ℕ → ℕ) → regs.halted ≡ false → memory regs.pc ≡ 237
    → let opcode = memory (onward regs.pc 1) in instruction regs memory ports
    ≡ outcome_of (extended_instr_by (extended_form_of opcode) opcode (memory (onward regs.pc 2)) (memory (onward regs.pc 3))) regs memory ports
unfolding instr_of main_instr_of form_of high_quarter prefixed_instr_of
extended_at regs memory ports runs here = step_at 237 regs memory ports runs here

halts_at : (regs : Regs) (memory ports : ℕ → ℕ) → regs.halted ≡ false → memory regs.pc ≡ 118
    → instruction regs memory ports ≡ Some (quiet (halted_or_enabled 118 regs))
unfolding instr_of main_instr_of form_of main_outcome performed
halts_at regs memory ports runs here = step_at 118 regs memory ports runs here

enables_at : (regs : Regs) (memory ports : ℕ → ℕ) → regs.halted ≡ false → memory regs.pc ≡ 251
    → instruction regs memory ports ≡ Some (quiet (halted_or_enabled 251 regs))
unfolding instr_of main_instr_of form_of high_quarter main_outcome performed
enables_at regs memory ports runs here = step_at 251 regs memory ports runs here

by_test : (halts enables : Bool) (opcode : ℕ) (regs : Regs) (memory ports : ℕ → ℕ) → regs.halted ≡ false → opcode ≡ memory regs.pc
    → (opcode == 118) ≡ halts → (opcode == 251) ≡ enables → (halts || enables) ≡ true
    → instruction regs memory ports ≡ Some (quiet (halted_or_enabled opcode regs))
by_test true enables opcode regs memory ports runs here halts other either =
    let is : opcode ≡ 118 = eqb-true opcode 118 halts in
    halts_at regs memory ports runs (sym here ∙ is) ∙ ap (λ n. Some (quiet (halted_or_enabled n regs))) (sym is)
by_test false true opcode regs memory ports runs here halts other either =
    let is : opcode ≡ 251 = eqb-true opcode 251 other in
    enables_at regs memory ports runs (sym here ∙ is) ∙ ap (λ n. Some (quiet (halted_or_enabled n regs))) (sym is)
by_test false false opcode regs memory ports runs here halts other either = absurd (cc)

pub halt_or_enable_at : (opcode : ℕ) (regs : Regs) (memory ports : ℕ → ℕ) → regs.halted ≡ false → opcode ≡ memory regs.pc
    → (opcode == 118 || opcode == 251) ≡ true
    → instruction regs memory ports ≡ Some (quiet (halted_or_enabled opcode regs))
halt_or_enable_at opcode regs memory ports runs here either =
    by_test (opcode == 118) (opcode == 251) opcode regs memory ports runs here refl refl either

-- in a HALT R alone rises
pub rests_at : (regs : Regs) (memory ports : ℕ → ℕ) → regs.halted ≡ true → instruction regs memory ports ≡ Some (quiet (risen regs))
unfolding instruction
rests_at regs memory ports halted =
    ap (λ halted. if halted then Some (quiet (risen regs)) else (outcome_of (instr_of (four_from memory regs.pc)) regs memory ports)) halted

-- the instruction after a prefix at PC

pub bits_is : (regs : Regs) (memory : ℕ → ℕ) → memory regs.pc ≡ 203 → instr_of (four_from memory regs.pc) ≡ Some (bit_instr_of (memory (onward regs.pc 1)))
unfolding instr_of main_instr_of form_of high_quarter prefixed_instr_of
bits_is regs memory here =
    ap (λ byte. instr_of (byte ∷ memory (onward regs.pc 1) ∷ memory (onward regs.pc 2) ∷ memory (onward regs.pc 3) ∷ [])) here

pub ix_is : (regs : Regs) (memory : ℕ → ℕ) → memory regs.pc ≡ 221
    → instr_of (four_from memory regs.pc) ≡ index_instr_of Ix IxCb (memory (onward regs.pc 1)) (memory (onward regs.pc 2)) (memory (onward regs.pc 3))
unfolding instr_of main_instr_of form_of high_quarter prefixed_instr_of
ix_is regs memory here =
    ap (λ byte. instr_of (byte ∷ memory (onward regs.pc 1) ∷ memory (onward regs.pc 2) ∷ memory (onward regs.pc 3) ∷ [])) here

pub iy_is : (regs : Regs) (memory : ℕ → ℕ) → memory regs.pc ≡ 253
    → instr_of (four_from memory regs.pc) ≡ index_instr_of Iy IyCb (memory (onward regs.pc 1)) (memory (onward regs.pc 2)) (memory (onward regs.pc 3))
unfolding instr_of main_instr_of form_of high_quarter prefixed_instr_of
iy_is regs memory here =
    ap (λ byte. instr_of (byte ∷ memory (onward regs.pc 1) ∷ memory (onward regs.pc 2) ∷ memory (onward regs.pc 3) ∷ [])) here

pub index_is : (regs : Regs) (memory : ℕ → ℕ) → ((memory regs.pc == 221) || (memory regs.pc == 253)) ≡ true
    → instr_of (four_from memory regs.pc)
    ≡ index_instr_of (page_of (index_behind (memory regs.pc))) (bits_page_of (index_behind (memory regs.pc))) (memory (onward regs.pc 1)) (memory (onward regs.pc 2)) (memory (onward regs.pc 3))
index_is regs memory either = by_prefix (memory regs.pc == 221) (memory regs.pc == 253) refl refl either
  where
    Is : ℕ → Type 0
    Is prefix = instr_of (four_from memory regs.pc) ≡ index_instr_of (page_of (index_behind prefix)) (bits_page_of (index_behind prefix)) (memory (onward regs.pc 1)) (memory (onward regs.pc 2)) (memory (onward regs.pc 3))

    by_prefix : (ix iy : Bool) → (memory regs.pc == 221) ≡ ix → (memory regs.pc == 253) ≡ iy → (ix || iy) ≡ true → Is (memory regs.pc)
    by_prefix true iy here there either =
        subst Is (sym (eqb-true (memory regs.pc) 221 here)) (ix_is regs memory (eqb-true (memory regs.pc) 221 here))
    by_prefix false true here there either =
        subst Is (sym (eqb-true (memory regs.pc) 253 there)) (iy_is regs memory (eqb-true (memory regs.pc) 253 there))
    by_prefix false false here there either = absurd (cc either)

pub extended_is : (regs : Regs) (memory : ℕ → ℕ) → memory regs.pc ≡ 237
    → let opcode = memory (onward regs.pc 1) in
    instr_of (four_from memory regs.pc) ≡ extended_instr_by (extended_form_of opcode) opcode (memory (onward regs.pc 2)) (memory (onward regs.pc 3))
unfolding instr_of main_instr_of form_of high_quarter prefixed_instr_of
extended_is regs memory here =
    ap (λ byte. instr_of (byte ∷ memory (onward regs.pc 1) ∷ memory (onward regs.pc 2) ∷ memory (onward regs.pc 3) ∷ [])) here

-- CBh, DDh and FDh, the prefixes of rotations, single bits and the index registers
abbrev is_indexed : ℕ → Bool
is_indexed opcode = opcode == 203 || (opcode == 221 || opcode == 253)

-- an opcode that isn't plain is one of these, EDh, HALT or EI, and one without form is one of these, or EDh
abbrev is_known : ℕ → Bool
is_known opcode = (is_plain (form_of opcode) || (is_indexed opcode || (opcode == 237 || (opcode == 118 || opcode == 251))))
    && (is_some (form_of opcode) || (is_indexed opcode || opcode == 237))

known_table : map is_known (range_with_len 0 256) ≡ map (λ opcode. true) (range_with_len 0 256)
unfolding form_of low_quarter high_quarter
known_table = refl

known : (opcode : ℕ) → opcode < 256 → is_known opcode ≡ true
known opcode small =
    sym (get_or-map-range_with_len is_known 0 256 opcode opcode false small (omega arith))
    ∙ ap (λ (answers : List Bool). get_or answers opcode false) known_table
    ∙ get_or-map-range_with_len (λ n. true) 0 256 opcode opcode false small (omega arith)

-- a prefix that is none of the four isn't there
pub prefix_rare : (regs : Regs) (memory : ℕ → ℕ) → memory regs.pc < 256 → IsNone (form_of (memory regs.pc))
    → ((memory regs.pc == 221) || (memory regs.pc == 253)) ≡ false → (memory regs.pc ≡ 203 → ⊥) → (memory regs.pc ≡ 237 → ⊥)
    → is_plain_at regs memory ≡ false
prefix_rare regs memory small none index bits extended =
    let opcode = memory regs.pc in
    absurd (by_form (form_of opcode) (opcode == 203) (opcode == 221) (opcode == 253) (opcode == 237) none
    (false_from_ne_true _ (λ is. bits (eqb-true opcode 203 is)))
    index
    (false_from_ne_true _ (λ is. extended (eqb-true opcode 237 is)))
    (and_parts _ _ (known opcode small)).1) where
      by_form : (form : Option Form) (a b c d : Bool) → IsNone form → a ≡ false → (b || c) ≡ false → d ≡ false → (is_some form || ((a || (b || c)) || d)) ≡ true → ⊥
      by_form (Some form) a b c d none no_bits no_index no_extended any = cc none
      by_form None false false false false none no_bits no_index no_extended any = cc any
      by_form None true b c d none no_bits no_index no_extended any = cc no_bits
      by_form None false true c d none no_bits no_index no_extended any = cc no_index
      by_form None false false true d none no_bits no_index no_extended any = cc no_index
      by_form None false false false true none no_bits no_index no_extended any = cc no_extended

-- what follows DDh or FDh and isn't plain isn't listed

bits_unlisted : (form : Option BitForm) (bits : Page) (third fourth : ℕ) → is_plain_on bits fourth ≡ true
    → is_plain_instr (index_bit_instr_by form bits third fourth) ≡ false → index_bit_instr_by form bits third fourth ≡ None
bits_unlisted None bits third fourth plain rare = refl
bits_unlisted (Some form) bits third fourth plain rare = absurd (cc (sym plain ∙ rare))

form_unlisted : (form : Option IndexForm) (page : Page) (second third fourth : ℕ) → is_plain_on page second ≡ true
    → is_plain_instr (index_instr_by form page second third fourth) ≡ false → index_instr_by form page second third fourth ≡ None
form_unlisted None page second third fourth plain rare = refl
form_unlisted (Some form) page second third fourth plain rare =
    absurd (cc (sym plain ∙ sym (tail_plain (index_tail_of form) page 2 second third fourth) ∙ rare))

index_unlisted : (index : IndexRegister) (second third fourth : ℕ)
    → is_plain_instr (index_instr_of (page_of index) (bits_page_of index) second third fourth) ≡ false
    → index_instr_of (page_of index) (bits_page_of index) second third fourth ≡ None
unfolding index_instr_of
index_unlisted index second third fourth rare = by_cb (second == 203) rare where
  by_cb : (cb : Bool)
      → is_plain_instr (if cb then (index_bit_instr_by (indexed_bit_form_of fourth) (bits_page_of index) third fourth) else (index_instr_by (index_form_of second) (page_of index) second third fourth)) ≡ false
      → (if cb then (index_bit_instr_by (indexed_bit_form_of fourth) (bits_page_of index) third fourth) else (index_instr_by (index_form_of second) (page_of index) second third fourth)) ≡ None
  by_cb true rare = bits_unlisted (indexed_bit_form_of fourth) (bits_page_of index) third fourth (bits_page_plain index fourth) rare
  by_cb false rare = form_unlisted (index_form_of second) (page_of index) second third fourth (page_plain index second) rare

main_listed : (form : Option Form) (regs : Regs) (memory : ℕ → ℕ) → form_of (memory regs.pc) ≡ form → is_plain form ≡ true → is_plain_at regs memory ≡ true
main_listed None regs memory known plain = absurd (cc plain)
main_listed (Some form) regs memory known plain = main_plain form regs memory known ∙ plain

-- what isn't plain, and neither EDh, HALT nor EI, isn't listed
rare_unlisted : (regs : Regs) (memory : ℕ → ℕ) → memory regs.pc < 256 → is_plain_at regs memory ≡ false
    → (memory regs.pc == 237) ≡ false → (memory regs.pc == 118 || memory regs.pc == 251) ≡ false
    → instr_of (four_from memory regs.pc) ≡ None
rare_unlisted regs memory small rare extended halts =
    let opcode = memory regs.pc in
    by_tests (is_plain (form_of opcode)) (opcode == 203) (opcode == 221) (opcode == 253) (opcode == 237) (opcode == 118 || opcode == 251) extended halts
    (and_parts _ _ (known opcode small)).0 (main_listed (form_of opcode) regs memory refl)
    (λ is. bits_is regs memory (eqb-true opcode 203 is))
    (λ is. ix_is regs memory (eqb-true opcode 221 is))
    (λ is. iy_is regs memory (eqb-true opcode 253 is)) where
      by_tests : (plain a b c d e : Bool) → d ≡ false → e ≡ false → (plain || ((a || (b || c)) || (d || e))) ≡ true
          → (plain ≡ true → is_plain_at regs memory ≡ true)
          → (a ≡ true → instr_of (four_from memory regs.pc) ≡ Some (bit_instr_of (memory (onward regs.pc 1))))
          → (b ≡ true → instr_of (four_from memory regs.pc) ≡ index_instr_of Ix IxCb (memory (onward regs.pc 1)) (memory (onward regs.pc 2)) (memory (onward regs.pc 3)))
          → (c ≡ true → instr_of (four_from memory regs.pc) ≡ index_instr_of Iy IyCb (memory (onward regs.pc 1)) (memory (onward regs.pc 2)) (memory (onward regs.pc 3)))
          → instr_of (four_from memory regs.pc) ≡ None
      by_tests true a b c d e no_extended no_halt any main bits ix iy = absurd (cc (sym (main refl) ∙ rare))
      by_tests false true b c d e no_extended no_halt any main bits ix iy = absurd (cc (sym (ap is_plain_instr (bits refl)) ∙ rare))
      by_tests false false true c d e no_extended no_halt any main bits ix iy =
          ix refl ∙ index_unlisted index.Ix _ _ _ (sym (ap is_plain_instr (ix refl)) ∙ rare)
      by_tests false false false true d e no_extended no_halt any main bits ix iy =
          iy refl ∙ index_unlisted index.Iy _ _ _ (sym (ap is_plain_instr (iy refl)) ∙ rare)
      by_tests false false false false true e no_extended no_halt any main bits ix iy = absurd (cc no_extended)
      by_tests false false false false false true no_extended no_halt any main bits ix iy = absurd (cc no_halt)
      by_tests false false false false false false no_extended no_halt any main bits ix iy = absurd (cc any)

pub unlisted_at : (opcode : ℕ) (regs : Regs) (memory ports : ℕ → ℕ) → opcode < 256 → regs.halted ≡ false → opcode ≡ memory regs.pc
    → is_plain_at regs memory ≡ false → (opcode == 237) ≡ false → (opcode == 118 || opcode == 251) ≡ false
    → instruction regs memory ports ≡ None
unfolding instruction
unlisted_at opcode regs memory ports small runs here rare extended halts =
    ap (λ halted. if halted then Some (quiet (risen regs)) else (outcome_of (instr_of (four_from memory regs.pc)) regs memory ports)) runs
    ∙ ap (λ instr. outcome_of instr regs memory ports)
    (rare_unlisted regs memory (omega (arith, small, here)) rare (ap (λ byte. byte == 237) (sym here) ∙ extended) (ap (λ byte. byte == 118 || byte == 251) (sym here) ∙ halts))
