-- Directory entries of files in blocks one after another have no fault.
use Rattle.std.proofs.Common.{◌≡◌, ◌≢◌, ◌∙◌, ℕ, zero, suc, ◌+◌, ◌<◌, ◌≤◌, ◌==◌, ◌&&◌, ◌||◌, ◌⊎◌, Bool, true, false, not, List, [], ◌∷◌, Some, None, length, map, take, get_or, refl, sym, ap, inl, inr, arith, ne_eqb, le-ltb}
use Rattle.std.specs.Prelude.{Option, nat_lt, if◌then◌else◌}
use Rattle.std.specs.List.{range_with_len, list_any}
use Rattle.std.proofs.lemmas.Bool.{cases_lt, and_right}
use Rattle.std.proofs.lemmas.Bool.Decides.{nat_tests}
use Rattle.std.proofs.lemmas.List.FromFn.{length-map-range_with_len, get_or-map-range_with_len}
use Rattle.mpm_base.specs.declared.kind.Kind.TheVariants.{Hd4}
use Rattle.mpm_dirent.specs.declared.kinds.Entry.{Entry}
use Rattle.mpm_dirent.specs.declared.kinds.Entry.TheVariants.{Free, File}
use Rattle.mpm_dirent.specs.declared.kinds.FileEntry.{FileEntry}
use Rattle.mpm_dirent.specs.Entries.{entry_of}
use Rattle.mpm_dirent.proofs.Back.{read_back}
use Rattle.mpm_mount.specs.Faults.{block_at, has_at, holds, is_named, is_outside, is_taken, some_place, name_of, file_cause, cause_of, first_fault}
use Rattle.mpm_mount.proofs.FirstFault.{faultless_if}
use Rattle.mpm_mount.proofs.Ranges.{none_if, map_at}
use Rattle.mpm_mount.proofs.UsedBlocks.{some_none}
use Rattle.mpm_generator.specs.Sizes.{records_for, blocks_for}
use Rattle.mpm_generator.specs.Images.{number_at, numbers_from, entry_for}
use Rattle.mpm_generator.proofs.Places.{none_behind}

-- the entry of a file of so many bytes in the blocks from one on
abbrev pub file_for : List ℕ → ℕ → ℕ → FileEntry
file_for name first count =
    record { user = 0; name = name; ex = 0; s1 = 0; s2 = 0; rc = records_for count; blocks = numbers_from first (blocks_for count) }

place_number : (name : List ℕ) (first count place : ℕ) → place < 16 → block_at (file_for name first count) place ≡ number_at first (blocks_for count) place
place_number name first count place less = get_or-map-range_with_len (number_at first (blocks_for count)) 0 16 place place 0 less (omega arith)

-- it is read as it was written
pub file_read : (name : List ℕ) (first count : ℕ) → length name ≡ 11 → count ≤ 9344 → entry_of (entry_for name first count) true ≡ File (file_for name first count)
unfolding entry_for
file_read name first count size few =
    read_back (File (file_for name first count)) true (size, length-map-range_with_len (number_at first (blocks_for count)) 0 16) (
      omega arith,
      λ place below high. place_number name first count place below ∙ none_behind first (blocks_for count) place (omega (arith, few, high)),
    )

-- its numbers

number_is : (first count place : ℕ) → (number_at first count place ≡ 0) ⊎ ((place < count) × (number_at first count place ≡ first + place))
number_is first count place = elim (cases_lt place count) [
  | inl there ↦ inr (there, grind (arith, nat_tests))
  | inr beyond ↦ inl (none_behind first count place beyond)
]

inside_by : (block : ℕ) → 8 ≤ block → block ≤ 2047 → (not (block == 0) && (nat_lt block 8 || nat_lt 2047 block)) ≡ false
inside_by block low high =
    ap (λ (b : Bool). not (block == 0) && (b || nat_lt 2047 block)) (le-ltb block 8 low)
    ∙ ap (λ (b : Bool). not (block == 0) && b) (le-ltb 2047 block high)
    ∙ and_right (not (block == 0)) false refl

none_outside : (name : List ℕ) (first count place : ℕ) → 8 ≤ first → first ≤ 18 → count ≤ 9344 → place < 8 → is_outside Hd4 (file_for name first count) place ≡ false
none_outside name first count place low high few less =
    let test : ℕ → Bool = λ block. not (block == 0) && (nat_lt block 8 || nat_lt 2047 block) in
    ap test (place_number name first count place (omega (arith, less))) ∙ (elim (number_is first (blocks_for count) place) [
      | inl zero_number ↦ ap test zero_number
      | inr there ↦ ap test there.1 ∙ inside_by (first + place) (omega (arith, low)) (omega (arith, high, few, there.0))
    ])

-- no other place has the number of one
unlike : (name : List ℕ) (first count place block : ℕ) → place < 16 → block ≢ 0 → block ≢ first + place → (block_at (file_for name first count) place == block) ≡ false
unlike name first count place block less some other =
    ap (λ n. n == block) (place_number name first count place less) ∙ (elim (number_is first (blocks_for count) place) [
      | inl zero_number ↦ ap (λ n. n == block) zero_number ∙ ne_eqb 0 block (λ is. some (sym is))
      | inr there ↦ ap (λ n. n == block) there.1 ∙ ne_eqb (first + place) block (λ is. other (sym is))
    ])

-- nor a place that has no number
pub not_held : (name : List ℕ) (first count block : ℕ) → 0 < first → first + blocks_for count ≤ block → holds Hd4 block (File (file_for name first count)) ≡ false
unfolding has_at
not_held name first count block some behind =
    none_if (λ i. block_at (file_for name first count) i == block) 8 (λ place less.
    ap (λ n. n == block) (place_number name first count place (omega (arith, less))) ∙ (elim (number_is first (blocks_for count) place) [
      | inl zero_number ↦ ap (λ n. n == block) zero_number ∙ ne_eqb 0 block (λ is. absurd (omega (arith, is, some, behind)))
      | inr there ↦ ap (λ n. n == block) there.1 ∙ ne_eqb (first + place) block (λ is. absurd (omega (arith, is, behind, there.0)))
    ]))

none_before : (name : List ℕ) (first count place : ℕ) → 0 < first → place < 8 → has_at (file_for name first count) place (first + place) ≡ false
unfolding has_at
none_before name first count place some less =
    none_if (λ i. block_at (file_for name first count) i == first + place) place (λ i before.
    unlike name first count i (first + place) (omega (arith, before, less)) (λ is. absurd (omega (arith, is, some))) (λ is. absurd (omega (arith, is, before))))

none_taken : (name : List ℕ) (first count place : ℕ) (earlier : List Entry) → 0 < first → place < 8 → ((block : ℕ) → first ≤ block → list_any (holds Hd4 block) earlier ≡ false)
    → is_taken Hd4 earlier (file_for name first count) place ≡ false
none_taken name first count place earlier some less apart =
    let f : FileEntry = file_for name first count in
    let test : ℕ → Bool = λ block. not (block == 0) && (list_any (holds Hd4 block) earlier || has_at f place block) in
    ap test (place_number name first count place (omega (arith, less))) ∙ (elim (number_is first (blocks_for count) place) [
      | inl zero_number ↦ ap test zero_number
      | inr there ↦
          ap test there.1
          ∙ ap (λ (b : Bool). not (first + place == 0) && (b || has_at f place (first + place))) (apart (first + place) (omega arith))
          ∙ ap (λ (b : Bool). not (first + place == 0) && b) (none_before name first count place some less)
          ∙ and_right (not (first + place == 0)) false refl
    ])

-- it is at no fault after others
pub no_cause : (name : List ℕ) (first count : ℕ) (earlier : List Entry) → 8 ≤ first → first ≤ 18 → count ≤ 9344
    → ((block : ℕ) → first ≤ block → list_any (holds Hd4 block) earlier ≡ false) → list_any (is_named Hd4 (name_of Hd4 (file_for name first count))) earlier ≡ false
    → file_cause Hd4 earlier (file_for name first count) ≡ None
unfolding file_cause
no_cause name first count earlier low high few apart other =
    let f : FileEntry = file_for name first count in
    let outside : Bool = some_place Hd4 (is_outside Hd4 f) in
    let taken : Bool = some_place Hd4 (is_taken Hd4 earlier f) in
    let named : Bool = list_any (is_named Hd4 (name_of Hd4 f)) earlier in
    let by_name : Bool → Option ℕ = λ b. if b then Some 5 else None in
    let by_blocks : Bool → Option ℕ = λ b. if b then Some 4 else by_name named in
    let by_numbers : Bool → Option ℕ = λ b. if b then Some 3 else by_blocks taken in
    let by_count : Bool → Option ℕ = λ b. if b then Some 2 else by_numbers outside in
    ap by_count (le-ltb 128 (records_for count) (omega (arith, few)))
    ∙ ap by_numbers (some_none Hd4 (is_outside Hd4 f) (λ place less. none_outside name first count place low high few less))
    ∙ ap by_blocks (some_none Hd4 (is_taken Hd4 earlier f) (λ place less. none_taken name first count place earlier (omega (arith, low)) less apart))
    ∙ ap by_name other

-- a directory of three files, none at fault after those before it, and free entries
pub three_files : (each : ℕ → Entry) (f g h : FileEntry) → each 0 ≡ File f → each 1 ≡ File g → each 2 ≡ File h → ((slot : ℕ) → 3 ≤ slot → slot < 512 → each slot ≡ Free)
    → file_cause Hd4 [] f ≡ None → file_cause Hd4 (File f ∷ []) g ≡ None → file_cause Hd4 (File f ∷ File g ∷ []) h ≡ None
    → first_fault Hd4 (map each (range_with_len 0 512)) ≡ None
three_files each f g h is_f is_g is_h free one two three = faultless_if Hd4 (map each (range_with_len 0 512)) (λ slot within. at slot (omega (arith, within, length-map-range_with_len each 0 512)))
  where
    at : (slot : ℕ) → slot < 512 → cause_of Hd4 (take slot (map each (range_with_len 0 512))) (get_or (map each (range_with_len 0 512)) slot Free) ≡ None
    at zero within = ap (λ e. cause_of Hd4 [] e) is_f ∙ one
    at (suc zero) within = ap (λ e. cause_of Hd4 (e ∷ []) (each 1)) is_f ∙ ap (λ e. cause_of Hd4 (File f ∷ []) e) is_g ∙ two
    at (suc (suc zero)) within =
        ap (λ e. cause_of Hd4 (e ∷ each 1 ∷ []) (each 2)) is_f ∙ ap (λ e. cause_of Hd4 (File f ∷ e ∷ []) (each 2)) is_g
        ∙ ap (λ e. cause_of Hd4 (File f ∷ File g ∷ []) e) is_h ∙ three
    at (suc (suc (suc slot))) within =
        ap (cause_of Hd4 (take (suc (suc (suc slot))) (map each (range_with_len 0 512))))
        (map_at each 512 (suc (suc (suc slot))) Free within ∙ free (suc (suc (suc slot))) (omega arith) within)
