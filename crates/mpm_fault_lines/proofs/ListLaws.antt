-- A list that is read, a line at a time.
use Rattle.std.proofs.Common.{◌≡◌, ℕ, suc, ◌+◌, ◌-◌, ◌<◌, ◌==◌, Bool, true, false, ◌&&◌, not, cond, List, [], ◌∷◌, ◌++◌, length, take, Option, Some, None, Result, Ok, Err, refl, sym, ap, ◌∙◌, arith}
use Rattle.std.specs.Prelude.{is_some, slice_index_or, if◌then◌else◌}
use Rattle.std.specs.List.{filter_map, cons_option, position_or_len, before_first, after_first}
use Rattle.std.proofs.Math.Dec.{eqb-suc-suc, eqb-zero-suc}
use Rattle.std.proofs.lemmas.List.{append_assoc, append-nil}
use Rattle.std.proofs.lemmas.List.Splits.{slice_split_first, length-slice_split}
use Rattle.std.proofs.lemmas.Bool.Decides.{nat_tests}
use Rattle.std.specs.Prelude.{slice_set}
use Rattle.mpm_script.proofs.LineLaws.{one_part}
use Rattle.mpm_fault_lines.proofs.Marks.{marked_more}
use Rattle.mpm_fault_lines.specs.Lists.{slot_of_line, parts_of, lines_in, rest_in, good_lines, slots_by, slots_of, marked}

-- what follows a line with a slot; a line without one is bad
abbrev pub unless_bad : ℕ → (ℕ → Result (List ℕ) ℕ) → Option ℕ → Result (List ℕ) ℕ
unless_bad number more None = Err number
unless_bad number more (Some slot) = more slot

-- a list as it is read: the slots of the earlier lines and of those from a line with a number on, or the number of the first bad one
unfoldable pub slots_from : ℕ → ℕ → List ℕ → List (List ℕ) → Result (List ℕ) ℕ
slots_from last number earlier [] = Ok earlier
slots_from last number earlier (rest ∷ []) = if length rest == 0 then Ok earlier else Err number
slots_from last number earlier (line ∷ next ∷ lines) =
    unless_bad number (λ slot. slots_from last (number + 1) (earlier ++ (slot ∷ [])) (next ∷ lines)) (slot_of_line last line)

unless_same : (number : ℕ) (f g : ℕ → Result (List ℕ) ℕ) (found : Option ℕ) → ((slot : ℕ) → f slot ≡ g slot) → unless_bad number f found ≡ unless_bad number g found
unless_same number f g None same = refl
unless_same number f g (Some slot) same = same slot

-- what lines come to behind earlier ones: so many good ones in front, of so many, and their slots
abbrev reads_by : ℕ → List ℕ → List ℕ → ℕ → ℕ → List ℕ → Result (List ℕ) ℕ
reads_by number earlier rest good count slots = if good == count && length rest == 0 then Ok (earlier ++ slots) else Err (good + number)

abbrev reads_lines : ℕ → ℕ → List ℕ → List (List ℕ) → List ℕ → Result (List ℕ) ℕ
reads_lines last number earlier lines rest = reads_by number earlier rest (good_lines last lines) (length lines) (filter_map (slot_of_line last) lines)

-- one more good line
one_more : (number : ℕ) (earlier rest : List ℕ) (slot good count : ℕ) (slots : List ℕ)
    → reads_by number earlier rest (1 + good) (suc count) (slot ∷ slots) ≡ reads_by (number + 1) (earlier ++ (slot ∷ [])) rest good count slots
one_more number earlier rest slot good count slots =
    let next : 1 + good ≡ suc good = omega arith in
    let test : (1 + good == suc count) ≡ (good == count) = ap (λ (n : ℕ). n == suc count) next ∙ eqb-suc-suc good count in
    let last : 1 + good + number ≡ good + (number + 1) = omega arith in
    ap (λ (b : Bool). if b && length rest == 0 then Ok (earlier ++ (slot ∷ slots)) else Err (1 + good + number)) test
    ∙ ap (λ xs. if good == count && length rest == 0 then Ok xs else Err (1 + good + number)) (sym (append_assoc earlier (slot ∷ []) slots))
    ∙ ap (λ (n : ℕ). if good == count && length rest == 0 then Ok ((earlier ++ (slot ∷ [])) ++ slots) else Err n) last

-- a line, by the slot that it has or hasn't
by_slot : (number : ℕ) (earlier rest : List ℕ) (good count : ℕ) (slots : List ℕ) (found : Option ℕ)
    → reads_by number earlier rest (cond (not (not (is_some found))) (1 + good) 0) (suc count) (cons_option found slots)
    ≡ unless_bad number (λ slot. reads_by (number + 1) (earlier ++ (slot ∷ [])) rest good count slots) found
by_slot number earlier rest good count slots None =
    let same : 0 + number ≡ number = omega arith in
    ap (λ (b : Bool). if b && length rest == 0 then Ok (earlier ++ slots) else Err (0 + number)) (eqb-zero-suc count)
    ∙ ap (λ (n : ℕ). Err n) same
by_slot number earlier rest good count slots (Some slot) = one_more number earlier rest slot good count slots

-- the lines and the rest of some parts and one more
lines_more : (line next : List ℕ) (more : List (List ℕ)) → lines_in (line ∷ next ∷ more) ≡ line ∷ lines_in (next ∷ more)
unfolding lines_in
lines_more line next more =
    let places : length (line ∷ next ∷ more) - 1 ≡ suc (length (next ∷ more) - 1) = omega arith in
    ap (λ (n : ℕ). take n (line ∷ next ∷ more)) places

rest_more : (line next : List ℕ) (more : List (List ℕ)) → rest_in (line ∷ next ∷ more) ≡ rest_in (next ∷ more)
unfolding rest_in
rest_more line next more =
    let places : length (line ∷ next ∷ more) - 1 ≡ suc (length (next ∷ more) - 1) = omega arith in
    ap (λ (n : ℕ). slice_index_or (line ∷ next ∷ more) n []) places

line_more : (last number : ℕ) (earlier line rest : List ℕ) (lines : List (List ℕ)) → reads_lines last number earlier (line ∷ lines) rest
    ≡ unless_bad number (λ slot. reads_lines last (number + 1) (earlier ++ (slot ∷ [])) lines rest) (slot_of_line last line)
unfolding good_lines
line_more last number earlier line rest lines =
    by_slot number earlier rest (good_lines last lines) (length lines) (filter_map (slot_of_line last) lines) (slot_of_line last line)

from_lines : (last number : ℕ) (earlier : List ℕ) (parts : List (List ℕ)) → 0 < length parts → slots_from last number earlier parts ≡ reads_lines last number earlier (lines_in parts) (rest_in parts)
unfolding slots_from good_lines lines_in rest_in
from_lines last number earlier [] some = absurd (omega arith)
from_lines last number earlier (rest ∷ []) some =
    let same : number ≡ 0 + number = omega arith in
    ap (λ xs. if length rest == 0 then Ok xs else Err number) (sym (append-nil earlier))
    ∙ ap (λ (n : ℕ). if length rest == 0 then Ok (earlier ++ []) else Err n) same
from_lines last number earlier (line ∷ next ∷ more) some =
    unless_same number (λ slot. slots_from last (number + 1) (earlier ++ (slot ∷ [])) (next ∷ more))
    (λ slot. reads_lines last (number + 1) (earlier ++ (slot ∷ [])) (lines_in (next ∷ more)) (rest_in (next ∷ more))) (slot_of_line last line)
    (λ slot. from_lines last (number + 1) (earlier ++ (slot ∷ [])) (next ∷ more) (omega arith))
    ∙ sym (line_more last number earlier line (rest_in (next ∷ more)) (lines_in (next ∷ more)))
    ∙ ap (λ lines. reads_lines last number earlier lines (rest_in (next ∷ more))) (sym (lines_more line next more))
    ∙ ap (reads_lines last number earlier (lines_in (line ∷ next ∷ more))) (sym (rest_more line next more))

-- the slots of a text, as they are read
pub slots_are : (last : ℕ) (text : List ℕ) → slots_of last text ≡ slots_from last 1 [] (parts_of text)
unfolding slots_of slots_by
slots_are last text = let count = length-slice_split (λ byte. byte == 10) text in sym (from_lines last 1 [] (parts_of text) (omega (arith, count)))

unended : (last number : ℕ) (earlier text : List ℕ) → 0 < length text → slots_from last number earlier (text ∷ []) ≡ Err number
unfolding slots_from
unended last number earlier text some = let filled : (length text == 0) ≡ false = grind (arith, nat_tests) in rw filled

-- what stands after the last LF is a bad line
pub from_unended : (last number : ℕ) (earlier text : List ℕ) → 0 < length text → position_or_len (λ byte. byte == 10) text ≡ length text
    → slots_from last number earlier (parts_of text) ≡ Err number
from_unended last number earlier text some behind =
    ap (slots_from last number earlier) (one_part (λ byte. byte == 10) text (omega (arith, behind))) ∙ unended last number earlier text some

pub line_before : (last number : ℕ) (earlier line : List ℕ) (parts : List (List ℕ)) → 0 < length parts
    → slots_from last number earlier (line ∷ parts) ≡ unless_bad number (λ slot. slots_from last (number + 1) (earlier ++ (slot ∷ [])) parts) (slot_of_line last line)
unfolding slots_from
line_before last number earlier line [] some = absurd (omega arith)
line_before last number earlier line (next ∷ lines) some = refl

-- a line that ends
pub from_line : (last number : ℕ) (earlier text : List ℕ) → position_or_len (λ byte. byte == 10) text < length text
    → slots_from last number earlier (parts_of text)
    ≡ unless_bad number (λ slot. slots_from last (number + 1) (earlier ++ (slot ∷ [])) (parts_of (after_first (λ byte. byte == 10) text))) (slot_of_line last (before_first (λ byte. byte == 10) text))
from_line last number earlier text within =
    let count = length-slice_split (λ byte. byte == 10) (after_first (λ byte. byte == 10) text) in
    ap (slots_from last number earlier) (slice_split_first (λ byte. byte == 10) text 0 within)
    ∙ line_before last number earlier (before_first (λ byte. byte == 10) text) (parts_of (after_first (λ byte. byte == 10) text)) (omega (arith, count))

-- the end
pub from_end : (last number : ℕ) (earlier text : List ℕ) → length text ≡ 0 → slots_from last number earlier (parts_of text) ≡ Ok earlier
unfolding slots_from
from_end last number earlier [] none = refl
from_end last number earlier (byte ∷ text) none = absurd (omega (arith, none))

-- some lines were read, and their slots are marked
pub record AreRead (last : ℕ) (text : List ℕ) (number : ℕ) (rest : List ℕ) (marks : List Bool) : Type 0 where
  pub earlier : List ℕ
  pub same : slots_of last text ≡ slots_from last number earlier (parts_of rest)
  pub marks_are : marks ≡ marked earlier

-- one line more
pub read_more : (last number slot : ℕ) (text rest more : List ℕ) (marks : List Bool) → AreRead last text number rest marks → position_or_len (λ byte. byte == 10) rest < length rest
    → slot_of_line last (before_first (λ byte. byte == 10) rest) ≡ Some slot → slot < 512 → more ≡ after_first (λ byte. byte == 10) rest
    → AreRead last text (number + 1) more (slice_set marks slot true)
read_more last number slot text rest more marks read within is small after = record {
  earlier = read.earlier ++ (slot ∷ []);
  same = read.same ∙ from_line last number read.earlier rest within
      ∙ ap (unless_bad number (λ one. slots_from last (number + 1) (read.earlier ++ (one ∷ [])) (parts_of (after_first (λ byte. byte == 10) rest)))) is
      ∙ ap (λ left. slots_from last (number + 1) (read.earlier ++ (slot ∷ [])) (parts_of left)) (sym after);
  marks_are = ap (λ m. slice_set m slot true) read.marks_are ∙ marked_more read.earlier slot small;
}
