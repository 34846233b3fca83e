-- The lines of a text, the first at a time.
use Rattle.std.proofs.Common.{◌≡◌, ℕ, suc, ◌+◌, ◌<◌, ◌≤◌, Bool, true, false, not, cond, ◌==◌, List, [], ◌∷◌, length, ◌++◌, inl, inr, Some, None, option_map, Ok, Err, refl, ap, arith}
use Rattle.std.specs.Prelude.{nat_lt}
use Rattle.std.specs.List.{slice_split, onto_first, position_or_len, before_first}
use Rattle.std.specs.Str.Lines.{lines, lines_of_parts, strip_carriage_return}
use Rattle.std.proofs.lemmas.List.Splits.{slice_split_first, length-slice_split}
use Rattle.std.proofs.lemmas.List.Folds.{length-prefix_len}
use Rattle.std.proofs.lemmas.Bool.{cases_lt}
use Rattle.std.proofs.lemmas.Option.{same_Some}
use Rattle.std.proofs.lemmas.List.{take_all, drop_all}
use Rattle.std.proofs.lemmas.Bool.Decides.{nat_tests}
use Rattle.mpm_script.specs.declared.event.Timed.{Timed}
use Rattle.mpm_script.specs.Events.{line_of}
use Rattle.mpm_script.specs.Scripts.{first_line, behind_line, last_step, lines_from}
use Rattle.mpm_script.proofs.Finds.{map_some}

one_part_at : (passes : Bool) (p : ℕ → Bool) (x : ℕ) (xs : List ℕ) → suc (length xs) ≤ cond (not passes) (1 + position_or_len p xs) 0 → (length xs ≤ position_or_len p xs → slice_split p xs ≡ xs ∷ [])
    → cond passes ([] ∷ slice_split p xs) (onto_first x (slice_split p xs)) ≡ (x ∷ xs) ∷ []
one_part_at true p x xs h more = absurd (omega arith)
one_part_at false p x xs h more = ap (onto_first x) (more (omega arith))

-- a list without a byte that passes is one part
pub one_part : (p : ℕ → Bool) (xs : List ℕ) → length xs ≤ position_or_len p xs → slice_split p xs ≡ xs ∷ []
one_part p [] h = refl
one_part p (x ∷ xs) h = one_part_at (p x) p x xs h (one_part p xs)

more_parts : (part : List ℕ) (parts : List (List ℕ)) → 0 < length parts → lines_of_parts (part ∷ parts) ≡ strip_carriage_return part ∷ lines_of_parts parts
more_parts part [] some = absurd (omega arith)
more_parts part (next ∷ rest) some = refl

some_parts : (p : ℕ → Bool) (xs : List ℕ) → 0 < length (slice_split p xs)
some_parts p xs = let count = length-slice_split p xs in omega (arith, count)

-- the end of the first line
abbrev pub line_end : List ℕ → ℕ
line_end text = position_or_len (λ byte. byte == 10) text

ends_at : (text : List ℕ) → line_end text < length text → lines text ≡ first_line text ∷ lines (behind_line text)
ends_at text within =
    let parts = slice_split_first (λ byte. byte == 10) text 0 within in
    let size : length (before_first (λ byte. byte == 10) text) ≡ line_end text = length-prefix_len (λ byte. not (byte == 10)) text in
    let shorter : nat_lt (length (before_first (λ byte. byte == 10) text)) (length text) ≡ true = grind (arith, nat_tests) in
    rw (parts, shorter) (more_parts (before_first (λ byte. byte == 10) text) (slice_split (λ byte. byte == 10) (behind_line text)) (some_parts (λ byte. byte == 10) (behind_line text)))

ends_with : (text : List ℕ) → 0 < length text → length text ≤ line_end text → lines text ≡ first_line text ∷ lines (behind_line text)
ends_with text some behind =
    let part = one_part (λ byte. byte == 10) text behind in
    let line : before_first (λ byte. byte == 10) text ≡ text = take_all (line_end text) text behind in
    let rest : behind_line text ≡ [] = drop_all (line_end text + 1) text (omega arith) in
    let whole : nat_lt (length text) (length text) ≡ false = grind (arith, nat_tests) in
    let filled : (length text == 0) ≡ false = grind (arith, nat_tests) in
    rw (part, rest, line, whole, filled)

-- the lines of a text are its first line and those of what follows it
pub lines_first : (text : List ℕ) → 0 < length text → lines text ≡ first_line text ∷ lines (behind_line text)
lines_first text some = elim (cases_lt (line_end text) (length text)) [ inl within ↦ ends_at text within | inr behind ↦ ends_with text some behind ]

pub lines_none : (text : List ℕ) → length text ≡ 0 → lines text ≡ []
lines_none [] none = refl
lines_none (byte ∷ rest) none = absurd (omega arith)

-- the first line that is bad, one that isn't, and the end
pub from_bad : (number : ℕ) (so_far : List Timed) (text : List ℕ) → 0 < length text → line_of (last_step so_far) (first_line text) ≡ None → lines_from number so_far (lines text) ≡ Err number
unfolding lines_from
from_bad number so_far text some bad = rw (lines_first text some, bad)

pub from_good : (number : ℕ) (so_far new : List Timed) (text : List ℕ) → 0 < length text → option_map (λ events. so_far ++ events) (line_of (last_step so_far) (first_line text)) ≡ Some new
    → lines_from number so_far (lines text) ≡ lines_from (number + 1) new (lines (behind_line text))
unfolding lines_from
from_good number so_far new text some good =
    let found = map_some (λ events. so_far ++ events) (line_of (last_step so_far) (first_line text)) new good in
    let joined : so_far ++ found.0 ≡ new = same_Some (so_far ++ found.0) new found.2 in
    rw (lines_first text some, found.1) (ap (λ events. lines_from (number + 1) events (lines (behind_line text))) joined)

pub from_end : (number : ℕ) (so_far : List Timed) (text : List ℕ) → length text ≡ 0 → lines_from number so_far (lines text) ≡ Ok so_far
unfolding lines_from
from_end number so_far text none = rw (lines_none text none)
