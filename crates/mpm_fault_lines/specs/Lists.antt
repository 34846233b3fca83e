-- A list of faults as it is read: of each line the slot alone counts.
use Rattle.std.specs.Prelude.{ℕ, ◌+◌, ◌-◌, ◌==◌, ◌&&◌, ◌||◌, not, Bool, false, List, [], ◌∷◌, Option, Some, None, Result, Ok, Err, is_some, nat_le, bytes_eq, codes, length, map, take, slice_index_or, if◌then◌else◌}
use Rattle.std.specs.List.{list_any, filter, filter_map, position_or_len, range_with_len, slice_split}
use Rattle.mpm_script.specs.Numbers.{number_of}
use Rattle.mpm_script.specs.Events.{word, behind}

-- an entry's cause is 2 to 8
abbrev pub is_cause : Option ℕ → Bool
is_cause None = false
is_cause (Some cause) = nat_le 2 cause

-- a slot up to the last one, or `-`
abbrev pub is_other : ℕ → List ℕ → Bool
is_other last text = bytes_eq text (codes "-") || is_some (number_of last text)

-- what follows the slot of a line: a cause, one space, and the slot of another entry or `-`
unfoldable pub is_reason : ℕ → List ℕ → Bool
is_reason last text = is_cause (number_of 8 (word text)) && is_other last (behind text)

-- the slot of a line `fault SLOT CAUSE OTHER`, without its LF; None where it isn't one
unfoldable pub slot_of_line : ℕ → List ℕ → Option ℕ
slot_of_line last line =
    if bytes_eq (word line) (codes "fault") && is_reason last (behind (behind line)) then number_of last (word (behind line)) else None

-- a text between its LFs: all parts but the last are its lines, and the last one is what stands after them
abbrev pub parts_of : List ℕ → List (List ℕ)
parts_of text = slice_split (λ byte. byte == 10) text

unfoldable pub lines_in : List (List ℕ) → List (List ℕ)
lines_in parts = take (length parts - 1) parts

unfoldable pub rest_in : List (List ℕ) → List ℕ
rest_in parts = slice_index_or parts (length parts - 1) []

-- how many lines stand before the first that isn't a list's
unfoldable pub good_lines : ℕ → List (List ℕ) → ℕ
good_lines last lines = position_or_len (λ line. not (is_some (slot_of_line last line))) lines

-- the slots of the lines, in their order, where all are a list's and nothing stands after them; else the number of the first bad line,
-- counted from 1: what stands after the last LF is a bad line too
unfoldable pub slots_by : ℕ → List (List ℕ) → List ℕ → Result (List ℕ) ℕ
slots_by last lines rest =
    if good_lines last lines == length lines && length rest == 0 then Ok (filter_map (slot_of_line last) lines) else Err (good_lines last lines + 1)

-- the slots that a text lists, or the number of its first bad line
unfoldable pub slots_of : ℕ → List ℕ → Result (List ℕ) ℕ
slots_of last text = slots_by last (lines_in (parts_of text)) (rest_in (parts_of text))

-- a list has a slot
abbrev pub has_slot : List ℕ → ℕ → Bool
has_slot slots slot = list_any (λ other. other == slot) slots

-- which of the first 512 slots a list has
unfoldable pub marked : List ℕ → List Bool
marked slots = map (has_slot slots) (range_with_len 0 512)

-- the different slots below a bound that a list has, rising
unfoldable pub different : ℕ → List ℕ → List ℕ
different count slots = filter (has_slot slots) (range_with_len 0 count)

-- a slot, if it is marked
abbrev pub listed_at : List Bool → ℕ → List ℕ
listed_at marks slot = if slice_index_or marks slot false then slot ∷ [] else []

-- the slots below a bound that are marked, rising
unfoldable pub listed : List Bool → ℕ → List ℕ
listed marks count = filter (λ slot. slice_index_or marks slot false) (range_with_len 0 count)
