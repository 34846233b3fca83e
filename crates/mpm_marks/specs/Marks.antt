-- Drives as bits of a word, and the drives that processes have marked. (MP/M II Programmer's Guide, "Function 37: Reset Drive",
-- "Function 38: Access Drive", "Function 39: Free Drive".)
use Rattle.std.specs.Prelude.{ℕ, ◌-◌, ◌/◌, ◌%◌, ◌^◌, ◌==◌, ◌&&◌, not, Bool, List, replicate, bit_and, bit_or, slice_index, slice_set}
use Rattle.std.specs.List.{list_any, range_with_len}

-- a drive's bit of a mask: drive A is in bit 0
abbrev pub is_bit : ℕ → ℕ → Bool
is_bit mask drive = not (mask / 2 ^ drive % 2 == 0)

-- of each process the mask of the drives that it has marked
unfoldable pub no_marks : List ℕ
no_marks = replicate 32 0

-- another process has marked a drive
abbrev pub is_marked_by : List ℕ → ℕ → ℕ → ℕ → Bool
is_marked_by marks p drive q = not (q == p) && is_bit (slice_index marks q) drive

unfoldable pub is_marked : List ℕ → ℕ → ℕ → Bool
is_marked marks p drive = list_any (is_marked_by marks p drive) (range_with_len 0 32)

-- a process marks the drives of a mask, and gives them back; it gives back all
abbrev pub with_marks : List ℕ → ℕ → ℕ → List ℕ
with_marks marks p mask = slice_set marks p (bit_or (slice_index marks p) mask)

abbrev pub without_marks : List ℕ → ℕ → ℕ → List ℕ
without_marks marks p mask = slice_set marks p (bit_and (slice_index marks p) (65535 - mask))

abbrev pub left_marks : List ℕ → ℕ → List ℕ
left_marks marks p = slice_set marks p 0
