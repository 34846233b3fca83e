-- Page relocatable programs: the words of the header, and the code as it stands at a page. (MP/M II System Guide,
-- "Page Relocatable Programs".)
use Rattle.std.specs.Prelude.{ℕ, ◌+◌, ◌-◌, ◌*◌, ◌/◌, ◌%◌, ◌^◌, List, ◌==◌, Bool, map, length, slice_index, if◌then◌else◌}
use Rattle.std.specs.List.{range_with_len}

-- the word at a place, low byte first
abbrev pub word_at : List ℕ → ℕ → ℕ
word_at bytes place = slice_index bytes place + 256 * slice_index bytes (place + 1)

-- whether the bit of a code byte is 1: eight to a byte, the most significant first
abbrev pub is_marked : List ℕ → ℕ → Bool
is_marked bits place = slice_index bits (place / 8) / 2 ^ (7 - place % 8) % 2 == 1

-- a code byte at a page: where its bit is 1, the page is added modulo 256
abbrev pub relocated_byte : List ℕ → List ℕ → ℕ → ℕ → ℕ
relocated_byte code bits page place =
    if is_marked bits place then (slice_index code place + page) % 256 else (slice_index code place)

-- the code at a page
unfoldable pub relocated : List ℕ → List ℕ → ℕ → List ℕ
relocated code bits page = map (relocated_byte code bits page) (range_with_len 0 (length code))
