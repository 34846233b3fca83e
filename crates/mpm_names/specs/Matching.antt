-- Which names a pattern fits. (MP/M II Programmer's Guide, "Function 17: Search for First".)
use Rattle.std.specs.Prelude.{ℕ, ◌%◌, Bool, List, ◌==◌, ◌||◌, slice_index}
use Rattle.std.specs.List.{range_with_len, list_all}

-- `?` fits each byte, every other byte itself; bit 7 is an attribute and of no name
abbrev pub byte_fits : ℕ → ℕ → Bool
byte_fits wanted byte = wanted % 128 == 63 || wanted % 128 == byte % 128

-- whether the byte of a pattern at a place fits the name's
abbrev pub fits_at : List ℕ → List ℕ → ℕ → Bool
fits_at pattern name place = byte_fits (slice_index pattern place) (slice_index name place)

-- whether each of the eleven bytes of a pattern fits
unfoldable pub does_match : List ℕ → List ℕ → Bool
does_match pattern name = list_all (fits_at pattern name) (range_with_len 0 11)
