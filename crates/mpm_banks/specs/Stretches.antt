-- Bytes that lie from a first address on, one at each address.
use Rattle.std.specs.Prelude.{ℕ, ◌+◌, ◌-◌, Bool, List, ◌++◌, Option, Some, None, ◌&&◌, nat_lt, nat_le, length, take, drop, slice_index, slice_set, if◌then◌else◌}
use Rattle.z80_regs.specs.Words.{word_of}

-- an address names one of them
abbrev pub is_among : ℕ → List ℕ → ℕ → Bool
is_among first bytes address = nat_le first address && nat_lt address (first + length bytes)

-- the byte that it names, if it names one
abbrev pub byte_among : ℕ → List ℕ → ℕ → Option ℕ
byte_among first bytes address = if is_among first bytes address then Some (slice_index bytes (address - first)) else None

-- the word at an address, low byte first, if the address names one of them and the next address too
abbrev pub word_among : ℕ → List ℕ → ℕ → Option ℕ
word_among first bytes address =
    if is_among first bytes address && is_among first bytes (address + 1) then
    Some (word_of (slice_index bytes (address - first)) (slice_index bytes (address + 1 - first)))
    else None

-- they with another byte where an address names one
abbrev pub put_among : ℕ → List ℕ → ℕ → ℕ → List ℕ
put_among first bytes address value =
    if is_among first bytes address then slice_set bytes (address - first) value else bytes

-- a list with other bytes from a place on; its length stays
abbrev pub with_range : List ℕ → ℕ → List ℕ → List ℕ
with_range bytes from new = take (length bytes) (take from bytes ++ (new ++ drop (length new) (drop from bytes)))
