-- Ranges of bytes that lie wholly in one segment or wholly in common memory: what a window lends.
use Rattle.std.specs.Prelude.{◌≡◌, ℕ, ◌+◌, ◌-◌, ◌<◌, ◌≤◌, List, Option, Some, None, ◌&&◌, nat_le, length, slice_range, if◌then◌else◌}
use Rattle.mpm_banks.specs.Stretches.{with_range}
use Rattle.mpm_banks.specs.Memory.{Memory, IsSpace, bytes_of, with_bytes_of, first_of, end_of, space_at, At, place_of}
use Rattle.mpm_banks.specs.declared.range.Space.{Space}
use Rattle.mpm_banks.specs.declared.range.Range.{Range}

-- the range of so many addresses from one on in a space that has the addresses from one to another; none where they
-- aren't all among these
abbrev pub range_from : Space → ℕ → ℕ → ℕ → ℕ → Option Range
range_from space first end address size =
    if nat_le first address && nat_le (address + size) end
    then Some (record { space = space; from = address - first; to = address + size - first }) else None

-- the range that so many addresses name in a space
abbrev pub range_within : Memory → Space → ℕ → ℕ → Option Range
range_within memory space address size = range_from space (first_of memory space) (end_of memory space) address size

-- the range that so many addresses from one on name, for the process of a segment; none where they aren't all of its
-- segment, or all of common memory
unfoldable pub range_of : Memory → ℕ → ℕ → ℕ → Option Range
range_of memory seg address size = range_within memory (space_at seg address) address size

-- the range lies within a space that is there
pub record LiesInSpace (memory : Memory) (space : Space) (from to : ℕ) : Type 0 where
  pub there : IsSpace memory space
  pub order : from ≤ to
  pub inside : to ≤ length (bytes_of memory space)

unfoldable pub IsInsideMemory : Memory → Range → Type 0
IsInsideMemory memory range = LiesInSpace memory range.space range.from range.to

-- how many bytes it has
unfoldable pub range_size : Range → ℕ
range_size range = range.to - range.from

-- its bytes
unfoldable pub range_bytes : Memory → Range → List ℕ
range_bytes memory range = slice_range (bytes_of memory range.space) range.from range.to

-- memory with other bytes there
unfoldable pub put_range : Memory → Range → List ℕ → Memory
put_range memory range bytes = with_bytes_of memory range.space (with_range (bytes_of memory range.space) range.from bytes)

-- so many addresses from one on name bytes one after the other, of one segment or of common memory
abbrev pub IsWholly : Memory → ℕ → ℕ → ℕ → Type 0
IsWholly memory seg address size =
    (space : Space) × (from : ℕ) × ((k : ℕ) → k < size → place_of memory seg (address + k) ≡ At space (from + k))
