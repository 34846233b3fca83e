-- Banked memory as the addresses of a process: its segment from base page to last page, and common memory from C000h on.
-- (MP/M II System Guide, "Memory Segment Base Page Initialization", "Common Memory".)
use Rattle.std.specs.Prelude.{◌≡◌, ℕ, ◌+◌, ◌-◌, ◌*◌, min, ◌<◌, ◌≤◌, List, [], ◌∷◌, ◌&&◌, nat_lt, nat_le, length, All, slice_index, slice_index_or, slice_set, if◌then◌else◌}
use Rattle.z80_regs.specs.Words.{onward}
use Rattle.mpm_banks.specs.declared.segment.Segment.{Segment}
use Rattle.mpm_banks.specs.declared.segment.Allocation.TheVariants.{Free}
use Rattle.mpm_banks.specs.declared.range.Space.{Space}
use Rattle.mpm_banks.specs.declared.range.Space.TheVariants.{Common, InSegment}

-- the segments, and the bytes of common memory
pub record Memory : Type 0 where
  pub segments : List Segment
  pub common : List ℕ

-- a segment has at least one page and lies below common memory; each page has 256 bytes
pub record IsSegment (segment : Segment) : Type 0 where
  pub some : 1 ≤ segment.pages
  pub below : segment.base + segment.pages ≤ 192
  pub size : length segment.bytes ≡ 256 * segment.pages

-- there are 1 to 16 segments, and 16,384 bytes of common memory
pub record IsMemory (memory : Memory) : Type 0 where
  pub segments : All IsSegment memory.segments
  pub some : 1 ≤ length memory.segments
  pub count : length memory.segments ≤ 16
  pub common : length memory.common ≡ 16384

-- what stands for a segment that doesn't exist: one without bytes
abbrev pub no_segment : Segment
no_segment = record { base = 0; pages = 0; allocation = Free; bytes = [] }

-- a segment by its number
abbrev pub segment_of : Memory → ℕ → Segment
segment_of memory seg = slice_index_or memory.segments seg no_segment

-- there is a segment of this number
abbrev pub HasSegment : Memory → ℕ → Type 0
HasSegment memory seg = seg < length memory.segments

-- a space is there: common memory, and each segment that exists
abbrev pub IsSpace : Memory → Space → Type 0
IsSpace memory Common = Unit {0}
IsSpace memory (InSegment seg) = HasSegment memory seg

-- memory with another segment of a number
abbrev pub with_segment : Memory → ℕ → Segment → Memory
with_segment memory seg segment = record memory { segments = slice_set memory.segments seg segment }

-- the bytes of common memory, or of a segment
abbrev pub bytes_of : Memory → Space → List ℕ
bytes_of memory Common = memory.common
bytes_of memory (InSegment seg) = (segment_of memory seg).bytes

-- memory with other bytes there
abbrev pub with_bytes_of : Memory → Space → List ℕ → Memory
with_bytes_of memory Common bytes = record memory { common = bytes }
with_bytes_of memory (InSegment seg) bytes = with_segment memory seg (record (segment_of memory seg) { bytes = bytes })

-- the address of the first byte there
abbrev pub first_of : Memory → Space → ℕ
first_of memory Common = 49152
first_of memory (InSegment seg) = 256 * (segment_of memory seg).base

-- the address from which on none reaches there
abbrev pub limit_of : Space → ℕ
limit_of Common = 65536
limit_of (InSegment seg) = 49152

-- the address after the last that names a byte there
abbrev pub end_of : Memory → Space → ℕ
end_of memory space = min (first_of memory space + length (bytes_of memory space)) (limit_of space)

-- what an address reaches into, for the process of a segment
abbrev pub space_at : ℕ → ℕ → Space
space_at seg address = if nat_lt address 49152 then InSegment seg else Common

-- which byte an address names: one of common memory or of a segment, by its index, or none
pub data NamedByte : Type 0 where
  At : Space → ℕ → NamedByte
  Nowhere : NamedByte

-- the place of an address in a space that has the addresses from one to another
abbrev pub place_from : Space → ℕ → ℕ → ℕ → NamedByte
place_from space first end address =
    if nat_le first address && nat_lt address end then At space (address - first) else Nowhere

-- the place that an address names in a space
abbrev pub place_within : Memory → Space → ℕ → NamedByte
place_within memory space address = place_from space (first_of memory space) (end_of memory space) address

-- the place that an address names, for the process of a segment
unfoldable pub place_of : Memory → ℕ → ℕ → NamedByte
place_of memory seg address = place_within memory (space_at seg address) address

-- the byte at a place; where there is none, FFh
abbrev pub byte_of : Memory → NamedByte → ℕ
byte_of memory (At space index) = slice_index (bytes_of memory space) index
byte_of memory Nowhere = 255

-- memory with a byte at a place; where there is none, it is lost
abbrev pub put_to : Memory → NamedByte → ℕ → Memory
put_to memory (At space index) value = with_bytes_of memory space (slice_set (bytes_of memory space) index value)
put_to memory Nowhere value = memory

-- a place is there
abbrev pub IsPlace : NamedByte → Type 0
IsPlace (At space index) = Unit {0}
IsPlace Nowhere = ⊥

-- the byte that the process of a segment reads at an address
unfoldable pub byte_at : Memory → ℕ → ℕ → ℕ
byte_at memory seg address = byte_of memory (place_of memory seg address)

-- what it leaves by writing a byte there
unfoldable pub with_byte : Memory → ℕ → ℕ → ℕ → Memory
with_byte memory seg address value = put_to memory (place_of memory seg address) value

-- the address keeps what it writes there
unfoldable pub IsWritable : Memory → ℕ → ℕ → Type 0
IsWritable memory seg address = IsPlace (place_of memory seg address)

-- two memories of the same segments, in the same hands: only bytes differ
pub record SameSegments (old new : Memory) : Type 0 where
  pub count : length new.segments ≡ length old.segments
  pub base : (seg : ℕ) → (segment_of new seg).base ≡ (segment_of old seg).base
  pub pages : (seg : ℕ) → (segment_of new seg).pages ≡ (segment_of old seg).pages
  pub allocation : (seg : ℕ) → (segment_of new seg).allocation ≡ (segment_of old seg).allocation

-- bytes written one by one from an address on; after FFFFh comes 0000h
unfoldable pub with_bytes : Memory → ℕ → ℕ → List ℕ → Memory
with_bytes memory seg address [] = memory
with_bytes memory seg address (byte ∷ bytes) =
    with_bytes (with_byte memory seg address byte) seg (onward address 1) bytes
