-- Who has the segments: nobody, a process that reserved one, or the process that lives in it; and memory as it begins. (MP/M II
-- Programmer's Guide, "Function 128: Absolute Memory Request", "Function 129: Relocatable Memory Request", "Function 130: Memory
-- Free".)
use Rattle.std.specs.Prelude.{ℕ, ◌+◌, ◌*◌, ◌≤◌, Bool, true, false, List, Option, Some, None, ◌&&◌, ◌==◌, nat_le, map, position, if◌then◌else◌}
use Rattle.mpm_base.specs.Lists.{zeros}
use Rattle.mpm_base.specs.declared.segment.SegmentSpec.{SegmentSpec}
use Rattle.mpm_banks.specs.Memory.{Memory, segment_of, with_segment}
use Rattle.mpm_banks.specs.declared.segment.Segment.{Segment}
use Rattle.mpm_banks.specs.declared.segment.Allocation.{Allocation}
use Rattle.mpm_banks.specs.declared.segment.Allocation.TheVariants.{Free, Reserved, Occupied}

-- a segment of at least one page that ends below common memory
pub record FitsBelowCommon (spec : SegmentSpec) : Type 0 where
  pub some : 1 ≤ spec.pages
  pub below : spec.base + spec.pages ≤ 192

-- a segment as it begins: free, and zero
abbrev pub new_segment : SegmentSpec → Segment
new_segment spec = record { base = spec.base; pages = spec.pages; allocation = Free; bytes = zeros (256 * spec.pages) }

-- memory as it begins
unfoldable pub new_memory : List SegmentSpec → Memory
new_memory specs = record { segments = map new_segment specs; common = zeros 16384 }

-- where a segment lies
abbrev pub spec_of : Memory → ℕ → SegmentSpec
spec_of memory seg = record { base = (segment_of memory seg).base; pages = (segment_of memory seg).pages }

-- nobody has it
abbrev pub is_free : Allocation → Bool
is_free Free = true
is_free (Reserved owner) = false
is_free Occupied = false

-- the process reserved it
abbrev pub is_owners : ℕ → Allocation → Bool
is_owners owner Free = false
is_owners owner (Reserved other) = other == owner
is_owners owner Occupied = false

-- its base page is the one that is asked for, if one is
abbrev pub has_base : Option ℕ → ℕ → Bool
has_base None base = true
has_base (Some asked) base = base == asked

-- a free segment of at least so many pages, and of that base where one is given
abbrev pub fits : Option ℕ → ℕ → Segment → Bool
fits base pages segment = is_free segment.allocation && (nat_le pages segment.pages && has_base base segment.base)

-- the lowest of them
unfoldable pub lowest_free : Memory → Option ℕ → ℕ → Option ℕ
lowest_free memory base pages = position (fits base pages) memory.segments

-- a segment goes into other hands
unfoldable pub allocated : Memory → ℕ → Allocation → Memory
allocated memory seg allocation = with_segment memory seg (record (segment_of memory seg) { allocation = allocation })

-- the segment that was found is reserved
unfoldable pub reserved : Memory → ℕ → Option ℕ → Memory
reserved memory owner None = memory
reserved memory owner (Some seg) = allocated memory seg (Reserved owner)

-- whether the process reserved the segment
unfoldable pub is_reserved : Memory → ℕ → ℕ → Bool
is_reserved memory owner seg = is_owners owner (segment_of memory seg).allocation

-- the segment is given back, if the process reserved it
unfoldable pub released : Memory → ℕ → ℕ → Memory
released memory owner seg = if is_reserved memory owner seg then allocated memory seg Free else memory

-- a segment, given back if the process reserved it
abbrev pub freed : ℕ → Segment → Segment
freed owner segment = if is_owners owner segment.allocation then record segment { allocation = Free } else segment

-- all that the process reserved is given back
unfoldable pub all_released : Memory → ℕ → Memory
all_released memory owner = record memory { segments = map (freed owner) memory.segments }

-- a process lives in the segment
abbrev pub occupied : Memory → ℕ → Memory
occupied memory seg = allocated memory seg Occupied

-- nobody has it any more
abbrev pub vacated : Memory → ℕ → Memory
vacated memory seg = allocated memory seg Free
