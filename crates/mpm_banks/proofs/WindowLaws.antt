-- What is written through a window is read back at its addresses, and all else stays.
use Rattle.std.proofs.Common.{◌≡◌, ◌≢◌, ℕ, ◌+◌, ◌%◌, min, ◌<◌, ◌≤◌, ◌⊎◌, List, ◌++◌, Some, length, get_or, set, take, drop, length-append, length-take, length-drop, ap, refl, sym, subst, ◌∙◌, arith}
use Rattle.std.proofs.lemmas.List.{length-set}
use Rattle.mpm_banks.specs.declared.segment.Allocation.{Allocation}
use Rattle.mpm_banks.specs.declared.range.Range.{Range}
use Rattle.mpm_banks.specs.Memory.{Memory, bytes_of, with_bytes_of, first_of, limit_of, end_of, space_at, NamedByte, At, Nowhere, place_of, put_to, IsPlace, IsWritable, byte_at, with_byte, with_bytes, SameSegments}
use Rattle.mpm_banks.specs.MemoryLaws.{first_stays, end_stays, same_segments_put}
use Rattle.mpm_banks.specs.Stretches.{with_range}
use Rattle.mpm_banks.specs.Ranges.{range_from, range_of, put_range}
use Rattle.mpm_banks.specs.Allocations.{allocated}
use Rattle.mpm_banks.proofs.RangeLaws.{found, place_in_range}
use Rattle.mpm_banks.proofs.RangeBytes.{put_range_is, limit_low}
use Rattle.mpm_banks.proofs.SegmentLaws.{same_spaces}
use Rattle.mpm_banks.proofs.WrittenBytes.{with_bytes_written, with_bytes_unwritten, with_bytes_other_segment}

-- a range has no address past FFFFh
range_low : (memory : Memory) (seg address size : ℕ) (range : Range) → range_of memory seg address size ≡ Some range → address + size ≤ 65536
range_low memory seg address size range is =
    let facts = found memory seg address size range is in
    let low = limit_low range.space in
    omega arith

-- each of its addresses is writable
in_range_writable : (memory : Memory) (seg address size : ℕ) (range : Range) (k : ℕ) → range_of memory seg address size ≡ Some range → k < size → IsWritable memory seg (address + k)
unfolding IsWritable
in_range_writable memory seg address size range k is below =
    subst IsPlace (sym (place_in_range memory seg address size range k is below)) tt

-- each byte is read back
pub byte_at_put_inside : (memory : Memory) (seg address size : ℕ) (range : Range) (bytes : List ℕ) (k : ℕ) → range_of memory seg address size ≡ Some range
    → length bytes ≡ size → k < size → byte_at (put_range memory range bytes) seg (address + k) ≡ get_or bytes k 0
byte_at_put_inside memory seg address size range bytes k is same below =
    let low = range_low memory seg address size range is in
    let here : address + k ≡ (address + k) % 65536 = omega arith in
    ap (λ m. byte_at m seg (address + k)) (put_range_is memory seg address size range bytes is same)
    ∙ ap (byte_at (with_bytes memory seg address bytes) seg) here
    ∙ with_bytes_written bytes memory seg address k (omega arith) (omega arith) (omega arith)
    (subst (IsWritable memory seg) here (in_range_writable memory seg address size range k is below))

-- every other address of the process reads as before
pub byte_at_put_outside : (memory : Memory) (seg address size : ℕ) (range : Range) (bytes : List ℕ) (at : ℕ) → range_of memory seg address size ≡ Some range
    → length bytes ≡ size → 0 < size → (at < address) ⊎ (address + size ≤ at) → byte_at (put_range memory range bytes) seg at ≡ byte_at memory seg at
byte_at_put_outside memory seg address size range bytes at is same some apart =
    let low = range_low memory seg address size range is in
    ap (λ m. byte_at m seg at) (put_range_is memory seg address size range bytes is same)
    ∙ with_bytes_unwritten bytes memory seg address at (λ k below e. omega arith)

-- and so does every address in the segment of another
pub byte_at_put_elsewhere : (memory : Memory) (seg address size : ℕ) (range : Range) (bytes : List ℕ) (other at : ℕ) → range_of memory seg address size ≡ Some range
    → length bytes ≡ size → other ≢ seg → at < 49152 → byte_at (put_range memory range bytes) other at ≡ byte_at memory other at
byte_at_put_elsewhere memory seg address size range bytes other at is same apart below =
    ap (λ m. byte_at m other at) (put_range_is memory seg address size range bytes is same)
    ∙ with_bytes_other_segment bytes memory seg address other at apart below

range_stays : (old new : Memory) (seg address size : ℕ) → first_of new (space_at seg address) ≡ first_of old (space_at seg address)
    → end_of new (space_at seg address) ≡ end_of old (space_at seg address) → range_of new seg address size ≡ range_of old seg address size
unfolding range_of
range_stays old new seg address size first end =
    let space = space_at seg address in
    ap (λ a. range_from space a (end_of new space) address size) first ∙ ap (λ b. range_from space (first_of old space) b address size) end

length_with_range : (bytes : List ℕ) (from : ℕ) (new : List ℕ) → length (with_range bytes from new) ≡ length bytes
length_with_range bytes from new =
    let front = take from bytes in
    let back = drop (length new) (drop from bytes) in
    omega (
      arith,
      length-take (length bytes) (front ++ (new ++ back)),
      length-append front (new ++ back),
      length-append new back,
      length-take from bytes,
      length-drop (length new) (drop from bytes),
      length-drop from bytes,
    )

-- a write through a window moves no range
pub range_of_put : (memory : Memory) (range : Range) (bytes : List ℕ) (seg address size : ℕ)
    → range_of (put_range memory range bytes) seg address size ≡ range_of memory seg address size
unfolding put_range
range_of_put memory range bytes seg address size =
    let put = with_range (bytes_of memory range.space) range.from bytes in
    range_stays memory (with_bytes_of memory range.space put) seg address size
    (first_stays memory range.space (space_at seg address) put)
    (end_stays memory range.space (space_at seg address) put (length_with_range (bytes_of memory range.space) range.from bytes))

range_of_put_to : (memory : Memory) (place : NamedByte) (value seg address size : ℕ) → range_of (put_to memory place value) seg address size ≡ range_of memory seg address size
range_of_put_to memory (At space index) value seg address size =
    let put = set (bytes_of memory space) index value in
    range_stays memory (with_bytes_of memory space put) seg address size (first_stays memory space (space_at seg address) put)
    (end_stays memory space (space_at seg address) put (length-set (bytes_of memory space) index value))
range_of_put_to memory Nowhere value seg address size = refl

-- nor does a write of a byte
pub range_of_with_byte : (memory : Memory) (seg address value other at size : ℕ) → range_of (with_byte memory seg address value) other at size ≡ range_of memory other at size
unfolding with_byte
range_of_with_byte memory seg address value other at size = range_of_put_to memory (place_of memory seg address) value other at size

-- nor a segment that changes hands
pub range_of_allocated : (memory : Memory) (seg : ℕ) (allocation : Allocation) (other at size : ℕ) → range_of (allocated memory seg allocation) other at size ≡ range_of memory other at size
range_of_allocated memory seg allocation other at size =
    let space = space_at other at in
    let same = same_spaces memory seg allocation space in
    range_stays memory (allocated memory seg allocation) other at size same.0
    (ap (λ first. min (first + length (bytes_of (allocated memory seg allocation) space)) (limit_of space)) same.0
    ∙ ap (λ (bytes : List ℕ). min (first_of memory space + length bytes) (limit_of space)) same.1)

-- it changes nothing of the segments but bytes
pub same_segments_put_range : (memory : Memory) (range : Range) (bytes : List ℕ) → SameSegments memory (put_range memory range bytes)
unfolding put_range
same_segments_put_range memory range bytes = same_segments_put memory range.space _
