-- Memory stays memory: each segment keeps its bytes, as many as its pages have, whatever is written and whoever has it.
use Rattle.std.proofs.Common.{◌≡◌, ◌∙◌, ℕ, ◌*◌, ◌<◌, ◌≤◌, List, [], ◌∷◌, Option, Some, None, length, refl, sym, ap, subst, arith}
use Rattle.std.specs.Prelude.{All, slice_set}
use Rattle.std.proofs.lemmas.List.{length-set, get_or_default}
use Rattle.z80_regs.specs.Words.{onward}
use Rattle.z80_regs.specs.Outcome.{Action, Write, Input}
use Rattle.mpm_base.specs.Calls.{Answer}
use Rattle.mpm_base.specs.declared.segment.SegmentSpec.{SegmentSpec}
use Rattle.mpm_banks.specs.declared.range.Space.{Space}
use Rattle.mpm_banks.specs.declared.range.Space.TheVariants.{Common, InSegment}
use Rattle.mpm_banks.specs.declared.segment.Segment.{Segment}
use Rattle.mpm_banks.specs.declared.segment.Allocation.{Allocation}
use Rattle.mpm_banks.specs.Memory.{Memory, NamedByte, At, Nowhere, IsSegment, IsMemory, SameSegments, no_segment, segment_of, bytes_of, place_of, put_to, with_byte, with_bytes}
use Rattle.mpm_banks.specs.MemoryLaws.{field_stays, length_stays}
use Rattle.mpm_banks.specs.Actions.{memory_after}
use Rattle.mpm_banks.specs.Allocations.{FitsBelowCommon, new_memory, allocated, all_released}
use Rattle.mpm_banks.proofs.SegmentLaws.{count_allocated, same_bytes_allocated, all_released_is_memory, new_is_memory}
use Rattle.mpm_gate.specs.Replies.{with_block, placed}
use Rattle.mpm_machine_file.specs.MachineFiles.{IsListedSegment}

-- no space grows or shrinks
abbrev pub SameSizes : Memory → Memory → Type 0
SameSizes old new = (space : Space) → length (bytes_of new space) ≡ length (bytes_of old space)

sizes_both : (old middle new : Memory) → SameSizes old middle → SameSizes middle new → SameSizes old new
sizes_both old middle new first second space = second space ∙ first space

put_sizes : (memory : Memory) (place : NamedByte) (value : ℕ) → SameSizes memory (put_to memory place value)
put_sizes memory (At space index) value other = length_stays memory space other (slice_set (bytes_of memory space) index value) (length-set (bytes_of memory space) index value)
put_sizes memory Nowhere value other = refl

sizes_with_byte : (memory : Memory) (seg address value : ℕ) → SameSizes memory (with_byte memory seg address value)
unfolding with_byte
sizes_with_byte memory seg address value = put_sizes memory (place_of memory seg address) value

pub sizes_with_bytes : (bytes : List ℕ) (memory : Memory) (seg address : ℕ) → SameSizes memory (with_bytes memory seg address bytes)
unfolding with_bytes
sizes_with_bytes [] memory seg address space = refl
sizes_with_bytes (byte ∷ bytes) memory seg address space =
    sizes_with_bytes bytes (with_byte memory seg address byte) seg (onward address 1) space ∙ sizes_with_byte memory seg address byte space

pub sizes_after : (actions : List Action) (seg : ℕ) (memory : Memory) → SameSizes memory (memory_after actions seg memory)
unfolding memory_after
sizes_after [] seg memory space = refl
sizes_after (Write address byte ∷ rest) seg memory space = sizes_after rest seg (with_byte memory seg address byte) space ∙ sizes_with_byte memory seg address byte space
sizes_after (Input port ∷ rest) seg memory space = sizes_after rest seg memory space

block_sizes : (block : Option (List ℕ)) (memory : Memory) (seg word : ℕ) → SameSizes memory (with_block memory seg word block)
block_sizes None memory seg word space = refl
block_sizes (Some block) memory seg word space = sizes_with_bytes block memory seg word space

pub sizes_placed : (answer : Answer) (word seg : ℕ) (memory : Memory) → SameSizes memory (placed answer word seg memory)
unfolding placed
sizes_placed answer word seg memory =
    let first : Memory = with_block memory seg word answer.fcb in
    sizes_both memory first (with_bytes first seg answer.at answer.bytes) (block_sizes answer.fcb memory seg word) (sizes_with_bytes answer.bytes first seg answer.at)

-- so it stays memory where each segment keeps its place

segment_still : (old new : Segment) → new.base ≡ old.base → new.pages ≡ old.pages → length new.bytes ≡ length old.bytes → IsSegment old → IsSegment new
segment_still old new base pages size is = record {
  some = omega (arith, pages, is.some);
  below = omega (arith, base, pages, is.below);
  size = size ∙ is.size ∙ ap (λ n. 256 * n) (sym pages);
}

record KeepsPlaces (old new : Memory) : Type 0 where
  pub count : length new.segments ≡ length old.segments
  pub base : (seg : ℕ) → (segment_of new seg).base ≡ (segment_of old seg).base
  pub pages : (seg : ℕ) → (segment_of new seg).pages ≡ (segment_of old seg).pages
  pub sizes : SameSizes old new

still_memory : (old new : Memory) → KeepsPlaces old new → IsMemory old → IsMemory new
still_memory old new keeps is = record {
  segments = λ k d below.
      let there : k < length old.segments = omega (arith, keeps.count, below) in
      subst IsSegment (get_or_default new.segments k no_segment d below)
      (segment_still (segment_of old k) (segment_of new k) (keeps.base k) (keeps.pages k) (keeps.sizes (InSegment k)) (is.segments k no_segment there));
  some = omega (arith, keeps.count, is.some);
  count = omega (arith, keeps.count, is.count);
  common = keeps.sizes Common ∙ is.common;
}

pub memory_same : (old new : Memory) → SameSegments old new → SameSizes old new → IsMemory old → IsMemory new
memory_same old new same sizes is = still_memory old new (record { count = same.count; base = same.base; pages = same.pages; sizes = sizes }) is

-- and where it only changes hands

bytes_sizes : (old new : Memory) → ((seg : ℕ) → (segment_of new seg).bytes ≡ (segment_of old seg).bytes) → new.common ≡ old.common → SameSizes old new
bytes_sizes old new bytes common Common = ap (λ (b : List ℕ). length b) common
bytes_sizes old new bytes common (InSegment seg) = ap (λ (b : List ℕ). length b) (bytes seg)

pages_allocated : (memory : Memory) (seg : ℕ) (allocation : Allocation) (other : ℕ) → (segment_of (allocated memory seg allocation) other).pages ≡ (segment_of memory other).pages
unfolding allocated
pages_allocated memory seg allocation other = field_stays (λ s. s.pages) memory.segments seg other _ refl

pub memory_allocated : (memory : Memory) (seg : ℕ) (allocation : Allocation) → IsMemory memory → IsMemory (allocated memory seg allocation)
memory_allocated memory seg allocation is =
    let new = allocated memory seg allocation in
    let same = same_bytes_allocated memory seg allocation in
    still_memory memory new (record {
      count = count_allocated memory seg allocation;
      base = same.base;
      pages = pages_allocated memory seg allocation;
      sizes = bytes_sizes memory new same.bytes same.common;
    }) is

pub memory_released : (memory : Memory) (owner : ℕ) → IsMemory memory → IsMemory (all_released memory owner)
unfolding all_released
memory_released memory owner is = all_released_is_memory _ memory.segments memory.common owner refl is

-- memory as it begins

fits_below : (spec : SegmentSpec) → IsListedSegment spec → FitsBelowCommon spec
fits_below spec has = record { some = omega (arith, has.pages); below = has.end }

pub memory_new : (specs : List SegmentSpec) → 1 ≤ length specs → length specs ≤ 16 → All IsListedSegment specs → IsMemory (new_memory specs)
unfolding new_memory
memory_new specs some few fit = new_is_memory _ _ specs refl refl (some, few) (λ k d below. fits_below _ (fit k d below))
