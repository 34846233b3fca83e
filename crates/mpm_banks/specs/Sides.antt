-- What the process of a segment reaches: its segment and common memory, as a memory in which that segment is the only one.
use Rattle.std.specs.Prelude.{ℕ, List, [], ◌∷◌}
use Rattle.mpm_base.specs.declared.segment.SegmentSpec.{SegmentSpec}
use Rattle.mpm_banks.specs.declared.segment.Allocation.TheVariants.{Occupied}
use Rattle.mpm_banks.specs.declared.range.Space.TheVariants.{InSegment}
use Rattle.mpm_banks.specs.Memory.{Memory, segment_of, with_bytes_of}

-- a memory of one segment, which lies there
abbrev pub alone : SegmentSpec → List ℕ → List ℕ → Memory
alone spec bytes common = record {
  segments = record { base = spec.base; pages = spec.pages; allocation = Occupied; bytes = bytes } ∷ [];
  common = common;
}

-- memory with other bytes of a segment and of common memory
abbrev pub with_sides : Memory → ℕ → List ℕ → List ℕ → Memory
with_sides memory seg bytes common = record (with_bytes_of memory (InSegment seg) bytes) { common = common }

-- what the process of a segment reaches
abbrev pub reach_of : Memory → ℕ → Memory
reach_of memory seg =
    let segment = segment_of memory seg in
    alone (record { base = segment.base; pages = segment.pages }) segment.bytes memory.common
