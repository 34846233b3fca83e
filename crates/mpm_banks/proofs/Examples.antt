-- Worked rows: two segments of 16 pages, with the base pages 40h and 60h.
use Rattle.std.proofs.Common.{◌≡◌, ℕ, ◌+◌, min, true, List, [], ◌∷◌, Option, Some, None, length, refl, ap}
use Rattle.mpm_banks.specs.declared.range.Space.TheVariants.{Common, InSegment}
use Rattle.mpm_banks.specs.declared.range.Range.{Range}
use Rattle.mpm_banks.specs.declared.segment.Allocation.TheVariants.{Free, Reserved, Occupied}
use Rattle.mpm_banks.specs.declared.segment.Allocation.{Allocation}
use Rattle.mpm_banks.specs.Memory.{Memory, At, Nowhere, place_from, place_of}
use Rattle.mpm_banks.specs.Ranges.{range_from, range_of}
use Rattle.mpm_banks.specs.Allocations.{lowest_free, is_reserved}

-- them with any bytes
abbrev two : Allocation → Allocation → List ℕ → List ℕ → List ℕ → Memory
two first second low high shared = record {
  segments = record { base = 64; pages = 16; allocation = first; bytes = low }
      ∷ record { base = 96; pages = 16; allocation = second; bytes = high } ∷ [];
  common = shared;
}

-- the range at an address of the first segment, by how many bytes it has
abbrev range_low : ℕ → ℕ → ℕ → Option Range
range_low count address size = range_from (InSegment 0) 16384 (min (16384 + count) 49152) address size

-- 128 bytes end with the segment, 129 pass its end
last_bytes : (a b c : List ℕ) → length a ≡ 4096 → range_of (two Free Free a b c) 0 0x4F80 128 ≡ Some (record { space = InSegment 0; from = 3968; to = 4096 })
unfolding range_of
last_bytes a b c size = ap (λ n. range_low n 0x4F80 128) size

past_the_end : (a b c : List ℕ) → length a ≡ 4096 → range_of (two Free Free a b c) 0 0x4F80 129 ≡ None
unfolding range_of
past_the_end a b c size = ap (λ n. range_low n 0x4F80 129) size

-- the last byte of common memory, and one more
last_common : (a b c : List ℕ) → length c ≡ 16384 → range_of (two Free Free a b c) 0 0xFFFF 1 ≡ Some (record { space = Common; from = 16383; to = 16384 })
unfolding range_of
last_common a b c size = ap (λ n. range_from Common 49152 (min (49152 + n) 65536) 0xFFFF 1) size

no_wrap : (a b c : List ℕ) → length c ≡ 16384 → range_of (two Free Free a b c) 0 0xFFFF 2 ≡ None
unfolding range_of
no_wrap a b c size = ap (λ n. range_from Common 49152 (min (49152 + n) 65536) 0xFFFF 2) size

-- the first segment's first byte, for its process and for that of the second segment
first_byte : (a b c : List ℕ) → length a ≡ 4096 → place_of (two Free Free a b c) 0 0x4000 ≡ At (InSegment 0) 0
unfolding place_of
first_byte a b c size = ap (λ n. place_from (InSegment 0) 16384 (min (16384 + n) 49152) 0x4000) size

elsewhere : (a b c : List ℕ) → place_of (two Free Free a b c) 1 0x4000 ≡ Nowhere
unfolding place_of
elsewhere a b c = refl

-- the process of a segment that doesn't exist has no place below common memory
no_place : (a b c : List ℕ) → place_of (two Free Free a b c) 2 0x6000 ≡ Nowhere
unfolding place_of
no_place a b c = refl

-- no segment has 17 pages; base page 60h is that of the second; with no base the first is the lowest; what is reserved
-- or lived in isn't free; 0 pages fit
seventeen_pages : (a b c : List ℕ) → lowest_free (two Free Free a b c) None 17 ≡ None
unfolding lowest_free
seventeen_pages a b c = refl

base_60h : (a b c : List ℕ) → lowest_free (two Free Free a b c) (Some 0x60) 16 ≡ Some 1
unfolding lowest_free
base_60h a b c = refl

any_base : (a b c : List ℕ) → lowest_free (two Free Free a b c) None 0 ≡ Some 0
unfolding lowest_free
any_base a b c = refl

taken : (a b c : List ℕ) → lowest_free (two Occupied (Reserved 3) a b c) None 1 ≡ None
unfolding lowest_free
taken a b c = refl

-- only its owner has it reserved
owners : (a b c : List ℕ) → is_reserved (two Occupied (Reserved 3) a b c) 3 1 ≡ true
unfolding is_reserved
owners a b c = refl
