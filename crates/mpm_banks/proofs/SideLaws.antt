-- What a process reaches, its segment alone and common memory, against memory as a whole.
use Rattle.std.proofs.Common.{◌≡◌, ℕ, ◌+◌, ◌-◌, ◌*◌, ◌&&◌, ◌<◌, Bool, true, false, min, List, [], ◌∷◌, ◌++◌, All, length, take, drop, get_or, set, nat_le, nat_lt, slice_index, slice_set, if◌then◌else◌, inl, inr, ap, refl, sym, subst, ◌∙◌, arith, set-set, get_or-set_same}
use Rattle.std.proofs.lemmas.List.{length-set, append-nil, take_all, set-get_or, get_or-set_other}
use Rattle.std.proofs.Math.ListN.{drop_of_length-le}
use Rattle.std.proofs.Math.Path.{fun_ext}
use Rattle.std.proofs.lemmas.Bool.{cases_eq}
use Rattle.mpm_base.specs.declared.segment.SegmentSpec.{SegmentSpec}
use Rattle.z80_regs.specs.Outcome.{Action, Write, Input}
use Rattle.mpm_banks.specs.declared.segment.Segment.{Segment}
use Rattle.mpm_banks.specs.declared.range.Space.{Space}
use Rattle.mpm_banks.specs.declared.range.Space.TheVariants.{Common, InSegment}
use Rattle.mpm_banks.specs.Memory.{Memory, no_segment, segment_of, HasSegment, IsSegment, IsMemory, bytes_of, At, Nowhere, place_within, place_of, byte_of, put_to, byte_at, with_byte}
use Rattle.mpm_banks.specs.Stretches.{with_range}
use Rattle.mpm_banks.specs.Sides.{alone, with_sides, reach_of}
use Rattle.mpm_banks.specs.Allocations.{spec_of}
use Rattle.mpm_banks.specs.Actions.{memory_after}

-- as many other bytes in the place of all
pub with_range_whole : (bytes new : List ℕ) → length new ≡ length bytes → with_range bytes 0 new ≡ new
with_range_whole bytes new same =
    let none : drop (length new) bytes ≡ [] = drop_of_length-le bytes (omega arith) in
    ap (λ rest. take (length bytes) (new ++ rest)) none ∙ ap (take (length bytes)) (append-nil new) ∙ take_all (length bytes) new (omega arith)

-- a segment with as many other bytes is one
is_segment_with : (segment : Segment) (bytes : List ℕ) → IsSegment segment → length bytes ≡ length segment.bytes → IsSegment (record segment { bytes = bytes })
is_segment_with segment bytes is same = record { some = is.some; below = is.below; size = same ∙ is.size }

all_with : (segments : List Segment) (seg : ℕ) (segment : Segment) → All IsSegment segments → IsSegment segment → All IsSegment (set segments seg segment)
all_with segments seg segment all is k d below = elim (cases_eq k seg) [
  | inl same ↦
      let within : seg < length segments = omega (arith, length-set segments seg segment) in
      subst IsSegment (sym (ap (λ i. get_or (set segments seg segment) i d) same ∙ get_or-set_same segments seg segment d within)) is
  | inr apart ↦ subst IsSegment (sym (get_or-set_other segments seg k segment d apart)) (all k d (omega (arith, length-set segments seg segment)))
]

-- memory stays one where a segment and common memory get as many other bytes
pub sides_are_memory : (memory : Memory) (seg : ℕ) (bytes common : List ℕ) → IsMemory memory → HasSegment memory seg
    → length bytes ≡ length (segment_of memory seg).bytes → length common ≡ length memory.common → IsMemory (with_sides memory seg bytes common)
sides_are_memory memory seg bytes common is there same both = record {
  segments = all_with memory.segments seg _ is.segments (is_segment_with (segment_of memory seg) bytes (is.segments seg no_segment there) same);
  some = omega (arith, is.some, length-set memory.segments seg (record (segment_of memory seg) { bytes = bytes }));
  count = omega (arith, is.count, length-set memory.segments seg (record (segment_of memory seg) { bytes = bytes }));
  common = both ∙ is.common;
}

-- what an address reads of bytes that lie from there on, below common memory; FFh where it names none
abbrev read_in : ℕ → List ℕ → ℕ → ℕ
read_in first bytes address =
    if nat_le first address && nat_lt address (min (first + length bytes) 49152) then slice_index bytes (address - first) else 255

read_if : (memory : Memory) (space : Space) (index : ℕ) (b : Bool)
    → byte_of memory (if b then At space index else Nowhere) ≡ (if b then slice_index (bytes_of memory space) index else 255)
read_if memory space index true = refl
read_if memory space index false = refl

read_segment : (memory : Memory) (seg address : ℕ)
    → byte_of memory (place_within memory (InSegment seg) address) ≡ read_in (256 * (segment_of memory seg).base) (segment_of memory seg).bytes address
read_segment memory seg address = read_if memory (InSegment seg) _ _

read_common : (memory other : Memory) (address : ℕ) → memory.common ≡ other.common
    → byte_of memory (place_within memory Common address) ≡ byte_of other (place_within other Common address)
read_common memory other address same =
    read_if memory Common _ _
    ∙ ap (λ (common : List ℕ). if nat_le 49152 address && nat_lt address (min (49152 + length common) 65536) then slice_index common (address - 49152) else 255) same
    ∙ sym (read_if other Common _ _)

-- the segment that was put there
pub side_of : (memory : Memory) (seg : ℕ) (bytes common : List ℕ) → HasSegment memory seg
    → segment_of (with_sides memory seg bytes common) seg ≡ record (segment_of memory seg) { bytes = bytes }
side_of memory seg bytes common there = get_or-set_same memory.segments seg _ no_segment there

read_by : (b : Bool) (memory : Memory) (seg : ℕ) (spec : SegmentSpec) (bytes common : List ℕ) (address : ℕ) → HasSegment memory seg → spec.base ≡ (segment_of memory seg).base
    → byte_of (with_sides memory seg bytes common) (place_within (with_sides memory seg bytes common) (if b then InSegment seg else Common) address)
    ≡ byte_of (alone spec bytes common) (place_within (alone spec bytes common) (if b then InSegment 0 else Common) address)
read_by true memory seg spec bytes common address there base =
    let side = side_of memory seg bytes common there in
    read_segment (with_sides memory seg bytes common) seg address
    ∙ ap (λ (s : Segment). read_in (256 * s.base) s.bytes address) side
    ∙ ap (λ n. read_in (256 * n) bytes address) (sym base)
    ∙ sym (read_segment (alone spec bytes common) 0 address)
read_by false memory seg spec bytes common address there base = read_common (with_sides memory seg bytes common) (alone spec bytes common) address refl

-- a process reads the same in what it reaches
pub byte_at_alone : (memory : Memory) (seg : ℕ) (spec : SegmentSpec) (bytes common : List ℕ) (address : ℕ) → HasSegment memory seg → spec.base ≡ (segment_of memory seg).base
    → byte_at (with_sides memory seg bytes common) seg address ≡ byte_at (alone spec bytes common) 0 address
unfolding byte_at place_of
byte_at_alone memory seg spec bytes common address there base = read_by (nat_lt address 49152) memory seg spec bytes common address there base

-- what a write leaves of bytes that lie from there on, up to an end
abbrev written : ℕ → ℕ → List ℕ → ℕ → ℕ → List ℕ
written first limit bytes address value =
    if nat_le first address && nat_lt address (min (first + length bytes) limit) then slice_set bytes (address - first) value else bytes

-- memory as it is
pub with_sides_itself : (memory : Memory) (seg : ℕ) → with_sides memory seg (segment_of memory seg).bytes memory.common ≡ memory
with_sides_itself memory seg = ap (λ segments. record memory { segments = segments }) (set-get_or memory.segments seg no_segment)

with_sides_again : (memory : Memory) (seg : ℕ) (bytes common more others : List ℕ) → HasSegment memory seg
    → with_sides (with_sides memory seg bytes common) seg more others ≡ with_sides memory seg more others
with_sides_again memory seg bytes common more others there =
    let old = set memory.segments seg (record (segment_of memory seg) { bytes = bytes }) in
    ap (λ (s : Segment). record memory { segments = set old seg (record s { bytes = more }); common = others }) (side_of memory seg bytes common there)
    ∙ ap (λ segments. record memory { segments = segments; common = others }) (set-set memory.segments seg (record (segment_of memory seg) { bytes = bytes }) (record (segment_of memory seg) { bytes = more }))

put_segment_if : (memory : Memory) (seg index value : ℕ) (b : Bool) → put_to memory (if b then At (InSegment seg) index else Nowhere) value
    ≡ with_sides memory seg (if b then slice_set (segment_of memory seg).bytes index value else (segment_of memory seg).bytes) memory.common
put_segment_if memory seg index value true = refl
put_segment_if memory seg index value false = sym (with_sides_itself memory seg)

put_common_if : (memory : Memory) (seg index value : ℕ) (b : Bool) → put_to memory (if b then At Common index else Nowhere) value
    ≡ with_sides memory seg (segment_of memory seg).bytes (if b then slice_set memory.common index value else memory.common)
put_common_if memory seg index value true = ap (λ (m : Memory). record m { common = slice_set memory.common index value }) (sym (with_sides_itself memory seg))
put_common_if memory seg index value false = sym (with_sides_itself memory seg)

-- a memory whose segment, and whose common memory, have the same bytes as what its process reaches
pub record Alike (memory : Memory) (seg : ℕ) (spec : SegmentSpec) (whole own : Memory) : Type 0 where
  pub bytes : List ℕ
  pub common : List ℕ
  pub whole_is : whole ≡ with_sides memory seg bytes common
  pub own_is : own ≡ alone spec bytes common

put_by : (b : Bool) (memory : Memory) (seg : ℕ) (spec : SegmentSpec) (bytes common : List ℕ) (address value : ℕ) → HasSegment memory seg → spec.base ≡ (segment_of memory seg).base
    → Alike memory seg spec
    (put_to (with_sides memory seg bytes common) (place_within (with_sides memory seg bytes common) (if b then InSegment seg else Common) address) value)
    (put_to (alone spec bytes common) (place_within (alone spec bytes common) (if b then InSegment 0 else Common) address) value)
put_by true memory seg spec bytes common address value there base =
    let side = side_of memory seg bytes common there in
    record {
      bytes = written (256 * spec.base) 49152 bytes address value;
      common = common;
      whole_is = put_segment_if (with_sides memory seg bytes common) seg _ value _
          ∙ ap (λ (s : Segment). with_sides (with_sides memory seg bytes common) seg (written (256 * s.base) 49152 s.bytes address value) common) side
          ∙ ap (λ n. with_sides (with_sides memory seg bytes common) seg (written (256 * n) 49152 bytes address value) common) (sym base)
          ∙ with_sides_again memory seg bytes common _ common there;
      own_is = put_segment_if (alone spec bytes common) 0 _ value _;
    }
put_by false memory seg spec bytes common address value there base =
    let side = side_of memory seg bytes common there in
    record {
      bytes = bytes;
      common = written 49152 65536 common address value;
      whole_is = put_common_if (with_sides memory seg bytes common) seg _ value _
          ∙ ap (λ (s : Segment). with_sides (with_sides memory seg bytes common) seg s.bytes (written 49152 65536 common address value)) side
          ∙ with_sides_again memory seg bytes common bytes _ there;
      own_is = put_common_if (alone spec bytes common) 0 _ value _;
    }

put_alike : (memory : Memory) (seg : ℕ) (spec : SegmentSpec) (bytes common : List ℕ) (address value : ℕ) → HasSegment memory seg → spec.base ≡ (segment_of memory seg).base
    → Alike memory seg spec (with_byte (with_sides memory seg bytes common) seg address value) (with_byte (alone spec bytes common) 0 address value)
unfolding with_byte place_of
put_alike memory seg spec bytes common address value there base = put_by (nat_lt address 49152) memory seg spec bytes common address value there base

-- a write of the process leaves them alike
write_alike : (memory : Memory) (seg : ℕ) (spec : SegmentSpec) (whole own : Memory) (address value : ℕ) → HasSegment memory seg → spec.base ≡ (segment_of memory seg).base
    → Alike memory seg spec whole own → Alike memory seg spec (with_byte whole seg address value) (with_byte own 0 address value)
write_alike memory seg spec whole own address value there base alike =
    let put = put_alike memory seg spec alike.bytes alike.common address value there base in
    record {
      bytes = put.bytes;
      common = put.common;
      whole_is = ap (λ m. with_byte m seg address value) alike.whole_is ∙ put.whole_is;
      own_is = ap (λ m. with_byte m 0 address value) alike.own_is ∙ put.own_is;
    }

-- and so do all changes of an instruction
pub acted_alike : (actions : List Action) (memory : Memory) (seg : ℕ) (spec : SegmentSpec) (whole own : Memory) → HasSegment memory seg → spec.base ≡ (segment_of memory seg).base
    → Alike memory seg spec whole own → Alike memory seg spec (memory_after actions seg whole) (memory_after actions 0 own)
unfolding memory_after
acted_alike [] memory seg spec whole own there base alike = alike
acted_alike (Write address byte ∷ rest) memory seg spec whole own there base alike =
    acted_alike rest memory seg spec _ _ there base (write_alike memory seg spec whole own address byte there base alike)
acted_alike (Input port ∷ rest) memory seg spec whole own there base alike = acted_alike rest memory seg spec whole own there base alike

-- its process reads the same
pub reads_same : (memory : Memory) (seg : ℕ) (spec : SegmentSpec) (whole own : Memory) → HasSegment memory seg → spec.base ≡ (segment_of memory seg).base
    → Alike memory seg spec whole own → byte_at whole seg ≡ byte_at own 0
reads_same memory seg spec whole own there base alike =
    ap (λ m. byte_at m seg) alike.whole_is
    ∙ fun_ext (λ address. byte_at_alone memory seg spec alike.bytes alike.common address there base)
    ∙ ap (λ m. byte_at m 0) (sym alike.own_is)

-- what the process reaches of a memory is like it
pub reach_alike : (memory : Memory) (seg : ℕ) → Alike memory seg (spec_of memory seg) memory (reach_of memory seg)
reach_alike memory seg = record {
  bytes = (segment_of memory seg).bytes;
  common = memory.common;
  whole_is = sym (with_sides_itself memory seg);
  own_is = refl;
}

-- and two that are like the same one are the same
pub whole_of : (memory : Memory) (seg : ℕ) (spec : SegmentSpec) (whole new : Memory) → HasSegment memory seg
    → Alike memory seg spec whole (reach_of new seg) → new ≡ with_sides memory seg (segment_of new seg).bytes new.common → new ≡ whole
whole_of memory seg spec whole new there alike is =
    let bytes = ap (λ (m : Memory). (segment_of m 0).bytes) alike.own_is in
    let common = ap (λ (m : Memory). m.common) alike.own_is in
    is ∙ ap (λ b. with_sides memory seg b new.common) bytes ∙ ap (with_sides memory seg alike.bytes) common ∙ sym alike.whole_is
