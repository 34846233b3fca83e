-- Laws of memory: a write moves no place, is read back, and leaves every other place.
use Rattle.std.proofs.Common.{◌≡◌, ◌≢◌, ℕ, zero, suc, ◌+◌, ◌*◌, min, ◌<◌, ◌≤◌, List, [], ◌∷◌, length, get_or, set, refl, ap, sym, ◌∙◌, arith, subst, inl, inr, ◌↔◌}
use Rattle.std.proofs.lemmas.List.{get_or-set_same, get_or-set_other, length-set}
use Rattle.std.proofs.lemmas.Bool.{cases_eq, cases_lt}
use Rattle.std.proofs.lemmas.Bool.Decides.{nat_tests}
use Rattle.mpm_banks.specs.declared.segment.Segment.{Segment}
use Rattle.mpm_banks.specs.declared.range.Space.{Space}
use Rattle.mpm_banks.specs.declared.range.Space.TheVariants.{Common, InSegment}
use Rattle.mpm_banks.specs.Memory.{Memory, no_segment, segment_of, IsSpace, bytes_of, with_bytes_of, first_of, space_at, place_within, limit_of, end_of, place_from, NamedByte, At, Nowhere, place_of, byte_of, put_to, byte_at, with_byte, IsPlace, IsWritable, SameSegments}

-- a field of a segment that the new one shares stays, whichever segment is asked for
pub field_stays : {A : Type 0} (field : Segment → A) (segments : List Segment) (seg other : ℕ) (new : Segment)
    → field new ≡ field (get_or segments seg no_segment)
    → field (get_or (set segments seg new) other no_segment) ≡ field (get_or segments other no_segment)
field_stays field [] seg other new same = refl
field_stays field (s ∷ ss) zero zero new same = same
field_stays field (s ∷ ss) zero (suc other) new same = refl
field_stays field (s ∷ ss) (suc seg) zero new same = refl
field_stays field (s ∷ ss) (suc seg) (suc other) new same = field_stays field ss seg other new same

-- the bytes that were put into a space are there
pub bytes_back : (memory : Memory) (space : Space) (bytes : List ℕ) → IsSpace memory space → bytes_of (with_bytes_of memory space bytes) space ≡ bytes
bytes_back memory Common bytes is = refl
bytes_back memory (InSegment seg) bytes is = ap (λ (s : Segment). s.bytes) (get_or-set_same memory.segments seg _ no_segment is)

-- no space is moved
pub first_stays : (memory : Memory) (space other : Space) (bytes : List ℕ) → first_of (with_bytes_of memory space bytes) other ≡ first_of memory other
first_stays memory space Common bytes = refl
first_stays memory Common (InSegment other) bytes = refl
first_stays memory (InSegment seg) (InSegment other) bytes =
    ap (λ n. 256 * n) (field_stays (λ s. s.base) memory.segments seg other _ refl)

-- none grows or shrinks
pub length_stays : (memory : Memory) (space other : Space) (bytes : List ℕ) → length bytes ≡ length (bytes_of memory space)
    → length (bytes_of (with_bytes_of memory space bytes) other) ≡ length (bytes_of memory other)
length_stays memory Common Common bytes same = same
length_stays memory Common (InSegment other) bytes same = refl
length_stays memory (InSegment seg) Common bytes same = refl
length_stays memory (InSegment seg) (InSegment other) bytes same = field_stays (λ s. length s.bytes) memory.segments seg other _ same

-- so no space ends elsewhere
pub end_stays : (memory : Memory) (space other : Space) (bytes : List ℕ) → length bytes ≡ length (bytes_of memory space)
    → end_of (with_bytes_of memory space bytes) other ≡ end_of memory other
end_stays memory space other bytes same =
    let first = first_stays memory space other bytes in
    let size = length_stays memory space other bytes same in
    let ends : ℕ → ℕ → ℕ = λ a n. min (a + n) (limit_of other) in
    ap (λ a. ends a (length (bytes_of (with_bytes_of memory space bytes) other))) first ∙ ap (ends (first_of memory other)) size

-- and no place is moved
pub place_of_put : (memory : Memory) (space : Space) (bytes : List ℕ) (seg address : ℕ) → length bytes ≡ length (bytes_of memory space)
    → place_of (with_bytes_of memory space bytes) seg address ≡ place_of memory seg address
unfolding place_of
place_of_put memory space bytes seg address same =
    let here = space_at seg address in
    ap (λ first. place_from here first (end_of (with_bytes_of memory space bytes) here) address)
    (first_stays memory space here bytes)
    ∙ ap (λ end. place_from here (first_of memory here) end address) (end_stays memory space here bytes same)

-- what is known of an address that names a byte
pub record IsByteAt (memory : Memory) (seg address : ℕ) (space : Space) (index : ℕ) : Type 0 where
  pub reaches : space_at seg address ≡ space
  pub address_is : address ≡ first_of memory space + index
  pub below : index < length (bytes_of memory space)
  pub before : address < end_of memory space

from_place : (here space : Space) (first end address index : ℕ) → place_from here first end address ≡ At space index
    → (here ≡ space) × (address ≡ first + index) × (address < end)
from_place here space first end address index is = grind (arith, nat_tests)

pub place_is_at : (memory : Memory) (seg address : ℕ) (space : Space) (index : ℕ) → place_of memory seg address ≡ At space index → IsByteAt memory seg address space index
unfolding place_of
place_is_at memory seg address space index is =
    let found = from_place (space_at seg address) space _ _ address index is in
    let there = found.1 ∙ ap (λ s. first_of memory s + index) found.0 in
    let before = let P : Space → Type 0 = λ s. address < end_of memory s in subst P found.0 found.2 in
    record {
      reaches = found.0;
      address_is = there;
      below = omega arith;
      before = before;
    }

some_segment : (segments : List Segment) (seg index : ℕ) → index < length (get_or segments seg no_segment).bytes → seg < length segments
some_segment [] seg index below = absurd (omega arith)
some_segment (s ∷ ss) zero index below = omega arith
some_segment (s ∷ ss) (suc seg) index below = omega (arith, some_segment ss seg index below)

-- only a space that is there has bytes
pub space_is : (memory : Memory) (space : Space) (index : ℕ) → index < length (bytes_of memory space) → IsSpace memory space
space_is memory Common index below = tt
space_is memory (InSegment seg) index below = some_segment memory.segments seg index below

-- a byte that is put to a place is there
byte_of_same : (memory : Memory) (space : Space) (index value : ℕ) → index < length (bytes_of memory space)
    → byte_of (put_to memory (At space index) value) (At space index) ≡ value
byte_of_same memory space index value below =
    ap (λ bytes. get_or bytes index 0) (bytes_back memory space _ (space_is memory space index below))
    ∙ get_or-set_same (bytes_of memory space) index value 0 below

-- the byte at every other place stays
byte_of_other : (memory : Memory) (space other : Space) (index at value : ℕ) → At other at ≢ At space index
    → byte_of (put_to memory (At space index) value) (At other at) ≡ byte_of memory (At other at)
byte_of_other memory Common Common index at value is = get_or-set_other memory.common index at value 0 (λ e. is (ap (At Common) e))
byte_of_other memory Common (InSegment other) index at value is = refl
byte_of_other memory (InSegment seg) Common index at value is = refl
byte_of_other memory (InSegment seg) (InSegment other) index at value is = elim (cases_eq other seg) [
  | inl same ↦ field_stays (λ s. get_or s.bytes at 0) memory.segments seg other _
      (get_or-set_other (segment_of memory seg).bytes index at value 0 (λ e. is (ap (At (InSegment other)) e ∙ ap (λ t. At (InSegment t) index) same)))
  | inr apart ↦ ap (λ (s : Segment). get_or s.bytes at 0) (get_or-set_other memory.segments seg other _ no_segment apart)
]

put_moves_nothing : (memory : Memory) (place : NamedByte) (value other at : ℕ) → place_of (put_to memory place value) other at ≡ place_of memory other at
put_moves_nothing memory (At space index) value other at = place_of_put memory space _ other at (length-set (bytes_of memory space) index value)
put_moves_nothing memory Nowhere value other at = refl

-- a write moves no place
pub place_of_with_byte : (memory : Memory) (seg address value other at : ℕ)
    → place_of (with_byte memory seg address value) other at ≡ place_of memory other at
unfolding with_byte
place_of_with_byte memory seg address value other at = put_moves_nothing memory (place_of memory seg address) value other at

-- what an address reads after a put
read_put : (memory : Memory) (place : NamedByte) (value seg address : ℕ)
    → byte_at (put_to memory place value) seg address ≡ byte_of (put_to memory place value) (place_of memory seg address)
unfolding byte_at
read_put memory place value seg address = ap (byte_of (put_to memory place value)) (put_moves_nothing memory place value seg address)

put_reads_back : (memory : Memory) (place : NamedByte) (value seg address : ℕ) → place_of memory seg address ≡ place → IsPlace place
    → byte_of (put_to memory place value) place ≡ value
put_reads_back memory (At space index) value seg address is there =
    byte_of_same memory space index value (place_is_at memory seg address space index is).below
put_reads_back memory Nowhere value seg address is there = absurd there

-- a byte that is written where there is a place is read back
pub byte_at_with_byte : (memory : Memory) (seg address value : ℕ) → IsWritable memory seg address → byte_at (with_byte memory seg address value) seg address ≡ value
unfolding with_byte IsWritable
byte_at_with_byte memory seg address value is =
    read_put memory (place_of memory seg address) value seg address ∙ put_reads_back memory _ value seg address refl is

put_leaves_address : (memory : Memory) (place there : NamedByte) (seg address value other : ℕ) → place_of memory seg address ≡ place
    → place_of memory seg other ≡ there → other ≢ address → byte_of (put_to memory place value) there ≡ byte_of memory there
put_leaves_address memory Nowhere there seg address value other is at apart = refl
put_leaves_address memory (At space index) Nowhere seg address value other is at apart = refl
put_leaves_address memory (At space index) (At beside next) seg address value other is at apart =
    let here = (place_is_at memory seg address space index is).address_is in
    let further = (place_is_at memory seg other beside next at).address_is in
    byte_of_other memory space beside index next value (λ e. apart (cc (e, here, further)))

-- a write leaves what every other address of the process reads
pub byte_at_other_address : (memory : Memory) (seg address value other : ℕ) → other ≢ address → byte_at (with_byte memory seg address value) seg other ≡ byte_at memory seg other
unfolding byte_at with_byte
byte_at_other_address memory seg address value other apart =
    read_put memory (place_of memory seg address) value seg other ∙ put_leaves_address memory _ _ seg address value other refl refl apart

-- below common memory an address reaches into the segment
pub space_below : (seg address : ℕ) → address < 49152 → space_at seg address ≡ InSegment seg
space_below seg address below = grind (arith, nat_tests)

-- from there on into common memory
pub space_above : (seg address : ℕ) → 49152 ≤ address → space_at seg address ≡ Common
space_above seg address above = grind (arith, nat_tests)

put_leaves_space : (memory : Memory) (place there : NamedByte) (seg address value other at : ℕ) → place_of memory seg address ≡ place
    → place_of memory other at ≡ there → space_at other at ≢ space_at seg address → byte_of (put_to memory place value) there ≡ byte_of memory there
put_leaves_space memory Nowhere there seg address value other at is was apart = refl
put_leaves_space memory (At space index) Nowhere seg address value other at is was apart = refl
put_leaves_space memory (At space index) (At beside next) seg address value other at is was apart =
    let here = (place_is_at memory seg address space index is).reaches in
    let there = (place_is_at memory other at beside next was).reaches in
    byte_of_other memory space beside index next value (λ e. apart (cc (e, here, there)))

-- a write into one space leaves what an address reads that reaches into another
pub byte_at_other_space : (memory : Memory) (seg address value other at : ℕ) → space_at other at ≢ space_at seg address
    → byte_at (with_byte memory seg address value) other at ≡ byte_at memory other at
unfolding byte_at with_byte
byte_at_other_space memory seg address value other at apart =
    read_put memory (place_of memory seg address) value other at
    ∙ put_leaves_space memory _ _ seg address value other at refl refl apart

-- no address of one process reaches into the segment of another
pub reaches_no_other : (seg other at : ℕ) → other ≢ seg → space_at other at ≢ InSegment seg
reaches_no_other seg other at apart = elim (cases_lt at 49152) [
  | inl below ↦ λ e. apart (let w : InSegment other ≡ InSegment seg = sym (space_below other at below) ∙ e in cc w)
  | inr above ↦ λ e. let w : Common ≡ InSegment seg = sym (space_above other at above) ∙ e in absurd (cc w)
]

-- whatever a process writes, the segment of another stays
pub byte_at_other_segment : (memory : Memory) (seg address value other at : ℕ) → other ≢ seg → at < 49152
    → byte_at (with_byte memory seg address value) other at ≡ byte_at memory other at
byte_at_other_segment memory seg address value other at apart below =
    byte_at_other_space memory seg address value other at
    (λ e. reaches_no_other other seg address (λ s. apart (sym s)) (sym e ∙ space_below other at below))

-- common memory is the same for each process
pub byte_at_common : (memory : Memory) (seg other address : ℕ) → 49152 ≤ address → byte_at memory seg address ≡ byte_at memory other address
unfolding byte_at place_of
byte_at_common memory seg other address above =
    ap (λ space. byte_of memory (place_within memory space address)) (space_above seg address above ∙ sym (space_above other address above))

-- a write leaves what is writable
pub writable_with_byte : (memory : Memory) (seg address value other at : ℕ) → IsWritable (with_byte memory seg address value) other at ↔ IsWritable memory other at
unfolding IsWritable
writable_with_byte memory seg address value other at =
    let same = place_of_with_byte memory seg address value other at in
    (λ is. subst IsPlace same is, λ is. subst IsPlace (sym same) is)

-- bytes that are put into a space change nothing else of any segment
pub same_segments_put : (memory : Memory) (space : Space) (bytes : List ℕ) → SameSegments memory (with_bytes_of memory space bytes)
same_segments_put memory Common bytes = record { count = refl; base = λ seg. refl; pages = λ seg. refl; allocation = λ seg. refl }
same_segments_put memory (InSegment seg) bytes = record {
  count = length-set memory.segments seg _;
  base = λ other. field_stays (λ s. s.base) memory.segments seg other _ refl;
  pages = λ other. field_stays (λ s. s.pages) memory.segments seg other _ refl;
  allocation = λ other. field_stays (λ s. s.allocation) memory.segments seg other _ refl;
}

put_same_segments : (memory : Memory) (place : NamedByte) (value : ℕ) → SameSegments memory (put_to memory place value)
put_same_segments memory (At space index) value = same_segments_put memory space _
put_same_segments memory Nowhere value = record { count = refl; base = λ seg. refl; pages = λ seg. refl; allocation = λ seg. refl }

-- a write changes nothing of the segments but bytes
pub same_segments_with_byte : (memory : Memory) (seg address value : ℕ) → SameSegments memory (with_byte memory seg address value)
unfolding with_byte
same_segments_with_byte memory seg address value = put_same_segments memory (place_of memory seg address) value

-- two changes of bytes, one after the other
pub same_segments_both : (old middle new : Memory) → SameSegments old middle → SameSegments middle new → SameSegments old new
same_segments_both old middle new first second = record {
  count = second.count ∙ first.count;
  base = λ seg. second.base seg ∙ first.base seg;
  pages = λ seg. second.pages seg ∙ first.pages seg;
  allocation = λ seg. second.allocation seg ∙ first.allocation seg;
}
