-- Segments that begin, or change hands: they still make up a memory, and all bytes stay.
use Rattle.std.proofs.Common.{◌≡◌, ◌≢◌, ℕ, zero, suc, ◌+◌, ◌*◌, min, ◌<◌, ◌≤◌, true, false, List, [], ◌∷◌, Option, Some, None, All, map, length, get_or, arith, subst, sym, ap, refl, ◌∙◌, if◌then◌else◌}
use Rattle.std.proofs.lemmas.List.{length-map, length-set, get_or-map, get_or-set_same, get_or-set_other}
use Rattle.std.proofs.lemmas.List.Quantifiers.{position-Some}
use Rattle.std.proofs.Math.ListN.{get_or-eq_default}
use Rattle.mpm_base.proofs.Choices.{either}
use Rattle.mpm_base.proofs.Lists.{length_zeros}
use Rattle.mpm_base.specs.Lists.{zeros}
use Rattle.mpm_base.specs.declared.segment.SegmentSpec.{SegmentSpec}
use Rattle.mpm_banks.specs.declared.segment.Segment.{Segment}
use Rattle.mpm_banks.specs.declared.segment.Allocation.{Allocation}
use Rattle.mpm_banks.specs.declared.segment.Allocation.TheVariants.{Free, Reserved}
use Rattle.mpm_banks.specs.declared.range.Space.{Space}
use Rattle.mpm_banks.specs.declared.range.Space.TheVariants.{Common, InSegment}
use Rattle.mpm_banks.specs.Memory.{Memory, no_segment, segment_of, HasSegment, IsSegment, IsMemory, first_of, limit_of, bytes_of, space_at, NamedByte, At, Nowhere, place_from, place_of, byte_of, byte_at}
use Rattle.mpm_banks.specs.MemoryLaws.{field_stays}
use Rattle.mpm_banks.specs.Allocations.{FitsBelowCommon, new_segment, allocated, fits, lowest_free, reserved, released, is_reserved, all_released, freed, is_owners, spec_of}

-- each element of a list that a function made of another
all_map : {A B : Type 0} (f : A → B) (P : A → Type 0) (Q : B → Type 0) (first : A) (xs : List A) → ((x : A) → P x → Q (f x)) → All P xs → All Q (map f xs)
all_map f P Q first xs keeps all k d below =
    let within : k < length xs = omega (arith, length-map xs f) in
    subst Q (sym (get_or-map f xs k first d within)) (keeps _ (all k first within))

new_is_segment : (spec : SegmentSpec) → FitsBelowCommon spec → IsSegment (new_segment spec)
new_is_segment spec fit = record { some = fit.some; below = fit.below; size = length_zeros (256 * spec.pages) }

pub new_is_memory : (segments : List Segment) (common : List ℕ) (specs : List SegmentSpec) → segments ≡ map new_segment specs → common ≡ zeros 16384
    → (1 ≤ length specs) × (length specs ≤ 16) → All FitsBelowCommon specs → IsMemory (record { segments = segments; common = common })
new_is_memory segments common specs are blank count fit =
    let size = ap length are ∙ length-map specs new_segment in
    record {
      segments = subst (All IsSegment) (sym are)
          (all_map new_segment FitsBelowCommon IsSegment (record { base = 0; pages = 0 }) specs new_is_segment fit);
      some = omega arith;
      count = omega arith;
      common = ap length blank ∙ length_zeros 16384;
    }

-- who has a segment changes nothing of where it lies
freed_is_segment : (owner : ℕ) (segment : Segment) → IsSegment segment → IsSegment (freed owner segment)
freed_is_segment owner segment is =
    either IsSegment (is_owners owner segment.allocation) _ _ (λ _. record { some = is.some; below = is.below; size = is.size }) (λ _. is)

pub all_released_is_memory : (segments before : List Segment) (common : List ℕ) (owner : ℕ) → segments ≡ map (freed owner) before
    → IsMemory (record { segments = before; common = common }) → IsMemory (record { segments = segments; common = common })
all_released_is_memory segments before common owner are is =
    let size = ap length are ∙ length-map before (freed owner) in
    record {
      segments = subst (All IsSegment) (sym are)
          (all_map (freed owner) IsSegment IsSegment no_segment before (freed_is_segment owner) is.segments);
      some = omega arith;
      count = omega arith;
      common = is.common;
    }

-- no segment comes or goes
pub count_allocated : (memory : Memory) (seg : ℕ) (allocation : Allocation) → length (allocated memory seg allocation).segments ≡ length memory.segments
unfolding allocated
count_allocated memory seg allocation = length-set memory.segments seg _

pub count_reserved : (memory : Memory) (owner : ℕ) (seg : Option ℕ) → length (reserved memory owner seg).segments ≡ length memory.segments
unfolding reserved
count_reserved memory owner None = refl
count_reserved memory owner (Some seg) = count_allocated memory seg (Reserved owner)

pub count_all_released : (memory : Memory) (owner : ℕ) → length (all_released memory owner).segments ≡ length memory.segments
unfolding all_released
count_all_released memory owner = length-map memory.segments (freed owner)

-- a segment that changes hands is in those hands
pub allocation_of_allocated : (memory : Memory) (seg : ℕ) (allocation : Allocation) → HasSegment memory seg → (segment_of (allocated memory seg allocation) seg).allocation ≡ allocation
unfolding allocated
allocation_of_allocated memory seg allocation there = ap (λ (s : Segment). s.allocation) (get_or-set_same memory.segments seg _ no_segment there)

-- the others stay as they are
pub segment_of_allocated : (memory : Memory) (seg other : ℕ) (allocation : Allocation) → other ≢ seg → segment_of (allocated memory seg allocation) other ≡ segment_of memory other
unfolding allocated
segment_of_allocated memory seg other allocation apart = get_or-set_other memory.segments seg other _ no_segment apart

pub same_spaces : (memory : Memory) (seg : ℕ) (allocation : Allocation) (space : Space)
    → (first_of (allocated memory seg allocation) space ≡ first_of memory space) × (bytes_of (allocated memory seg allocation) space ≡ bytes_of memory space)
unfolding allocated
same_spaces memory seg allocation Common = (refl, refl)
same_spaces memory seg allocation (InSegment other) =
    (ap (λ n. 256 * n) (field_stays (λ s. s.base) memory.segments seg other _ refl), field_stays (λ s. s.bytes) memory.segments seg other _ refl)

-- the segment that is found is free, has the pages, and the base page where one is asked for; no lower one fits
pub lowest_free_fits : (memory : Memory) (base : Option ℕ) (pages seg : ℕ) → lowest_free memory base pages ≡ Some seg
    → (HasSegment memory seg) × (fits base pages (segment_of memory seg) ≡ true) × ((lower : ℕ) → lower < seg → fits base pages (segment_of memory lower) ≡ false)
unfolding lowest_free
lowest_free_fits memory base pages seg is =
    let at = position-Some (fits base pages) memory.segments seg no_segment is in
    (at.0, at.1, at.2)

-- the segment that was found and reserved is there, where it was
pub reserved_is_there : (memory : Memory) (base : Option ℕ) (pages owner seg : ℕ) → lowest_free memory base pages ≡ Some seg
    → HasSegment (reserved memory owner (lowest_free memory base pages)) seg
reserved_is_there memory base pages owner seg is =
    omega (arith, count_reserved memory owner (lowest_free memory base pages), (lowest_free_fits memory base pages seg is).0)

spec_at : ℕ → ℕ → SegmentSpec
spec_at base pages = record { base = base; pages = pages }

same_spec : (a b : Segment) → a.base ≡ b.base → a.pages ≡ b.pages → spec_at a.base a.pages ≡ spec_at b.base b.pages
same_spec a b base pages = ap (λ first. spec_at first a.pages) base ∙ ap (spec_at b.base) pages

pub spec_of_reserved : (memory : Memory) (owner : ℕ) (reserved_seg : Option ℕ) (seg : ℕ) → spec_of (reserved memory owner reserved_seg) seg ≡ spec_of memory seg
unfolding reserved allocated spec_at
spec_of_reserved memory owner None seg = refl
spec_of_reserved memory owner (Some other) seg =
    let new = segment_of (allocated memory other (Reserved owner)) seg in
    same_spec new (segment_of memory seg)
    (field_stays (λ s. s.base) memory.segments other seg _ refl) (field_stays (λ s. s.pages) memory.segments other seg _ refl)

-- nobody reserved a segment that isn't there
pub nobody_reserved : (memory : Memory) (owner seg : ℕ) → length memory.segments ≤ seg → is_reserved memory owner seg ≡ false
unfolding is_reserved
nobody_reserved memory owner seg behind = ap (λ (s : Segment). is_owners owner s.allocation) (get_or-eq_default memory.segments no_segment behind)

pub released_by_another : (memory : Memory) (owner seg : ℕ) → is_reserved memory owner seg ≡ false → released memory owner seg ≡ memory
unfolding released
released_by_another memory owner seg not_owner = ap (λ b. if b then allocated memory seg Free else memory) not_owner

-- two memories read alike where each segment begins at the same page and has the same bytes

pub record SameBytes (old new : Memory) : Type 0 where
  pub base : (seg : ℕ) → (segment_of new seg).base ≡ (segment_of old seg).base
  pub bytes : (seg : ℕ) → (segment_of new seg).bytes ≡ (segment_of old seg).bytes
  pub common : new.common ≡ old.common

spaces_alike : (old new : Memory) → SameBytes old new → (space : Space) → (first_of new space ≡ first_of old space) × (bytes_of new space ≡ bytes_of old space)
spaces_alike old new same Common = (refl, same.common)
spaces_alike old new same (InSegment seg) = (ap (λ n. 256 * n) (same.base seg), same.bytes seg)

places_alike : (old new : Memory) → SameBytes old new → (seg at : ℕ) → place_of new seg at ≡ place_of old seg at
unfolding place_of
places_alike old new same seg at =
    let space = space_at seg at in
    let alike = spaces_alike old new same space in
    ap (λ first. place_from space first (min (first + length (bytes_of new space)) (limit_of space)) at) alike.0
    ∙ ap (λ (bytes : List ℕ). place_from space (first_of old space) (min (first_of old space + length bytes) (limit_of space)) at) alike.1

byte_alike : (old new : Memory) → SameBytes old new → (place : NamedByte) → byte_of new place ≡ byte_of old place
byte_alike old new same (At space index) = ap (λ bytes. get_or bytes index 0) (spaces_alike old new same space).1
byte_alike old new same Nowhere = refl

pub reads_alike : (old new : Memory) → SameBytes old new → (seg at : ℕ) → byte_at new seg at ≡ byte_at old seg at
unfolding byte_at
reads_alike old new same seg at = ap (byte_of new) (places_alike old new same seg at) ∙ byte_alike old new same (place_of old seg at)

-- memories whose segments only changed hands

pub same_bytes_itself : (memory : Memory) → SameBytes memory memory
same_bytes_itself memory = record { base = λ seg. refl; bytes = λ seg. refl; common = refl }

pub same_bytes_both : (old middle new : Memory) → SameBytes old middle → SameBytes middle new → SameBytes old new
same_bytes_both old middle new first second = record {
  base = λ seg. second.base seg ∙ first.base seg;
  bytes = λ seg. second.bytes seg ∙ first.bytes seg;
  common = second.common ∙ first.common;
}

pub same_bytes_allocated : (memory : Memory) (seg : ℕ) (allocation : Allocation) → SameBytes memory (allocated memory seg allocation)
unfolding allocated
same_bytes_allocated memory seg allocation = record {
  base = λ other. field_stays (λ s. s.base) memory.segments seg other _ refl;
  bytes = λ other. field_stays (λ s. s.bytes) memory.segments seg other _ refl;
  common = refl;
}

pub same_bytes_reserved : (memory : Memory) (owner : ℕ) (seg : Option ℕ) → SameBytes memory (reserved memory owner seg)
unfolding reserved
same_bytes_reserved memory owner None = same_bytes_itself memory
same_bytes_reserved memory owner (Some seg) = same_bytes_allocated memory seg (Reserved owner)

pub same_bytes_released : (memory : Memory) (owner seg : ℕ) → SameBytes memory (released memory owner seg)
unfolding released
same_bytes_released memory owner seg = either (SameBytes memory) (is_reserved memory owner seg) _ _ (λ _. same_bytes_allocated memory seg Free) (λ _. same_bytes_itself memory)

freed_bytes : (owner : ℕ) (segment : Segment) → ((freed owner segment).base ≡ segment.base) × ((freed owner segment).bytes ≡ segment.bytes)
freed_bytes owner segment =
    either (λ (s : Segment). (s.base ≡ segment.base) × (s.bytes ≡ segment.bytes)) (is_owners owner segment.allocation) _ _ (λ _. (refl, refl)) (λ _. (refl, refl))

segment_freed : (segments : List Segment) (owner seg : ℕ) → get_or (map (freed owner) segments) seg no_segment ≡ freed owner (get_or segments seg no_segment)
segment_freed [] owner seg = refl
segment_freed (s ∷ segments) owner zero = refl
segment_freed (s ∷ segments) owner (suc seg) = segment_freed segments owner seg

pub same_bytes_all_released : (memory : Memory) (owner : ℕ) → SameBytes memory (all_released memory owner)
unfolding all_released
same_bytes_all_released memory owner = record {
  base = λ seg. ap (λ (s : Segment). s.base) (segment_freed memory.segments owner seg) ∙ (freed_bytes owner (segment_of memory seg)).0;
  bytes = λ seg. ap (λ (s : Segment). s.bytes) (segment_freed memory.segments owner seg) ∙ (freed_bytes owner (segment_of memory seg)).1;
  common = refl;
}
