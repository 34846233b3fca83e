-- Each process's segment stays a home: whatever becomes of memory, a segment keeps its place and its size, and one in which
-- processes live goes into no other hands.
use Rattle.std.proofs.Common.{◌≡◌, ◌∙◌, ℕ, true, List, Option, Some, None, inl, inr, length, refl, sym, ap, subst, arith, ◌≢◌}
use Rattle.std.proofs.lemmas.Bool.{cases_eq, and_parts}
use Rattle.std.proofs.lemmas.List.{length-map, length-set, get_or-map}
use Rattle.mpm_base.proofs.Choices.{either}
use Rattle.mpm_base.specs.Calls.{Answer}
use Rattle.z80_regs.specs.Outcome.{Action}
use Rattle.mpm_banks.specs.Memory.{Memory, IsMemory, no_segment, SameSegments, segment_of}
use Rattle.mpm_banks.specs.MemoryLaws.{field_stays}
use Rattle.mpm_banks.specs.Actions.{memory_after}
use Rattle.mpm_banks.specs.declared.segment.Segment.{Segment}
use Rattle.mpm_banks.specs.declared.segment.Allocation.{Allocation}
use Rattle.mpm_banks.specs.declared.segment.Allocation.TheVariants.{Free, Reserved, Occupied}
use Rattle.mpm_banks.specs.Allocations.{is_free, lowest_free, allocated, reserved, released, is_reserved, is_owners, freed, all_released, occupied}
use Rattle.mpm_banks.proofs.SegmentLaws.{allocation_of_allocated, segment_of_allocated, lowest_free_fits}
use Rattle.mpm_banks.proofs.ActionLaws.{same_segments_after}
use Rattle.mpm_gate.specs.Replies.{placed}
use Rattle.mpm_gate.proofs.ReplyLaws.{placed_segments}
use Rattle.mpm_gate.specs.Gates.{IsHome}
use Rattle.mpm_system.specs.Whole.{IsOccupied}
use Rattle.mpm_system.proofs.SizeLaws.{SameSizes, memory_allocated, memory_released, memory_same, sizes_after, sizes_placed}

-- what was a home, is one, what was lived in, is, and memory has its segments
pub record KeepsHomes (old new : Memory) : Type 0 where
  pub all : (seg : ℕ) → IsHome old seg → IsHome new seg
  pub lived : (seg : ℕ) → IsHome old seg → IsOccupied old seg → IsOccupied new seg
  pub memory : IsMemory old → IsMemory new

-- a segment is a home where its place and its size are those of one
same_home : (old new : Memory) (seg : ℕ) → length new.segments ≡ length old.segments → (segment_of new seg).base ≡ (segment_of old seg).base
    → (segment_of new seg).pages ≡ (segment_of old seg).pages → IsHome old seg → IsHome new seg
same_home old new seg count base pages home = record {
  exists = omega (arith, count, home.exists);
  pages = omega (arith, pages, home.pages);
  end = omega (arith, base, pages, home.end);
}

pub keeps_itself : (memory : Memory) → KeepsHomes memory memory
keeps_itself memory = record { all = λ seg home. home; lived = λ seg home h. h; memory = λ is. is }

pub keeps_both : (old middle new : Memory) → KeepsHomes old middle → KeepsHomes middle new → KeepsHomes old new
keeps_both old middle new first second = record {
  all = λ seg home. second.all seg (first.all seg home);
  lived = λ seg home h. second.lived seg (first.all seg home) (first.lived seg home h);
  memory = λ is. second.memory (first.memory is);
}

pub keeps_same : (old new : Memory) → SameSegments old new → SameSizes old new → KeepsHomes old new
keeps_same old new same sizes = record {
  all = λ seg home. same_home old new seg same.count (same.base seg) (same.pages seg) home;
  lived = λ seg home h. same.allocation seg ∙ h;
  memory = λ is. memory_same old new same sizes is;
}

-- bytes change
pub keeps_placed : (answer : Answer) (word seg : ℕ) (memory : Memory) → KeepsHomes memory (placed answer word seg memory)
keeps_placed answer word seg memory = keeps_same memory _ (placed_segments answer word seg memory) (sizes_placed answer word seg memory)

pub keeps_acted : (actions : List Action) (seg : ℕ) (memory : Memory) → KeepsHomes memory (memory_after actions seg memory)
keeps_acted actions seg memory = keeps_same memory _ (same_segments_after actions seg memory) (sizes_after actions seg memory)

-- segments change hands

pub home_allocated : (memory : Memory) (seg : ℕ) (allocation : Allocation) (other : ℕ) → IsHome memory other → IsHome (allocated memory seg allocation) other
unfolding allocated
home_allocated memory seg allocation other home =
    same_home memory _ other (length-set memory.segments seg _)
    (field_stays (λ s. s.base) memory.segments seg other _ refl) (field_stays (λ s. s.pages) memory.segments seg other _ refl) home

pub lived_elsewhere : (memory : Memory) (seg : ℕ) (allocation : Allocation) (other : ℕ) → other ≢ seg → IsOccupied memory other → IsOccupied (allocated memory seg allocation) other
lived_elsewhere memory seg allocation other apart h = ap (λ (s : Segment). s.allocation) (segment_of_allocated memory seg other allocation apart) ∙ h

-- one that nobody lives in, or that goes on being lived in
keeps_allocated : (memory : Memory) (seg : ℕ) (allocation : Allocation) → (IsOccupied memory seg → allocation ≡ Occupied) → KeepsHomes memory (allocated memory seg allocation)
keeps_allocated memory seg allocation stays = record {
  all = λ other home. home_allocated memory seg allocation other home;
  lived = λ other home h. elim (cases_eq other seg) [
    | inl same ↦
        let here : IsOccupied memory seg = subst (IsOccupied memory) same h in
        let there = allocation_of_allocated memory seg allocation (omega (arith, same, home.exists)) ∙ stays here in
        subst (IsOccupied (allocated memory seg allocation)) (sym same) there
    | inr apart ↦ lived_elsewhere memory seg allocation other apart h
  ];
  memory = λ is. memory_allocated memory seg allocation is;
}

pub keeps_occupied : (memory : Memory) (seg : ℕ) → KeepsHomes memory (occupied memory seg)
keeps_occupied memory seg = keeps_allocated memory seg Occupied (λ h. refl)

pub free_or_lived : (allocation : Allocation) → is_free allocation ≡ true → allocation ≡ Occupied → ⊥
free_or_lived Free free lived = absurd (cc)
free_or_lived (Reserved owner) free lived = absurd (cc)
free_or_lived Occupied free lived = absurd (cc)

owned_or_lived : (owner : ℕ) (allocation : Allocation) → is_owners owner allocation ≡ true → allocation ≡ Occupied → ⊥
owned_or_lived owner Free owned lived = absurd (cc)
owned_or_lived owner (Reserved other) owned lived = absurd (cc)
owned_or_lived owner Occupied owned lived = absurd (cc)

-- a segment that is reserved was free

pub found_is_free : (memory : Memory) (base : Option ℕ) (pages seg : ℕ) → lowest_free memory base pages ≡ Some seg → is_free (segment_of memory seg).allocation ≡ true
found_is_free memory base pages seg is = (and_parts (is_free (segment_of memory seg).allocation) _ (lowest_free_fits memory base pages seg is).1).0

keeps_found : (memory : Memory) (owner : ℕ) (found : Option ℕ) → ((seg : ℕ) → found ≡ Some seg → is_free (segment_of memory seg).allocation ≡ true)
    → KeepsHomes memory (reserved memory owner found)
unfolding reserved
keeps_found memory owner None free = keeps_itself memory
keeps_found memory owner (Some seg) free =
    keeps_allocated memory seg (Reserved owner) (λ h. absurd (free_or_lived (segment_of memory seg).allocation (free seg refl) h))

pub keeps_reserved : (memory : Memory) (owner : ℕ) (base : Option ℕ) (pages : ℕ) → KeepsHomes memory (reserved memory owner (lowest_free memory base pages))
keeps_reserved memory owner base pages =
    keeps_found memory owner (lowest_free memory base pages)
    (λ seg is. found_is_free memory base pages seg is)

-- one that is released was reserved
pub keeps_released : (memory : Memory) (owner seg : ℕ) → KeepsHomes memory (released memory owner seg)
unfolding released is_reserved
keeps_released memory owner seg =
    either (KeepsHomes memory) (is_owners owner (segment_of memory seg).allocation) _ _
    (λ owned. keeps_allocated memory seg Free (λ h. absurd (owned_or_lived owner (segment_of memory seg).allocation owned h))) (λ _. keeps_itself memory)

pub freed_place : (owner : ℕ) (segment : Segment) → ((freed owner segment).base ≡ segment.base) × ((freed owner segment).pages ≡ segment.pages)
freed_place owner segment =
    either (λ (s : Segment). (s.base ≡ segment.base) × (s.pages ≡ segment.pages)) (is_owners owner segment.allocation) _ _ (λ _. (refl, refl)) (λ _. (refl, refl))

pub freed_lived : (owner : ℕ) (segment : Segment) → segment.allocation ≡ Occupied → (freed owner segment).allocation ≡ Occupied
freed_lived owner segment h =
    either (λ (s : Segment). s.allocation ≡ Occupied) (is_owners owner segment.allocation) _ _ (λ owned. absurd (owned_or_lived owner segment.allocation owned h)) (λ _. h)

pub keeps_all_released : (memory : Memory) (owner : ℕ) → KeepsHomes memory (all_released memory owner)
unfolding all_released
keeps_all_released memory owner =
    let at : (seg : ℕ) → IsHome memory seg → segment_of (all_released memory owner) seg ≡ freed owner (segment_of memory seg) =
    λ seg home. get_or-map (freed owner) memory.segments seg no_segment no_segment home.exists in
    record {
      all = λ seg home.
          same_home memory _ seg (length-map memory.segments (freed owner))
          (ap (λ (s : Segment). s.base) (at seg home) ∙ (freed_place owner (segment_of memory seg)).0)
          (ap (λ (s : Segment). s.pages) (at seg home) ∙ (freed_place owner (segment_of memory seg)).1) home;
      lived = λ seg home h. ap (λ (s : Segment). s.allocation) (at seg home) ∙ freed_lived owner (segment_of memory seg) h;
      memory = λ is. memory_released memory owner is;
    }
