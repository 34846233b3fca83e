-- Laws of ranges: where one is found, and what its bytes are, read and written.
use Rattle.std.proofs.Common.{◌≡◌, ℕ, ◌+◌, ◌-◌, ◌<◌, ◌≤◌, ◌↔◌, Option, Some, None, IsSome, length, refl, ap, sym, subst, ◌∙◌, arith, inl, inr, add-zero}
use Rattle.std.proofs.lemmas.Bool.{cases_lt}
use Rattle.std.proofs.lemmas.Bool.Decides.{nat_tests}
use Rattle.mpm_banks.specs.declared.range.Space.{Space}
use Rattle.mpm_banks.specs.declared.range.Range.{Range}
use Rattle.mpm_banks.specs.Memory.{Memory, bytes_of, first_of, end_of, space_at, At, place_from, place_of}
use Rattle.mpm_banks.specs.Ranges.{range_from, range_of, IsWholly}
use Rattle.mpm_banks.specs.MemoryLaws.{place_is_at, space_below, space_above}

-- what is known of a range that was found
pub record Found (memory : Memory) (seg address size : ℕ) (range : Range) : Type 0 where
  pub reaches : range.space ≡ space_at seg address
  pub address_is : address ≡ first_of memory range.space + range.from
  pub size_is : range.to ≡ range.from + size
  pub ends : address + size ≤ end_of memory range.space

from_range : (space : Space) (first end address size : ℕ) (range : Range) → range_from space first end address size ≡ Some range
    → (range.space ≡ space) × (address ≡ first + range.from) × (range.to ≡ range.from + size) × (address + size ≤ end)
from_range space first end address size range is = grind (arith, nat_tests)

pub found : (memory : Memory) (seg address size : ℕ) (range : Range) → range_of memory seg address size ≡ Some range → Found memory seg address size range
unfolding range_of
found memory seg address size range is =
    let facts = from_range (space_at seg address) _ _ address size range is in
    record {
      reaches = facts.0;
      address_is = facts.1 ∙ ap (λ s. first_of memory s + range.from) (sym facts.0);
      size_is = facts.2;
      ends = let P : Space → Type 0 = λ s. address + size ≤ end_of memory s in subst P (sym facts.0) facts.3;
    }

-- addresses before the end of a space reach into it all
space_on : (memory : Memory) (seg address k : ℕ) (space : Space) → space ≡ space_at seg address → address + k < end_of memory space → space_at seg (address + k) ≡ space
space_on memory seg address k space at before = elim (cases_lt address 49152) [
  | inl below ↦
      let here = at ∙ space_below seg address below in
      let ends = let P : Space → Type 0 = λ s. address + k < end_of memory s in subst P here before in
      space_below seg (address + k) (omega arith) ∙ sym here
  | inr above ↦ space_above seg (address + k) (omega arith) ∙ sym (at ∙ space_above seg address above)
]

at_place : (space : Space) (first end address index : ℕ) → address ≡ first + index → address < end → place_from space first end address ≡ At space index
at_place space first end address index is before = grind (arith, nat_tests)

-- each address of a range names the byte that stands there in it
pub place_in_range : (memory : Memory) (seg address size : ℕ) (range : Range) (k : ℕ) → range_of memory seg address size ≡ Some range → k < size
    → place_of memory seg (address + k) ≡ At range.space (range.from + k)
unfolding place_of
place_in_range memory seg address size range k is below =
    let facts = found memory seg address size range is in
    let here = space_on memory seg address k range.space facts.reaches (omega arith) in
    ap (λ space. place_from space (first_of memory space) (end_of memory space) (address + k)) here
    ∙ at_place range.space _ _ (address + k) (range.from + k) (omega arith) (omega arith)

-- it lies inside its space
pub found_inside : (memory : Memory) (seg address size : ℕ) (range : Range) → range_of memory seg address size ≡ Some range
    → (range.from ≤ range.to) × (range.to ≤ length (bytes_of memory range.space))
found_inside memory seg address size range is =
    let facts = found memory seg address size range is in
    (omega (arith, facts), omega (arith, facts))

range_from_some : (space : Space) (first end address size : ℕ) → first ≤ address → address + size ≤ end → IsSome (range_from space first end address size)
range_from_some space first end address size above below = grind (arith, nat_tests)

some_range : (o : Option Range) → IsSome o → (range : Range) × (o ≡ Some range)
some_range (Some range) is = (range, refl)
some_range None is = absurd (cc is)

-- a range is found exactly where all its addresses name bytes of one segment, or of common memory
pub range_of_exact : (memory : Memory) (seg address size : ℕ) → 0 < size → IsSome (range_of memory seg address size) ↔ IsWholly memory seg address size
unfolding range_of
range_of_exact memory seg address size some = (
  λ is. let range = some_range (range_of memory seg address size) is in
      (range.0.space, range.0.from, λ k below. place_in_range memory seg address size range.0 k range.1 below),
  λ (space, from, places).
      let first = place_is_at memory seg (address + 0) space (from + 0) (places 0 some) in
      let last = place_is_at memory seg (address + (size - 1)) space (from + (size - 1)) (places (size - 1) (omega arith)) in
      let here = ap (space_at seg) (sym (add-zero address)) ∙ first.reaches in
      subst (λ s. IsSome (range_from s (first_of memory s) (end_of memory s) address size)) (sym here)
      (range_from_some space _ _ address size (omega arith) (omega arith)),
)
