-- Descriptors of segments: none yet, and one more. Where copies of descriptors stand.
use Rattle.std.proofs.Common.{◌≡◌, ◌∙◌, ℕ, ◌+◌, ◌<◌, ◌≤◌, [], ◌∷◌, ◌++◌, refl, arith, ap, sym, map-id}
use Rattle.std.proofs.lemmas.List.{flat_map_more}
use Rattle.std.proofs.lemmas.List.FromFn.{map-range_with_len_more}
use Rattle.std.specs.List.{flat_map, range_with_len}
use Rattle.mpm_banks.specs.Memory.{Memory}
use Rattle.mpm_xdos.specs.Aborting.{copy_address}
use Rattle.mpm_gate.specs.Descriptors.{segment_descriptor}
use Rattle.mpm_xdos.specs.Copies.{segment_descriptors}

pub no_descriptor : (memory : Memory) → [] ≡ segment_descriptors 0 memory
unfolding segment_descriptors
no_descriptor memory = refl

-- the numbers below one more
one_more : (n : ℕ) → range_with_len 0 (n + 1) ≡ range_with_len 0 n ++ n ∷ []
one_more n =
    sym (map-id (range_with_len 0 (n + 1))) ∙ map-range_with_len_more (λ k. k) 0 n n (omega arith) ∙ ap (λ below. below ++ n ∷ []) (map-id (range_with_len 0 n))

pub descriptors_more : (n : ℕ) (memory : Memory) → segment_descriptors n memory ++ segment_descriptor memory n ≡ segment_descriptors (n + 1) memory
unfolding segment_descriptors
descriptors_more n memory =
    flat_map_more (segment_descriptor memory) [] (range_with_len 0 n) n ∙ ap (flat_map (segment_descriptor memory)) (sym (one_more n))

-- the copies of the descriptors of 32 slots stand in common memory, below the copy of the system data page, and apart
pub copy_within : (p : ℕ) → p < 32 → (49152 ≤ copy_address p) × (copy_address p + 52 ≤ 65280)
copy_within p below = (omega arith, omega arith)

pub copies_apart : (p q : ℕ) → p < q → copy_address p + 52 ≤ copy_address q
copies_apart p q before = omega arith
