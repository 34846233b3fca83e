-- Bytes that are cut to a length, or filled to it with zeros.
use Rattle.std.proofs.Common.{◌≡◌, ◌∙◌, ℕ, ◌+◌, ◌-◌, List, ◌++◌, take, drop, length, min, replicate, ap, arith}
use Rattle.std.proofs.lemmas.List.{length-append, length-take, length-replicate, take_min, drop-replicate}
use Rattle.mpm_base.specs.Lists.{in_width}

pub length_in_width : (width : ℕ) (bytes : List ℕ) → length (in_width width bytes) ≡ width
unfolding in_width
length_in_width width bytes =
    let both : length (in_width width bytes) ≡ length (take width bytes) + length (replicate {A = ℕ} (width - length bytes) 0) = length-append (take width bytes) (replicate (width - length bytes) 0) in
    omega (arith, length-take width bytes, length-replicate {A = ℕ} (width - length bytes) 0)

-- as they are written over zeros
pub over_zeros : (width : ℕ) (bytes : List ℕ) → take (min (length bytes) width) bytes ++ drop (min (length bytes) width) (replicate width 0) ≡ in_width width bytes
unfolding in_width
over_zeros width bytes =
    let size : min (length bytes) width ≡ min width (length bytes) = omega arith in
    let lacking : width - min (length bytes) width ≡ width - length bytes = omega arith in
    let front : take (min (length bytes) width) bytes ≡ take width bytes = ap (λ n. take n bytes) size ∙ take_min width bytes in
    let rest : drop (min (length bytes) width) (replicate {A = ℕ} width 0) ≡ replicate (width - length bytes) 0 = drop-replicate (min (length bytes) width) width 0 ∙ ap (λ n. replicate {A = ℕ} n 0) lacking in
    λ i. front i ++ rest i
