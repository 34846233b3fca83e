-- Bytes that are filled up to a size.
use Rattle.std.proofs.Common.{◌≡◌, ℕ, ◌+◌, ◌-◌, ◌≤◌, List, ◌++◌, length, take, replicate, ap, arith, ◌∙◌, take_all, length-append}
use Rattle.std.proofs.lemmas.List.{length-replicate}
use Rattle.mpm_generator.specs.Sizes.{filled_to}

as_many : (n m : ℕ) → (n + m) - n ≡ m
as_many n m = omega arith

-- all bytes stay where more come after them
pub all_taken : (xs : List ℕ) (count value : ℕ) → take (length xs + count) xs ++ replicate ((length xs + count) - length xs) value ≡ xs ++ replicate count value
all_taken xs count value =
    ap (λ front. front ++ replicate ((length xs + count) - length xs) value) (take_all (length xs + count) xs (omega arith))
    ∙ ap (λ n. xs ++ replicate n value) (as_many (length xs) count)

-- what is filled up to a size has that size
pub size_filled : (size value : ℕ) (xs : List ℕ) → length xs ≤ size → length (filled_to size value xs) ≡ size
unfolding filled_to
size_filled size value xs within =
    let joined = length-append xs (replicate (size - length xs) value) in
    let behind = length-replicate (size - length xs) value in
    omega (arith, joined, behind)
