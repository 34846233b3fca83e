-- One block more, and the numbers after it.
use Rattle.std.proofs.Common.{◌≡◌, ℕ, suc, ◌+◌, ◌*◌, List, ◌++◌, refl, ap, arith, ◌∙◌, sym, append-nil, add-one}
use Rattle.std.proofs.lemmas.List.{append_assoc}
use Rattle.mpm_generator.specs.Draws.{nth_behind}
use Rattle.mpm_generator.specs.Programs.{blocks_behind, block_behind, code_of}

pub no_number : (x : ℕ) → x ≡ nth_behind 0 x
unfolding nth_behind
no_number x = refl

pub no_block : (code : List ℕ) (x : ℕ) → code ≡ code ++ blocks_behind 0 x
unfolding blocks_behind
no_block code x = sym (append-nil code)

three_more : (n : ℕ) → 3 * (n + 1) ≡ suc (suc (suc (3 * n)))
three_more n = omega arith

pub numbers_more : (n x : ℕ) → nth_behind 3 (nth_behind (3 * n) x) ≡ nth_behind (3 * (n + 1)) x
unfolding nth_behind
numbers_more n x = sym (ap (λ m. nth_behind m x) (three_more n))

pub blocks_more : (code : List ℕ) (n x : ℕ) → (code ++ blocks_behind n x) ++ code_of (block_behind (nth_behind (3 * n) x)) ≡ code ++ blocks_behind (n + 1) x
unfolding blocks_behind
blocks_more code n x =
    append_assoc code (blocks_behind n x) (code_of (block_behind (nth_behind (3 * n) x)))
    ∙ ap (λ m. code ++ blocks_behind m x) (sym (add-one n))
