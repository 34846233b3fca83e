-- How long the programs of a seed are.
use Rattle.std.proofs.Common.{◌≡◌, ℕ, zero, suc, ◌+◌, ◌*◌, ◌≤◌, List, ◌++◌, length, refl, arith, length-append}
use Rattle.mpm_generator.specs.declared.block.Block.{Block}
use Rattle.mpm_generator.specs.declared.block.Block.TheVariants.{Write, Show, Lock, Unlock, Delay, NewLine}
use Rattle.mpm_generator.specs.Draws.{nth_behind}
use Rattle.mpm_generator.specs.Sizes.{filled_to, records_for, blocks_for, in_blocks}
use Rattle.mpm_generator.specs.Programs.{code_of, block_behind, blocks_behind, start, ending, code_behind, program_behind}
use Rattle.mpm_generator.proofs.Sizes.{size_filled}

code_size : (b : Block) → length (code_of b) ≤ 23
code_size (Write place letter) = let size : length (code_of (Write place letter)) ≡ 19 = refl in omega (arith, size)
code_size (Show place) = let size : length (code_of (Show place)) ≡ 23 = refl in omega (arith, size)
code_size (Lock place) = let size : length (code_of (Lock place)) ≡ 20 = refl in omega (arith, size)
code_size (Unlock place) = let size : length (code_of (Unlock place)) ≡ 20 = refl in omega (arith, size)
code_size (Delay ticks) = let size : length (code_of (Delay ticks)) ≡ 8 = refl in omega (arith, size)
code_size NewLine = let size : length (code_of NewLine) ≡ 14 = refl in omega (arith, size)

blocks_size : (n x : ℕ) → length (blocks_behind n x) ≤ 23 * n
unfolding blocks_behind
blocks_size zero x = omega arith
blocks_size (suc n) x =
    let code : List ℕ = code_of (block_behind (nth_behind (3 * n) x)) in
    omega (arith, length-append (blocks_behind n x) code, blocks_size n x, code_size (block_behind (nth_behind (3 * n) x)))

start_size : length start ≡ 78
unfolding filled_to
start_size = refl

code_behind_size : (x : ℕ) → length (code_behind x) ≤ 9283
unfolding code_behind
code_behind_size x =
    let last : length ending ≡ 5 = refl in
    omega (arith, length-append start (blocks_behind 400 x ++ ending), length-append (blocks_behind 400 x) ending, start_size, blocks_size 400 x, last)

-- at most 73 records
pub program_size : (x : ℕ) → length (program_behind x) ≤ 9344
unfolding program_behind
program_size x =
    let code : List ℕ = code_behind x in
    let few = code_behind_size x in
    omega (arith, few, size_filled (128 * records_for (length code)) 0 code (omega arith))

-- and what is filled up to whole blocks is at most a block more
pub in_blocks_size : (bytes : List ℕ) → length (in_blocks bytes) ≤ length bytes + 2047
in_blocks_size bytes = omega (arith, size_filled (2048 * blocks_for (length bytes)) 0 bytes (omega arith))
