-- A block is read back from the bytes that are written of it, and its bytes are those that it was read from.
use Rattle.std.proofs.Common.{◌≡◌, ◌∙◌, ℕ, List, length, refl, ap, subst}
use Rattle.mpm_dirent.proofs.Numbers.{spread, spread_is}
use Rattle.mpm_fcb.specs.declared.block.ControlBlock.{ControlBlock}
use Rattle.mpm_fcb.specs.Blocks.{block_of, bytes_of}

bytes_of_read : (bytes : List ℕ) → length bytes ≡ 36 → bytes_of (block_of bytes) ≡ bytes
unfolding block_of bytes_of
bytes_of_read bytes size =
    let P : List ℕ → Type 0 = λ b. bytes_of (block_of b) ≡ b in
    subst P (spread_is bytes 36 size) refl

pub bytes_back : (bytes : List ℕ) (b : ControlBlock) → b ≡ block_of bytes → length bytes ≡ 36 → bytes_of b ≡ bytes
bytes_back bytes b is size = ap bytes_of is ∙ bytes_of_read bytes size

abbrev IsBack : ControlBlock → List ℕ → List ℕ → List ℕ → Type 0
IsBack b name map random = block_of (bytes_of (record b { name = name; map = map; random = random })) ≡ record b { name = name; map = map; random = random }

block_of_written : (b : ControlBlock) → length b.name ≡ 11 → length b.map ≡ 16 → length b.random ≡ 3 → block_of (bytes_of b) ≡ b
unfolding block_of bytes_of
block_of_written b named mapped placed =
    subst (λ name. IsBack b name b.map b.random) (spread_is b.name 11 named)
    (subst (λ map. IsBack b (spread b.name 11) map b.random) (spread_is b.map 16 mapped)
    (subst (λ random. IsBack b (spread b.name 11) (spread b.map 16) random) (spread_is b.random 3 placed) refl))

pub block_back : (bytes : List ℕ) (b : ControlBlock) → bytes ≡ bytes_of b → length b.name ≡ 11 → length b.map ≡ 16 → length b.random ≡ 3 → block_of bytes ≡ b
block_back bytes b is named mapped placed = ap block_of is ∙ block_of_written b named mapped placed
