-- Worked examples, by computation.
use Rattle.std.proofs.Common.{◌≡◌, true, false, ◌∷◌, ◌++◌, replicate, refl}
use Rattle.std.specs.Prelude.{codes}
use Rattle.mpm_dirent.specs.declared.kinds.Entry.TheVariants.{Free, File}
use Rattle.mpm_dirent.specs.Entries.{blocks_of, map_of, file_of, entry_of}

-- a wide map's words have their low bytes first
pub words_read : blocks_of (1 ∷ 2 ∷ replicate 14 0) true ≡ 513 ∷ replicate 15 0
unfolding blocks_of
words_read = refl

pub words_written : map_of (513 ∷ replicate 15 0) true ≡ 1 ∷ 2 ∷ replicate 14 0
unfolding map_of
words_written = refl

-- a file of user 0 with one block
pub file_read : entry_of (0 ∷ (codes "A       TXT" ++ (0 ∷ 0 ∷ 0 ∷ 3 ∷ 2 ∷ replicate 15 0))) false ≡ File (record { user = 0; name = codes "A       TXT"; ex = 0; s1 = 0; s2 = 0; rc = 3; blocks = 2 ∷ replicate 15 0 })
unfolding entry_of file_of blocks_of
file_read = refl

-- a free entry
pub free_read : entry_of (replicate 32 229) false ≡ Free
unfolding entry_of
free_read = refl
