-- File control blocks of 36 bytes, read and written. (MP/M II Programmer's Guide, "File Control Block Definition".)
use Rattle.std.specs.Prelude.{ℕ, List, ◌∷◌, ◌++◌, slice_index}
use Rattle.mpm_dirent.specs.Entries.{part}
use Rattle.mpm_fcb.specs.declared.block.ControlBlock.{ControlBlock}

-- the fields of 36 bytes
unfoldable pub block_of : List ℕ → ControlBlock
block_of bytes = record {
  drive = slice_index bytes 0;
  name = part 1 11 bytes;
  ex = slice_index bytes 12;
  s1 = slice_index bytes 13;
  s2 = slice_index bytes 14;
  rc = slice_index bytes 15;
  map = part 16 16 bytes;
  cr = slice_index bytes 32;
  random = part 33 3 bytes;
}

-- the bytes of a block
unfoldable pub bytes_of : ControlBlock → List ℕ
bytes_of b = b.drive ∷ (b.name ++ (b.ex ∷ b.s1 ∷ b.s2 ∷ b.rc ∷ (b.map ++ (b.cr ∷ b.random))))
