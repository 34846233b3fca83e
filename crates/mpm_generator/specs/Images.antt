-- The image of the drive: an `hd4` disk of 512 directory entries in blocks 0 to 7, with three files in the blocks from 8 on.
-- (MP/M II Programmer's Guide, "Directory Entries".)
use Rattle.std.specs.Prelude.{ℕ, ◌+◌, List, ◌++◌, true, nat_lt, if◌then◌else◌, map, length, replicate, codes}
use Rattle.std.specs.List.{range_with_len}
use Rattle.mpm_dirent.specs.Entries.{bytes_of}
use Rattle.mpm_dirent.specs.declared.kinds.Entry.TheVariants.{File}
use Rattle.mpm_generator.specs.Draws.{nth_behind}
use Rattle.mpm_generator.specs.Sizes.{filled_to, records_for, blocks_for, in_blocks}
use Rattle.mpm_generator.specs.Programs.{program_behind}

-- the number of the block at a place of a file that has so many, from one on; 0 after them
abbrev pub number_at : ℕ → ℕ → ℕ → ℕ
number_at first count place = if nat_lt place count then first + place else 0

abbrev pub numbers_from : ℕ → ℕ → List ℕ
numbers_from first count = map (number_at first count) (range_with_len 0 16)

-- the directory entry of a file of user 0 with so many bytes, in the blocks from one on
unfoldable pub entry_for : List ℕ → ℕ → ℕ → List ℕ
entry_for name first count =
    bytes_of (File (record {
      user = 0;
      name = name;
      ex = 0;
      s1 = 0;
      s2 = 0;
      rc = records_for count;
      blocks = numbers_from first (blocks_for count);
    })) true

-- the directory of two programs of so many bytes, and of their file: three entries, the others free
unfoldable pub directory_of : ℕ → ℕ → List ℕ
directory_of first second =
    let second_block = 8 + blocks_for first in
    filled_to 16384 229 (entry_for (codes "G0      COM") 8 first
    ++ (entry_for (codes "G1      COM") second_block second
    ++ entry_for (codes "DATA    DAT") (second_block + blocks_for second) 4096))

-- what stands in the blocks of files: two programs, and 32 records of full stops
abbrev pub files_of : List ℕ → List ℕ → List ℕ
files_of first second = in_blocks first ++ (in_blocks second ++ replicate 4096 46)

-- the image with two programs, all other bytes zeros
unfoldable pub image_with : List ℕ → List ℕ → List ℕ
image_with first second = filled_to 4194304 0 (directory_of (length first) (length second) ++ files_of first second)

-- the image of a seed: the numbers of the first program are drawn before those of the second
abbrev pub image_of : ℕ → List ℕ
image_of seed = image_with (program_behind seed) (program_behind (nth_behind 1200 seed))
