-- Worked examples, by computation.
use Rattle.std.proofs.Common.{◌≡◌, refl}
use Rattle.mpm_base.specs.declared.kind.Kind.TheVariants.{Ibm3740, Hd4}
use Rattle.mpm_blocks.specs.Geometries.{logical_sectors, skew, place_of}
use Rattle.mpm_blocks.specs.Maps.{used_to, new_map, free_count}

-- the first sector after the system's tracks
pub place_first : place_of Ibm3740 0 ≡ 52
unfolding skew
place_first = refl

-- the second one
pub place_second : place_of Ibm3740 1 ≡ 58
unfolding skew
place_second = refl

-- the first sector of block 2
pub place_block_2 : place_of Ibm3740 16 ≡ 71
unfolding skew
place_block_2 = refl

-- the last sector of a floppy disk
pub place_last : place_of Ibm3740 1949 ≡ 1997
unfolding skew
place_last = refl

-- how many sectors there are after the system's tracks
pub sectors_of_a_floppy : logical_sectors Ibm3740 ≡ 1950
sectors_of_a_floppy = refl

pub sectors_of_a_hard_disk : logical_sectors Hd4 ≡ 32768
sectors_of_a_hard_disk = refl

-- the free blocks of an empty floppy disk
pub free_of_a_floppy : free_count (new_map Ibm3740) ≡ 241
unfolding used_to
free_of_a_floppy = refl
