-- The kinds of disks, each a row: their sizes, their disk parameter blocks, and where their sectors are. (CP/M Alteration Guide, "Disk
-- Parameter Tables"; MP/M II System Guide, "Disk Definition Tables".)
use Rattle.std.specs.Prelude.{ℕ, ◌+◌, ◌-◌, ◌*◌, ◌/◌, ◌%◌, List, [], ◌∷◌, ◌++◌, true, false, slice_index}
use Rattle.mpm_base.specs.Words.{word_bytes}
use Rattle.mpm_base.specs.declared.kind.Kind.{Kind}
use Rattle.mpm_base.specs.declared.kind.Kind.TheVariants.{Ibm3740, Hd4, Hd8}
use Rattle.mpm_blocks.specs.declared.parameters.Geometry.{Geometry}

-- their sizes
abbrev pub geometry_of : Kind → Geometry
geometry_of Ibm3740 = record { bytes = 256256; block = 1024; dsm = 242; drm = 63; directory_blocks = 2; wide = false; mask = 0 }
geometry_of Hd4 = record { bytes = 4194304; block = 2048; dsm = 2047; drm = 511; directory_blocks = 8; wide = true; mask = 0 }
geometry_of Hd8 = record { bytes = 8388608; block = 4096; dsm = 2047; drm = 511; directory_blocks = 4; wide = true; mask = 1 }

-- the greatest block of a disk
abbrev pub last_block : Kind → ℕ
last_block kind = (geometry_of kind).dsm

-- how many records of 128 bytes a block has
abbrev pub block_records : Kind → ℕ
block_records kind = (geometry_of kind).block / 128

-- a disk parameter block: the records of a track, the block shift and mask, the extent mask, the last block, the last directory entry, the
-- bits of the directory's blocks, the directory entries that are checked, and the system's tracks
pub record Parameters : Type 0 where
  pub spt : ℕ
  pub bsh : ℕ
  pub blm : ℕ
  pub exm : ℕ
  pub dsm : ℕ
  pub drm : ℕ
  pub al0 : ℕ
  pub al1 : ℕ
  pub cks : ℕ
  pub off : ℕ

abbrev pub parameters_of : Kind → Parameters
parameters_of Ibm3740 = record { spt = 26; bsh = 3; blm = 7; exm = 0; dsm = 242; drm = 63; al0 = 192; al1 = 0; cks = 16; off = 2 }
parameters_of Hd4 = record { spt = 128; bsh = 4; blm = 15; exm = 0; dsm = 2047; drm = 511; al0 = 255; al1 = 0; cks = 0; off = 0 }
parameters_of Hd8 = record { spt = 128; bsh = 5; blm = 31; exm = 1; dsm = 2047; drm = 511; al0 = 240; al1 = 0; cks = 0; off = 0 }

-- its fifteen bytes
abbrev pub parameter_bytes : Parameters → List ℕ
parameter_bytes p =
    word_bytes p.spt ++ (p.bsh ∷ p.blm ∷ p.exm ∷ (word_bytes p.dsm ++ (word_bytes p.drm ++ (p.al0 ∷ p.al1 ∷ (word_bytes p.cks ++ word_bytes p.off)))))

-- the sectors of the tracks that are the system's
abbrev pub system_sectors : Kind → ℕ
system_sectors Ibm3740 = 52
system_sectors Hd4 = 0
system_sectors Hd8 = 0

-- the sectors of an image
abbrev pub image_sectors : Kind → ℕ
image_sectors kind = (geometry_of kind).bytes / 128

-- the sectors after the system's tracks
abbrev pub logical_sectors : Kind → ℕ
logical_sectors kind = image_sectors kind - system_sectors kind

-- the sectors of a track of 26, counted from 1, in the order in which they are used: six apart
unfoldable pub skew : List ℕ
skew =
    1 ∷ 7 ∷ 13 ∷ 19 ∷ 25 ∷ 5 ∷ 11 ∷ 17 ∷ 23 ∷ 3 ∷ 9 ∷ 15 ∷ 21 ∷ 2 ∷ 8 ∷ 14 ∷ 20 ∷ 26 ∷ 6 ∷ 12 ∷ 18 ∷ 24 ∷ 4 ∷ 10 ∷ 16 ∷ 22 ∷ []

-- where in the image a sector is that is counted after the system's tracks
abbrev pub place_of : Kind → ℕ → ℕ
place_of Ibm3740 logical = 52 + logical / 26 * 26 + (slice_index skew (logical % 26) - 1)
place_of Hd4 logical = logical
place_of Hd8 logical = logical
