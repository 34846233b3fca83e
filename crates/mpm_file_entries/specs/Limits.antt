-- What the counts and sizes of a file's entries ask, and what sizes are.
use Rattle.std.specs.Prelude.{◌≡◌, ℕ, ◌<◌, ◌≤◌}
use Rattle.mpm_blocks.specs.Geometries.{geometry_of}
use Rattle.mpm_dirent.specs.declared.limits.TheConstants.{LAST_EXTENT}
use Rattle.mpm_mount.specs.Directories.{Directory}
use Rattle.mpm_mount.specs.Drives.{FileName, extents_of}
use Rattle.mpm_mount.specs.Standing.{OnItsDrive}
use Rattle.mpm_mount.specs.declared.searching.Found.{Found}
use Rattle.mpm_file_entries.specs.Sizes.{size_of}

-- a caller's multi-sector count is in its range
pub record IsMultiCount (multi : ℕ) : Type 0 where
  pub some : 1 ≤ multi
  pub few : multi ≤ 16

-- an entry of a file may be told: its user and its last extent are in their ranges
pub record MayTellFile (owner extent : ℕ) : Type 0 where
  pub user : owner < 16
  pub last : extent ≤ LAST_EXTENT

-- a size in records is the one that is known, and no more than the bytes of an entry can say
pub record IsSize (known size : ℕ) : Type 0 where
  pub value : size ≡ known
  pub small : size ≤ 1077375

-- a file is seen to have this size on each drive that the directory stands for
pub record IsSizeOf (d : Directory) (file : FileName) (size : ℕ) : Type 0 where
  pub value : OnItsDrive d (λ drive. size ≡ size_of (extents_of drive file))
  pub small : size ≤ 1077375

-- an entry was found in a slot of the directory, and the size so far is no more than the bytes of an entry can say
pub record MaySizeAfter (d : Directory) (found : Found) (size : ℕ) : Type 0 where
  pub slot : found.slot ≤ (geometry_of d.kind).drm
  pub small : size ≤ 1077375
