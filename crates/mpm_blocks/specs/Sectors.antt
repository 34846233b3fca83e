-- The sectors of an image after the system's tracks.
use Rattle.std.specs.Prelude.{◌≡◌, ◌≢◌, ℕ, ◌+◌, ◌*◌, List, ◌++◌, take, drop}
use Rattle.mpm_base.specs.declared.kind.Kind.{Kind}
use Rattle.mpm_port.specs.Disks.{sector_of}
use Rattle.mpm_blocks.specs.Geometries.{place_of}

-- some bytes for each number of a sector
abbrev pub Sectors : Type 0
Sectors = ℕ → List ℕ

-- those of an image after the system's tracks, in the order in which they are used
unfoldable pub sectors_of : List ℕ → Kind → Sectors
sectors_of image kind logical = sector_of image (place_of kind logical)

-- one sector has new bytes, and every other is as it was
pub record SectorWritten (s : ℕ) (bytes : List ℕ) (old new : Sectors) : Type 0 where
  pub here : new s ≡ bytes
  pub others : (t : ℕ) → t ≢ s → new t ≡ old t

-- a sector of the directory with other bytes in one of its four entries
abbrev pub with_slot : List ℕ → ℕ → List ℕ → List ℕ
with_slot sector place bytes = take (32 * place) sector ++ (bytes ++ drop (32 * place + 32) sector)
