-- The lowest directory entry of a file.
use Rattle.std.specs.Prelude.{◌≡◌, ℕ, ◌<◌, List, Option, Some, None, IfSome, length}
use Rattle.mpm_blocks.specs.Sectors.{sectors_of}
use Rattle.mpm_mount.specs.declared.searching.Found.{Found}
use Rattle.mpm_mount.specs.declared.slots.EntryName.{EntryName}
use Rattle.mpm_mount.specs.Drives.{FileName, PhysicalExtent, Drive, extents_of}
use Rattle.mpm_mount.specs.Images.{extent_from}
use Rattle.mpm_mount.specs.Directories.{Directory, Stands, entry_in}
use Rattle.mpm_mount.specs.Attributes.{first_entry, first_attributes, attributes_where}
use Rattle.mpm_mount.specs.Files.{IsEntryOf}

-- what an entry that was found gives to the drive that an image stands for
abbrev pub entry_where : List ℕ → Directory → Option Found → Option (EntryName × PhysicalExtent)
entry_where image d None = None
entry_where image d (Some found) = extent_from (sectors_of image d.kind) d.kind (entry_in d found.slot)

-- an entry of a file was found that is the first of its entries on the drive, by their numbers, or nothing where it has none
pub record IsLowest (d : Directory) (file : FileName) (result : Option Found) : Type 0 where
  pub lowest : (image : List ℕ) (files : Drive) → Stands image d files → first_entry (extents_of files file) ≡ entry_where image d result
  pub attributes : (image : List ℕ) (files : Drive) → Stands image d files → first_attributes (extents_of files file) ≡ attributes_where d result
  pub within : IfSome result (λ found. found.slot < length d.entries)
  pub found : IfSome result (λ found. IsEntryOf d file found)
