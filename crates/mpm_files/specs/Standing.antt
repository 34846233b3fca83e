-- What the attached image of a drive stands for, with the directory in memory, after a unit that was done and where its device failed.
use Rattle.std.specs.Prelude.{◌≡◌, ◌⊎◌, ℕ, ◌==◌, ◌%◌, slice_set, Bool, true, false, List, [], ◌∷◌, Option, Some, None, IfSome, IsSome, IsSomeAnd, Result, OnOk, OnErr, if◌then◌else◌}
use Rattle.mpm_base.specs.declared.kind.Kind.{Kind}
use Rattle.mpm_port.specs.Disks.{Disks}
use Rattle.mpm_blocks.specs.Geometries.{block_records}
use Rattle.mpm_blocks.specs.Sectors.{Sectors, sectors_of}
use Rattle.mpm_dirent.specs.declared.kinds.Entry.{Entry}
use Rattle.mpm_dirent.specs.declared.kinds.FileEntry.{FileEntry}
use Rattle.mpm_mount.specs.Drives.{PhysicalExtent, Drive, block_place, with_record_in, with_extent}
use Rattle.mpm_mount.specs.Faults.{name_of}
use Rattle.mpm_mount.specs.Changes.{exchanged}
use Rattle.mpm_mount.specs.Directories.{Directory, Stands, entry_in, free_block}
use Rattle.mpm_files.specs.Units.{FileUnit, is_raising, raised, last_of, stages, applied}
use Rattle.mpm_files.specs.Serving.{cleared_sectors, IsCleared}

-- a directory is that of the same drive, of the same kind
pub record SameDisk (d e : Directory) : Type 0 where
  pub drive : e.drive ≡ d.drive
  pub kind : e.kind ≡ d.kind

-- the attached image of a directory's drive stands, with the directory, for a drive of files
pub record StandsOn (disks : Disks) (d : Directory) (files : Drive) : Type 0 where
  pub image : List ℕ
  pub told : disks.image d.drive ≡ Some image
  pub stands : Stands image d files

-- what is said of an image and of a drive of files holds of all for which the attached image stands with a directory
abbrev pub OnItsImage : Disks → Directory → (List ℕ → Drive → Type 0) → Type 0
OnItsImage disks d said = (image : List ℕ) (files : Drive) → disks.image d.drive ≡ Some image → Stands image d files → said image files

-- the drive with another directory entry in a slot
abbrev pub exchanged_in : List ℕ → Directory → Drive → ℕ → Entry → Drive
exchanged_in image d files slot entry = exchanged (sectors_of image d.kind) files (entry_in d slot) entry

-- a drive of files is the one before a change, or one of those that it goes through
unfoldable pub IsAmong : Drive → List Drive → Drive → Type 0
IsAmong before [] files = files ≡ before
IsAmong before (next ∷ later) files = (files ≡ before) ⊎ IsAmong next later files

-- the attached image of a drive stands for one of these, with some directory of the drive
pub record StandsAmong (disks : Disks) (drive : ℕ) (before : Drive) (later : List Drive) : Type 0 where
  pub directory : Directory
  pub here : directory.drive ≡ drive
  pub files : Drive
  pub among : IsAmong before later files
  pub stands : StandsOn disks directory files

-- a drive of files was to go through some others: after a success image and directory stand for the last of them, after a
-- failure the image stands for one of them, or for the drive before them
pub record GoesThrough {A E : Type 0} (disks : Disks) (drive : ℕ) (now : Directory) (before : Drive) (later : List Drive) (result : Result A E) : Type 0 where
  pub ok : OnOk result (StandsOn disks now (last_of before later))
  pub err : OnErr result (StandsAmong disks drive before later)

-- within a unit: the drive before it, or one of its stages
abbrev pub StandsWithinUnit : Disks → ℕ → Drive → FileUnit → Type 0
StandsWithinUnit disks drive before unit = StandsAmong disks drive before (stages unit before)

-- a unit was to be done: after a success image and directory stand for what it makes, after a failure the image stands within it
pub record DoesUnit {A E : Type 0} (disks : Disks) (drive : ℕ) (now : Directory) (before : Drive) (unit : FileUnit) (result : Result A E) : Type 0 where
  pub ok : OnOk result (StandsOn disks now (applied before unit))
  pub err : OnErr result (StandsWithinUnit disks drive before unit)

-- a block for a record: the lowest free one; where blocks are cleared in units of their own, one that was cleared
abbrev pub HasFreshBlock : Bool → Sectors → Directory → Option ℕ → Type 0
HasFreshBlock true sectors d cleared = IsSomeAnd cleared (IsCleared sectors d)
HasFreshBlock false sectors d cleared = IsSome (free_block d)

-- image and directory stand for a drive of files, and a block was cleared, where there was one
pub record StandsCleared (disks : Disks) (d : Directory) (files : Drive) (cleared : Option ℕ) : Type 0 where
  pub image : List ℕ
  pub told : disks.image d.drive ≡ Some image
  pub stands : Stands image d files
  pub cleared_is : IfSome cleared (IsCleared (sectors_of image d.kind) d)

-- how many sectors of a fresh block are zeros already, where it may be taken
abbrev pub cleared_of : Bool → Option ℕ → ℕ → Option ℕ
cleared_of false cleared block = Some 0
cleared_of true None block = None
cleared_of true (Some cleared) block = if cleared == block then Some cleared_sectors else None

-- what an entry has with a record more in a block that it holds; with a block more; and a drive where last extent and record
-- count of an entry rise
abbrev pub with_record : Kind → ℕ → List ℕ → PhysicalExtent → PhysicalExtent
with_record kind n bytes entry = with_record_in entry (block_place kind n) (n % block_records kind) bytes

abbrev pub with_taken : Kind → ℕ → Option (List (List ℕ)) → PhysicalExtent → PhysicalExtent
with_taken kind n contents entry = raised n (record entry { blocks = slice_set entry.blocks (block_place kind n) contents })

abbrev pub raises : Kind → ℕ → FileEntry → Drive → PhysicalExtent → List Drive
raises kind n f drive entry = if is_raising n entry then with_extent drive (name_of kind f) (raised n entry) ∷ [] else []
