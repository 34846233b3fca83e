-- What each answer of mounting says.
use Rattle.std.specs.Prelude.{◌≡◌, ℕ, ◌+◌, ◌*◌, ◌<◌, List, Option, Some, None, IfSome, Result, Ok, Err, IfOk, IfErr, OnOk, ◌++◌, length, ⊤}
use Rattle.std.specs.List.{All}
use Rattle.mpm_base.specs.declared.kind.Kind.{Kind}
use Rattle.mpm_blocks.specs.Geometries.{geometry_of}
use Rattle.mpm_blocks.specs.Sectors.{sectors_of}
use Rattle.mpm_dirent.specs.declared.kinds.Entry.{Entry}
use Rattle.mpm_dirent.specs.Proper.{IsProper}
use Rattle.mpm_port.specs.declared.drives.Drives.{Ghosts}
use Rattle.mpm_port.specs.Causes.{Rose}
use Rattle.mpm_port.specs.Disks.{size_of}
use Rattle.mpm_port.specs.Frames.{OnlyCountsFaults}
use Rattle.mpm_mount.specs.declared.errors.MountError.{MountError}
use Rattle.mpm_mount.specs.declared.errors.MountError.TheVariants.{Image, DiskFault, OutOfMemory}
use Rattle.mpm_mount.specs.Drives.{Drive}
use Rattle.mpm_mount.specs.Faults.{first_fault}
use Rattle.mpm_mount.specs.Images.{drive_of, files_of, entries_in}
use Rattle.mpm_mount.specs.Directories.{Directory, IsDirectory, IsWholeEntry, Stands}

-- the count of faults rises where the device failed, and stays else
abbrev pub CountsFault : {A : Type 0} → ℕ → ℕ → Result A MountError → Type 0
CountsFault before now (Ok answer) = now ≡ before
CountsFault before now (Err DiskFault) = Rose before now
CountsFault before now (Err OutOfMemory) = now ≡ before
CountsFault before now (Err (Image cause place)) = now ≡ before

-- a directory has this fault
abbrev pub IsFault : Kind → List Entry → MountError → Type 0
IsFault kind entries (Image cause place) = first_fault kind entries ≡ Some (record { cause = cause; place = place })
IsFault kind entries DiskFault = ⊥
IsFault kind entries OutOfMemory = ⊤

-- an image has this fault
abbrev pub IsImageFault : List ℕ → Kind → MountError → Type 0
IsImageFault image kind (Image cause place) = files_of image kind ≡ Err (record { cause = cause; place = place })
IsImageFault image kind DiskFault = ⊤
IsImageFault image kind OutOfMemory = ⊤

-- an image is of another size than its kind's
abbrev pub IsOfOtherSize : MountError → Type 0
IsOfOtherSize (Image cause place) = (cause ≡ 1) × (place ≡ 0)
IsOfOtherSize DiskFault = ⊤
IsOfOtherSize OutOfMemory = ⊤

-- the drive that a directory in memory and an image stand for
abbrev pub drive_in : List ℕ → Directory → Drive
drive_in image d = drive_of (sectors_of image d.kind) d.kind d.entries

-- the image is mounted: the directory in memory is its own, and both stand for the drive that the image stands for
pub record IsMounted (image : List ℕ) (kind : Kind) (d : Directory) : Type 0 where
  pub stands : Stands image d (drive_in image d)
  pub files : files_of image kind ≡ Ok (drive_in image d)

-- no fault of an image
abbrev pub IsDevice : MountError → Type 0
IsDevice (Image cause place) = ⊥
IsDevice DiskFault = ⊤
IsDevice OutOfMemory = ⊤

-- as many entries as a directory of a kind has slots, each of which can be written
pub record FillDirectory (kind : Kind) (entries : List Entry) : Type 0 where
  pub full : length entries ≡ (geometry_of kind).drm + 1
  pub proper : All (IsProper (geometry_of kind).wide) entries
  pub whole : All IsWholeEntry entries

-- a drive was mounted, or its image has the fault that is said, or the device failed, or there was no memory; nothing changes but the
-- count of faults
pub record Mounts {D : Type 0} (of : Ghosts D) (number : ℕ) (sort : Kind) (old new : D) (result : Result Directory MountError) : Type 0 where
  pub ok : IfOk result (λ mounted. IfSome ((of.disks old).image number) (λ image. IsMounted image sort mounted))
  pub drive : IfOk result (λ mounted. mounted.drive ≡ number)
  pub kind : IfOk result (λ mounted. mounted.kind ≡ sort)
  pub directory : IfOk result (λ mounted. IsDirectory sort mounted.entries)
  pub size : OnOk result (size_of (of.disks old) number ≡ Some (geometry_of sort).bytes)
  pub other_size : (size_of (of.disks old) number ≡ Some (geometry_of sort).bytes → ⊥) → IfErr result IsOfOtherSize
  pub err : IfErr result (λ error. IfSome ((of.disks old).image number) (λ image. IsImageFault image sort error))
  pub count : CountsFault (of.faults old) (of.faults new) result
  pub same : OnlyCountsFaults of old new

-- a drive was found to be of its kind's size, or its image is of another one, or the device failed
pub record ChecksSize {D A : Type 0} (of : Ghosts D) (number : ℕ) (sort : Kind) (old new : D) (result : Result A MountError) : Type 0 where
  pub size : OnOk result (size_of (of.disks old) number ≡ Some (geometry_of sort).bytes)
  pub other_size : IfErr result IsOfOtherSize
  pub err : IfErr result (λ error. IfSome ((of.disks old).image number) (λ image. IsImageFault image sort error))
  pub count : CountsFault (of.faults old) (of.faults new) result
  pub same : OnlyCountsFaults of old new

-- entries are those of a directory without a fault, or their first fault is said, or there was no memory
pub record MountsEntries (number : ℕ) (sort : Kind) (entries : List Entry) (result : Result Directory MountError) : Type 0 where
  pub ok : IfOk result (λ mounted. mounted ≡ record { drive = number; kind = sort; entries = entries })
  pub faultless : OnOk result (first_fault sort entries ≡ None)
  pub directory : IfOk result (λ mounted. IsDirectory sort mounted.entries)
  pub err : IfErr result (IsFault sort entries)

-- a sector of the directory of an attached drive of this kind
pub record IsSectorOf (kind : Kind) (size : Option ℕ) (sector : ℕ) : Type 0 where
  pub whole : size ≡ Some (geometry_of kind).bytes
  pub within : 4 * sector < (geometry_of kind).drm + 1

-- the four entries of a sector were read, after those that were there; no error is for a fault in them
pub record ReadsEntries {D A : Type 0} (of : Ghosts D) (drive : ℕ) (kind : Kind) (sector : ℕ) (before after : List Entry) (old new : D) (result : Result A MountError) : Type 0 where
  pub entries : OnOk result (IfSome ((of.disks old).image drive) (λ image. after ≡ before ++ entries_in (sectors_of image kind sector) (geometry_of kind).wide 4))
  pub size : OnOk result (length after ≡ length before + 4)
  pub proper : All (IsProper (geometry_of kind).wide) before → OnOk result (All (IsProper (geometry_of kind).wide) after)
  pub whole : All IsWholeEntry before → OnOk result (All IsWholeEntry after)
  pub device : IfErr result IsDevice
  pub count : CountsFault (of.faults old) (of.faults new) result
  pub same : OnlyCountsFaults of old new
