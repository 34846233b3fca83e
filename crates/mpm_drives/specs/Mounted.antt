-- The drives of a machine: as its machine file lists them, as they are mounted, and by what is on them.
use Rattle.std.specs.Prelude.{◌≡◌, ◌≢◌, ℕ, ◌-◌, Bool, true, false, List, [], ◌∷◌, Option, Some, None, IsSomeAnd, map, replicate, slice_set, unwrap_or}
use Rattle.std.specs.List.{All, AllZip}
use Rattle.mpm_port.specs.Disks.{Disks, Brings}
use Rattle.mpm_machine_file.specs.declared.lists.DriveSpec.{DriveSpec}
use Rattle.mpm_mount.specs.Drives.{Drive}
use Rattle.mpm_mount.specs.Directories.{Directory}
use Rattle.mpm_mount.specs.Mounting.{drive_in, IsMounted}
use Rattle.mpm_drives.specs.Images.{Images, HasFiles}

-- a drive by its number, from 0 for A, and the files on it
pub record NumberedDrive : Type 0 where
  pub number : ℕ
  pub files : Drive

-- the number of a drive of a machine file
abbrev pub number_of : DriveSpec → ℕ
number_of spec = spec.letter - 65

-- a drive of a machine file is attached by the name of its image, which is one that this may bring, and that is mounted
pub record IsMountedAs (disks : Disks) (images : Images) (spec : DriveSpec) (d : Directory) : Type 0 where
  pub number : d.drive ≡ number_of spec
  pub kind : d.kind ≡ spec.kind
  pub name : disks.name_of d.drive ≡ Some spec.image
  pub image : IsSomeAnd (disks.image d.drive) (λ image. Brings (images spec.image) image × IsMounted image spec.kind d)

-- so is each drive of a machine file, in order
abbrev pub AreMounted : Disks → Images → List DriveSpec → List Directory → Type 0
AreMounted disks images specs mounted = AllZip (IsMountedAs disks images) specs mounted

-- they are synced: no write to them was asked for since
abbrev pub AreSynced : (ℕ → Bool) → List Directory → Type 0
AreSynced unsynced mounted = All (λ d. unsynced d.drive ≡ false) mounted

-- what is on a drive of a machine file is what its image stands for
pub record IsDriveOf (images : Images) (spec : DriveSpec) (drive : NumberedDrive) : Type 0 where
  pub number : drive.number ≡ number_of spec
  pub files : HasFiles (images spec.image) spec.kind drive.files

-- so it is of each of them, in order
abbrev pub AreDrivesOf : Images → List DriveSpec → List NumberedDrive → Type 0
AreDrivesOf images specs drives = AllZip (IsDriveOf images) specs drives

-- the files on mounted drives, by their directories and images
abbrev pub on_drive : Disks → Directory → NumberedDrive
on_drive disks d = record { number = d.drive; files = drive_in (unwrap_or (disks.image d.drive) []) d }

unfoldable pub drives_on : Disks → List Directory → List NumberedDrive
drives_on disks mounted = map (on_drive disks) mounted

-- they stand in the places of their numbers, of which there are sixteen
unfoldable pub placed : List NumberedDrive → List (Option Drive)
placed [] = replicate 16 None
placed (drive ∷ drives) = slice_set (placed drives) drive.number (Some drive.files)

-- a drive is attached anew: the other drives are as they were
pub record OnlyDrive (number : ℕ) (disks disks' : Disks) : Type 0 where
  pub images : (other : ℕ) → other ≢ number → disks'.image other ≡ disks.image other
  pub names : (other : ℕ) → other ≢ number → disks'.name_of other ≡ disks.name_of other

-- a drive that isn't the machine file's is as it was
pub record SameBeside (specs : List DriveSpec) (disks disks' : Disks) : Type 0 where
  pub images : (number : ℕ) → All (λ spec. number_of spec ≢ number) specs → disks'.image number ≡ disks.image number
  pub names : (number : ℕ) → All (λ spec. number_of spec ≢ number) specs → disks'.name_of number ≡ disks.name_of number

-- no write was asked for: a drive that isn't synced wasn't so before
abbrev pub AsksNoWrite : (ℕ → Bool) → (ℕ → Bool) → Type 0
AsksNoWrite unsynced unsynced' = (number : ℕ) → unsynced' number ≡ true → unsynced number ≡ true

-- as the drives of a machine file were attached and mounted, and no other drive was synced
pub record AsksNothing (specs : List DriveSpec) (unsynced unsynced' : ℕ → Bool) : Type 0 where
  pub write : AsksNoWrite unsynced unsynced'
  pub sync : (number : ℕ) → All (λ spec. number_of spec ≢ number) specs → unsynced' number ≡ unsynced number
