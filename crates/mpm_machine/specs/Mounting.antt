-- What is kept of file calls as a machine begins, and what steps leave of its drives.
use Rattle.std.specs.Prelude.{◌≡◌, ◌≢◌, ℕ, List, [], Option, Some, None, option_map}
use Rattle.std.specs.List.{AllByRecursion}
use Rattle.mpm_port.specs.Disks.{Disks}
use Rattle.mpm_machine_file.specs.declared.lists.DriveSpec.{DriveSpec}
use Rattle.mpm_mount.specs.Directories.{Directory}
use Rattle.mpm_drives.specs.Images.{Images}
use Rattle.mpm_drives.specs.Mounted.{NumberedDrive, AreMounted, AreDrivesOf, number_of, placed}
use Rattle.mpm_mount.specs.Drives.{Drive}
use Rattle.mpm_refusals.specs.Filing.{Filing}
use Rattle.mpm_bdos.specs.Serving.{Kept, filing_of, nothing_kept}
use Rattle.mpm_directories.specs.Places.{directory_at, in_places}
use Rattle.mpm_bdos.specs.Turns.{StaysBeside, KeepsToldOf, drive_and_kind}
use Rattle.mpm_service.specs.Disk.{DiskService}
use Rattle.mpm_machine.specs.Files.{Between, StandsForFiles}

-- the drives of a machine file are mounted, each in its place, and nothing is open, locked, marked, sought or protected
pub record HasMounted (disks : Disks) (images : Images) (specs : List DriveSpec) (kept : Kept) : Type 0 where
  pub directories : List Directory
  pub mounted : AreMounted disks images specs directories
  pub is : kept ≡ nothing_kept (in_places directories)

-- what file calls find then: the drives, and nothing open, locked, marked, sought or protected
abbrev pub untouched : List (Option Drive) → Filing
untouched drives = filing_of (nothing_kept []) drives

-- on each drive of a machine file is what its image stands for; and what is kept of file calls and the images stand for these drives,
-- with nothing open, locked, marked, sought or protected
pub record OpensOn (images : Images) (specs : List DriveSpec) (disk : DiskService) (kept : Kept) (disks : Disks) : Type 0 where
  pub drives : List NumberedDrive
  pub are : AreDrivesOf images specs drives
  pub stand : StandsForFiles disk kept disks (Between (untouched (placed drives)))

-- no drive is mounted
abbrev pub HasNoDrive : List (Option Directory) → Type 0
HasNoDrive mounted = (number : ℕ) → directory_at mounted number ≡ None

-- a drive of a machine file is mounted in the place of its number, as one of its kind, and attached by the name of its image
pub record IsInPlace (disks : Disks) (mounted : List (Option Directory)) (spec : DriveSpec) : Type 0 where
  pub label : option_map drive_and_kind (directory_at mounted (number_of spec)) ≡ Some (number_of spec, spec.kind)
  pub name : disks.name_of (number_of spec) ≡ Some spec.image

-- so is each drive of a machine file, and no other is mounted
pub record HasDrives (disks : Disks) (specs : List DriveSpec) (mounted : List (Option Directory)) : Type 0 where
  pub each : AllByRecursion (IsInPlace disks mounted) specs
  pub others : (number : ℕ) → AllByRecursion (λ spec. number_of spec ≢ number) specs → directory_at mounted number ≡ None

-- what steps leave of drives, whether one fails or not. Each directory is of the drive and the kind of which it was. Each drive has its
-- name and its size, and one whose name no mounted drive has its image as it was. What is known of other names stays
pub record KeepsMounted (old_told new_told : Images) (old_disks new_disks : Disks) (old new : List (Option Directory)) : Type 0 where
  pub labels : (number : ℕ) → option_map drive_and_kind (directory_at new number) ≡ option_map drive_and_kind (directory_at old number)
  pub beside : StaysBeside old old_disks new_disks
  pub told_are : KeepsToldOf old old_disks old_told new_told
