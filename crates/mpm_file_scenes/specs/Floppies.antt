-- Disks of the tests.
use Rattle.std.specs.Prelude.{◌≡◌, ◌≢◌, ℕ, ◌<◌, List, Option, Some, IsSome, IfSome}
use Rattle.mpm_port.specs.Disks.{Disks, size_of}
use Rattle.mpm_blocks.specs.Geometries.{geometry_of}
use Rattle.mpm_mount.specs.Directories.{Directory, Stands}
use Rattle.mpm_mount.specs.Mounting.{drive_in}
use Rattle.mpm_directories.specs.Places.{directory_at}
use Rattle.mpm_bdos.specs.Turns.{images_of}

-- drives A and B are attached by names of their own
pub record AreTwo (disks : Disks) : Type 0 where
  pub a : IsSome (size_of disks 0)
  pub b : IsSome (size_of disks 1)
  pub apart : disks.name_of 0 ≢ disks.name_of 1

-- a directory is that of one of them, whose image has its kind's size, and stands with it for the files that are there
pub record IsFloppy (disks : Disks) (number : ℕ) (directory : Directory) : Type 0 where
  pub low : number < 2
  pub its : directory.drive ≡ number
  pub size : size_of disks number ≡ Some (geometry_of directory.kind).bytes
  pub stands : Stands (images_of disks number) directory (drive_in (images_of disks number) directory)

abbrev pub AreFloppies : Disks → List (Option Directory) → Type 0
AreFloppies disks mounted = (number : ℕ) → IfSome (directory_at mounted number) (IsFloppy disks number)
