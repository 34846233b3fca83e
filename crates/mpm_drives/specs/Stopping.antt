-- Why the drives of a machine aren't mounted.
use Rattle.std.specs.Prelude.{◌≡◌, ◌⊎◌, ℕ, List, [], ◌∷◌, ◌++◌, IsSomeAnd, Ok, Err}
use Rattle.mpm_port.specs.Causes.{Rose}
use Rattle.mpm_port.specs.Disks.{Disks, Brings}
use Rattle.mpm_machine_file.specs.declared.lists.DriveSpec.{DriveSpec}
use Rattle.mpm_drives.specs.declared.error.BootError.{BootError}
use Rattle.mpm_drives.specs.declared.error.BootError.TheVariants.{Image, DiskFault, OutOfMemory}
use Rattle.mpm_mount.specs.declared.errors.ImageFault.{ImageFault}
use Rattle.mpm_mount.specs.Drives.{Drive}
use Rattle.mpm_mount.specs.Images.{files_of}
use Rattle.mpm_drives.specs.Images.{Images}
use Rattle.mpm_drives.specs.Mounted.{number_of}

-- what is seen of the failures of drives: the count of faults, and the names on which `attach` failed, oldest first
pub record Failures : Type 0 where
  pub faults : ℕ
  pub names : List (List ℕ)

-- a drive of a machine file has an image that its name may bring, and that has this first fault
abbrev pub IsAtFault : Disks → Images → DriveSpec → ImageFault → Type 0
IsAtFault disks images spec fault = IsSomeAnd (disks.image (number_of spec)) (λ image. Brings (images spec.image) image × (files_of image spec.kind ≡ Err fault))

-- or one that stands for some files
abbrev pub IsFaultless : Disks → Images → DriveSpec → Type 0
IsFaultless disks images spec =
    IsSomeAnd (disks.image (number_of spec)) (λ image. Brings (images spec.image) image × ((files : Drive) × (files_of image spec.kind ≡ Ok files)))

-- why it stopped at one drive: its image has a first fault; its image's name joined the failed names, or the count rose; or
-- there was no memory
abbrev pub StopsMounting : Disks → Images → DriveSpec → Failures → Failures → BootError → Type 0
StopsMounting disks images spec old new (Image drive cause place) =
    (drive ≡ number_of spec) × IsAtFault disks images spec (record { cause = cause; place = place }) × (new ≡ old)
StopsMounting disks images spec old new DiskFault =
    ((new.names ≡ old.names ++ (spec.image ∷ [])) × (new.faults ≡ old.faults)) ⊎ ((new.names ≡ old.names) × Rose old.faults new.faults)
StopsMounting disks images spec old new OutOfMemory = new ≡ old

-- so it is of one of some drives, and the images of those before it have no fault
unfoldable pub IsFirst : (DriveSpec → Type 0) → (DriveSpec → Type 0) → List DriveSpec → Type 0
IsFirst Before Is [] = ⊥
IsFirst Before Is (spec ∷ specs) = Is spec ⊎ (Before spec × IsFirst Before Is specs)

-- it stopped at the first of some drives that couldn't be mounted, or for want of memory
abbrev pub Stops : Disks → Images → List DriveSpec → Failures → Failures → BootError → Type 0
Stops disks images specs old new (Image drive cause place) = IsFirst (IsFaultless disks images) (λ spec. StopsMounting disks images spec old new (Image drive cause place)) specs
Stops disks images specs old new DiskFault = IsFirst (IsFaultless disks images) (λ spec. StopsMounting disks images spec old new DiskFault) specs
Stops disks images specs old new OutOfMemory = new ≡ old
