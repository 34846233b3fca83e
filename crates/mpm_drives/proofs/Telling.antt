-- What attaching a drive and mounting it leave of the images.
use Rattle.std.proofs.Common.{◌≡◌, ◌∙◌, ℕ, List, Option, Some, None, ap}
use Rattle.std.specs.Prelude.{IfSome, IsSomeAnd, Ok, Err}
use Rattle.mpm_base.specs.declared.kind.Kind.{Kind}
use Rattle.mpm_port.specs.Disks.{Disks, ToldImage, Brings, Attaches}
use Rattle.mpm_mount.specs.declared.errors.ImageFault.{ImageFault}
use Rattle.mpm_mount.specs.Directories.{Directory}
use Rattle.mpm_mount.specs.Drives.{Drive}
use Rattle.mpm_mount.specs.Images.{files_of}
use Rattle.mpm_mount.specs.Mounting.{IsMounted, drive_in}
use Rattle.mpm_drives.specs.Mounted.{OnlyDrive}

-- an image that was brought is mounted, or has a fault

pub brought_mounted : (o : Option (List ℕ)) (told : ToldImage) (kind : Kind) (d : Directory) → IsSomeAnd o (Brings told) → IfSome o (λ image. IsMounted image kind d)
    → IsSomeAnd o (λ image. Brings told image × IsMounted image kind d)
brought_mounted None told kind d some mounted = absurd some
brought_mounted (Some image) told kind d some mounted = (some, mounted)

pub brought_fault : (o : Option (List ℕ)) (told : ToldImage) (kind : Kind) (fault : ImageFault) → IsSomeAnd o (Brings told) → IfSome o (λ image. files_of image kind ≡ Err fault)
    → IsSomeAnd o (λ image. Brings told image × (files_of image kind ≡ Err fault))
brought_fault None told kind fault some has = absurd some
brought_fault (Some image) told kind fault some has = (some, has)

pub faultless_brought : (o : Option (List ℕ)) (told : ToldImage) (kind : Kind) (d : Directory) → IsSomeAnd o (λ image. Brings told image × IsMounted image kind d)
    → IsSomeAnd o (λ image. Brings told image × ((files : Drive) × (files_of image kind ≡ Ok files)))
faultless_brought None told kind d some = absurd some
faultless_brought (Some image) told kind d some = (some.0, (drive_in image d, some.1.files))

-- the other drives stay

pub attached_only : (number : ℕ) (name : List ℕ) (told : ToldImage) (x y z : Disks) → Attaches number name told x y → z ≡ y → OnlyDrive number x z
attached_only number name told x y z attaches same = record {
  images = λ other apart. ap (λ (d : Disks). d.image other) same ∙ attaches.others other apart;
  names = λ other apart. ap (λ (d : Disks). d.name_of other) same ∙ attaches.names other apart;
}
