-- The drives with which a machine begins: what is on each is what its image stands for.
use Rattle.std.proofs.Common.{◌≡◌, ℕ, List, [], ◌∷◌, Option, Some, None, ap, refl}
use Rattle.std.specs.Prelude.{IsSomeAnd, unwrap_or}
use Rattle.std.specs.List.{All, AllByRecursion}
use Rattle.std.proofs.lemmas.List.Elements.{All-from_recursion}
use Rattle.mpm_base.specs.declared.kind.Kind.{Kind}
use Rattle.mpm_port.specs.Disks.{Disks, ToldImage, Brings, size_of}
use Rattle.mpm_machine_file.specs.declared.lists.DriveSpec.{DriveSpec}
use Rattle.mpm_mount.specs.Directories.{Directory}
use Rattle.mpm_blocks.specs.Geometries.{geometry_of}
use Rattle.mpm_mount.specs.Mounting.{drive_in, IsMounted}
use Rattle.mpm_drives.specs.Images.{Images, HasFiles}
use Rattle.mpm_drives.specs.Mounted.{AreMounted, AreDrivesOf, drives_on}

files_brought : (o : Option (List ℕ)) (told : ToldImage) (kind : Kind) (d : Directory) → IsSomeAnd o (λ image. Brings told image × IsMounted image kind d)
    → HasFiles told kind (drive_in (unwrap_or o []) d)
files_brought None told kind d some = absurd some
files_brought (Some image) told kind d some = record { image = image; brought = some.0; stands = some.1.files }

pub drives_are : (x : Disks) (images : Images) (specs : List DriveSpec) (ds : List Directory) → AreMounted x images specs ds → AreDrivesOf images specs (drives_on x ds)
unfolding drives_on
drives_are x images [] [] mounted = tt
drives_are x images [] (d ∷ ds) mounted = absurd mounted
drives_are x images (spec ∷ specs) [] mounted = absurd mounted
drives_are x images (spec ∷ specs) (d ∷ ds) mounted = (
  record { number = mounted.0.number; files = files_brought (x.image d.drive) (images spec.image) spec.kind d mounted.0.image },
  drives_are x images specs ds mounted.1,
)

-- each drive has its kind's size
sized : (x : Disks) (d : Directory) (told : ToldImage) (kind : Kind) (o : Option (List ℕ)) → x.image d.drive ≡ o → d.kind ≡ kind → IsSomeAnd o (λ image. Brings told image × IsMounted image kind d)
    → size_of x d.drive ≡ Some (geometry_of d.kind).bytes
sized x d told kind None is same some = absurd some
sized x d told kind (Some image) is same some = rw is (ap Some some.1.stands.size)

each_sized : (x : Disks) (images : Images) (specs : List DriveSpec) (ds : List Directory) → AreMounted x images specs ds
    → AllByRecursion (λ d. size_of x d.drive ≡ Some (geometry_of d.kind).bytes) ds
each_sized x images [] [] mounted = tt
each_sized x images [] (d ∷ ds) mounted = absurd mounted
each_sized x images (spec ∷ specs) [] mounted = absurd mounted
each_sized x images (spec ∷ specs) (d ∷ ds) mounted = (
  sized x d (images spec.image) spec.kind (x.image d.drive) refl mounted.0.kind mounted.0.image,
  each_sized x images specs ds mounted.1,
)

pub are_sized : (x : Disks) (images : Images) (specs : List DriveSpec) (ds : List Directory) → AreMounted x images specs ds
    → All (λ d. size_of x d.drive ≡ Some (geometry_of d.kind).bytes) ds
are_sized x images specs ds mounted = All-from_recursion (λ d. size_of x d.drive ≡ Some (geometry_of d.kind).bytes) ds (each_sized x images specs ds mounted)
