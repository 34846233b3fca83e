-- An image that is mounted, and one that isn't.
use Rattle.std.proofs.Common.{◌≡◌, ℕ, Bool, List, length, refl, sym, ap, subst, ◌∙◌, eq-eqb, ne_eqb}
use Rattle.std.specs.Prelude.{Option, Some, None, Result, Ok, Err, IfOk, IfErr, OnOk, IfSome, option_map, unwrap_or, if◌then◌else◌}
use Rattle.mpm_base.specs.declared.kind.Kind.{Kind}
use Rattle.mpm_blocks.specs.Geometries.{geometry_of}
use Rattle.mpm_blocks.specs.Sectors.{sectors_of}
use Rattle.mpm_dirent.specs.declared.kinds.Entry.{Entry}
use Rattle.mpm_mount.specs.declared.errors.ImageFault.{ImageFault}
use Rattle.mpm_mount.specs.declared.errors.MountError.{MountError}
use Rattle.mpm_mount.specs.declared.errors.MountError.TheVariants.{Image, DiskFault, OutOfMemory}
use Rattle.mpm_mount.specs.Drives.{Drive}
use Rattle.mpm_mount.specs.Faults.{first_fault}
use Rattle.mpm_mount.specs.Images.{entries_of, drive_of, unless, files_of}
use Rattle.mpm_mount.specs.Directories.{Directory, Stands}
use Rattle.mpm_mount.specs.Mounting.{drive_in, IsMounted, IsFault, IsImageFault}

-- what an image of its kind's size stands for
sized : (image : List ℕ) (kind : Kind) → length image ≡ (geometry_of kind).bytes
    → files_of image kind ≡ unless (first_fault kind (entries_of (sectors_of image kind) kind)) (drive_of (sectors_of image kind) kind (entries_of (sectors_of image kind) kind))
unfolding files_of
sized image kind size =
    let entries = entries_of (sectors_of image kind) kind in
    ap (λ (b : Bool). if b then unless (first_fault kind entries) (drive_of (sectors_of image kind) kind entries) else Err (record { cause = 1; place = 0 }))
    (eq-eqb (length image) (geometry_of kind).bytes size)

pub other_size : (image : List ℕ) (kind : Kind) → (length image ≡ (geometry_of kind).bytes → ⊥) → files_of image kind ≡ Err (record { cause = 1; place = 0 })
unfolding files_of
other_size image kind size =
    let entries = entries_of (sectors_of image kind) kind in
    ap (λ (b : Bool). if b then unless (first_fault kind entries) (drive_of (sectors_of image kind) kind entries) else Err (record { cause = 1; place = 0 }))
    (ne_eqb (length image) (geometry_of kind).bytes size)

-- an image that stands for a drive, with its directory, is what it is said to stand for
pub mounts : (image : List ℕ) (d : Directory) (files : Drive) → Stands image d files → files_of image d.kind ≡ Ok files
mounts image d files stands =
    let sectors = sectors_of image d.kind in
    let none : first_fault d.kind (entries_of sectors d.kind) ≡ None = ap (first_fault d.kind) (sym stands.entries) ∙ stands.faultless in
    sized image d.kind stands.size
    ∙ ap (λ (fault : Option ImageFault). unless fault (drive_of sectors d.kind (entries_of sectors d.kind))) none
    ∙ ap (λ (entries : List Entry). Ok (drive_of sectors d.kind entries)) (sym stands.entries)
    ∙ ap (λ (drive : Drive). Ok drive) (sym stands.drive)

pub mounted_if : (image : List ℕ) (kind : Kind) (drive : ℕ) (entries : List Entry) → length image ≡ (geometry_of kind).bytes
    → entries ≡ entries_of (sectors_of image kind) kind → first_fault kind entries ≡ None → IsMounted image kind (record { drive = drive; kind = kind; entries = entries })
mounted_if image kind drive entries size are faultless =
    let d : Directory = record { drive = drive; kind = kind; entries = entries } in
    let stands : Stands image d (drive_in image d) = record { size = size; entries = are; faultless = faultless; drive = refl } in
    record { stands = stands; files = mounts image d (drive_in image d) stands }

-- the fault of a directory is that of its image
pub fault_of_image : (image : List ℕ) (kind : Kind) (entries : List Entry) (error : MountError) → length image ≡ (geometry_of kind).bytes
    → entries ≡ entries_of (sectors_of image kind) kind → IsFault kind entries error → IsImageFault image kind error
fault_of_image image kind entries (Image cause place) size are fault =
    sized image kind size
    ∙ ap (λ (f : Option ImageFault). unless f (drive_of (sectors_of image kind) kind (entries_of (sectors_of image kind) kind))) (ap (first_fault kind) (sym are) ∙ fault)
fault_of_image image kind entries DiskFault size are fault = tt
fault_of_image image kind entries OutOfMemory size are fault = tt

-- the directory in memory, after it was read
of_directory : (here : Option (List ℕ)) (kind : Kind) (drive : ℕ) (entries : List Entry) (d : Directory) → IfSome here (λ image. length image ≡ (geometry_of kind).bytes)
    → IfSome here (λ image. entries ≡ entries_of (sectors_of image kind) kind) → d ≡ record { drive = drive; kind = kind; entries = entries } → first_fault kind entries ≡ None
    → IfSome here (λ image. IsMounted image kind d)
of_directory None kind drive entries d size are is faultless = tt
of_directory (Some image) kind drive entries d size are is faultless =
    subst (λ (e : Directory). IsMounted image kind e) (sym is) (mounted_if image kind drive entries size are faultless)

pub mounted_so : (here before : Option (List ℕ)) (kind : Kind) (drive : ℕ) (entries : List Entry) (result : Result Directory MountError) → before ≡ here
    → IfSome here (λ image. length image ≡ (geometry_of kind).bytes) → IfSome before (λ image. entries ≡ entries_of (sectors_of image kind) kind)
    → IfOk result (λ d. d ≡ record { drive = drive; kind = kind; entries = entries }) → OnOk result (first_fault kind entries ≡ None)
    → IfOk result (λ d. IfSome here (λ image. IsMounted image kind d))
mounted_so here before kind drive entries (Ok d) same size are is faultless =
    of_directory here kind drive entries d size (subst (λ (t : Option (List ℕ)). IfSome t (λ image. entries ≡ entries_of (sectors_of image kind) kind)) same are) is faultless
mounted_so here before kind drive entries (Err error) same size are is faultless = tt

of_fault : (here : Option (List ℕ)) (kind : Kind) (entries : List Entry) (error : MountError) → IfSome here (λ image. length image ≡ (geometry_of kind).bytes)
    → IfSome here (λ image. entries ≡ entries_of (sectors_of image kind) kind) → IsFault kind entries error → IfSome here (λ image. IsImageFault image kind error)
of_fault None kind entries error size are fault = tt
of_fault (Some image) kind entries error size are fault = fault_of_image image kind entries error size are fault

pub refused_so : (here before : Option (List ℕ)) (kind : Kind) (entries : List Entry) (result : Result Directory MountError) → before ≡ here
    → IfSome here (λ image. length image ≡ (geometry_of kind).bytes) → IfSome before (λ image. entries ≡ entries_of (sectors_of image kind) kind)
    → IfErr result (λ error. IsFault kind entries error) → IfErr result (λ error. IfSome here (λ image. IsImageFault image kind error))
refused_so here before kind entries (Ok d) same size are fault = tt
refused_so here before kind entries (Err error) same size are fault =
    of_fault here kind entries error size (subst (λ (t : Option (List ℕ)). IfSome t (λ image. entries ≡ entries_of (sectors_of image kind) kind)) same are) fault

-- the image of a drive has its size
pub image_sized : (image : Option (List ℕ)) (bytes : ℕ) → option_map length image ≡ Some bytes → IfSome image (λ i. length i ≡ bytes)
image_sized None bytes size = tt
image_sized (Some image) bytes size = ap (λ (o : Option ℕ). unwrap_or o 0) size

-- an image of another size than its kind's
pub wrong_size : (here : Option (List ℕ)) (kind : Kind) (bytes : ℕ) → (bytes ≡ (geometry_of kind).bytes → ⊥) → option_map length here ≡ Some bytes
    → IfSome here (λ image. IsImageFault image kind (Image 1 0))
wrong_size None kind bytes other size = tt
wrong_size (Some image) kind bytes other size = other_size image kind (λ same. other (sym (image_sized (Some image) bytes size) ∙ same))
