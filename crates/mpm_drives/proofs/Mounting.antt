-- The drives that are mounted, one after another.
use Rattle.std.proofs.Common.{◌≡◌, ◌≢◌, ◌∙◌, ℕ, ◌+◌, ◌<◌, Bool, false, List, [], ◌∷◌, ◌++◌, length, take, drop, get_or, append_assoc, Option, Some, true, sym, ap, subst, inl, inr, arith}
use Rattle.std.specs.Prelude.{◌⊎◌, IfSome, IsSomeAnd, Ok, Err}
use Rattle.std.proofs.lemmas.Bool.{cases_eq}
use Rattle.std.proofs.lemmas.List.{take_more, take-append-drop}
use Rattle.std.proofs.lemmas.List.Elements.{All-push, recursion_from_All}
use Rattle.std.specs.List.{All, AllByRecursion}
use Rattle.mpm_port.specs.Disks.{Disks, Brings, Attaches}
use Rattle.mpm_machine_file.specs.declared.lists.DriveSpec.{DriveSpec}
use Rattle.mpm_machine_file.specs.Drives.{all_differ}
use Rattle.mpm_machine_file.specs.MachineFiles.{IsDrive}
use Rattle.mpm_machine_file.proofs.OrderLaws.{IsApart, AreApart, letters_differ, apart_from_differ}
use Rattle.mpm_mount.specs.Directories.{Directory}
use Rattle.mpm_mount.specs.Drives.{Drive}
use Rattle.mpm_drives.specs.declared.error.BootError.{BootError}
use Rattle.mpm_drives.specs.declared.error.BootError.TheVariants.{Image, DiskFault, OutOfMemory}
use Rattle.mpm_mount.specs.declared.errors.MountError.{MountError}
use Rattle.mpm_mount.specs.declared.errors.MountError.TheVariants.{Image as BadImage}
use Rattle.mpm_mount.specs.Mounting.{IsMounted, IsImageFault, CountsFault}
use Rattle.mpm_mount.specs.Images.{files_of}
use Rattle.mpm_drives.specs.Images.{Images}
use Rattle.mpm_drives.specs.Mounted.{number_of, IsMountedAs, AreMounted, AreSynced, OnlyDrive, SameBeside, AsksNothing}
use Rattle.mpm_drives.specs.Stopping.{Failures, IsAtFault, IsFaultless, StopsMounting, IsFirst, Stops}
use Rattle.mpm_drives.proofs.Telling.{brought_mounted, brought_fault, faultless_brought}

-- drives before one of some that don't clash have other numbers

each_at : (P : DriveSpec → Type 0) (front : List DriveSpec) (spec : DriveSpec) (rest : List DriveSpec) → AllByRecursion P (front ++ (spec ∷ rest)) → P spec
each_at P [] spec rest each = each.0
each_at P (first ∷ front) spec rest each = each_at P front spec rest each.1

numbers_differ : (one other : DriveSpec) → IsDrive one → IsDrive other → one.letter ≢ other.letter → number_of one ≢ number_of other
numbers_differ one other p q apart same = apart (omega (arith, same, p.first, q.first))

front_differs : (front : List DriveSpec) (spec : DriveSpec) (rest : List DriveSpec) → AllByRecursion IsDrive (front ++ (spec ∷ rest)) → AreApart (front ++ (spec ∷ rest))
    → AllByRecursion (λ other. number_of other ≢ number_of spec) front
front_differs [] spec rest each apart = tt
front_differs (first ∷ front) spec rest each apart = (
  numbers_differ first spec each.0 (each_at IsDrive front spec rest each.1) (letters_differ first spec (each_at (IsApart first) front spec rest apart.0)),
  front_differs front spec rest each.1 apart.1,
)

pub others_differ : (specs front : List DriveSpec) (spec : DriveSpec) (rest : List DriveSpec) → specs ≡ front ++ (spec ∷ rest) → AllByRecursion IsDrive specs
    → all_differ specs ≡ true → AllByRecursion (λ other. number_of other ≢ number_of spec) front
others_differ specs front spec rest is each differ =
    front_differs front spec rest (subst (AllByRecursion IsDrive) is each) (subst AreApart is (apart_from_differ specs differ))

-- those that are mounted stay so as another drive is attached

kept : (number : ℕ) (x x' : Disks) (images : Images) (spec : DriveSpec) (d : Directory) → OnlyDrive number x x' → number_of spec ≢ number
    → IsMountedAs x images spec d → IsMountedAs x' images spec d
kept number x x' images spec d only apart mounted =
    let other : d.drive ≢ number = λ same. apart (sym mounted.number ∙ same) in
    record {
      number = mounted.number;
      kind = mounted.kind;
      name = only.names d.drive other ∙ mounted.name;
      image = subst (λ (o : Option (List ℕ)). IsSomeAnd o (λ image. Brings (images spec.image) image × IsMounted image spec.kind d)) (sym (only.images d.drive other)) mounted.image;
    }

pub mounted_kept : (number : ℕ) (x x' : Disks) (images : Images) (specs : List DriveSpec) (ds : List Directory)
    → OnlyDrive number x x' → AllByRecursion (λ spec. number_of spec ≢ number) specs → AreMounted x images specs ds → AreMounted x' images specs ds
mounted_kept number x x' images [] [] only apart mounted = tt
mounted_kept number x x' images [] (d ∷ ds) only apart mounted = absurd mounted
mounted_kept number x x' images (spec ∷ specs) [] only apart mounted = absurd mounted
mounted_kept number x x' images (spec ∷ specs) (d ∷ ds) only apart mounted =
    (kept number x x' images spec d only apart.0 mounted.0, mounted_kept number x x' images specs ds only apart.1 mounted.1)

pub mounted_more : (x : Disks) (images : Images) (specs : List DriveSpec) (ds : List Directory) (spec : DriveSpec) (d : Directory)
    → AreMounted x images specs ds → IsMountedAs x images spec d → AreMounted x images (specs ++ (spec ∷ [])) (ds ++ (d ∷ []))
mounted_more x images [] [] spec d mounted here = (here, tt)
mounted_more x images [] (e ∷ ds) spec d mounted here = absurd mounted
mounted_more x images (first ∷ specs) [] spec d mounted here = absurd mounted
mounted_more x images (first ∷ specs) (e ∷ ds) spec d mounted here = (mounted.0, mounted_more x images specs ds spec d mounted.1 here)

-- and so do drives that none of them is

pub not_listed : (specs front : List DriveSpec) (spec : DriveSpec) (rest : List DriveSpec) → specs ≡ front ++ (spec ∷ rest) → (number : ℕ)
    → All (λ s. number_of s ≢ number) specs → number ≢ number_of spec
not_listed specs front spec rest is number apart same =
    each_at (λ s. number_of s ≢ number) front spec rest
    (subst (AllByRecursion (λ s. number_of s ≢ number)) is (recursion_from_All (λ s. number_of s ≢ number) specs apart)) (sym same)

pub beside_more : (specs front : List DriveSpec) (spec : DriveSpec) (rest : List DriveSpec) (x y z : Disks) → specs ≡ front ++ (spec ∷ rest)
    → SameBeside specs x y → OnlyDrive (number_of spec) y z → SameBeside specs x z
beside_more specs front spec rest x y z is beside only =
    let other = not_listed specs front spec rest is in
    record {
      images = λ number apart. only.images number (other number apart) ∙ beside.images number apart;
      names = λ number apart. only.names number (other number apart) ∙ beside.names number apart;
    }

pub failures_same : (f f' : ℕ) (n n' : List (List ℕ)) → f ≡ f' → n ≡ n' → ◌≡◌ {A = Failures} (record { faults = f; names = n }) (record { faults = f'; names = n' })
failures_same f f' n n' faults names =
    ap (λ (k : ℕ). let failures : Failures = record { faults = k; names = n } in failures) faults
    ∙ ap (λ (k : List (List ℕ)). let failures : Failures = record { faults = f'; names = k } in failures) names

pub stops_from : (x : Disks) (one other : Images) (spec : DriveSpec) (before old new : Failures) (error : BootError) → one ≡ other → before ≡ old
    → StopsMounting x one spec before new error → StopsMounting x other spec old new error
stops_from x one other spec before old new error told is stops =
    subst (λ (f : Failures). StopsMounting x other spec f new error) is (subst (λ (images : Images). StopsMounting x images spec before new error) told stops)

-- one drive, as it was attached and mounted

pub mounted_as : (x y z : Disks) (images : Images) (spec : DriveSpec) (name : List ℕ) (d : Directory) → name ≡ spec.image
    → Attaches (number_of spec) name (images name) x y → z ≡ y → d.drive ≡ number_of spec → d.kind ≡ spec.kind
    → IfSome (y.image (number_of spec)) (λ image. IsMounted image spec.kind d) → IsMountedAs z images spec d
mounted_as x y z images spec name d is attaches same number kind mounted =
    let here : z.image d.drive ≡ y.image (number_of spec) = ap (λ (disks : Disks). disks.image d.drive) same ∙ ap y.image number in
    let brought : IsSomeAnd (y.image (number_of spec)) (Brings (images spec.image)) =
    subst (λ (n : List ℕ). IsSomeAnd (y.image (number_of spec)) (Brings (images n))) is attaches.image in
    record {
      number = number;
      kind = kind;
      name = ap (λ (disks : Disks). disks.name_of d.drive) same ∙ ap y.name_of number ∙ attaches.here ∙ ap (λ (n : List ℕ). Some n) is;
      image = subst (λ (o : Option (List ℕ)). IsSomeAnd o (λ image. Brings (images spec.image) image × IsMounted image spec.kind d)) (sym here)
          (brought_mounted (y.image (number_of spec)) (images spec.image) spec.kind d brought mounted);
    }

pub fault_as : (x y z : Disks) (images : Images) (spec : DriveSpec) (name : List ℕ) (error : MountError) (cause place : ℕ) → name ≡ spec.image
    → error ≡ BadImage cause place → Attaches (number_of spec) name (images name) x y → z ≡ y
    → IfSome (y.image (number_of spec)) (λ image. IsImageFault image spec.kind error)
    → IsAtFault z images spec (record { cause = cause; place = place })
fault_as x y z images spec name error cause place is fault attaches same has =
    let Q : MountError → Type 0 = λ e. IfSome (y.image (number_of spec)) (λ image. IsImageFault image spec.kind e) in
    let here : z.image (number_of spec) ≡ y.image (number_of spec) = ap (λ (disks : Disks). disks.image (number_of spec)) same in
    subst (λ (o : Option (List ℕ)). IsSomeAnd o (λ image. Brings (images spec.image) image × (files_of image spec.kind ≡ Err (record { cause = cause; place = place })))) (sym here)
    (brought_fault (y.image (number_of spec)) (images spec.image) spec.kind (record { cause = cause; place = place })
    (subst (λ (n : List ℕ). IsSomeAnd (y.image (number_of spec)) (Brings (images n))) is attaches.image) (subst Q fault has))

pub count_as : (A : Type 0) (before now : ℕ) (error : MountError) (cause place : ℕ) → error ≡ BadImage cause place → CountsFault {A = A} before now (Err error) → now ≡ before
count_as A before now error cause place fault counts =
    let P : MountError → Type 0 = λ e. CountsFault {A = A} before now (Err e) in subst P fault counts

-- the drives before one, and that one

pub taken_more : (specs : List DriveSpec) (i : ℕ) (spec : DriveSpec) → i < length specs → spec ≡ get_or specs i spec → take (i + 1) specs ≡ take i specs ++ (spec ∷ [])
taken_more specs i spec within is = take_more specs i spec within ∙ ap (λ (s : DriveSpec). take i specs ++ (s ∷ [])) (sym is)

pub parted : (specs : List DriveSpec) (i : ℕ) (spec : DriveSpec) → i < length specs → spec ≡ get_or specs i spec
    → specs ≡ take i specs ++ (spec ∷ drop (i + 1) specs)
parted specs i spec within is =
    sym (take-append-drop (i + 1) specs)
    ∙ (ap (λ t. t ++ drop (i + 1) specs) (taken_more specs i spec within is) ∙ append_assoc (take i specs) (spec ∷ []) (drop (i + 1) specs))

-- where it is so of one, those before it are mounted, and so their images have no fault
faultless_as : (x : Disks) (images : Images) (spec : DriveSpec) (d : Directory) → IsMountedAs x images spec d → IsFaultless x images spec
faultless_as x images spec d mounted =
    subst (λ (n : ℕ). IsSomeAnd (x.image n) (λ image. Brings (images spec.image) image × ((files : Drive) × (files_of image spec.kind ≡ Ok files)))) mounted.number
    (faultless_brought (x.image d.drive) (images spec.image) spec.kind d mounted.image)

first_behind : (x : Disks) (images : Images) (P : DriveSpec → Type 0) (front : List DriveSpec) (ds : List Directory) (spec : DriveSpec)
    (rest : List DriveSpec) → AreMounted x images front ds → P spec → IsFirst (IsFaultless x images) P (front ++ (spec ∷ rest))
unfolding IsFirst
first_behind x images P [] [] spec rest mounted here = inl here
first_behind x images P [] (d ∷ ds) spec rest mounted here = absurd mounted
first_behind x images P (first ∷ front) [] spec rest mounted here = absurd mounted
first_behind x images P (first ∷ front) (d ∷ ds) spec rest mounted here =
    inr (faultless_as x images first d mounted.0, first_behind x images P front ds spec rest mounted.1 here)

stops_behind : (x : Disks) (images : Images) (front : List DriveSpec) (ds : List Directory) (spec : DriveSpec) (rest : List DriveSpec)
    (old new : Failures) (error : BootError) → AreMounted x images front ds → StopsMounting x images spec old new error → Stops x images (front ++ (spec ∷ rest)) old new error
stops_behind x images front ds spec rest old new (Image drive cause place) mounted stops =
    first_behind x images (λ s. StopsMounting x images s old new (Image drive cause place)) front ds spec rest mounted stops
stops_behind x images front ds spec rest old new DiskFault mounted stops =
    first_behind x images (λ s. StopsMounting x images s old new DiskFault) front ds spec rest mounted stops
stops_behind x images front ds spec rest old new OutOfMemory mounted stops = stops

pub stops_at : (x : Disks) (images : Images) (specs front : List DriveSpec) (ds : List Directory) (spec : DriveSpec) (rest : List DriveSpec)
    (old new : Failures) (error : BootError) → specs ≡ front ++ (spec ∷ rest) → AreMounted x images front ds → StopsMounting x images spec old new error
    → Stops x images specs old new error
stops_at x images specs front ds spec rest old new error is mounted stops =
    subst (λ (s : List DriveSpec). Stops x images s old new error) (sym is) (stops_behind x images front ds spec rest old new error mounted stops)

-- no write was asked for
pub asks_more : (specs front : List DriveSpec) (spec : DriveSpec) (rest : List DriveSpec) (x y z : ℕ → Bool) → specs ≡ front ++ (spec ∷ rest) → AsksNothing specs x y
    → (z (number_of spec) ≡ true → y (number_of spec) ≡ true) → ((other : ℕ) → other ≢ number_of spec → z other ≡ y other) → AsksNothing specs x z
asks_more specs front spec rest x y z is asks here others = record {
  write = λ number asked. asks.write number (at number (cases_eq number (number_of spec)) asked);
  sync = λ number apart. others number (not_listed specs front spec rest is number apart) ∙ asks.sync number apart;
}
  where
    at : (number : ℕ) → (number ≡ number_of spec) ⊎ (number ≢ number_of spec) → z number ≡ true → y number ≡ true
    at number (inl same) asked = subst (λ (n : ℕ). y n ≡ true) (sym same) (here (subst (λ (n : ℕ). z n ≡ true) same asked))
    at number (inr other) asked = sym (others number other) ∙ asked

-- a drive that is synced stays so as one is, which is it or another
pub stays : (old now : ℕ → Bool) (drive : ℕ) → now drive ≡ false → ((other : ℕ) → other ≢ drive → now other ≡ old other) → (number : ℕ) → old number ≡ false → now number ≡ false
stays old now drive here beside number was = elim (cases_eq number drive) [ inl same ↦ ap now same ∙ here | inr other ↦ beside number other ∙ was ]

-- with one more
pub synced_more : (ds : List Directory) (d : Directory) (old now : ℕ → Bool) → AreSynced old ds → ((number : ℕ) → old number ≡ false → now number ≡ false) → now d.drive ≡ false
    → AreSynced now (ds ++ (d ∷ []))
synced_more ds d old now before stay here =
    let P : Directory → Type 0 = λ one. now one.drive ≡ false in
    All-push P ds d (λ place other less. stay _ (before place other less)) here
