-- The machine of a seed as it begins, and the words that ask for it.
use Rattle.std.proofs.Common.{◌≡◌, ◌∙◌, ℕ, Bool, true, false, List, [], ◌∷◌, Option, Some, None, Ok, refl, ap, subst, inl, inr, arith}
use Rattle.std.specs.Prelude.{Result, Err, IfOk, IsSomeAnd, length, bytes_eq, codes, option_map, if◌then◌else◌}
use Rattle.std.specs.List.{AllZip}
use Rattle.mpm_base.specs.declared.kind.Kind.TheVariants.{Hd4}
use Rattle.std.proofs.lemmas.Slice.Eq.{bytes_eq-Decides}
use Rattle.mpm_port.specs.Causes.{Rose}
use Rattle.mpm_port.specs.Disks.{Disks, ToldImage, Bytes, Brings, size_of}
use Rattle.mpm_port.specs.MemoryDisks.{MemoryDisks, found, told_of}
use Rattle.mpm_port.proofs.Shelves.{contents_of_here}
use Rattle.mpm_machine_file.specs.declared.lists.DriveSpec.{DriveSpec}
use Rattle.mpm_machine_file.specs.declared.machine_file.MachineFile.{MachineFile}
use Rattle.mpm_script.specs.declared.event.Timed.{Timed}
use Rattle.mpm_generator.specs.Images.{image_of}
use Rattle.mpm_generator.specs.Machines.{machine, script, name_of_image, drives_of}
use Rattle.mpm_mount.specs.Drives.{Drive}
use Rattle.mpm_mount.specs.Directories.{Directory}
use Rattle.mpm_mount.specs.Images.{files_of}
use Rattle.mpm_mount.specs.Mounting.{IsMounted}
use Rattle.mpm_blocks.specs.Geometries.{geometry_of}
use Rattle.mpm_mount.specs.declared.errors.ImageFault.{ImageFault as FaultOfImage}
use Rattle.mpm_drives.specs.declared.error.BootError.{BootError}
use Rattle.mpm_drives.specs.declared.error.BootError.TheVariants.{Image}
use Rattle.mpm_drives.specs.Images.{Images}
use Rattle.mpm_drives.specs.Stopping.{Failures, IsFaultless, StopsMounting, IsFirst, Stops}
use Rattle.mpm_drives.specs.Mounted.{NumberedDrive, AreMounted, IsDriveOf, IsMountedAs, placed}
use Rattle.mpm_bdos.specs.Serving.{Kept as Filed}
use Rattle.mpm_directories.specs.Places.{directory_at}
use Rattle.mpm_bdos.specs.Turns.{drive_and_kind}
use Rattle.mpm_machine.specs.declared.machine.StepFault.{StepFault}
use Rattle.mpm_machine.specs.declared.machine.StepFault.TheVariants.{WriteFault as SinkFailed, DiskFault as DriveFailed}
use Rattle.mpm_machine.specs.Faults.{HasFailed}
use Rattle.mpm_system.specs.declared.system.System.{System}
use Rattle.mpm_system.specs.Opening.{opened}
use Rattle.mpm_machine.specs.Files.{Between, StandsForFiles}
use Rattle.mpm_machine.specs.Mounting.{HasMounted, HasDrives, OpensOn, untouched}
use Rattle.mpm_top.specs.Beginnings.{begun}
use Rattle.mpm_top.specs.Words.{Command, command_of, command_with, form_of}
use Rattle.mpm_top.specs.declared.seeds.Seeded.{Seeded}
use Rattle.mpm_top.specs.declared.seeds.Found.{Found}
use Rattle.mpm_top.specs.Seeds.{seeded_of, drive_a, AreOf, AreFound}
use Rattle.mpm_top.proofs.SeedImages.{has_files}

-- a device whose count stays 0 doesn't fail

pub never_rose : Rose 0 0 → ⊥
unfolding Rose
never_rose (inl rose) = absurd (omega (arith, rose))
never_rose (inr last) = absurd (omega (arith, last.0))

pub none_failed : (fault : StepFault) → HasFailed fault (record { sink = 0; drives = 0 }) (record { sink = 0; drives = 0 }) → ⊥
none_failed SinkFailed failed = never_rose failed.0
none_failed DriveFailed failed = never_rose failed.0

-- what a sink counted that was given the closed text of some steps

pub are_found : (seed steps : ℕ) (system : System) (begins_files : Drive) {E : Type 0} (result : Result Found E) → files_of (image_of seed) Hd4 ≡ Ok begins_files
    → system ≡ opened machine script → IfOk result (λ found. AreOf steps (begun system (drive_a begins_files)) found) → IfOk result (λ found. AreFound seed steps found)
are_found seed steps system files (Err error) are is of = tt
are_found seed steps system files (Ok found) are is of = record {
  files = files;
  are = are;
  found_are = subst (λ (s : System). AreOf steps (begun s (drive_a files)) found) is of;
}

-- the image of a seed is that of its name

pub image_there : (seed : ℕ) → told_of (drives_of seed) name_of_image ≡ Bytes (image_of seed)
image_there seed = ap found (contents_of_here [] name_of_image (image_of seed))

brought_is : (told : ToldImage) (image bytes : List ℕ) → told ≡ Bytes image → Brings told bytes → bytes ≡ image
brought_is told image bytes is brought = subst (λ (t : ToldImage). Brings t bytes) is brought

only_one : {X Y : Type 0} (P : X → Y → Type 0) (x : X) (ys : List Y) → AllZip P (x ∷ []) ys → (y : Y) × (ys ≡ y ∷ []) × P x y
only_one P x [] all = absurd all
only_one P x (y ∷ []) all = (y, refl, all.0)
only_one P x (y ∷ z ∷ ys) all = absurd all.1

-- with what its machine begins: files that its image stands for, on the one drive
pub record BeginsSeeded (seed : ℕ) (system : System) (kept : Filed) (disks : Disks) : Type 0 where
  pub files : Drive
  pub are : files_of (image_of seed) Hd4 ≡ Ok files
  pub stand : StandsForFiles system.kernel.disk kept disks (Between (untouched (placed (drive_a files))))

abbrev its_drive : DriveSpec
its_drive = record { letter = 65; kind = Hd4; image = name_of_image }

one_drive : (images : Images) (image : List ℕ) (drives : List NumberedDrive) → images name_of_image ≡ Bytes image → AllZip (IsDriveOf images) (its_drive ∷ []) drives
    → (files : Drive) × (drives ≡ drive_a files) × (files_of image Hd4 ≡ Ok files)
one_drive images image drives there are =
    let one = only_one (IsDriveOf images) its_drive drives are in
    let files = one.0.files in
    let has = one.2.files in (
      files,
      one.1 ∙ (λ i. record { number = one.2.number i; files = files } ∷ []),
      subst (λ b. files_of b Hd4 ≡ Ok files) (brought_is (images name_of_image) image has.image there has.brought) has.stands,
    )

begins_seeded : (seed : ℕ) (system : System) (kept : Filed) (disks : Disks) → OpensOn (told_of (drives_of seed)) machine.drives system.kernel.disk kept disks → BeginsSeeded seed system kept disks
begins_seeded seed system kept disks opens =
    let one = one_drive (told_of (drives_of seed)) (image_of seed) opens.drives (image_there seed) opens.are in
    record {
      files = one.0;
      are = one.2;
      stand = subst (λ (on : List NumberedDrive). StandsForFiles system.kernel.disk kept disks (Between (untouched (placed on)))) one.1 opens.stand;
    }

-- so it is of a machine that is booted by them
pub begins_booted : (seed : ℕ) (file : MachineFile) (old : MemoryDisks) (system : System) (kept : Filed) (disks : Disks) → file ≡ machine → old ≡ drives_of seed
    → OpensOn (told_of old) file.drives system.kernel.disk kept disks → BeginsSeeded seed system kept disks
begins_booted seed file old system kept disks same was opens =
    let P : MachineFile → Type 0 = λ f. OpensOn (told_of old) f.drives system.kernel.disk kept disks in
    let Q : MemoryDisks → Type 0 = λ d. OpensOn (told_of d) machine.drives system.kernel.disk kept disks in
    begins_seeded seed system kept disks (subst Q was (subst P same opens))

-- its drive has the size of its kind

sized : (found : Option (List ℕ)) (told : ToldImage) (d : Directory) → d.kind ≡ Hd4 → IsSomeAnd found (λ image. Brings told image × IsMounted image Hd4 d)
    → option_map length found ≡ Some 4194304
sized None told d kind is = absurd is
sized (Some image) told d kind is = ap Some (is.1.stands.size ∙ ap (λ k. (geometry_of k).bytes) kind)

one_size : (disks : Disks) (images : Images) (mounted : List Directory) → AllZip (IsMountedAs disks images) (its_drive ∷ []) mounted → size_of disks 0 ≡ Some 4194304
one_size disks images mounted are =
    let one = only_one (IsMountedAs disks images) its_drive mounted are in
    let P : ℕ → Type 0 = λ number. size_of disks number ≡ Some 4194304 in
    subst P one.2.number (sized (disks.image one.0.drive) (images name_of_image) one.0 one.2.kind one.2.image)

pub size_booted : (file : MachineFile) (disks : Disks) (images : Images) (kept : Filed) → file ≡ machine → HasMounted disks images file.drives kept → size_of disks 0 ≡ Some 4194304
size_booted file disks images kept same has =
    one_size disks images has.directories (subst (λ (f : MachineFile). AreMounted disks images f.drives has.directories) same has.mounted)

-- its image is at no fault

apart : (files : Drive) (fault : FaultOfImage) (found : Result Drive FaultOfImage) → found ≡ Ok files → found ≡ Err fault → ⊥
apart files fault found are is = absurd (cc)

at_no_fault : (found : Option (List ℕ)) (told : ToldImage) (image : List ℕ) (files : Drive) (fault : FaultOfImage) → told ≡ Bytes image → files_of image Hd4 ≡ Ok files
    → IsSomeAnd found (λ brought. Brings told brought × (files_of brought Hd4 ≡ Err fault)) → ⊥
at_no_fault None told image files fault there are has = has
at_no_fault (Some brought) told image files fault there are has =
    apart files fault (files_of image Hd4) are (subst (λ b. files_of b Hd4 ≡ Err fault) (brought_is told image brought there has.0) has.1)

fault_nowhere : (disks : Disks) (images : Images) (image : List ℕ) (files : Drive) (old new : Failures) (drive cause place : ℕ) → images name_of_image ≡ Bytes image
    → files_of image Hd4 ≡ Ok files → IsFirst (IsFaultless disks images) (λ spec. StopsMounting disks images spec old new (Image drive cause place)) (its_drive ∷ []) → ⊥
unfolding IsFirst
fault_nowhere disks images image files old new drive cause place there are (inl stops) =
    at_no_fault (disks.image 0) (images name_of_image) image files (record { cause = cause; place = place }) there are stops.1
fault_nowhere disks images image files old new drive cause place there are (inr later) = absurd later.1

pub no_image_fault : (seed : ℕ) (disks : Disks) (file : MachineFile) (drives : MemoryDisks) (old new : Failures) (error : BootError) (drive cause place : ℕ)
    → error ≡ Image drive cause place → file ≡ machine → drives ≡ drives_of seed → Stops disks (told_of drives) file.drives old new error → ⊥
no_image_fault seed disks file drives old new error drive cause place is same was stops =
    let sound = has_files seed in
    let P : MachineFile → Type 0 = λ f. Stops disks (told_of drives) f.drives old new (Image drive cause place) in
    let Q : MemoryDisks → Type 0 = λ d. Stops disks (told_of d) machine.drives old new (Image drive cause place) in
    let R : BootError → Type 0 = λ e. Stops disks (told_of drives) file.drives old new e in
    fault_nowhere disks (told_of (drives_of seed)) (image_of seed) sound.0 old new drive cause place (image_there seed) sound.1
    (subst Q was (subst P same (subst R is stops)))

-- its drive is drive A
pub first_drive : (x : Disks) (file : MachineFile) (mounted : List (Option Directory)) → file ≡ machine → HasDrives x file.drives mounted
    → option_map drive_and_kind (directory_at mounted 0) ≡ Some (0, Hd4)
first_drive x file mounted same has =
    let on : HasDrives x machine.drives mounted = subst (λ (f : MachineFile). HasDrives x f.drives mounted) same has in
    on.each.0.label

pub opened_as : (system : System) (file : MachineFile) (events : List Timed) → system ≡ opened file events → file ≡ machine → events ≡ script → system ≡ opened machine script
opened_as system file events is same typed = is ∙ (λ i. opened (same i) (typed i))

-- words don't ask for both

other_word : (word : List ℕ) (file : List ℕ) (steps : Option ℕ) (trace : Bool) (command : Command) → bytes_eq word (codes "gen") ≡ true
    → command_with (form_of word) file steps trace ≡ Some command → ⊥
unfolding form_of command_with
other_word word file steps trace command gen is =
    let same : word ≡ codes "gen" = grind (arith, bytes_eq-Decides word (codes "gen"), gen) in
    let none : command_with (form_of (codes "gen")) file steps trace ≡ Some command = subst (λ (w : List ℕ). command_with (form_of w) file steps trace ≡ Some command) same is in
    absurd (cc)

by_word : (gen : Bool) (asked : Option Seeded) (seeded : Seeded) (P : Type 0) → (gen ≡ true → P) → (if gen then asked else None) ≡ Some seeded → P
by_word true asked seeded P so is = so refl
by_word false asked seeded P so is = absurd (cc)

pub asks_one : (words : List (List ℕ)) (command : Command) (seeded : Seeded) → command_of words ≡ Some command → seeded_of words ≡ Some seeded → ⊥
unfolding command_of seeded_of
asks_one [] command seeded is other = absurd (cc)
asks_one (word ∷ []) command seeded is other = absurd (cc)
asks_one (word ∷ file ∷ []) command seeded is other = absurd (cc)
asks_one (word ∷ file ∷ steps ∷ []) command seeded is other =
    by_word (bytes_eq word (codes "gen")) _ seeded ⊥ (λ gen. other_word word file _ false command gen is) other
asks_one (word ∷ file ∷ steps ∷ last ∷ []) command seeded is other = absurd (cc)
asks_one (word ∷ file ∷ steps ∷ last ∷ more ∷ rest) command seeded is other = absurd (cc)
