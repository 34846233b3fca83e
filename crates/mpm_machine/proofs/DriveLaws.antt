-- The drives with which a machine begins, and what steps leave of them, one after another.
use Rattle.std.proofs.Common.{◌≡◌, ◌≢◌, ◌∙◌, ℕ, List, [], ◌∷◌, Option, Some, None, sym, ap, subst, arith, get_or-set_same, get_or-set_other}
use Rattle.std.specs.Prelude.{option_map, slice_set}
use Rattle.std.specs.List.{AllByRecursion}
use Rattle.std.proofs.lemmas.List.Elements.{recursion_from_All}
use Rattle.mpm_port.specs.Disks.{Disks}
use Rattle.mpm_machine_file.specs.declared.lists.DriveSpec.{DriveSpec}
use Rattle.mpm_machine_file.specs.declared.machine_file.MachineFile.{MachineFile}
use Rattle.mpm_machine_file.specs.MachineFiles.{IsDrive, IsMachine}
use Rattle.mpm_machine_file.proofs.OrderLaws.{IsApart, AreApart, apart_from_differ, letters_differ}
use Rattle.mpm_mount.specs.Directories.{Directory}
use Rattle.mpm_drives.specs.Images.{Images}
use Rattle.mpm_drives.specs.Mounted.{number_of, AreMounted}
use Rattle.mpm_bdos.specs.Serving.{Kept, nothing_kept}
use Rattle.mpm_directories.specs.Places.{directory_at, all_put, in_places}
use Rattle.mpm_bdos.specs.Turns.{has_directory, drive_and_kind}
use Rattle.mpm_bdos.proofs.Fitting.{stays_same, stays_again, told_same, told_again}
use Rattle.mpm_bdos.proofs.AtOnceLaws.{still_there}
use Rattle.mpm_machine.specs.Mounting.{HasMounted, IsInPlace, HasDrives, KeepsMounted}
use Rattle.mpm_machine.proofs.FilingLaws.{label_none}
use Rattle.mpm_machine.proofs.FirstFiles.{many_places}
use Rattle.mpm_machine.proofs.MountedLaws.{none_mounted}

-- nothing was done, or one thing after another
pub keeps_still : (told : Images) (disks : Disks) (one other : List (Option Directory)) → other ≡ one → KeepsMounted told told disks disks one other
keeps_still told disks one other same = record {
  labels = λ number. ap (λ m. option_map drive_and_kind (directory_at m number)) same;
  beside = stays_same one disks;
  told_are = told_same one disks told;
}

pub keeps_both : (told told' told'' : Images) (x y z : Disks) (one other last : List (Option Directory)) → KeepsMounted told told' x y one other
    → KeepsMounted told' told'' y z other last → KeepsMounted told told'' x z one last
keeps_both told told' told'' x y z one other last first next =
    let there : (number : ℕ) → has_directory other number ≡ has_directory one number =
    λ number. still_there (directory_at one number) (directory_at other number) (first.labels number) in
    record {
      labels = λ number. next.labels number ∙ first.labels number;
      beside = stays_again one other x y z there first.beside next.beside;
      told_are = told_again one other x y told told' told'' there first.beside first.told_are next.told_are;
    }

-- so the drives of a machine file stay

still_in_place : (told told' : Images) (x y : Disks) (one other : List (Option Directory)) (specs : List DriveSpec) → KeepsMounted told told' x y one other → AllByRecursion (IsInPlace x one) specs
    → AllByRecursion (IsInPlace y other) specs
still_in_place told told' x y one other [] keeps each = tt
still_in_place told told' x y one other (spec ∷ specs) keeps each = (
  record {
    label = keeps.labels (number_of spec) ∙ each.0.label;
    name = keeps.beside.names (number_of spec) ∙ each.0.name;
  },
  still_in_place told told' x y one other specs keeps each.1,
)

pub still_has_drives : (told told' : Images) (x y : Disks) (one other : List (Option Directory)) (specs : List DriveSpec) → KeepsMounted told told' x y one other → HasDrives x specs one → HasDrives y specs other
still_has_drives told told' x y one other specs keeps has = record {
  each = still_in_place told told' x y one other specs keeps has.each;
  others = λ number apart. label_none (directory_at one number) (directory_at other number) (keeps.labels number) (has.others number apart);
}

-- the numbers of a machine file's drives differ

numbers_apart : (spec : DriveSpec) (specs : List DriveSpec) → IsDrive spec → AllByRecursion IsDrive specs → AllByRecursion (IsApart spec) specs
    → AllByRecursion (λ other. number_of other ≢ number_of spec) specs
numbers_apart spec [] is each apart = tt
numbers_apart spec (other ∷ specs) is each apart = (
  λ same. letters_differ spec other apart.0 (omega (arith, same, is.first, each.0.first)),
  numbers_apart spec specs is each.1 apart.1,
)

-- each is in its place

in_place : (x : Disks) (mounted : List (Option Directory)) (spec : DriveSpec) (d : Directory) → d.drive ≡ number_of spec → d.kind ≡ spec.kind → x.name_of d.drive ≡ Some spec.image
    → directory_at mounted d.drive ≡ Some d → IsInPlace x mounted spec
in_place x mounted spec d number kind name at = record {
  label = ap (λ n. option_map drive_and_kind (directory_at mounted n)) (sym number) ∙ ap (option_map drive_and_kind) at ∙ ap (λ n. Some (n, d.kind)) number ∙ ap (λ k. Some (number_of spec, k)) kind;
  name = subst (λ n. x.name_of n ≡ Some spec.image) number name;
}

others_in_place : (x : Disks) (mounted : List (Option Directory)) (number : ℕ) (d : Directory) (specs : List DriveSpec) → AllByRecursion (λ spec. number_of spec ≢ number) specs
    → AllByRecursion (IsInPlace x mounted) specs → AllByRecursion (IsInPlace x (slice_set mounted number (Some d))) specs
others_in_place x mounted number d [] apart each = tt
others_in_place x mounted number d (spec ∷ specs) apart each = (
  record {
    label = ap (option_map drive_and_kind) (get_or-set_other mounted number (number_of spec) (Some d) None apart.0) ∙ each.0.label;
    name = each.0.name;
  },
  others_in_place x mounted number d specs apart.1 each.1,
)

all_in_place : (x : Disks) (images : Images) (specs : List DriveSpec) (ds : List Directory) → AreMounted x images specs ds → AllByRecursion IsDrive specs → AreApart specs
    → AllByRecursion (IsInPlace x (in_places ds)) specs
unfolding all_put
all_in_place x images [] [] mounted each apart = tt
all_in_place x images [] (d ∷ ds) mounted each apart = absurd mounted
all_in_place x images (spec ∷ specs) [] mounted each apart = absurd mounted
all_in_place x images (spec ∷ specs) (d ∷ ds) mounted each apart =
    let number : d.drive ≡ number_of spec = mounted.0.number in
    let many = many_places ds in (
      in_place x (slice_set (in_places ds) d.drive (Some d)) spec d number mounted.0.kind mounted.0.name
          (get_or-set_same (in_places ds) d.drive (Some d) None (omega (arith, number, many, each.0.last))),
      others_in_place x (in_places ds) d.drive d specs
          (subst (λ n. AllByRecursion (λ other. number_of other ≢ n) specs) (sym number) (numbers_apart spec specs each.0 each.1 apart.0))
          (all_in_place x images specs ds mounted.1 each.1 apart.1),
    )

-- and no other place has one
none_besides : (x : Disks) (images : Images) (specs : List DriveSpec) (ds : List Directory) → AreMounted x images specs ds
    → (number : ℕ) → AllByRecursion (λ spec. number_of spec ≢ number) specs → directory_at (in_places ds) number ≡ None
unfolding all_put
none_besides x images [] [] mounted number apart = none_mounted number
none_besides x images [] (d ∷ ds) mounted number apart = absurd mounted
none_besides x images (spec ∷ specs) [] mounted number apart = absurd mounted
none_besides x images (spec ∷ specs) (d ∷ ds) mounted number apart =
    get_or-set_other (in_places ds) d.drive number (Some d) None (λ same. apart.0 (sym mounted.0.number ∙ sym same))
    ∙ none_besides x images specs ds mounted.1 number apart.1

pub mounted_drives : (x : Disks) (images : Images) (file : MachineFile) (kept : Kept) → IsMachine file → HasMounted x images file.drives kept
    → HasDrives x file.drives kept.mounted
mounted_drives x images file kept is has =
    let each = recursion_from_All IsDrive file.drives is.each_drive in
    let here : HasDrives x file.drives (in_places has.directories) = record {
      each = all_in_place x images file.drives has.directories has.mounted each (apart_from_differ file.drives is.images);
      others = none_besides x images file.drives has.directories has.mounted;
    } in
    subst (λ (k : Kept). HasDrives x file.drives k.mounted) (sym has.is) here

-- where nothing is mounted
pub nothing_mounted : (x : Disks) (kept : Kept) → kept ≡ nothing_kept (in_places []) → HasDrives x [] kept.mounted
nothing_mounted x kept is =
    let here : HasDrives x [] (in_places []) = record { each = tt; others = λ number apart. none_mounted number } in
    subst (λ (k : Kept). HasDrives x [] k.mounted) (sym is) here
