-- The images of the drives that a machine file lists, and what they stand for.
use Rattle.std.proofs.Common.{◌≡◌, ◌≢◌, ◌∙◌, ℕ, true, List, [], ◌∷◌, Option, Some, None, inl, inr, refl, sym, ap, subst}
use Rattle.std.specs.Prelude.{◌⊎◌, Ok, IfSome, is_some, option_map, slice_index_or, unwrap_or}
use Rattle.std.specs.List.{AllByRecursion}
use Rattle.std.proofs.lemmas.Bool.{false≢true, cases_eq}
use Rattle.std.proofs.lemmas.Option.{same_Some, none-some}
use Rattle.mpm_base.specs.declared.kind.Kind.{Kind}
use Rattle.mpm_port.specs.Disks.{Disks, Brings}
use Rattle.mpm_machine_file.specs.declared.lists.DriveSpec.{DriveSpec}
use Rattle.mpm_mount.specs.Drives.{Drive}
use Rattle.mpm_mount.specs.Directories.{Directory}
use Rattle.mpm_mount.specs.Images.{files_of}
use Rattle.mpm_mount.proofs.Mounts.{mounts}
use Rattle.mpm_drives.specs.Images.{Images}
use Rattle.mpm_drives.specs.Mounted.{number_of}
use Rattle.mpm_refusals.specs.Asking.{StandsWhere}
use Rattle.mpm_directories.specs.Places.{directory_at}
use Rattle.mpm_bdos.specs.Turns.{has_directory, drive_and_kind, images_of}
use Rattle.mpm_bdos.proofs.NextTurns.{image_told}
use Rattle.mpm_machine.specs.Mounting.{IsInPlace, HasDrives, KeepsMounted}
use Rattle.mpm_machine.specs.Failing.{HaveImages}
use Rattle.mpm_machine.proofs.FilingLaws.{label_none}
use Rattle.mpm_machine.proofs.DriveLaws.{still_has_drives}
use Rattle.mpm_top.specs.Runs.{IsLeft, StandFor, KeepsUnmounted, KeepsOthers}

-- what a device says of the names of its drives: an image that is known of such a name is the drive's
abbrev pub Agree : Disks → Images → Type 0
Agree disks told = (number : ℕ) (name : List ℕ) → disks.name_of number ≡ Some name → IfSome (disks.image number) (Brings (told name))

-- a drive of a machine file

pub kind_labelled : (d : Directory) (number : ℕ) (kind : Kind) → Some (drive_and_kind d) ≡ Some (number, kind) → d.kind ≡ kind
kind_labelled d number kind same = ap (λ (label : Option (ℕ × Kind)). (unwrap_or label (number, kind)).1) same

left_by : (x : Disks) (told : Images) (drives : List (Option Drive)) (spec : DriveSpec) (directory : Option Directory) (drive : Option Drive) → Agree x told
    → option_map drive_and_kind directory ≡ Some (number_of spec, spec.kind) → x.name_of (number_of spec) ≡ Some spec.image
    → StandsWhere (number_of spec) (images_of x (number_of spec)) directory drive → slice_index_or drives (number_of spec) None ≡ drive → IsLeft x told drives spec
left_by x told drives spec None drive agrees label named stands at = absurd (none-some _ label)
left_by x told drives spec (Some d) None agrees label named stands at = absurd stands
left_by x told drives spec (Some d) (Some files) agrees label named stands at =
    let image = images_of x (number_of spec) in
    let here = image_told x (number_of spec) d.kind stands.stands.size in
    record {
      name = named;
      image = image;
      attached = here;
      agrees = subst (λ (found : Option (List ℕ)). IfSome found (Brings (told spec.image))) here (agrees (number_of spec) spec.image named);
      files = files;
      stands = subst (λ k. files_of image k ≡ Ok files) (kind_labelled d (number_of spec) spec.kind label) (mounts image d files stands.stands);
      is = at;
    }

-- all of them

all_left : (x : Disks) (told : Images) (mounted : List (Option Directory)) (drives : List (Option Drive)) → Agree x told → HaveImages x mounted drives → (specs : List DriveSpec)
    → AllByRecursion (IsInPlace x mounted) specs → AllByRecursion (IsLeft x told drives) specs
all_left x told mounted drives agrees images [] each = tt
all_left x told mounted drives agrees images (spec ∷ specs) each = (
  left_by x told drives spec (directory_at images.directories (number_of spec)) (slice_index_or drives (number_of spec) None) agrees
      (images.labels (number_of spec) ∙ each.0.label) each.0.name (images.stand.each (number_of spec)) refl,
  all_left x told mounted drives agrees images specs each.1,
)

-- and no others
none_stands : (number : ℕ) (image : List ℕ) (directory : Option Directory) (drive : Option Drive) → directory ≡ None → StandsWhere number image directory drive → drive ≡ None
none_stands number image None None none stands = refl
none_stands number image None (Some drive) none stands = absurd stands
none_stands number image (Some d) drive none stands = absurd (none-some _ (sym none))

pub stand_by_number : (x : Disks) (told : Images) (specs : List DriveSpec) (mounted : List (Option Directory)) (drives : List (Option Drive)) → Agree x told → HasDrives x specs mounted
    → HaveImages x mounted drives → StandFor x told specs drives
stand_by_number x told specs mounted drives agrees has images = record {
  each = all_left x told mounted drives agrees images specs has.each;
  others = λ number apart.
      none_stands number (images_of x number) (directory_at images.directories number) (slice_index_or drives number None)
      (label_none (directory_at mounted number) (directory_at images.directories number) (images.labels number) (has.others number apart))
      (images.stand.each number);
}

-- so it is after steps, and after the end of a run

pub stand_behind : (told told' : Images) (x y : Disks) (one other : List (Option Directory)) (specs : List DriveSpec) (drives : List (Option Drive)) → Agree y told'
    → HasDrives x specs one → KeepsMounted told told' x y one other → HaveImages y other drives → StandFor y told' specs drives
stand_behind told told' x y one other specs drives agrees has keeps images =
    stand_by_number y told' specs other drives agrees (still_has_drives told told' x y one other specs keeps has) images

-- an image that the machine file doesn't list is as it was

either_apart : (disks : Disks) (mounted : List (Option Directory)) (specs : List DriveSpec) (number : ℕ) (name : Option (List ℕ)) → AllByRecursion (IsInPlace disks mounted) specs
    → AllByRecursion (λ spec. Some spec.image ≢ name) specs → (disks.name_of number ≢ name) ⊎ AllByRecursion (λ spec. number_of spec ≢ number) specs
either_apart disks mounted [] number name each apart = inr tt
either_apart disks mounted (spec ∷ specs) number name each apart =
    by_number (cases_eq (number_of spec) number) (either_apart disks mounted specs number name each.1 apart.1)
  where
    by_number : (number_of spec ≡ number) ⊎ (number_of spec ≢ number) → (disks.name_of number ≢ name) ⊎ AllByRecursion (λ s. number_of s ≢ number) specs
        → (disks.name_of number ≢ name) ⊎ AllByRecursion (λ s. number_of s ≢ number) (spec ∷ specs)
    by_number (inl same) rest = inl (λ named. apart.0 (sym (ap disks.name_of (sym same) ∙ each.0.name) ∙ named))
    by_number (inr differs) (inl named) = inl named
    by_number (inr differs) (inr all) = inr (differs, all)

not_named : (disks : Disks) (mounted : List (Option Directory)) (specs : List DriveSpec) (number : ℕ) (name : Option (List ℕ)) → HasDrives disks specs mounted
    → AllByRecursion (λ spec. Some spec.image ≢ name) specs → has_directory mounted number ≡ true → disks.name_of number ≢ name
not_named disks mounted specs number name has apart there = by_either (either_apart disks mounted specs number name has.each apart)
  where
    by_either : (disks.name_of number ≢ name) ⊎ AllByRecursion (λ spec. number_of spec ≢ number) specs → disks.name_of number ≢ name
    by_either (inl named) = named
    by_either (inr all) = absurd (false≢true (sym (ap is_some (has.others number all)) ∙ there))

some_apart : (specs : List DriveSpec) (name : List ℕ) → AllByRecursion (λ spec. spec.image ≢ name) specs → AllByRecursion (λ spec. Some spec.image ≢ Some name) specs
some_apart [] name apart = tt
some_apart (spec ∷ specs) name apart = ((λ same. apart.0 (same_Some spec.image name same)), some_apart specs name apart.1)

pub others_behind : (told told' : Images) (x y : Disks) (one other : List (Option Directory)) (specs : List DriveSpec) → HasDrives x specs one → KeepsMounted told told' x y one other
    → KeepsOthers told told' x y specs
others_behind told told' x y one other specs has keeps = record {
  names = λ number unlisted. keeps.beside.names number;
  images = λ number unlisted apart. keeps.beside.others number (λ one_of there. not_named x one specs one_of (x.name_of number) has apart there);
  others = λ name apart. keeps.told_are.others name (λ number there. not_named x one specs number (Some name) has (some_apart specs name apart) there);
  still = keeps.told_are.still;
}

-- and so as the drives are mounted before that
pub others_then : (before middle later : Images) (x y z : Disks) (mounted : List (Option Directory)) (specs : List DriveSpec) → middle ≡ before → HasDrives y specs mounted
    → KeepsUnmounted x y mounted → KeepsOthers middle later y z specs → KeepsOthers before later x z specs
others_then before middle later x y z mounted specs same has boots keeps = record {
  names = λ number unlisted. keeps.names number unlisted ∙ boots.names number (has.others number unlisted);
  images = λ number unlisted apart.
      let free = has.others number unlisted in
      keeps.images number unlisted (subst (λ (name : Option (List ℕ)). AllByRecursion (λ spec. Some spec.image ≢ name) specs) (sym (boots.names number free)) apart)
      ∙ boots.images number free;
  others = λ name apart. keeps.others name apart ∙ ap (λ (images : Images). images name) same;
  still = λ name none. sym (ap (λ (images : Images). images name) same) ∙ keeps.still name none;
}
