-- Which drives are synced after a run: those that are mounted, as the others are attached as they were.
use Rattle.std.proofs.Common.{◌≡◌, ◌≢◌, ◌∙◌, ℕ, false, Bool, List, [], ◌∷◌, Option, Some, None, IfSome, IfOk, Result, Ok, Err, inl, inr, refl, sym, ap, subst}
use Rattle.std.specs.Prelude.{◌⊎◌, length, option_map}
use Rattle.std.specs.List.{All, AllByRecursion}
use Rattle.std.proofs.lemmas.List.Elements.{All-from_recursion}
use Rattle.std.proofs.lemmas.Option.{none-some}
use Rattle.std.specs.Global.{Box}
use Rattle.mpm_base.specs.declared.kind.Kind.{Kind}
use Rattle.mpm_port.specs.Disks.{Disks}
use Rattle.mpm_machine_file.specs.declared.lists.DriveSpec.{DriveSpec}
use Rattle.mpm_mount.specs.Directories.{Directory}
use Rattle.mpm_drives.specs.Mounted.{number_of, SameBeside}
use Rattle.mpm_directories.specs.Places.{directory_at}
use Rattle.mpm_bdos.specs.Syncing.{AreMountedSynced}
use Rattle.mpm_bdos.specs.Turns.{StaysBeside, drive_and_kind}
use Rattle.mpm_machine.specs.declared.machine.Machine.{Machine}
use Rattle.mpm_machine.specs.Mounting.{HasNoDrive, IsInPlace, HasDrives}
use Rattle.mpm_top.specs.Runs.{KeepsUnmounted, IsAttachedAs, AreSyncedOf, SyncsAttached}

-- what isn't mounted the machine file doesn't list, so that it is as it was

unlisted : (disks : Disks) (mounted : List (Option Directory)) (specs : List DriveSpec) (number : ℕ) → AllByRecursion (IsInPlace disks mounted) specs
    → directory_at mounted number ≡ None → AllByRecursion (λ spec. number_of spec ≢ number) specs
unlisted disks mounted [] number each free = tt
unlisted disks mounted (spec ∷ specs) number each free = (
  (λ same. none-some _ (sym (ap (option_map drive_and_kind) (ap (directory_at mounted) same ∙ free)) ∙ each.0.label)),
  unlisted disks mounted specs number each.1 free,
)

pub keeps_unmounted : (specs : List DriveSpec) (disks now : Disks) (mounted : List (Option Directory)) → SameBeside specs disks now → HasDrives now specs mounted
    → KeepsUnmounted disks now mounted
keeps_unmounted specs disks now mounted beside has = record {
  images = λ number free. beside.images number (apart number free);
  names = λ number free. beside.names number (apart number free);
}
  where
    apart : (number : ℕ) → directory_at mounted number ≡ None → All (λ spec. number_of spec ≢ number) specs
    apart number free = All-from_recursion (λ spec. number_of spec ≢ number) specs (unlisted now mounted specs number has.each free)

-- a drive that was mounted is so after steps

if_there : (old new : Option Directory) (P : Type 0) → option_map drive_and_kind new ≡ option_map drive_and_kind old → IfSome new (λ d. P) → IfSome old (λ d. P)
if_there None new P same p = tt
if_there (Some d) None P same p = absurd (none-some _ same)
if_there (Some d) (Some e) P same p = p

pub synced_before : (unsynced : ℕ → Bool) (old new : List (Option Directory)) → ((number : ℕ) → option_map drive_and_kind (directory_at new number) ≡ option_map drive_and_kind (directory_at old number))
    → AreMountedSynced unsynced new → AreMountedSynced unsynced old
synced_before unsynced old new labels synced number =
    if_there (directory_at old number) (directory_at new number) (unsynced number ≡ false) (labels number) (synced number)

-- so each that the machine file lists is synced

where_labelled : (directory : Option Directory) (label : ℕ × Kind) (P : Type 0) → option_map drive_and_kind directory ≡ Some label → IfSome directory (λ d. P) → P
where_labelled None label P is p = absurd (none-some _ is)
where_labelled (Some d) label P is p = p

pub listed_synced : (disks : Disks) (mounted : List (Option Directory)) (unsynced : ℕ → Bool) (specs : List DriveSpec) → AllByRecursion (IsInPlace disks mounted) specs
    → AreMountedSynced unsynced mounted → AreSyncedOf unsynced specs
listed_synced disks mounted unsynced [] each synced = tt
listed_synced disks mounted unsynced (spec ∷ specs) each synced = (
  where_labelled (directory_at mounted (number_of spec)) (number_of spec, spec.kind) (unsynced (number_of spec) ≡ false) each.0.label (synced (number_of spec)),
  listed_synced disks mounted unsynced specs each.1 synced,
)

-- and so is each that wasn't attached as it is

attached_or_synced : (directory : Option Directory) (P Q : Type 0) → (directory ≡ None → P) → IfSome directory (λ d. Q) → P ⊎ Q
attached_or_synced None P Q free synced = inl (free refl)
attached_or_synced (Some d) P Q free synced = inr synced

pub syncs_attached : (disks middle now : Disks) (unsynced : ℕ → Bool) (mounted : List (Option Directory)) → KeepsUnmounted disks middle mounted
    → ((number : ℕ) → IsAttachedAs middle now number) → AreMountedSynced unsynced mounted → SyncsAttached disks now unsynced
syncs_attached disks middle now unsynced mounted keeps attached synced number =
    attached_or_synced (directory_at mounted number) (IsAttachedAs disks now number) (unsynced number ≡ false)
    (λ free. ((attached number).0 ∙ keeps.names number free, (attached number).1 ∙ ap (option_map length) (keeps.images number free))) (synced number)

-- steps leave each attached as it was

pub attached_still : (one other : List (Option Directory)) (x y z : Disks) (number : ℕ) → StaysBeside one x y → StaysBeside other y z → IsAttachedAs x z number
attached_still one other x y z number first last = (last.names number ∙ first.names number, last.sizes number ∙ first.sizes number)

-- where no drive was called

pub still_attached : (disks : Disks) (unsynced : ℕ → Bool) → SyncsAttached disks disks unsynced
still_attached disks unsynced number = inl (refl, refl)

pub nothing_called : {E : Type 0} (result : Result (Box Machine) E) (disks : Disks) → IfOk result (λ machine. KeepsUnmounted disks disks machine.value.bdos.mounted)
nothing_called (Err error) disks = tt
nothing_called (Ok machine) disks = record { images = λ number free. refl; names = λ number free. refl }

-- where none is mounted all are synced

pub none_synced : {E : Type 0} (result : Result (Box Machine) E) (unsynced : ℕ → Bool) → IfOk result (λ machine. HasNoDrive machine.value.bdos.mounted)
    → IfOk result (λ machine. AreMountedSynced unsynced machine.value.bdos.mounted)
none_synced (Err error) unsynced none = tt
none_synced (Ok machine) unsynced none = λ number. subst (λ (directory : Option Directory). IfSome directory (λ d. unsynced number ≡ false)) (sym (none number)) tt
