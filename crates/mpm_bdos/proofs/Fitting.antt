-- A turn on one drive leaves all mounted drives fit, and the images of all others.
use Rattle.std.proofs.Common.{◌≡◌, ℕ, zero, suc, inl, inr, Bool, true, List, [], ◌∷◌, Option, Some, None, IfSome, refl, sym, ap, subst, ◌∙◌}
use Rattle.std.specs.Prelude.{IsSome, is_some, option_map, slice_index_or, slice_set}
use Rattle.std.proofs.lemmas.Bool.{cases_eq, true≢false}
use Rattle.std.proofs.lemmas.List.{length-set}
use Rattle.mpm_base.specs.declared.kind.Kind.{Kind}
use Rattle.mpm_port.specs.Disks.{Disks, ToldImage, size_of}
use Rattle.mpm_blocks.specs.Geometries.{geometry_of}
use Rattle.mpm_cache.specs.declared.cache.SectorPlace.{SectorPlace}
use Rattle.mpm_cache.specs.Coherent.{AreApart}
use Rattle.mpm_cache.proofs.AliasLaws.{apart_after}
use Rattle.mpm_mount.specs.Directories.{Directory, IsDirectory}
use Rattle.mpm_directories.specs.Places.{directory_at, AreInPlace}
use Rattle.mpm_bdos.specs.Syncing.{AreAttached}
use Rattle.mpm_bdos.specs.Turns.{FitsDrives, KeepsImages, KeepsToldOf, KeepsUnsynced, StaysBeside, HasLeftDisk, has_directory, drive_and_kind}

-- a directory that comes into another's place, of the same drive and kind, leaves each place's drive and kind
pub labels_stay : (mounted : List (Option Directory)) (number other : ℕ) (new : Option Directory) → option_map drive_and_kind new ≡ option_map drive_and_kind (directory_at mounted number)
    → option_map drive_and_kind (directory_at (slice_set mounted number new) other) ≡ option_map drive_and_kind (directory_at mounted other)
labels_stay [] number other new same = refl
labels_stay (d ∷ ds) zero zero new same = same
labels_stay (d ∷ ds) zero (suc other) new same = refl
labels_stay (d ∷ ds) (suc number) zero new same = refl
labels_stay (d ∷ ds) (suc number) (suc other) new same = labels_stay ds number other new same

pub there_label : (d : Option Directory) → is_some (option_map drive_and_kind d) ≡ is_some d
there_label None = refl
there_label (Some d) = refl

there_stays : (mounted : List (Option Directory)) (number other : ℕ) (new : Option Directory) → option_map drive_and_kind new ≡ option_map drive_and_kind (directory_at mounted number)
    → has_directory (slice_set mounted number new) other ≡ has_directory mounted other
there_stays mounted number other new same =
    sym (there_label (directory_at (slice_set mounted number new) other)) ∙ ap is_some (labels_stay mounted number other new same) ∙ there_label (directory_at mounted other)

-- what is so of each directory by its drive and kind
abbrev label_in : Option (ℕ × Kind) → ℕ × Kind → ℕ × Kind
label_in None other = other
label_in (Some label) other = label

pub by_label : (P : ℕ × Kind → Type 0) (d e : Option Directory) → option_map drive_and_kind e ≡ option_map drive_and_kind d → IfSome d (λ one. P (drive_and_kind one)) → IfSome e (λ one. P (drive_and_kind one))
by_label P None None same so = tt
by_label P (Some d) None same so = tt
by_label P None (Some e) same so = absurd (true≢false (ap is_some same))
by_label P (Some d) (Some e) same so = subst P (ap (λ found. label_in found (drive_and_kind d)) (sym same)) so

-- directories without a fault in their places, one of which is changed to another of its drive and kind
set_any : {X : Type 0} (P : X → Type 0) (places : List (Option X)) (number other : ℕ) (new : Option X) → IfSome new P → IfSome (slice_index_or places other None) P
    → IfSome (slice_index_or (slice_set places number new) other None) P
set_any P [] number other new is each = each
set_any P (x ∷ xs) zero zero new is each = is
set_any P (x ∷ xs) zero (suc other) new is each = each
set_any P (x ∷ xs) (suc number) zero new is each = each
set_any P (x ∷ xs) (suc number) (suc other) new is each = set_any P xs number other new is each

pub in_place_after : (mounted : List (Option Directory)) (number : ℕ) (new : Option Directory) → AreInPlace mounted → option_map drive_and_kind new ≡ option_map drive_and_kind (directory_at mounted number)
    → IfSome new (λ d. IsDirectory d.kind d.entries) → AreInPlace (slice_set mounted number new)
in_place_after mounted number new placed same is = record {
  places = length-set mounted number new ∙ placed.places;
  each = λ other. by_label (λ label. label.0 ≡ other) (directory_at mounted other) (directory_at (slice_set mounted number new) other) (labels_stay mounted number other new same) (placed.each other);
  directories = λ other. set_any (λ (d : Directory). IsDirectory d.kind d.entries) mounted number other new is (placed.directories other);
}

-- sizes go by the images
sizes_after : (mounted : List (Option Directory)) (number : ℕ) (new : Option Directory) (disks now : Disks) → option_map drive_and_kind new ≡ option_map drive_and_kind (directory_at mounted number)
    → ((other : ℕ) → size_of now other ≡ size_of disks other) → ((other : ℕ) → IfSome (directory_at mounted other) (λ d. size_of disks other ≡ Some (geometry_of d.kind).bytes))
    → (other : ℕ) → IfSome (directory_at (slice_set mounted number new) other) (λ d. size_of now other ≡ Some (geometry_of d.kind).bytes)
sizes_after mounted number new disks now same stay sizes other =
    by_label (λ label. size_of now other ≡ Some (geometry_of label.1).bytes) (directory_at mounted other) (directory_at (slice_set mounted number new) other)
    (labels_stay mounted number other new same)
    (subst (λ size. IfSome (directory_at mounted other) (λ d. size ≡ Some (geometry_of d.kind).bytes)) (sym (stay other)) (sizes other))

-- drives stay apart by which of them are mounted
apart_among : (among mounted : ℕ → Bool) (cached : List (SectorPlace × List ℕ)) (disks : Disks) → ((number : ℕ) → mounted number ≡ among number) → AreApart among cached disks → AreApart mounted cached disks
apart_among among mounted cached disks same apart = record {
  own = λ drive other a b. apart.own drive other (sym (same drive) ∙ a) (sym (same other) ∙ b);
  alone = λ drive a. apart.alone drive (sym (same drive) ∙ a);
}

-- a directory in its place is of that drive
pub its_number : (mounted : List (Option Directory)) (number : ℕ) (d : Directory) → AreInPlace mounted → directory_at mounted number ≡ Some d → d.drive ≡ number
its_number mounted number d placed is = subst (λ found. IfSome found (λ one. one.drive ≡ number)) is (placed.each number)

pub is_there : (mounted : List (Option Directory)) (number : ℕ) (d : Directory) → AreInPlace mounted → directory_at mounted number ≡ Some d → has_directory mounted d.drive ≡ true
is_there mounted number d placed is = ap (has_directory mounted) (its_number mounted number d placed is) ∙ ap is_some is

pub fits_after : {D : Type 0} (disks : D → Disks) (told : D → List ℕ → ToldImage) (failed : D → List (List ℕ)) (unsynced : D → ℕ → Bool) (mounted : List (Option Directory)) (number : ℕ) (d new : Option Directory)
    (cached later : List (SectorPlace × List ℕ)) (old now : D) → AreInPlace mounted → directory_at mounted number ≡ d → option_map drive_and_kind new ≡ option_map drive_and_kind d
    → HasLeftDisk disks told failed unsynced d cached later old now → FitsDrives disks mounted cached old → FitsDrives disks (slice_set mounted number new) later now
fits_after disks told failed unsynced mounted number None new cached later old now placed is same left fits = absurd left
fits_after disks told failed unsynced mounted number (Some d) new cached later old now placed is same left fits =
    let all : option_map drive_and_kind new ≡ option_map drive_and_kind (directory_at mounted number) = same ∙ sym (ap (option_map drive_and_kind) is) in
    record {
      sizes = sizes_after mounted number new (disks old) (disks now) all left.others.sizes fits.sizes;
      coherent = left.coherent;
      apart = apart_among (has_directory mounted) (has_directory (slice_set mounted number new)) later (disks now) (λ other. there_stays mounted number other new all)
          (apart_after (has_directory mounted) d.drive cached later (disks old) (disks now) (is_there mounted number d placed is) left.apart fits.apart);
    }

-- the image of another drive is as it was
pub images_after : {D : Type 0} (disks : D → Disks) (told : D → List ℕ → ToldImage) (failed : D → List (List ℕ)) (unsynced : D → ℕ → Bool) (mounted : List (Option Directory)) (number : ℕ) (d : Option Directory)
    (cached later : List (SectorPlace × List ℕ)) (old now : D) → AreInPlace mounted → directory_at mounted number ≡ d → HasLeftDisk disks told failed unsynced d cached later old now → FitsDrives disks mounted cached old
    → KeepsImages (Some number) mounted (disks old) (disks now)
images_after disks told failed unsynced mounted number None cached later old now placed is left fits = absurd left
images_after disks told failed unsynced mounted number (Some d) cached later old now placed is left fits = λ other apart there.
    left.others.others other (λ same. fits.apart.own d.drive other (is_there mounted number d placed is) there
    (λ here. apart (ap (λ n. Some n) (sym (its_number mounted number d placed is) ∙ here))) (sym same))

-- each drive is attached by its name and has its size, and one by whose name no mounted drive is attached has its image
pub stays_same : (mounted : List (Option Directory)) (disks : Disks) → StaysBeside mounted disks disks
stays_same mounted disks = record { names = λ number. refl; others = λ number none. refl; sizes = λ number. refl }

pub stays_after : {D : Type 0} (disks : D → Disks) (told : D → List ℕ → ToldImage) (failed : D → List (List ℕ)) (unsynced : D → ℕ → Bool) (mounted : List (Option Directory)) (number : ℕ) (d : Option Directory)
    (cached later : List (SectorPlace × List ℕ)) (old now : D) → AreInPlace mounted → directory_at mounted number ≡ d → HasLeftDisk disks told failed unsynced d cached later old now
    → StaysBeside mounted (disks old) (disks now)
stays_after disks told failed unsynced mounted number None cached later old now placed is left = absurd left
stays_after disks told failed unsynced mounted number (Some d) cached later old now placed is left = record {
  names = left.others.names;
  others = λ other none. left.others.others other (λ same. none d.drive (is_there mounted number d placed is) (sym same));
  sizes = left.others.sizes;
}

-- what is known of images by whose names no mounted drive is attached is as it was
pub told_same : (mounted : List (Option Directory)) (disks : Disks) (told : List ℕ → ToldImage) → KeepsToldOf mounted disks told told
told_same mounted disks told = record { others = λ name none. refl; still = λ name untold. untold }

pub told_after : {D : Type 0} (disks : D → Disks) (told : D → List ℕ → ToldImage) (failed : D → List (List ℕ)) (unsynced : D → ℕ → Bool) (mounted : List (Option Directory)) (number : ℕ) (d : Option Directory)
    (cached later : List (SectorPlace × List ℕ)) (old now : D) → AreInPlace mounted → directory_at mounted number ≡ d → HasLeftDisk disks told failed unsynced d cached later old now
    → KeepsToldOf mounted (disks old) (told old) (told now)
told_after disks told failed unsynced mounted number None cached later old now placed is left = absurd left
told_after disks told failed unsynced mounted number (Some d) cached later old now placed is left = record {
  others = λ name none. left.told_are.others name (none d.drive (is_there mounted number d placed is));
  still = left.told_are.still;
}

-- no drive is synced, and another than that of the place is synced or not as before
pub unsynced_same : (drive : Option ℕ) (now : ℕ → Bool) → KeepsUnsynced drive now now
unsynced_same drive now = record { beside = λ other apart. refl; owed = λ number was. was }

pub unsynced_after : {D : Type 0} (disks : D → Disks) (told : D → List ℕ → ToldImage) (failed : D → List (List ℕ)) (unsynced : D → ℕ → Bool) (mounted : List (Option Directory)) (number : ℕ) (d : Option Directory)
    (cached later : List (SectorPlace × List ℕ)) (old now : D) → AreInPlace mounted → directory_at mounted number ≡ d → HasLeftDisk disks told failed unsynced d cached later old now
    → KeepsUnsynced (Some number) (unsynced old) (unsynced now)
unsynced_after disks told failed unsynced mounted number None cached later old now placed is left = absurd left
unsynced_after disks told failed unsynced mounted number (Some d) cached later old now placed is left = record {
  beside = λ other apart. left.beside other (λ same. apart (ap (λ n. Some n) (sym (its_number mounted number d placed is) ∙ sym same)));
  owed = λ other was. elim (cases_eq other d.drive) [
    | inl same ↦ ap (unsynced now) same ∙ left.owed (ap (unsynced old) (sym same) ∙ was)
    | inr apart ↦ left.beside other apart ∙ was
  ];
}

-- over several turns: the same drives are mounted
pub stays_again : (one other : List (Option Directory)) (first next last : Disks) → ((number : ℕ) → has_directory other number ≡ has_directory one number)
    → StaysBeside one first next → StaysBeside other next last → StaysBeside one first last
stays_again one other first next last same a b = record {
  names = λ number. b.names number ∙ a.names number;
  others = λ number none.
      b.others number (λ drive there is. none drive (sym (same drive) ∙ there) (sym (a.names drive) ∙ is ∙ a.names number)) ∙ a.others number none;
  sizes = λ number. b.sizes number ∙ a.sizes number;
}

pub told_again : (one other : List (Option Directory)) (first next : Disks) (old mid new : List ℕ → ToldImage) → ((number : ℕ) → has_directory other number ≡ has_directory one number)
    → StaysBeside one first next → KeepsToldOf one first old mid → KeepsToldOf other next mid new → KeepsToldOf one first old new
told_again one other first next old mid new same stays a b = record {
  others = λ name none. b.others name (λ drive there is. none drive (sym (same drive) ∙ there) (sym (stays.names drive) ∙ is)) ∙ a.others name none;
  still = λ name untold. a.still name (b.still name untold);
}

-- drives that are mounted are attached
if_attached : (d : Option Directory) (size : Option ℕ) → IfSome d (λ directory. size ≡ Some (geometry_of directory.kind).bytes) → IfSome d (λ directory. IsSome size)
if_attached None size is = tt
if_attached (Some d) size is = ap is_some is

pub fit_attached : {D : Type 0} (disks : D → Disks) (mounted : List (Option Directory)) (cached : List (SectorPlace × List ℕ)) (drives : D)
    → FitsDrives disks mounted cached drives → AreAttached (disks drives) mounted
fit_attached disks mounted cached drives fits = λ number. if_attached (directory_at mounted number) (size_of (disks drives) number) (fits.sizes number)
