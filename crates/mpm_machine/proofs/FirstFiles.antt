-- The files with which a machine begins: its drives in their places, each image standing for what is on its drive.
use Rattle.std.proofs.Common.{◌≡◌, ◌∙◌, ℕ, zero, suc, List, [], ◌∷◌, Option, Some, None, length, refl, sym, subst}
use Rattle.std.specs.Prelude.{IsSomeAnd, replicate, slice_index_or, slice_set, unwrap_or}
use Rattle.std.proofs.lemmas.List.{length-set}
use Rattle.mpm_port.specs.Disks.{Disks}
use Rattle.mpm_machine_file.specs.declared.lists.DriveSpec.{DriveSpec}
use Rattle.mpm_mount.specs.Drives.{Drive}
use Rattle.mpm_mount.specs.Directories.{Directory, Stands}
use Rattle.mpm_mount.specs.Mounting.{drive_in}
use Rattle.mpm_drives.specs.Images.{Images}
use Rattle.mpm_drives.specs.Mounted.{NumberedDrive, AreMounted, drives_on, placed}
use Rattle.mpm_drives.proofs.Opening.{drives_are}
use Rattle.mpm_service.specs.Disk.{DiskService}
use Rattle.mpm_bdos.specs.Serving.{Kept, StandEach, nothing_kept}
use Rattle.mpm_directories.specs.Places.{directory_at, all_put, in_places}
use Rattle.mpm_refusals.specs.Asking.{StandsWhere}
use Rattle.mpm_bdos.specs.Turns.{images_of}
use Rattle.mpm_machine.specs.Files.{Between, StandsBetween, StandsForFiles}
use Rattle.mpm_machine.specs.Mounting.{HasMounted, OpensOn, untouched}
use Rattle.mpm_machine.proofs.TurnLaws.{stands_idle}

-- two lists of places that change in one place
set_both : {X Y : Type 0} (P : ℕ → Option X → Option Y → Type 0) (xs : List (Option X)) (ys : List (Option Y)) (n : ℕ) (x : X) (y : Y) → length xs ≡ length ys
    → P n (Some x) (Some y) → ((number : ℕ) → P number (slice_index_or xs number None) (slice_index_or ys number None))
    → (number : ℕ) → P number (slice_index_or (slice_set xs n (Some x)) number None) (slice_index_or (slice_set ys n (Some y)) number None)
set_both P [] [] n x y same here each number = each number
set_both P [] (b ∷ ys) n x y same here each number = absurd (cc)
set_both P (a ∷ xs) [] n x y same here each number = absurd (cc)
set_both P (a ∷ xs) (b ∷ ys) zero x y same here each zero = here
set_both P (a ∷ xs) (b ∷ ys) zero x y same here each (suc number) = each (suc number)
set_both P (a ∷ xs) (b ∷ ys) (suc n) x y same here each zero = each 0
set_both P (a ∷ xs) (b ∷ ys) (suc n) x y same here each (suc number) =
    set_both (λ k. P (suc k)) xs ys n x y (one_less (length xs) (length ys) same) here (λ k. each (suc k)) number
  where
    one_less : (m k : ℕ) → suc m ≡ suc k → m ≡ k
    one_less m k e = cc

nothing_both : {X Y : Type 0} (P : ℕ → Option X → Option Y → Type 0) (n : ℕ) → ((number : ℕ) → P number None None)
    → (number : ℕ) → P number (slice_index_or (replicate n None) number None) (slice_index_or (replicate n None) number None)
nothing_both P zero none number = none number
nothing_both P (suc n) none zero = none 0
nothing_both P (suc n) none (suc number) = nothing_both (λ k. P (suc k)) n (λ k. none (suc k)) number

-- there are sixteen places

pub many_places : (ds : List Directory) → length (in_places ds) ≡ 16
unfolding all_put
many_places [] = refl
many_places (d ∷ ds) = length-set (in_places ds) d.drive (Some d) ∙ many_places ds

many_placed : (drives : List NumberedDrive) → length (placed drives) ≡ 16
unfolding placed
many_placed [] = refl
many_placed (drive ∷ drives) = length-set (placed drives) drive.number (Some drive.files) ∙ many_placed drives

-- one of them

stands_here : (there : Option (List ℕ)) (P : List ℕ → Type 0) (d : Directory) → IsSomeAnd there P → ((image : List ℕ) → P image → Stands image d (drive_in image d))
    → Stands (unwrap_or there []) d (drive_in (unwrap_or there []) d)
stands_here None P d has so = absurd has
stands_here (Some image) P d has so = so image has

-- all

abbrev StandsIn : Disks → ℕ → Option Directory → Option Drive → Type 0
StandsIn x number directory drive = StandsWhere number (images_of x number) directory drive

each_stands : (x : Disks) (images : Images) (specs : List DriveSpec) (ds : List Directory) → AreMounted x images specs ds
    → (number : ℕ) → StandsIn x number (directory_at (in_places ds) number) (slice_index_or (placed (drives_on x ds)) number None)
unfolding all_put placed drives_on images_of
each_stands x images [] [] mounted number = nothing_both (StandsIn x) 16 (λ k. tt) number
each_stands x images [] (d ∷ ds) mounted number = absurd mounted
each_stands x images (spec ∷ specs) [] mounted number = absurd mounted
each_stands x images (spec ∷ specs) (d ∷ ds) mounted number =
    set_both (StandsIn x) (in_places ds) (placed (drives_on x ds)) d.drive d (drive_in (unwrap_or (x.image d.drive) []) d) (many_places ds ∙ sym (many_placed (drives_on x ds)))
    (record { number_is = refl; stands = stands_here (x.image d.drive) _ d mounted.0.image (λ image is. is.1.stands) })
    (each_stands x images specs ds mounted.1) number

mounted_stand : (x : Disks) (images : Images) (specs : List DriveSpec) (ds : List Directory) → AreMounted x images specs ds
    → StandEach (images_of x) (in_places ds) (placed (drives_on x ds))
mounted_stand x images specs ds mounted = record { each = λ number. each_stands x images specs ds mounted number }

-- none

none_stand : (x : Disks) → StandEach (images_of x) (in_places []) (placed [])
unfolding all_put placed
none_stand x = record { each = λ number. nothing_both (StandsIn x) 16 (λ k. tt) number }

-- so a machine begins, whose disk serves nobody

mounted_stands : (x : Disks) (images : Images) (specs : List DriveSpec) (disk : DiskService) (kept : Kept) (has : HasMounted x images specs kept) → disk.served ≡ None
    → StandsForFiles disk kept x (Between (untouched (placed (drives_on x has.directories))))
mounted_stands x images specs disk kept has idle =
    let drives = drives_on x has.directories in
    stands_idle disk kept x (untouched (placed drives)) idle
    (subst (λ (k : Kept). StandsBetween k x (untouched (placed drives))) (sym has.is)
    (record { idle = refl; filing_is = refl; stand = mounted_stand x images specs has.directories has.mounted }))

pub opens_on : (x : Disks) (images : Images) (specs : List DriveSpec) (disk : DiskService) (kept : Kept) → HasMounted x images specs kept → disk.served ≡ None
    → OpensOn images specs disk kept x
opens_on x images specs disk kept has idle = record {
  drives = drives_on x has.directories;
  are = drives_are x images specs has.directories has.mounted;
  stand = mounted_stands x images specs disk kept has idle;
}

pub opens_on_none : (disks : Disks) (disk : DiskService) (kept : Kept) → kept ≡ nothing_kept (in_places []) → disk.served ≡ None → StandsForFiles disk kept disks (Between (untouched (placed [])))
opens_on_none disks disk kept is idle =
    stands_idle disk kept disks (untouched (placed [])) idle
    (subst (λ (k : Kept). StandsBetween k disks (untouched (placed []))) (sym is) (record { idle = refl; filing_is = refl; stand = none_stand disks }))

-- and it goes on so as residents begin
pub opens_again : (images : Images) (specs : List DriveSpec) (disk disk' : DiskService) (kept kept' : Kept) (x : Disks) → disk' ≡ disk → kept' ≡ kept → OpensOn images specs disk kept x
    → OpensOn images specs disk' kept' x
opens_again images specs disk disk' kept kept' x same_disk same opens =
    subst (λ (k : Kept). OpensOn images specs disk' k x) (sym same) (subst (λ (d : DiskService). OpensOn images specs d kept x) (sym same_disk) opens)
