-- Floppy disks in the places of their drives, and what calls ask of such drives.
use Rattle.std.proofs.Common.{◌≡◌, ◌≢◌, ℕ, zero, suc, ◌<◌, true, List, [], ◌∷◌, Option, Some, None, IsSome, IfSome, length, map, refl, sym, ap, subst, arith}
use Rattle.std.specs.Prelude.{is_some, option_map, slice_index_or, slice_set, replicate, unwrap_or}
use Rattle.std.proofs.lemmas.Bool.{true≢false}
use Rattle.mpm_port.specs.Disks.{Disks, size_of}
use Rattle.mpm_base.specs.declared.kind.Kind.{Kind}
use Rattle.mpm_blocks.specs.Geometries.{geometry_of}
use Rattle.mpm_cache.specs.declared.cache.SectorPlace.{SectorPlace}
use Rattle.mpm_cache.specs.Coherent.{IsCoherent, HasNoAlias}
use Rattle.mpm_mount.specs.Drives.{Drive}
use Rattle.mpm_mount.specs.Directories.{Directory, Stands}
use Rattle.mpm_mount.specs.Mounting.{IsMounted, drive_in}
use Rattle.mpm_refusals.specs.Asking.{StandsWhere}
use Rattle.mpm_directories.specs.Places.{directory_at, all_put, in_places}
use Rattle.mpm_bdos.specs.Asking.{StandForSome}
use Rattle.mpm_bdos.specs.Serving.{Kept, nothing_kept}
use Rattle.mpm_bdos.specs.Turns.{FitsDrives, images_of}
use Rattle.mpm_file_scenes.specs.Floppies.{AreTwo, IsFloppy, AreFloppies}
use Rattle.mpm_file_scenes.specs.Standing.{IsBetweenCalls}

-- what is so of each directory by its place, with one more
one_put : (P : ℕ → Directory → Type 0) (places : List (Option Directory)) (at number : ℕ) (d : Directory) → P at d → ((n : ℕ) → IfSome (directory_at places n) (P n))
    → IfSome (directory_at (slice_set places at (Some d)) number) (P number)
one_put P [] at number d is each = each number
one_put P (place ∷ places) zero zero d is each = is
one_put P (place ∷ places) zero (suc number) d is each = each (suc number)
one_put P (place ∷ places) (suc at) zero d is each = each zero
one_put P (place ∷ places) (suc at) (suc number) d is each = one_put (λ n. P (suc n)) places at number d is (λ n. each (suc n))

none_there : (P : ℕ → Directory → Type 0) (n number : ℕ) → IfSome (directory_at (replicate n None) number) (P number)
none_there P zero number = tt
none_there P (suc n) zero = tt
none_there P (suc n) (suc number) = none_there (λ k. P (suc k)) n number

pub two_floppies : (disks : Disks) (a b : Directory) → IsFloppy disks a.drive a → IsFloppy disks b.drive b → AreFloppies disks (in_places (a ∷ b ∷ []))
unfolding all_put
two_floppies disks a b one other = λ number.
    one_put (IsFloppy disks) (slice_set (replicate 16 None) b.drive (Some b)) a.drive number a one (λ n.
    one_put (IsFloppy disks) (replicate 16 None) b.drive n b other (none_there (IsFloppy disks) 16))

-- those that are mounted have images of their own
low_there : (disks : Disks) (number : ℕ) (place : Option Directory) → is_some place ≡ true → IfSome place (IsFloppy disks number) → number < 2
low_there disks number None there is = absurd (true≢false (sym there))
low_there disks number (Some directory) there is = is.low

own_images : (disks : Disks) (drive other : ℕ) → AreTwo disks → drive < 2 → other < 2 → drive ≢ other → disks.name_of drive ≢ disks.name_of other
own_images disks zero zero two low high apart = λ same. apart refl
own_images disks zero (suc zero) two low high apart = two.apart
own_images disks (suc zero) zero two low high apart = λ same. two.apart (sym same)
own_images disks (suc zero) (suc zero) two low high apart = λ same. apart refl
own_images disks (suc (suc n)) other two low high apart = absurd (omega (arith, low))
own_images disks zero (suc (suc n)) two low high apart = absurd (omega (arith, high))
own_images disks (suc zero) (suc (suc n)) two low high apart = absurd (omega (arith, high))

size_there : (disks : Disks) (number : ℕ) (place : Option Directory) → IfSome place (IsFloppy disks number) → IfSome place (λ directory. size_of disks number ≡ Some (geometry_of directory.kind).bytes)
size_there disks number None is = tt
size_there disks number (Some directory) is = is.size

floppies_fit : {D : Type 0} (disks : D → Disks) (drives : D) (mounted : List (Option Directory)) (cached : List (SectorPlace × List ℕ)) → AreTwo (disks drives) → AreFloppies (disks drives) mounted
    → ((images : Disks) → IsCoherent cached images) → ((images : Disks) (number : ℕ) → HasNoAlias cached images number) → FitsDrives disks mounted cached drives
floppies_fit disks drives mounted cached two floppies coherent alone = record {
  sizes = λ number. size_there (disks drives) number (directory_at mounted number) (floppies number);
  coherent = coherent (disks drives);
  apart = record {
    own = λ drive other here there.
        own_images (disks drives) drive other two (low_there (disks drives) drive (directory_at mounted drive) here (floppies drive))
        (low_there (disks drives) other (directory_at mounted other) there (floppies other));
    alone = λ drive here. alone (disks drives) drive;
  };
}

-- a mounted image stands, with its directory, for the files that are there
stands_by : (image : Option (List ℕ)) (kind : Kind) (d : Directory) → IsSome (option_map length image) → IfSome image (λ image. IsMounted image kind d)
    → Stands (unwrap_or image []) d (drive_in (unwrap_or image []) d)
stands_by None kind d some is = absurd (true≢false (sym some))
stands_by (Some image) kind d some is = is.stands

pub floppy_stands : (disks : Disks) (number : ℕ) (kind : Kind) (d : Directory) → IsSome (size_of disks number) → IfSome (disks.image number) (λ image. IsMounted image kind d)
    → Stands (images_of disks number) d (drive_in (images_of disks number) d)
unfolding images_of
floppy_stands disks number kind d some is = stands_by (disks.image number) kind d some is

-- so all that are mounted stand for their files
abbrev files_on : Disks → Directory → Drive
files_on disks d = drive_in (images_of disks d.drive) d

found_at : {X Y : Type 0} (f : X → Y) (places : List (Option X)) (number : ℕ) → option_map f (slice_index_or places number None) ≡ slice_index_or (map (option_map f) places) number None
found_at f [] number = refl
found_at f (place ∷ places) zero = refl
found_at f (place ∷ places) (suc number) = found_at f places number

stands_there : (disks : Disks) (number : ℕ) (place : Option Directory) → IfSome place (IsFloppy disks number) → StandsWhere number (images_of disks number) place (option_map (files_on disks) place)
stands_there disks number None is = tt
stands_there disks number (Some d) is = record {
  number_is = is.its;
  stands = subst (λ n. Stands (images_of disks number) d (drive_in (images_of disks n) d)) (sym is.its) is.stands;
}

floppies_stand : (disks : Disks) (mounted : List (Option Directory)) → AreFloppies disks mounted → StandForSome (images_of disks) mounted
floppies_stand disks mounted floppies = record {
  drives = map (option_map (files_on disks)) mounted;
  stand = record {
    each = λ number.
        subst (StandsWhere number (images_of disks number) (directory_at mounted number)) (found_at (files_on disks) mounted number)
        (stands_there disks number (directory_at mounted number) (floppies number));
  };
}

-- before the first call
pub before_calls : {D : Type 0} (disks : D → Disks) (drives : D) (mounted : List (Option Directory)) (kept : Kept) → kept ≡ nothing_kept mounted → AreTwo (disks drives) → AreFloppies (disks drives) mounted
    → ((images : Disks) → IsCoherent kept.cached images) → ((images : Disks) (number : ℕ) → HasNoAlias kept.cached images number) → IsBetweenCalls disks kept drives
before_calls disks drives mounted kept is two floppies coherent apart =
    let all : AreFloppies (disks drives) kept.mounted = subst (AreFloppies (disks drives)) (sym (ap (λ (k : Kept). k.mounted) is)) floppies in
    record {
      fits = floppies_fit disks drives kept.mounted kept.cached two all coherent apart;
      stand = floppies_stand (disks drives) kept.mounted all;
      none = ap (λ (k : Kept). k.service) is;
    }
