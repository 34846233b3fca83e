-- What is kept of files as a machine begins holds its drives.
use Rattle.std.proofs.Common.{◌≡◌, ◌≢◌, ◌∙◌, ℕ, ◌<◌, Bool, true, false, List, [], ◌∷◌, Option, Some, None, IfSome, inl, inr, ◌==◌, refl, sym, ap, subst, arith}
use Rattle.std.specs.Prelude.{◌⊎◌, is_some, bytes_eq}
use Rattle.std.specs.List.{AllByRecursion}
use Rattle.std.proofs.lemmas.Bool.{false≢true, or_right}
use Rattle.std.proofs.lemmas.List.Elements.{recursion_from_All}
use Rattle.std.proofs.lemmas.Slice.Eq.{bytes_eq-Decides}
use Rattle.std.proofs.lemmas.Option.{same_Some}
use Rattle.mpm_port.specs.Disks.{Disks, Untold, size_of}
use Rattle.mpm_base.proofs.Lists.{all_at}
use Rattle.mpm_blocks.specs.Geometries.{geometry_of}
use Rattle.mpm_cache.proofs.AliasLaws.{no_alias_none}
use Rattle.mpm_cache.proofs.CoherentLaws.{coherent_none}
use Rattle.mpm_machine_file.specs.declared.lists.DriveSpec.{DriveSpec}
use Rattle.mpm_machine_file.specs.Drives.{all_differ}
use Rattle.mpm_machine_file.proofs.OrderLaws.{IsApart, AreApart as SpecsApart, apart_from_differ}
use Rattle.mpm_mount.specs.Directories.{Directory}
use Rattle.mpm_drives.specs.Images.{Images}
use Rattle.mpm_drives.proofs.Opening.{are_sized}
use Rattle.mpm_drives.specs.Mounted.{number_of, placed, AreMounted, AreSynced as FreshOf}
use Rattle.mpm_bdos.specs.Serving.{Kept, nothing_kept}
use Rattle.mpm_directories.specs.Places.{directory_at, all_put, in_places}
use Rattle.mpm_bdos.specs.Syncing.{AreMountedSynced}
use Rattle.mpm_bdos.specs.Turns.{FitsDrives, has_directory, has_work}
use Rattle.mpm_directories.proofs.Placed.{set_each, no_place}
use Rattle.mpm_service.specs.Disk.{DiskService, no_service}
use Rattle.mpm_service.specs.Places.{at_disk}
use Rattle.mpm_service.specs.declared.service.Served.{Served}
use Rattle.mpm_service.proofs.PlaceLaws.{at_none}
use Rattle.mpm_kernel.specs.Kernel.{Kernel}
use Rattle.mpm_machine.specs.Holding.{IsOwnCall, HoldsKept, HoldsDrives}
use Rattle.mpm_machine.specs.Files.{Between, StandsForFiles}
use Rattle.mpm_machine.proofs.FirstFiles.{opens_on_none}
use Rattle.mpm_machine.specs.Mounting.{HasMounted, HasNoDrive, untouched}

-- what is so of each directory by its number is so of what stands in each place
each_placed : (P : ℕ → Directory → Type 0) (ds : List Directory) → AllByRecursion (λ (d : Directory). P d.drive d) ds → (number : ℕ)
    → IfSome (directory_at (in_places ds) number) (P number)
unfolding all_put
each_placed P [] all number = no_place P 16 number
each_placed P (d ∷ ds) all number = set_each P (in_places ds) d.drive d all.0 (each_placed P ds all.1) number

-- its size

sizes_all : (x : Disks) (images : Images) (specs : List DriveSpec) (ds : List Directory) → AreMounted x images specs ds
    → AllByRecursion (λ (d : Directory). size_of x d.drive ≡ Some (geometry_of d.kind).bytes) ds
sizes_all x images specs ds mounted = recursion_from_All (λ (d : Directory). size_of x d.drive ≡ Some (geometry_of d.kind).bytes) ds (are_sized x images specs ds mounted)

-- and its image is that of a drive of the machine file

unfoldable IsListed : Disks → List DriveSpec → ℕ → Type 0
IsListed x [] number = ⊥
IsListed x (spec ∷ specs) number = ((number_of spec ≡ number) × (x.name_of number ≡ Some spec.image)) ⊎ IsListed x specs number

listed_more : (x : Disks) (spec : DriveSpec) (specs : List DriveSpec) (ds : List Directory) → AllByRecursion (λ (d : Directory). IsListed x specs d.drive) ds
    → AllByRecursion (λ (d : Directory). IsListed x (spec ∷ specs) d.drive) ds
unfolding IsListed
listed_more x spec specs [] all = tt
listed_more x spec specs (d ∷ ds) all = (inr all.0, listed_more x spec specs ds all.1)

listed_all : (x : Disks) (images : Images) (specs : List DriveSpec) (ds : List Directory) → AreMounted x images specs ds
    → AllByRecursion (λ (d : Directory). IsListed x specs d.drive) ds
unfolding IsListed
listed_all x images [] [] mounted = tt
listed_all x images [] (d ∷ ds) mounted = absurd mounted
listed_all x images (spec ∷ specs) [] mounted = absurd mounted
listed_all x images (spec ∷ specs) (d ∷ ds) mounted =
    (inl (sym mounted.0.number, mounted.0.name), listed_more x spec specs ds (listed_all x images specs ds mounted.1))

-- two of them are images of two names

images_apart : (one other : DriveSpec) → IsApart one other → one.image ≢ other.image
images_apart one other apart same =
    let both : bytes_eq one.image other.image ≡ true = (bytes_eq-Decides one.image other.image).1 same in
    false≢true (sym apart ∙ or_right (one.letter == other.letter) (bytes_eq one.image other.image) both)

named_apart : (told : Disks) (spec : DriveSpec) (rest : List DriveSpec) (other : ℕ) → AllByRecursion (IsApart spec) rest → IsListed told rest other
    → Some spec.image ≢ told.name_of other
unfolding IsListed
named_apart told spec [] other apart listed same = listed
named_apart told spec (next ∷ rest) other apart (inl here) same =
    images_apart spec next apart.0 (same_Some spec.image next.image (same ∙ here.1))
named_apart told spec (next ∷ rest) other apart (inr later) same = named_apart told spec rest other apart.1 later same

own_images : (told : Disks) (specs : List DriveSpec) (one other : ℕ) → SpecsApart specs → IsListed told specs one → IsListed told specs other → one ≢ other
    → told.name_of one ≢ told.name_of other
unfolding IsListed
own_images told [] one other apart p q differ same = p
own_images told (spec ∷ specs) one other apart (inl p) (inl q) differ same = differ (sym p.0 ∙ q.0)
own_images told (spec ∷ specs) one other apart (inl p) (inr q) differ same = named_apart told spec specs other apart.0 q (sym p.1 ∙ same)
own_images told (spec ∷ specs) one other apart (inr p) (inl q) differ same = named_apart told spec specs one apart.0 p (sym q.1 ∙ sym same)
own_images told (spec ∷ specs) one other apart (inr p) (inr q) differ same = own_images told specs one other apart.1 p q differ same

-- so the drives are held

there : (P : Directory → Type 0) (Q : Type 0) (place : Option Directory) → IfSome place P → ((d : Directory) → P d → Q) → is_some place ≡ true → Q
there P Q None each so some = absurd (false≢true some)
there P Q (Some d) each so some = so d each

-- where the disk serves nobody yet
pub holds_idle : {D : Type 0} (disks : D → Disks) (kernel : Kernel) (turn_steps : ℕ) (kept : Kept) (drives : D)
    → kernel.disk ≡ no_service turn_steps → FitsDrives disks kept.mounted kept.cached drives
    → (((number : ℕ) → directory_at kept.mounted number ≡ None) → has_work kept.service ≡ false) → HoldsKept disks kernel kept drives
unfolding no_service
holds_idle disks kernel turn_steps kept drives idle fits workless =
    let none : kernel.disk.served ≡ None = ap (λ (d : DiskService). d.served) idle in
    record {
      filed = λ p some. absurd (omega (arith, some, ap (λ (d : DiskService). at_disk d p) idle, at_none turn_steps p));
      own = subst (λ (o : Option Served). IfSome o (λ call. IsOwnCall kernel.dispatcher.procs call.p kept.service)) (sym none) tt;
      begun = subst (λ (o : Option Served). IfSome o (λ call. 0 < call.left)) (sym none) tt;
      fits = fits;
      workless = workless;
    }

pub holds_again : {D : Type 0} (disks : D → Disks) (old new : Kernel) (turn_steps : ℕ) (kept : Kept) (drives : D) → new.disk ≡ old.disk
    → new.disk ≡ no_service turn_steps → HoldsDrives disks old kept drives → HoldsDrives disks new kept drives
holds_again disks old new turn_steps kept drives same idle holds = record {
  calls = holds_idle disks new turn_steps kept drives idle holds.calls.fits holds.calls.workless;
  files = holds.files;
  stands = subst (λ (disk : DiskService). StandsForFiles disk kept (disks drives) holds.files) (sym same) holds.stands;
}

pub holds_mounted : {D : Type 0} (disks : D → Disks) (images : Images) (specs : List DriveSpec) (kernel : Kernel) (turn_steps : ℕ) (kept : Kept) (drives : D)
    → all_differ specs ≡ true → kernel.disk ≡ no_service turn_steps → HasMounted (disks drives) images specs kept → HoldsKept disks kernel kept drives
holds_mounted disks images specs kernel turn_steps kept drives differ idle has =
    let ds = has.directories in
    let mounted = in_places ds in
    let x = disks drives in
    let apart = apart_from_differ specs differ in
    let sizes = each_placed (λ number d. size_of x number ≡ Some (geometry_of d.kind).bytes) ds (sizes_all x images specs ds has.mounted) in
    let listed = each_placed (λ number d. IsListed x specs number) ds (listed_all x images specs ds has.mounted) in
    let is_listed : (number : ℕ) → has_directory mounted number ≡ true → IsListed x specs number =
    λ number some. there (λ d. IsListed x specs number) (IsListed x specs number) (directory_at mounted number) (listed number) (λ d so. so) some in
    let fits : FitsDrives disks mounted [] drives = record {
      sizes = sizes;
      coherent = coherent_none x;
      apart = record {
        own = λ one other p q differ. own_images x specs one other apart (is_listed one p) (is_listed other q) differ;
        alone = λ drive some. no_alias_none x drive;
      };
    } in
    let here : HoldsKept disks kernel (nothing_kept mounted) drives = holds_idle disks kernel turn_steps (nothing_kept mounted) drives idle fits (λ none. refl) in
    subst (λ (k : Kept). HoldsKept disks kernel k drives) (sym has.is) here

pub mounted_here : (x : Disks) (images : Images) (specs : List DriveSpec) {read : List DriveSpec} (ds items : List Directory) (kept : Kept)
    → read ≡ specs → AreMounted x images read ds → items ≡ ds → kept ≡ nothing_kept (in_places items) → HasMounted x images specs kept
mounted_here x images specs ds items kept same mounted is kept_is = record {
  directories = ds;
  mounted = subst (λ s. AreMounted x images s ds) same mounted;
  is = kept_is ∙ ap (λ l. nothing_kept (in_places l)) is;
}

-- what is mounted is synced

pub fresh_here : (unsynced : ℕ → Bool) (ds items : List Directory) (kept : Kept) → FreshOf unsynced ds → items ≡ ds → kept ≡ nothing_kept (in_places items)
    → AreMountedSynced unsynced kept.mounted
fresh_here unsynced ds items kept fresh is kept_is =
    subst (λ (k : Kept). AreMountedSynced unsynced k.mounted) (sym (kept_is ∙ ap (λ l. nothing_kept (in_places l)) is))
    (each_placed (λ number d. unsynced number ≡ false) ds (recursion_from_All (λ (d : Directory). unsynced d.drive ≡ false) ds fresh))

-- nothing is in a place at first

pub none_mounted : HasNoDrive (in_places [])
unfolding all_put
none_mounted = λ number. all_at 16 number None

-- and where nothing is mounted
pub holds_nothing : {D : Type 0} (disks : D → Disks) (kernel : Kernel) (turn_steps : ℕ) (kept : Kept) (drives : D)
    → kernel.disk ≡ no_service turn_steps → kept ≡ nothing_kept (in_places []) → HoldsDrives disks kernel kept drives
unfolding no_service
holds_nothing disks kernel turn_steps kept drives idle is = record {
  calls = holds_mounted disks (λ name. Untold) [] kernel turn_steps kept drives refl idle (record { directories = []; mounted = tt; is = is });
  files = Between (untouched (placed []));
  stands = opens_on_none (disks drives) kernel.disk kept is (ap (λ (d : DiskService). d.served) idle);
}
