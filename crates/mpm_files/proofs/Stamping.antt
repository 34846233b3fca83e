-- Stamps that are put into XFCBs, alone and after other changes.
use Rattle.std.proofs.Common.{◌≡◌, ℕ, List, [], ◌∷◌, Option, Some, None, Result, Ok, Err, refl, sym, ap, subst, ◌∙◌}
use Rattle.std.specs.FinMap.{get}
use Rattle.mpm_port.specs.Disks.{Disks}
use Rattle.mpm_blocks.specs.Sectors.{Sectors}
use Rattle.mpm_dirent.specs.declared.kinds.Entry.{Entry}
use Rattle.mpm_dirent.specs.declared.kinds.Entry.TheVariants.{Xfcb}
use Rattle.mpm_dirent.specs.declared.kinds.XfcbEntry.{XfcbEntry}
use Rattle.mpm_mount.specs.Drives.{FileName, Protection, Drive, with_xfcb}
use Rattle.mpm_mount.specs.Changes.{exchanged}
use Rattle.mpm_mount.specs.Directories.{Directory, Stands, entry_in, xfcb_slot}
use Rattle.mpm_mount.specs.Files.{where_there}
use Rattle.mpm_mount.specs.Images.{protection_of}
use Rattle.mpm_mount.proofs.Sorts.{file_of, xfcb_changed}
use Rattle.mpm_mount.proofs.LookedUp.{xfcb_found, xfcb_missing}
use Rattle.mpm_files.specs.declared.stamps.Stamp.{Stamp}
use Rattle.mpm_files.specs.declared.stamps.Stamp.TheVariants.{First, Second}
use Rattle.mpm_files.specs.Units.{Idles, first_stamped, second_stamped, stamped, with_stamp, stages, last_of}
use Rattle.mpm_files.specs.Lookups.{HasXfcb, stamped_in, stamped_entry}
use Rattle.mpm_files.specs.Standing.{GoesThrough, DoesUnit}
use Rattle.mpm_files.proofs.StandingLaws.{goes_nowhere, goes_on, goes_stopped, does}

same_xfcb : (x y : XfcbEntry) → Xfcb x ≡ Xfcb y → x ≡ y
same_xfcb x y is = cc

-- what a file's XFCB gives, with a stamp
pub its_protection : (image : List ℕ) (d : Directory) (files : Drive) (file : FileName) (slot : ℕ) (x : XfcbEntry) → Stands image d files → HasXfcb d file slot x
    → (file_of x ≡ file) × (get files.xfcbs file ≡ Some (protection_of x))
its_protection image d files file slot x stands has =
    let there = xfcb_found image d files file slot stands has.found in
    let same : there.xfcb ≡ x = same_xfcb there.xfcb x (sym there.entry ∙ has.entry) in
    (ap file_of (sym same) ∙ there.name_is, there.protection ∙ ap (λ (y : XfcbEntry). Some (protection_of y)) same)

stamped_protection : (stamp : Stamp) (moment : List ℕ) (x : XfcbEntry) → protection_of (stamped_entry stamp moment x) ≡ stamped_in stamp moment (protection_of x)
stamped_protection First moment x = refl
stamped_protection Second moment x = refl

stamped_name : (stamp : Stamp) (moment : List ℕ) (x : XfcbEntry) → file_of (stamped_entry stamp moment x) ≡ file_of x
stamped_name First moment x = refl
stamped_name Second moment x = refl

pub xfcb_stamped : (sectors : Sectors) (image : List ℕ) (d : Directory) (files : Drive) (file : FileName) (slot : ℕ) (x : XfcbEntry) (stamp : Stamp) (moment : List ℕ) → Stands image d files
    → HasXfcb d file slot x → exchanged sectors files (entry_in d slot) (Xfcb (stamped_entry stamp moment x)) ∷ [] ≡ stamped (stamped_in stamp) file (Some moment) files
xfcb_stamped sectors image d files file slot x stamp moment stands has =
    let there = its_protection image d files file slot x stands has in
    let y : XfcbEntry = stamped_entry stamp moment x in
    ap (λ (e : Entry). exchanged sectors files e (Xfcb y) ∷ []) has.entry
    ∙ ap (λ (z : Drive). z ∷ [])
    (xfcb_changed sectors files x y file there.0 (stamped_name stamp moment x ∙ there.0)
    ∙ ap (λ (p : Protection). with_xfcb files file p) (stamped_protection stamp moment x))
    ∙ sym (ap (λ (o : Option Protection). where_there o (λ xfcb. with_xfcb files file (stamped_in stamp moment xfcb) ∷ [])) there.1)

pub stamp_put : {A E : Type 0} (disks : Disks) (drive : ℕ) (image : List ℕ) (d now : Directory) (files : Drive) (file : FileName) (slot : ℕ) (x : XfcbEntry) (stamp : Stamp)
    (moment : List ℕ) (y : XfcbEntry) (sectors : Sectors) (result : Result A E) → Stands image d files → HasXfcb d file slot x → y ≡ stamped_entry stamp moment x
    → GoesThrough disks drive now files (exchanged sectors files (entry_in d slot) (Xfcb y) ∷ []) result
    → GoesThrough disks drive now files (stamped (stamped_in stamp) file (Some moment) files) result
stamp_put disks drive image d now files file slot x stamp moment y sectors result stands has is goes =
    subst (λ (l : List Drive). GoesThrough disks drive now files l result)
    (ap (λ (z : XfcbEntry). exchanged sectors files (entry_in d slot) (Xfcb z) ∷ []) is ∙ xfcb_stamped sectors image d files file slot x stamp moment stands has) goes

-- nothing is stamped where there is no moment, or no XFCB
pub no_moment : {A E : Type 0} (disks : Disks) (drive : ℕ) (image : List ℕ) (d : Directory) (files : Drive) (change : List ℕ → Protection → Protection) (file : FileName)
    (moment : Option (List ℕ)) (result : A) → moment ≡ None → disks.image d.drive ≡ Some image → Stands image d files
    → GoesThrough {A = A} {E = E} disks drive d files (stamped change file moment files) (Ok result)
no_moment {A = A} {E = E} disks drive image d files change file moment result none told stands =
    subst (λ (m : Option (List ℕ)). GoesThrough {A = A} {E = E} disks drive d files (stamped change file m files) (Ok result)) (sym none)
    (goes_nowhere disks drive d files result (record { image = image; told = told; stands = stands }))

pub no_xfcb : {A E : Type 0} (disks : Disks) (drive : ℕ) (image : List ℕ) (d : Directory) (files : Drive) (change : List ℕ → Protection → Protection) (file : FileName)
    (moment : Option (List ℕ)) (result : A) → xfcb_slot d file ≡ None → disks.image d.drive ≡ Some image → Stands image d files
    → GoesThrough {A = A} {E = E} disks drive d files (stamped change file moment files) (Ok result)
no_xfcb {A = A} {E = E} disks drive image d files change file moment result missing told stands =
    subst (λ (l : List Drive). GoesThrough {A = A} {E = E} disks drive d files l (Ok result)) (sym (nothing moment))
    (goes_nowhere disks drive d files result (record { image = image; told = told; stands = stands }))
  where
    nothing : (m : Option (List ℕ)) → stamped change file m files ≡ []
    nothing None = refl
    nothing (Some moment) = ap (λ (o : Option Protection). where_there o (λ xfcb. with_xfcb files file (change moment xfcb) ∷ [])) (xfcb_missing image d files file stands missing)

-- a stamp after other changes
pub then_stamped : {A B E : Type 0} (mid new : Disks) (drive : ℕ) (d now : Directory) (files : Drive) (xs : List Drive) (file : FileName) (moment : Option (List ℕ)) (done : A)
    (result : Result B E) → d.drive ≡ drive → GoesThrough {A = A} {E = E} mid drive d files xs (Ok done)
    → ((image : List ℕ) (before : Drive) → mid.image d.drive ≡ Some image → Stands image d before
    → GoesThrough new d.drive now before (stamped second_stamped file moment before) result)
    → GoesThrough new drive now files (with_stamp file moment files xs) result
then_stamped mid new drive d now files xs file moment done result here first second =
    let last : Drive = last_of files xs in
    goes_on new drive now files xs (stamped second_stamped file moment last) result
    (subst (λ (n : ℕ). GoesThrough new n now last (stamped second_stamped file moment last) result) here (second first.ok.image last first.ok.told first.ok.stands))

pub unstamped : {A B E : Type 0} (disks : Disks) (drive : ℕ) (d now : Directory) (files : Drive) (xs : List Drive) (file : FileName) (moment : Option (List ℕ)) (error : E)
    → GoesThrough {A = A} disks drive d files xs (Err error) → GoesThrough {A = B} disks drive now files (with_stamp file moment files xs) (Err error)
unstamped disks drive d now files xs file moment error first = goes_stopped disks drive d now files xs (stamped second_stamped file moment (last_of files xs)) error first

-- a unit that is a stamp alone
pub idles : {A E : Type 0} (disks : Disks) (drive : ℕ) (now : Directory) (files : Drive) (file : FileName) (moment : Option (List ℕ)) (result : Result A E)
    → GoesThrough disks drive now files (stamped first_stamped file moment files) result → DoesUnit disks drive now files (Idles file moment) result
unfolding stages
idles disks drive now files file moment result goes = does disks drive now files (Idles file moment) (stamped first_stamped file moment files) result refl goes

-- a stamp after nothing
pub only_stamped : {A E : Type 0} (disks : Disks) (drive : ℕ) (now : Directory) (files : Drive) (file : FileName) (moment : Option (List ℕ)) (xs : List Drive) (result : Result A E)
    → [] ≡ xs → GoesThrough disks drive now files (stamped second_stamped file moment files) result → GoesThrough disks drive now files (with_stamp file moment files xs) result
unfolding last_of
only_stamped disks drive now files file moment xs result is goes = subst (λ (l : List Drive). GoesThrough disks drive now files (with_stamp file moment files l) result) is goes

pub stamped_as : {A E : Type 0} (disks : Disks) (drive : ℕ) (now : Directory) (files : Drive) (file : FileName) (moment : Option (List ℕ)) (xs ys : List Drive) (result : Result A E)
    → xs ≡ ys → GoesThrough disks drive now files (with_stamp file moment files xs) result → GoesThrough disks drive now files (with_stamp file moment files ys) result
stamped_as disks drive now files file moment xs ys result is goes = subst (λ (l : List Drive). GoesThrough disks drive now files (with_stamp file moment files l) result) is goes

pub stamped_at : {A E : Type 0} (disks : Disks) (drive : ℕ) (now : Directory) (files : Drive) (file : FileName) (moment same : Option (List ℕ)) (xs : List Drive) (result : Result A E)
    → moment ≡ same → GoesThrough disks drive now files (with_stamp file moment files xs) result → GoesThrough disks drive now files (with_stamp file same files xs) result
stamped_at disks drive now files file moment same xs result is goes = subst (λ (m : Option (List ℕ)). GoesThrough disks drive now files (with_stamp file m files xs) result) is goes
