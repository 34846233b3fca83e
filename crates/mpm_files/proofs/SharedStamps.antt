-- A stamp in an XFCB of the sector of another entry, written with that.
use Rattle.std.proofs.Common.{◌≡◌, ◌≢◌, ℕ, ◌<◌, ◌≤◌, true, List, [], ◌∷◌, Option, Some, None, Result, length, refl, sym, ap, subst, ◌∙◌, arith}
use Rattle.std.specs.FinMap.{get}
use Rattle.std.proofs.lemmas.Bool.{false≢true}
use Rattle.std.proofs.lemmas.List.{length-set, get_or-set_other}
use Rattle.mpm_port.specs.Disks.{Disks}
use Rattle.mpm_blocks.specs.Geometries.{geometry_of}
use Rattle.mpm_blocks.specs.Sectors.{Sectors, sectors_of}
use Rattle.mpm_dirent.specs.declared.kinds.Entry.{Entry}
use Rattle.mpm_dirent.specs.declared.kinds.Entry.TheVariants.{Free, File, Xfcb, Label, Kept}
use Rattle.mpm_dirent.specs.declared.kinds.FileEntry.{FileEntry}
use Rattle.mpm_dirent.specs.declared.kinds.XfcbEntry.{XfcbEntry}
use Rattle.mpm_mount.specs.Drives.{FileName, Protection, Drive, with_xfcb}
use Rattle.mpm_mount.specs.Faults.{cause_of}
use Rattle.mpm_mount.specs.Changes.{exchanged}
use Rattle.mpm_mount.specs.Directories.{Directory, Stands, entry_in, with_entry, others}
use Rattle.mpm_mount.specs.Files.{where_there, is_file}
use Rattle.mpm_mount.specs.Images.{protection_of}
use Rattle.mpm_mount.proofs.Still.{still_faultless}
use Rattle.mpm_mount.proofs.Puts.{still_xfcb_changed}
use Rattle.mpm_mount.proofs.Sorts.{xfcb_changed}
use Rattle.mpm_files.specs.Units.{second_stamped, with_stamp, last_of}
use Rattle.mpm_files.specs.Lookups.{HasXfcb}
use Rattle.mpm_files.specs.Standing.{GoesThrough}
use Rattle.mpm_files.proofs.FoundEntries.{xfcb_inside}
use Rattle.mpm_files.proofs.Stamping.{its_protection}

-- a file's entry and an XFCB stand in two slots
no_file : (e : Entry) (x : XfcbEntry) → is_file e ≡ true → e ≡ Xfcb x → ⊥
no_file e x is same = false≢true (sym (ap is_file same) ∙ is)

other_slot : (d : Directory) (file : FileName) (slot other : ℕ) (x : XfcbEntry) → HasXfcb d file other x → is_file (entry_in d slot) ≡ true → other ≢ slot
other_slot d file slot other x has was same = no_file (entry_in d slot) x was (ap (entry_in d) (sym same) ∙ has.entry)

still_there : (d : Directory) (file : FileName) (slot other : ℕ) (x : XfcbEntry) (g : FileEntry) → HasXfcb d file other x → is_file (entry_in d slot) ≡ true
    → entry_in (with_entry d slot (File g)) other ≡ Xfcb x
still_there d file slot other x g has was = get_or-set_other d.entries slot other (File g) Free (other_slot d file slot other x has was) ∙ has.entry

-- the stamped XFCB may stand in its place after the other entry
pub still_beside : (d : Directory) (file : FileName) (slot other : ℕ) (x y : XfcbEntry) (g : FileEntry) (moment : List ℕ) → HasXfcb d file other x → is_file (entry_in d slot) ≡ true
    → slot ≤ (geometry_of d.kind).drm → cause_of d.kind (others d.entries slot) (File g) ≡ None → y ≡ record x { second = moment }
    → cause_of d.kind (others (with_entry d slot (File g)).entries other) (Xfcb y) ≡ None
still_beside d file slot other x y g moment has was within none is =
    let one : Directory = with_entry d slot (File g) in
    let inside : slot < length d.entries = omega (arith, within, has.sound.full) in
    ap (λ (z : XfcbEntry). cause_of d.kind (others one.entries other) (Xfcb z)) is
    ∙ still_xfcb_changed one other x (record x { second = moment }) (still_faultless d.kind d.entries slot (File g) has.sound.faultless inside none)
    (omega (arith, xfcb_inside d file other x has, length-set d.entries slot (File g))) (still_there d file slot other x g has was) refl refl

-- another entry of a file leaves the XFCBs
same_xfcbs : (sectors : Sectors) (files : Drive) (e : Entry) (g : FileEntry) → is_file e ≡ true → (exchanged sectors files e (File g)).xfcbs ≡ files.xfcbs
unfolding exchanged
same_xfcbs sectors files (File f) g was = refl
same_xfcbs sectors files Free g was = absurd (false≢true was)
same_xfcbs sectors files (Xfcb x) g was = absurd (false≢true was)
same_xfcbs sectors files (Label l) g was = absurd (false≢true was)
same_xfcbs sectors files (Kept bytes) g was = absurd (false≢true was)

pub beside_is : (image : List ℕ) (d : Directory) (files next : Drive) (file : FileName) (slot other : ℕ) (x y : XfcbEntry) (g : FileEntry) (moment : List ℕ) → Stands image d files
    → HasXfcb d file other x → is_file (entry_in d slot) ≡ true → y ≡ record x { second = moment } → (sectors : Sectors)
    → exchanged sectors next (entry_in (with_entry d slot (File g)) other) (Xfcb y) ≡ with_xfcb next file (second_stamped moment (protection_of x))
beside_is image d files next file slot other x y g moment stands has was is sectors =
    let name = (its_protection image d files file other x stands has).0 in
    ap (λ (e : Entry). exchanged sectors next e (Xfcb y)) (still_there d file slot other x g has was)
    ∙ ap (λ (z : XfcbEntry). exchanged sectors next (Xfcb x) (Xfcb z)) is
    ∙ xfcb_changed sectors next x (record x { second = moment }) file name name

pub stamped_beside : {A E : Type 0} (disks : Disks) (drive : ℕ) (image : List ℕ) (d now : Directory) (files : Drive) (file : FileName) (slot other : ℕ) (x : XfcbEntry) (g : FileEntry)
    (moment : List ℕ) (o : Option (List ℕ)) (result : Result A E) → o ≡ Some moment → Stands image d files → HasXfcb d file other x → is_file (entry_in d slot) ≡ true
    → GoesThrough disks drive now files (exchanged (sectors_of image d.kind) files (entry_in d slot) (File g)
    ∷ with_xfcb (exchanged (sectors_of image d.kind) files (entry_in d slot) (File g)) file (second_stamped moment (protection_of x)) ∷ []) result
    → GoesThrough disks drive now files (with_stamp file o files (exchanged (sectors_of image d.kind) files (entry_in d slot) (File g) ∷ [])) result
unfolding last_of
stamped_beside disks drive image d now files file slot other x g moment o result is stands has was goes =
    let next : Drive = exchanged (sectors_of image d.kind) files (entry_in d slot) (File g) in
    let there : get next.xfcbs file ≡ Some (protection_of x) =
    ap (λ m. get m file) (same_xfcbs (sectors_of image d.kind) files (entry_in d slot) g was) ∙ (its_protection image d files file other x stands has).1 in
    subst (λ (m : Option (List ℕ)). GoesThrough disks drive now files (with_stamp file m files (next ∷ [])) result) (sym is)
    (subst (λ (p : Option Protection). GoesThrough disks drive now files (next ∷ where_there p (λ xfcb. with_xfcb next file (second_stamped moment xfcb) ∷ [])) result) (sym there) goes)
