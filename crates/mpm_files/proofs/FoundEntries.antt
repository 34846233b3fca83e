-- What is known of the entry of a record, and of a file's XFCB, that were found in a directory.
use Rattle.std.proofs.Common.{◌≡◌, ℕ, ◌+◌, ◌/◌, ◌<◌, ◌≤◌, Bool, true, false, ◌==◌, ◌&&◌, List, Some, None, length, get_or, refl, sym, ap, subst, ◌∙◌, arith}
use Rattle.std.specs.Prelude.{bytes_eq, is_some, IsSome, IsSomeAnd, Option}
use Rattle.std.proofs.lemmas.Bool.{false≢true, true≢false, eqb-true}
use Rattle.std.proofs.lemmas.List.Quantifiers.{position-Some}
use Rattle.mpm_base.specs.declared.kind.Kind.{Kind}
use Rattle.mpm_base.specs.declared.kind.Kind.TheVariants.{Ibm3740, Hd4, Hd8}
use Rattle.mpm_blocks.specs.Geometries.{geometry_of}
use Rattle.mpm_dirent.specs.declared.kinds.Entry.{Entry}
use Rattle.mpm_dirent.specs.declared.kinds.Entry.TheVariants.{Free, File, Xfcb, Label, Kept}
use Rattle.mpm_dirent.specs.declared.kinds.FileEntry.{FileEntry}
use Rattle.mpm_dirent.specs.declared.kinds.XfcbEntry.{XfcbEntry}
use Rattle.mpm_dirent.specs.Proper.{IsProper}
use Rattle.mpm_dirent.specs.Names.{plain}
use Rattle.mpm_dirent.specs.declared.limits.TheConstants.{LAST_RECORD}
use Rattle.mpm_mount.specs.declared.slots.EntryName.{EntryName}
use Rattle.mpm_mount.specs.Drives.{FileName, entry_number, entry_name}
use Rattle.mpm_mount.specs.Faults.{extent_of, name_of, is_named, is_xfcb, cause_of, first_fault}
use Rattle.mpm_mount.specs.Changes.{HasRanges}
use Rattle.mpm_mount.specs.Files.{is_file}
use Rattle.mpm_mount.specs.Directories.{Directory, entry_in, extent_slot, xfcb_slot, others}
use Rattle.mpm_mount.proofs.Distinct.{named_by}
use Rattle.mpm_mount.proofs.Puts.{ranges_at, still_xfcb_changed}
use Rattle.mpm_mount.proofs.Still.{file_injective}
use Rattle.mpm_files.specs.declared.stamps.Stamp.{Stamp}
use Rattle.mpm_files.specs.declared.stamps.Stamp.TheVariants.{First, Second}
use Rattle.mpm_files.specs.Finding.{HasFileAt}
use Rattle.mpm_files.specs.Lookups.{HasEntry, HasXfcb, HasXfcbBeside, stamped_entry}

-- no XFCB of a file is in the sector of a slot: it has none, or one in another sector
pub none_beside : (d : Directory) (file : FileName) (slot : ℕ) → xfcb_slot d file ≡ None → HasXfcbBeside d file slot → ⊥
none_beside d file slot none beside = let some = subst (λ (o : Option ℕ). IsSomeAnd o (λ other. other / 4 ≡ slot / 4)) none beside in some

pub not_beside : (d : Directory) (file : FileName) (slot other : ℕ) → xfcb_slot d file ≡ Some other → (other / 4 ≡ slot / 4 → ⊥) → HasXfcbBeside d file slot → ⊥
not_beside d file slot other is apart beside = apart (subst (λ (o : Option ℕ). IsSomeAnd o (λ other. other / 4 ≡ slot / 4)) is beside)

-- a record is one of an extent that a file can have
low_number : (kind : Kind) (f : FileEntry) (n : ℕ) → HasRanges f → entry_number kind (extent_of f) ≡ entry_number kind (n / 128) → n ≤ LAST_RECORD
low_number Ibm3740 f n ranges number = omega (arith, ranges.low, ranges.high, number)
low_number Hd4 f n ranges number = omega (arith, ranges.low, ranges.high, number)
low_number Hd8 f n ranges number = omega (arith, ranges.low, ranges.high, number)

slot_name : (d : Directory) (file : FileName) (n slot : ℕ) (f : FileEntry) → extent_slot d file (n / 128) ≡ Some slot → entry_in d slot ≡ File f
    → name_of d.kind f ≡ entry_name d.kind file (n / 128)
slot_name d file n slot f found is =
    let at = position-Some (is_named d.kind (entry_name d.kind file (n / 128))) d.entries slot Free found in
    let by = named_by d.kind (entry_name d.kind file (n / 128)) (get_or d.entries slot Free) at.1 in
    ap (λ (g : FileEntry). name_of d.kind g) (file_injective f by.file (sym is ∙ by.is)) ∙ by.named

slot_number : (d : Directory) (file : FileName) (n slot : ℕ) (f : FileEntry) → extent_slot d file (n / 128) ≡ Some slot → entry_in d slot ≡ File f
    → entry_number d.kind (extent_of f) ≡ entry_number d.kind (n / 128)
slot_number d file n slot f found is =
    let at = position-Some (is_named d.kind (entry_name d.kind file (n / 128))) d.entries slot Free found in
    let named : is_named d.kind (entry_name d.kind file (n / 128)) (File f) ≡ true = ap (is_named d.kind (entry_name d.kind file (n / 128))) (sym is) ∙ at.1 in
    third (f.user == file.user) (bytes_eq (plain f.name) file.name) (entry_number d.kind (extent_of f)) (entry_number d.kind (n / 128)) named
  where
    third : (a b : Bool) (x y : ℕ) → (a && (b && (x == y))) ≡ true → x ≡ y
    third true true x y is = eqb-true x y is
    third true false x y is = absurd (false≢true is)
    third false b x y is = absurd (false≢true is)

pub entry_found : (d : Directory) (file : FileName) (n slot : ℕ) (f : FileEntry) → length d.entries ≡ (geometry_of d.kind).drm + 1 → first_fault d.kind d.entries ≡ None
    → extent_slot d file (n / 128) ≡ Some slot → entry_in d slot ≡ File f → IsProper (geometry_of d.kind).wide (File f) → HasEntry d file n slot f
entry_found d file n slot f full faultless found is proper =
    let at = position-Some (is_named d.kind (entry_name d.kind file (n / 128))) d.entries slot Free found in
    let ranges = ranges_at d slot f faultless at.0 is in
    record {
      sound = record { full = full; faultless = faultless };
      found = found;
      within = omega (arith, at.0, full);
      entry = is;
      proper = proper;
      number = low_number d.kind f n ranges (slot_number d file n slot f found is);
    }

-- what is found is of its sort
named_file : (kind : Kind) (name : EntryName) (e : Entry) → is_named kind name e ≡ true → is_file e ≡ true
named_file kind name (File f) is = refl
named_file kind name Free is = is
named_file kind name (Xfcb x) is = is
named_file kind name (Label l) is = is
named_file kind name (Kept bytes) is = is

pub file_found : (d : Directory) (file : FileName) (n slot : ℕ) → length d.entries ≡ (geometry_of d.kind).drm + 1 → extent_slot d file (n / 128) ≡ Some slot → HasFileAt d slot
file_found d file n slot full found =
    let at = position-Some (is_named d.kind (entry_name d.kind file (n / 128))) d.entries slot Free found in
    record { within = omega (arith, at.0, full); was = named_file d.kind (entry_name d.kind file (n / 128)) (entry_in d slot) at.1 }

pub entry_is_xfcb : (d : Directory) (file : FileName) (slot : ℕ) (entry : Entry) → xfcb_slot d file ≡ Some slot → entry_in d slot ≡ entry
    → is_xfcb file.user file.name entry ≡ true
entry_is_xfcb d file slot entry found is =
    ap (is_xfcb file.user file.name) (sym is) ∙ (position-Some (is_xfcb file.user file.name) d.entries slot Free found).1

-- what is found is in the directory
pub entry_inside : (d : Directory) (file : FileName) (n slot : ℕ) (f : FileEntry) → HasEntry d file n slot f → slot < length d.entries
entry_inside d file n slot f has = omega (arith, has.within, has.sound.full)

pub entry_named : (d : Directory) (file : FileName) (n slot : ℕ) (f : FileEntry) → HasEntry d file n slot f → name_of d.kind f ≡ entry_name d.kind file (n / 128)
entry_named d file n slot f has = slot_name d file n slot f has.found has.entry

pub entry_numbered : (d : Directory) (file : FileName) (n slot : ℕ) (f : FileEntry) → HasEntry d file n slot f → entry_number d.kind (extent_of f) ≡ entry_number d.kind (n / 128)
entry_numbered d file n slot f has = slot_number d file n slot f has.found has.entry

pub xfcb_inside : (d : Directory) (file : FileName) (slot : ℕ) (x : XfcbEntry) → HasXfcb d file slot x → slot < length d.entries
xfcb_inside d file slot x has = omega (arith, has.within, has.sound.full)

-- an XFCB with a stamp may stand in its place
still_by : (d : Directory) (file : FileName) (slot : ℕ) (x : XfcbEntry) (stamp : Stamp) (moment : List ℕ) → HasXfcb d file slot x
    → cause_of d.kind (others d.entries slot) (Xfcb (stamped_entry stamp moment x)) ≡ None
still_by d file slot x First moment has =
    still_xfcb_changed d slot x (stamped_entry First moment x) has.sound.faultless (xfcb_inside d file slot x has) has.entry refl refl
still_by d file slot x Second moment has =
    still_xfcb_changed d slot x (stamped_entry Second moment x) has.sound.faultless (xfcb_inside d file slot x has) has.entry refl refl

pub still_stamped : (d : Directory) (file : FileName) (slot : ℕ) (x y : XfcbEntry) (stamp : Stamp) (moment : List ℕ) → HasXfcb d file slot x → y ≡ stamped_entry stamp moment x
    → cause_of d.kind (others d.entries slot) (Xfcb y) ≡ None
still_stamped d file slot x y stamp moment has is = ap (λ (z : XfcbEntry). cause_of d.kind (others d.entries slot) (Xfcb z)) is ∙ still_by d file slot x stamp moment has

-- what was looked up isn't missing
pub not_missing : {A : Type 0} (o result : Option A) → IsSome o → result ≡ o → result ≡ None → ⊥
not_missing o result some is none = true≢false (sym some ∙ ap is_some (sym is ∙ none))

-- nor is an entry another than a file's that is one
pub is_other : (e : Entry) → is_file e ≡ true → ((f : FileEntry) → e ≡ File f → ⊥) → ⊥
is_other (File f) is other = other f refl
is_other Free is other = true≢false (sym is)
is_other (Xfcb x) is other = true≢false (sym is)
is_other (Label l) is other = true≢false (sym is)
is_other (Kept bytes) is other = true≢false (sym is)

pub is_no_xfcb : (user : ℕ) (name : List ℕ) (e : Entry) → is_xfcb user name e ≡ true → ((x : XfcbEntry) → e ≡ Xfcb x → ⊥) → ⊥
is_no_xfcb user name (Xfcb x) is other = other x refl
is_no_xfcb user name Free is other = true≢false (sym is)
is_no_xfcb user name (File f) is other = true≢false (sym is)
is_no_xfcb user name (Label l) is other = true≢false (sym is)
is_no_xfcb user name (Kept bytes) is other = true≢false (sym is)
