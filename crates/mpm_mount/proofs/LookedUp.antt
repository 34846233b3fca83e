-- What is looked up in the directory in memory, against the drive that it stands for.
use Rattle.std.proofs.Common.{◌≡◌, ℕ, ◌+◌, ◌<◌, ◌≤◌, Bool, true, false, cond, not, ltb, List, [], ◌∷◌, Some, None, map, length, get_or, refl, sym, ap, ◌∙◌, arith}
use Rattle.std.specs.Prelude.{is_some, nat_lt, position}
use Rattle.std.specs.List.{list_any, position_or_len}
use Rattle.std.specs.FinMap.{get}
use Rattle.std.specs.Ordering.{eq_by_cmp, is_eq}
use Rattle.std.specs.Cmp.{tied_itself}
use Rattle.std.proofs.lemmas.Bool.{true≢false, ltb-false, or_parts, not-true}
use Rattle.std.proofs.lemmas.List.{length-map, get_or-map}
use Rattle.std.proofs.lemmas.List.Quantifiers.{position-Some}
use Rattle.std.proofs.lemmas.List.Sums.{fails_before_first}
use Rattle.mpm_base.specs.declared.kind.Kind.{Kind}
use Rattle.mpm_blocks.specs.Geometries.{geometry_of, last_block}
use Rattle.mpm_blocks.specs.Sectors.{Sectors, sectors_of}
use Rattle.mpm_dirent.specs.declared.kinds.Entry.{Entry}
use Rattle.mpm_dirent.specs.declared.kinds.Entry.TheVariants.{Free, File, Xfcb, Label, Kept}
use Rattle.mpm_dirent.specs.declared.kinds.FileEntry.{FileEntry}
use Rattle.mpm_dirent.specs.declared.kinds.XfcbEntry.{XfcbEntry}
use Rattle.mpm_dirent.specs.declared.kinds.LabelEntry.{LabelEntry}
use Rattle.mpm_mount.specs.declared.slots.EntryName.{EntryName}
use Rattle.mpm_mount.specs.Drives.{FileName, entry_cmp, file_cmp, Drive, entry_name}
use Rattle.mpm_mount.specs.Faults.{name_of, holds, is_named, is_label, is_xfcb, first_fault}
use Rattle.mpm_mount.specs.Images.{extent_in, extent_from, xfcb_from, label_from, drive_of, protection_of}
use Rattle.mpm_mount.specs.Directories.{others, Directory, entry_in, extent_slot, xfcb_slot, label_slot, is_free, free_slot, is_used, used_blocks, free_block, IsFreeBlock, Stands}
use Rattle.mpm_mount.proofs.Ranges.{map_at}
use Rattle.mpm_mount.proofs.Others.{all_none}
use Rattle.mpm_mount.proofs.UsedBy.{used_size}
use Rattle.mpm_mount.proofs.Collected.{ties, get_collected, scanned_here, scanned_none}
use Rattle.mpm_mount.proofs.Orders.{entry_total, file_total, same_file}
use Rattle.mpm_mount.proofs.Distinct.{named_by, named_alone, xfcb_by, xfcb_alone, label_by}
use Rattle.mpm_mount.proofs.Exchanged.{others_map, none_of, gives_name, gives_xfcb, none_first, first_alone, gives_label, label_only}
use Rattle.mpm_mount.specs.Looking.{label_of}
use Rattle.mpm_mount.proofs.Sorts.{file_of}

-- both are of one kind
pub kind_of : (image : List ℕ) (d : Directory) (files : Drive) → Stands image d files → files.kind ≡ d.kind
unfolding drive_of
kind_of image d files stands = ap (λ (drive : Drive). drive.kind) stands.drive

-- what an entry of a file gives to its drive, in a directory without a fault
pub extent_there : (sectors : Sectors) (kind : Kind) (entries : List Entry) (slot : ℕ) (name : EntryName) (f : FileEntry) → first_fault kind entries ≡ None → slot < length entries
    → get_or entries slot Free ≡ File f → is_named kind name (get_or entries slot Free) ≡ true → name_of kind f ≡ name
    → get (drive_of sectors kind entries).extents name ≡ Some (extent_in sectors kind f)
unfolding drive_of
extent_there sectors kind entries slot name f faultless h is named same =
    let items = map (extent_from sectors kind) entries in
    get_collected entry_cmp entry_total items name
    ∙ scanned_here entry_cmp name items slot (name_of kind f, extent_in sectors kind f) (omega (arith, length-map entries (extent_from sectors kind)))
    (get_or-map (extent_from sectors kind) entries slot Free None h ∙ ap (extent_from sectors kind) is)
    (ap (λ n. eq_by_cmp entry_cmp name n) same ∙ ap is_eq (tied_itself entry_total name))
    (ap (list_any (ties entry_cmp name)) (others_map (extent_from sectors kind) entries slot)
    ∙ none_of (is_named kind name) (ties entry_cmp name) (extent_from sectors kind) (gives_name sectors kind name) (others entries slot) (named_alone kind entries slot name faultless h named))

pub extent_nowhere : (sectors : Sectors) (kind : Kind) (entries : List Entry) (name : EntryName) → list_any (is_named kind name) entries ≡ false
    → get (drive_of sectors kind entries).extents name ≡ None
unfolding drive_of
extent_nowhere sectors kind entries name none =
    get_collected entry_cmp entry_total (map (extent_from sectors kind) entries) name
    ∙ scanned_none entry_cmp name (map (extent_from sectors kind) entries)
    (none_of (is_named kind name) (ties entry_cmp name) (extent_from sectors kind) (gives_name sectors kind name) entries none)

-- the slot of an extent: its entry is that of the drive
pub record IsFound (sectors : Sectors) (d : Directory) (files : Drive) (name : EntryName) (slot : ℕ) : Type 0 where
  pub file : FileEntry
  pub within : slot < length d.entries
  pub entry : entry_in d slot ≡ File file
  pub name_is : name_of d.kind file ≡ name
  pub extent : get files.extents name ≡ Some (extent_in sectors d.kind file)

pub extent_found : (image : List ℕ) (d : Directory) (files : Drive) (file : FileName) (extent slot : ℕ) → Stands image d files → extent_slot d file extent ≡ Some slot
    → IsFound (sectors_of image d.kind) d files (entry_name d.kind file extent) slot
extent_found image d files file extent slot stands found =
    let name : EntryName = entry_name d.kind file extent in
    let sectors = sectors_of image d.kind in
    let at = position-Some (is_named d.kind name) d.entries slot Free found in
    let by = named_by d.kind name (get_or d.entries slot Free) at.1 in
    record {
      file = by.file;
      within = at.0;
      entry = by.is;
      name_is = by.named;
      extent = ap (λ (drive : Drive). get drive.extents name) stands.drive
          ∙ extent_there sectors d.kind d.entries slot name by.file stands.faultless at.0 by.is at.1 by.named;
    }

-- what stands nowhere
unplaced : (b : Bool) (n : ℕ) → cond b (Some n) None ≡ None → b ≡ false
unplaced true n none = absurd (true≢false (ap is_some none))
unplaced false n none = refl

pub nowhere : {X : Type 0} (p : X → Bool) (xs : List X) → position p xs ≡ None → list_any p xs ≡ false
nowhere p [] none = refl
nowhere p (x ∷ xs) none =
    let size : length (x ∷ xs) ≤ position_or_len p (x ∷ xs) =
    ltb-false (position_or_len p (x ∷ xs)) (length (x ∷ xs)) (unplaced (ltb (position_or_len p (x ∷ xs)) (length (x ∷ xs))) (position_or_len p (x ∷ xs)) none) in
    all_none p (x ∷ xs) x (λ k h. fails_before_first p (x ∷ xs) k x (omega arith))

pub extent_missing : (image : List ℕ) (d : Directory) (files : Drive) (file : FileName) (extent : ℕ) → Stands image d files → extent_slot d file extent ≡ None
    → get files.extents (entry_name d.kind file extent) ≡ None
extent_missing image d files file extent stands none =
    let name : EntryName = entry_name d.kind file extent in
    ap (λ (drive : Drive). get drive.extents name) stands.drive
    ∙ extent_nowhere (sectors_of image d.kind) d.kind d.entries name (nowhere (is_named d.kind name) d.entries none)

-- XFCBs
xfcb_there : (sectors : Sectors) (kind : Kind) (entries : List Entry) (slot : ℕ) (file : FileName) (x : XfcbEntry) → first_fault kind entries ≡ None → slot < length entries
    → get_or entries slot Free ≡ Xfcb x → is_xfcb file.user file.name (get_or entries slot Free) ≡ true → file_of x ≡ file
    → get (drive_of sectors kind entries).xfcbs file ≡ Some (protection_of x)
unfolding drive_of
xfcb_there sectors kind entries slot file x faultless h is named same =
    let items = map xfcb_from entries in
    get_collected file_cmp file_total items file
    ∙ scanned_here file_cmp file items slot (file_of x, protection_of x) (omega (arith, length-map entries xfcb_from))
    (get_or-map xfcb_from entries slot Free None h ∙ ap xfcb_from is)
    (ap (λ n. eq_by_cmp file_cmp file n) same ∙ ap is_eq (tied_itself file_total file))
    (ap (list_any (ties file_cmp file)) (others_map xfcb_from entries slot)
    ∙ none_of (is_xfcb file.user file.name) (ties file_cmp file) xfcb_from (gives_xfcb file) (others entries slot)
    (xfcb_alone kind entries slot file.user file.name faultless h named))

xfcb_nowhere : (sectors : Sectors) (kind : Kind) (entries : List Entry) (file : FileName) → list_any (is_xfcb file.user file.name) entries ≡ false
    → get (drive_of sectors kind entries).xfcbs file ≡ None
unfolding drive_of
xfcb_nowhere sectors kind entries file none =
    get_collected file_cmp file_total (map xfcb_from entries) file
    ∙ scanned_none file_cmp file (map xfcb_from entries) (none_of (is_xfcb file.user file.name) (ties file_cmp file) xfcb_from (gives_xfcb file) entries none)

-- the slot of an XFCB: it is that of the drive
pub record IsXfcbFound (d : Directory) (files : Drive) (file : FileName) (slot : ℕ) : Type 0 where
  pub xfcb : XfcbEntry
  pub within : slot < length d.entries
  pub entry : entry_in d slot ≡ Xfcb xfcb
  pub name_is : file_of xfcb ≡ file
  pub protection : get files.xfcbs file ≡ Some (protection_of xfcb)

pub xfcb_found : (image : List ℕ) (d : Directory) (files : Drive) (file : FileName) (slot : ℕ) → Stands image d files → xfcb_slot d file ≡ Some slot
    → IsXfcbFound d files file slot
xfcb_found image d files file slot stands found =
    let at = position-Some (is_xfcb file.user file.name) d.entries slot Free found in
    let by = xfcb_by file.user file.name (get_or d.entries slot Free) at.1 in
    let same : file_of by.xfcb ≡ file = same_file (file_of by.xfcb) file by.user_is by.name_is in
    record {
      xfcb = by.xfcb;
      within = at.0;
      entry = by.is;
      name_is = same;
      protection = ap (λ (drive : Drive). get drive.xfcbs file) stands.drive
          ∙ xfcb_there (sectors_of image d.kind) d.kind d.entries slot file by.xfcb stands.faultless at.0 by.is at.1 same;
    }

pub xfcb_missing : (image : List ℕ) (d : Directory) (files : Drive) (file : FileName) → Stands image d files → xfcb_slot d file ≡ None → get files.xfcbs file ≡ None
xfcb_missing image d files file stands none =
    ap (λ (drive : Drive). get drive.xfcbs file) stands.drive
    ∙ xfcb_nowhere (sectors_of image d.kind) d.kind d.entries file (nowhere (is_xfcb file.user file.name) d.entries none)

-- the label
label_there : (sectors : Sectors) (kind : Kind) (entries : List Entry) (slot : ℕ) (l : LabelEntry) → first_fault kind entries ≡ None → slot < length entries
    → get_or entries slot Free ≡ Label l → (drive_of sectors kind entries).label ≡ label_from (Label l)
unfolding drive_of
label_there sectors kind entries slot l faultless h is =
    first_alone (map label_from entries) slot (label_of l) (omega (arith, length-map entries label_from))
    (get_or-map label_from entries slot Free None h ∙ ap label_from is) (label_only kind entries slot (Label l) faultless h is)

label_nowhere : (sectors : Sectors) (kind : Kind) (entries : List Entry) → list_any is_label entries ≡ false → (drive_of sectors kind entries).label ≡ None
unfolding drive_of
label_nowhere sectors kind entries none = none_first (map label_from entries) (none_of is_label is_some label_from gives_label entries none)

pub record IsLabelFound (d : Directory) (files : Drive) (slot : ℕ) : Type 0 where
  pub label : LabelEntry
  pub within : slot < length d.entries
  pub entry : entry_in d slot ≡ Label label
  pub is : files.label ≡ label_from (Label label)

pub label_found : (image : List ℕ) (d : Directory) (files : Drive) (slot : ℕ) → Stands image d files → label_slot d ≡ Some slot → IsLabelFound d files slot
label_found image d files slot stands found =
    let at = position-Some is_label d.entries slot Free found in
    let by = label_by (get_or d.entries slot Free) at.1 in
    record {
      label = by.label;
      within = at.0;
      entry = by.is;
      is = ap (λ (drive : Drive). drive.label) stands.drive ∙ label_there (sectors_of image d.kind) d.kind d.entries slot by.label stands.faultless at.0 by.is;
    }

pub label_missing : (image : List ℕ) (d : Directory) (files : Drive) → Stands image d files → label_slot d ≡ None → files.label ≡ None
label_missing image d files stands none =
    ap (λ (drive : Drive). drive.label) stands.drive ∙ label_nowhere (sectors_of image d.kind) d.kind d.entries (nowhere is_label d.entries none)

-- a free slot
free_by : (e : Entry) → is_free e ≡ true → e ≡ Free
free_by Free free = refl
free_by (File f) free = absurd (true≢false (sym free))
free_by (Xfcb x) free = absurd (true≢false (sym free))
free_by (Label l) free = absurd (true≢false (sym free))
free_by (Kept bytes) free = absurd (true≢false (sym free))

pub free_slot_found : (d : Directory) (slot : ℕ) → free_slot d ≡ Some slot → (slot < length d.entries) × (entry_in d slot ≡ Free)
free_slot_found d slot found =
    let at = position-Some is_free d.entries slot Free found in
    (at.0, free_by (get_or d.entries slot Free) at.1)

-- a free block
used_in_map : (kind : Kind) (entries : List Entry) (block : ℕ) → block < last_block kind + 1 → get_or (used_blocks kind entries) block true ≡ is_used kind entries block
unfolding used_blocks
used_in_map kind entries block h = map_at (is_used kind entries) (last_block kind + 1) block true h

pub free_block_unheld : (d : Directory) (block : ℕ) → free_block d ≡ Some block → IsFreeBlock d block
free_block_unheld d block found =
    let at = position-Some not (used_blocks d.kind d.entries) block true found in
    let h : block < last_block d.kind + 1 = omega (arith, at.0, used_size d.kind d.entries) in
    let free = or_parts (nat_lt block (geometry_of d.kind).directory_blocks) (list_any (holds d.kind block) d.entries)
    (sym (used_in_map d.kind d.entries block h) ∙ not-true (get_or (used_blocks d.kind d.entries) block true) at.1) in
    record { low = ltb-false block (geometry_of d.kind).directory_blocks free.0; high = omega arith; unheld = free.1 }
