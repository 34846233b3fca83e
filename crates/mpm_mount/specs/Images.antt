-- The drive that the bytes of an image stand for.
use Rattle.std.specs.Prelude.{ℕ, ◌+◌, ◌*◌, ◌/◌, ◌%◌, ◌==◌, Bool, true, false, List, [], ◌∷◌, Option, Some, None, Result, Ok, Err, nat_le, length, map, count_by, if◌then◌else◌}
use Rattle.std.specs.List.{range_with_len}
use Rattle.std.specs.declared.cmp.Ordering.{Ordering}
use Rattle.std.specs.FinMap.{FinMap, insert, empty}
use Rattle.mpm_base.specs.declared.kind.Kind.{Kind}
use Rattle.mpm_blocks.specs.Geometries.{geometry_of, block_records}
use Rattle.mpm_blocks.specs.Sectors.{Sectors, sectors_of}
use Rattle.mpm_dirent.specs.declared.kinds.Entry.{Entry}
use Rattle.mpm_dirent.specs.declared.kinds.Entry.TheVariants.{Free, File, Xfcb, Label, Kept}
use Rattle.mpm_dirent.specs.declared.kinds.FileEntry.{FileEntry}
use Rattle.mpm_dirent.specs.declared.kinds.XfcbEntry.{XfcbEntry}
use Rattle.mpm_dirent.specs.Entries.{part, entry_of}
use Rattle.mpm_dirent.specs.Names.{plain}
use Rattle.mpm_mount.specs.declared.errors.ImageFault.{ImageFault}
use Rattle.mpm_mount.specs.declared.slots.EntryName.{EntryName}
use Rattle.mpm_mount.specs.Drives.{FileName, entry_cmp, file_cmp, PhysicalExtent, Protection, DirectoryLabel, Drive, places}
use Rattle.mpm_mount.specs.Faults.{extent_of, name_of, block_at, first_some, first_fault}

-- the directory's entries, four in each of the first sectors
abbrev pub slot_bytes : Sectors → ℕ → List ℕ
slot_bytes sectors slot = part (32 * (slot % 4)) 32 (sectors (slot / 4))

abbrev pub slot_entry : Sectors → Bool → ℕ → Entry
slot_entry sectors wide slot = entry_of (slot_bytes sectors slot) wide

unfoldable pub entries_to : Sectors → Bool → ℕ → List Entry
entries_to sectors wide count = map (slot_entry sectors wide) (range_with_len 0 count)

abbrev pub entries_of : Sectors → Kind → List Entry
entries_of sectors kind = entries_to sectors (geometry_of kind).wide ((geometry_of kind).drm + 1)

-- the first entries of a sector
unfoldable pub entries_in : List ℕ → Bool → ℕ → List Entry
entries_in bytes wide count = map (λ place. entry_of (part (32 * place) 32 bytes) wide) (range_with_len 0 count)

-- the records of a block, which is held where its number isn't 0
unfoldable pub contents_of : Sectors → Kind → ℕ → Option (List (List ℕ))
contents_of sectors kind block =
    if block == 0 then None
    else Some (map (λ r. sectors (block * block_records kind + r)) (range_with_len 0 (block_records kind)))

-- what a file's entry has
unfoldable pub extent_in : Sectors → Kind → FileEntry → PhysicalExtent
extent_in sectors kind f = record {
  attributes = map (nat_le 128) f.name;
  last = extent_of f;
  count = f.rc;
  blocks = map (λ i. contents_of sectors kind (block_at f i)) (range_with_len 0 (places kind));
}

-- how an XFCB protects its file
abbrev pub protection_of : XfcbEntry → Protection
protection_of x = record { mode = x.mode; decode = x.decode; password = x.password; first = x.first; second = x.second }

-- what a directory entry gives to its drive: an entry of a file, an XFCB, a label, or one entry more that is kept
abbrev pub extent_from : Sectors → Kind → Entry → Option (EntryName × PhysicalExtent)
extent_from sectors kind (File f) = Some (name_of kind f, extent_in sectors kind f)
extent_from sectors kind Free = None
extent_from sectors kind (Xfcb x) = None
extent_from sectors kind (Label l) = None
extent_from sectors kind (Kept bytes) = None

abbrev pub xfcb_from : Entry → Option (FileName × Protection)
xfcb_from (Xfcb x) = Some (record { user = x.user; name = plain x.name }, protection_of x)
xfcb_from Free = None
xfcb_from (File f) = None
xfcb_from (Label l) = None
xfcb_from (Kept bytes) = None

abbrev pub label_from : Entry → Option DirectoryLabel
label_from (Label l) = Some (record {
  name = l.name;
  protection = record { mode = l.mode; decode = l.decode; password = l.password; first = l.first; second = l.second };
})
label_from Free = None
label_from (File f) = None
label_from (Xfcb x) = None
label_from (Kept bytes) = None

abbrev pub is_kept : Entry → Bool
is_kept (Kept bytes) = true
is_kept Free = false
is_kept (File f) = false
is_kept (Xfcb x) = false
is_kept (Label l) = false

-- all that an entry gives
pub record Given : Type 0 where
  pub extent : Option (EntryName × PhysicalExtent)
  pub xfcb : Option (FileName × Protection)
  pub label : Option DirectoryLabel
  pub kept : Bool

abbrev pub given : Sectors → Kind → Entry → Given
given sectors kind e = record { extent = extent_from sectors kind e; xfcb = xfcb_from e; label = label_from e; kept = is_kept e }

-- the map of those pairs that are there
unfoldable pub collected : {K X : Type 0} (R : K → K → Ordering) → List (Option (K × X)) → FinMap R X
collected R [] = empty
collected R (None ∷ items) = collected R items
collected R (Some item ∷ items) = insert (collected R items) item.0 item.1

-- the drive of these directory entries
unfoldable pub drive_of : Sectors → Kind → List Entry → Drive
drive_of sectors kind entries = record {
  kind = kind;
  extents = collected entry_cmp (map (extent_from sectors kind) entries);
  xfcbs = collected file_cmp (map xfcb_from entries);
  label = first_some (map label_from entries);
  kept = count_by is_kept entries;
}

abbrev pub unless : {X E : Type 0} → Option E → X → Result X E
unless None x = Ok x
unless (Some e) x = Err e

-- the drive that an image stands for, or its first fault
unfoldable pub files_of : List ℕ → Kind → Result Drive ImageFault
files_of image kind =
    let sectors = sectors_of image kind in
    let entries = entries_of sectors kind in
    if length image == (geometry_of kind).bytes then unless (first_fault kind entries) (drive_of sectors kind entries)
    else Err (record { cause = 1; place = 0 })
