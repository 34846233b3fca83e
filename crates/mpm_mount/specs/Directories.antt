-- The directory of an image, kept in memory, and what is asked of it.
use Rattle.std.specs.Prelude.{◌≡◌, ℕ, suc, ◌+◌, ◌*◌, ◌≤◌, ◌||◌, not, Bool, true, false, List, ◌++◌, take, drop, Option, None, nat_lt, length, map, count_by, position, slice_index_or, slice_set}
use Rattle.std.specs.List.{All, range_with_len, list_any}
use Rattle.mpm_base.specs.declared.kind.Kind.{Kind}
use Rattle.mpm_blocks.specs.Maps.{Blocks}
use Rattle.mpm_blocks.specs.Geometries.{geometry_of, last_block, block_records}
use Rattle.mpm_blocks.specs.Sectors.{sectors_of}
use Rattle.mpm_dirent.specs.declared.kinds.Entry.{Entry}
use Rattle.mpm_dirent.specs.declared.kinds.Entry.TheVariants.{Free, File, Xfcb, Label, Kept}
use Rattle.mpm_dirent.specs.Proper.{IsProper, HasSizes}
use Rattle.mpm_mount.specs.Drives.{FileName, Drive, entry_name}
use Rattle.mpm_mount.specs.Faults.{holds, is_named, is_label, is_xfcb, cause_of, first_fault}
use Rattle.mpm_mount.specs.Images.{entries_of, drive_of}

-- the drive's number, its kind, and the entry of each slot
pub record Directory : Type 0 where
  pub drive : ℕ
  pub kind : Kind
  pub entries : List Entry

abbrev pub entry_in : Directory → ℕ → Entry
entry_in d slot = slice_index_or d.entries slot Free

abbrev pub with_entry : Directory → ℕ → Entry → Directory
with_entry d slot entry = record d { entries = slice_set d.entries slot entry }

-- the slot of the entry that covers an extent of a file
abbrev pub extent_slot : Directory → FileName → ℕ → Option ℕ
extent_slot d file extent = position (is_named d.kind (entry_name d.kind file extent)) d.entries

abbrev pub xfcb_slot : Directory → FileName → Option ℕ
xfcb_slot d file = position (is_xfcb file.user file.name) d.entries

abbrev pub label_slot : Directory → Option ℕ
label_slot d = position is_label d.entries

abbrev pub is_free : Entry → Bool
is_free Free = true
is_free (File f) = false
is_free (Xfcb x) = false
is_free (Label l) = false
is_free (Kept bytes) = false

abbrev pub free_slot : Directory → Option ℕ
free_slot d = position is_free d.entries

-- a block of the directory, or of an entry
abbrev pub is_used : Kind → List Entry → ℕ → Bool
is_used kind entries block = nat_lt block (geometry_of kind).directory_blocks || list_any (holds kind block) entries

-- of each block whether it is used
unfoldable pub used_blocks : Kind → List Entry → List Bool
used_blocks kind entries = map (is_used kind entries) (range_with_len 0 (last_block kind + 1))

abbrev pub free_block : Directory → Option ℕ
free_block d = position not (used_blocks d.kind d.entries)

-- a block of files that no entry holds
pub record IsFreeBlock (d : Directory) (block : ℕ) : Type 0 where
  pub low : (geometry_of d.kind).directory_blocks ≤ block
  pub high : block ≤ last_block d.kind
  pub unheld : list_any (holds d.kind block) d.entries ≡ false

abbrev pub free_records_in : Directory → ℕ
free_records_in d = count_by not (used_blocks d.kind d.entries) * block_records d.kind

abbrev pub free_entries_in : Directory → ℕ
free_entries_in d = count_by is_free d.entries

-- the entries of all other slots
abbrev pub others : {X : Type 0} → List X → ℕ → List X
others entries slot = take slot entries ++ drop (suc slot) entries

-- the parts of an entry have the lengths of their arrays, also where it is kept unread
abbrev pub IsWholeEntry : Entry → Type 0
IsWholeEntry (Kept bytes) = length bytes ≡ 32
IsWholeEntry entry = HasSizes entry

-- a directory of a kind: all slots, no fault, and entries that can be written
pub record IsDirectory (kind : Kind) (entries : List Entry) : Type 0 where
  pub full : length entries ≡ (geometry_of kind).drm + 1
  pub faultless : first_fault kind entries ≡ None
  pub proper : All (IsProper (geometry_of kind).wide) entries
  pub whole : All IsWholeEntry entries

-- what a directory keeps of itself: all slots, no fault, entries that can be written, and which blocks are used
pub record IsKept (kind : Kind) (entries : List Entry) (blocks : Blocks) : Type 0 where
  pub full : length entries ≡ (geometry_of kind).drm + 1
  pub faultless : first_fault kind entries ≡ None
  pub proper : All (IsProper (geometry_of kind).wide) entries
  pub whole : All IsWholeEntry entries
  pub of_kind : blocks.kind ≡ kind
  pub used : blocks.used ≡ used_blocks kind entries

-- an entry may be put into a slot: it can be written, and isn't at fault beside those of all other slots
pub record MayReplace (kind : Kind) (entries : List Entry) (slot : ℕ) (entry : Entry) : Type 0 where
  pub slot_is : slot ≤ (geometry_of kind).drm
  pub proper : IsProper (geometry_of kind).wide entry
  pub faultless : cause_of kind (others entries slot) entry ≡ None

-- an image, its directory in memory, and the drive that both stand for
pub record Stands (image : List ℕ) (d : Directory) (files : Drive) : Type 0 where
  pub size : length image ≡ (geometry_of d.kind).bytes
  pub entries : d.entries ≡ entries_of (sectors_of image d.kind) d.kind
  pub faultless : first_fault d.kind d.entries ≡ None
  pub drive : files ≡ drive_of (sectors_of image d.kind) d.kind d.entries
