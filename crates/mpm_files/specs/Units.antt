-- The units of a file call, and what each makes of a drive. (MP/M II Programmer's Guide, "File Organization", "File Control
-- Block Definition", "Extended File Control Block (XFCB)", "Directory Labels".)
use Rattle.std.specs.Prelude.{ℕ, ◌+◌, ◌/◌, ◌%◌, ◌==◌, ◌&&◌, ◌||◌, Bool, List, [], ◌∷◌, ◌++◌, Option, Some, None, nat_lt, nat_le, is_some, replicate, slice_set, slice_index_or, map, take, drop, if◌then◌else◌}
use Rattle.std.specs.FinMap.{get}
use Rattle.mpm_base.specs.declared.kind.Kind.{Kind}
use Rattle.mpm_blocks.specs.Geometries.{block_records}
use Rattle.mpm_sectors.specs.Writes.{zero_record}
use Rattle.mpm_mount.specs.Drives.{FileName, PhysicalExtent, Protection, DirectoryLabel, Drive, places, entry_name, block_place, with_record_in, extents_of, with_extent, without_extent, with_xfcb, without_xfcb}
use Rattle.mpm_mount.specs.Attributes.{attributes_of}
use Rattle.mpm_mount.specs.Files.{where_there}

-- a single change of a drive, as it is asked for
pub data FileUnit : Type 0 where
  -- a call that changes nothing, but perhaps for the first stamp of the file's XFCB
  Idles : FileName → Option (List ℕ) → FileUnit
  -- a record is read
  ReadsRecord : FileName → ℕ → FileUnit
  -- a record is passed after one that had other bytes than were named
  PassesRecord : FileName → ℕ → FileUnit
  -- a directory entry for an extent of a file is added
  AddsEntry : FileName → ℕ → FileUnit
  -- where entries cover more than one extent, a block for a record is chosen and cleared; the file has it with the record
  ClearsBlock : FileName → ℕ → FileUnit
  -- a record is written; perhaps the second stamp of the file's XFCB with it
  WritesRecord : FileName → ℕ → List ℕ → Option (List ℕ) → FileUnit
  -- a directory entry of a file, by its number, goes, gets the attributes F1' to F4' and T1' to T3', or goes to a file of another
  -- name
  RemovesEntry : FileName → ℕ → FileUnit
  SetsAttributes : FileName → ℕ → List Bool → FileUnit
  RenamesEntry : FileName → ℕ → FileName → FileUnit
  -- an XFCB is put, goes, or goes to a file of another name
  PutsXfcb : FileName → Protection → FileUnit
  RemovesXfcb : FileName → FileUnit
  RenamesXfcb : FileName → FileName → FileUnit
  -- the directory label is put
  PutsLabel : DirectoryLabel → FileUnit

-- a new entry of a file, for an extent: it holds no block
unfoldable pub new_entry : Drive → FileName → ℕ → PhysicalExtent
new_entry drive file extent = record {
  attributes = attributes_of (extents_of drive file);
  last = extent;
  count = 0;
  blocks = replicate (places drive.kind) None;
}

-- a record of an entry lies above its last extent, or above the record count of that one. ("File Control Block Definition": EX, RC.)
abbrev pub is_raising : ℕ → PhysicalExtent → Bool
is_raising n entry = nat_lt entry.last (n / 128) || ((n / 128 == entry.last) && nat_le entry.count (n % 128))

-- last extent and record count after a record
abbrev pub raised : ℕ → PhysicalExtent → PhysicalExtent
raised n entry = if is_raising n entry then record entry { last = n / 128; count = n % 128 + 1 } else entry

-- whether the entry holds the block of a record
abbrev pub holds_block : Kind → ℕ → PhysicalExtent → Bool
holds_block kind n entry = is_some (slice_index_or entry.blocks (block_place kind n) None)

-- a fresh block, all zeros, with a record
abbrev pub fresh_records : Kind → ℕ → List ℕ → List (List ℕ)
fresh_records kind n bytes = slice_set (replicate (block_records kind) zero_record) (n % block_records kind) bytes

abbrev pub with_fresh_block : Kind → ℕ → List ℕ → PhysicalExtent → PhysicalExtent
with_fresh_block kind n bytes entry = record entry { blocks = slice_set entry.blocks (block_place kind n) (Some (fresh_records kind n bytes)) }

-- what an entry goes through as a record is written: the record, and then last extent and record count where they rise; where the
-- block isn't held, all at once
abbrev pub rewritten : ℕ → PhysicalExtent → List PhysicalExtent
rewritten n there = there ∷ (if is_raising n there then raised n there ∷ [] else [])

abbrev pub written_extents : Kind → ℕ → List ℕ → PhysicalExtent → List PhysicalExtent
written_extents kind n bytes entry =
    if holds_block kind n entry then rewritten n (with_record_in entry (block_place kind n) (n % block_records kind) bytes)
    else (raised n (with_fresh_block kind n bytes entry) ∷ [])

-- the last of some drives, or the one before them
unfoldable pub last_of : Drive → List Drive → Drive
last_of drive [] = drive
last_of drive (next ∷ drives) = last_of next drives

-- a stamp after some drives, in the file's XFCB, where it has one. ("Date and Time Stamps".)
abbrev pub first_stamped : List ℕ → Protection → Protection
first_stamped moment xfcb = record xfcb { first = moment }

abbrev pub second_stamped : List ℕ → Protection → Protection
second_stamped moment xfcb = record xfcb { second = moment }

abbrev pub stamped : (List ℕ → Protection → Protection) → FileName → Option (List ℕ) → Drive → List Drive
stamped change file None drive = []
stamped change file (Some moment) drive = where_there (get drive.xfcbs file) (λ xfcb. with_xfcb drive file (change moment xfcb) ∷ [])

abbrev pub with_stamp : FileName → Option (List ℕ) → Drive → List Drive → List Drive
with_stamp file stamp drive drives = drives ++ stamped second_stamped file stamp (last_of drive drives)

-- attributes F1' to F4' and T1' to T3' are set, F5' to F8' stay. ("Function 30: Set File Attributes".)
abbrev pub with_attributes : List Bool → PhysicalExtent → PhysicalExtent
with_attributes attributes entry = record entry { attributes = take 4 attributes ++ (take 4 (drop 4 entry.attributes) ++ drop 8 attributes) }

-- the drives that a unit goes through, one for each of its sector writes that changes a drive: the last is what it makes
unfoldable pub stages : FileUnit → Drive → List Drive
stages (Idles file stamp) drive = stamped first_stamped file stamp drive
stages (ReadsRecord file n) drive = []
stages (PassesRecord file n) drive = []
stages (AddsEntry file extent) drive = with_extent drive (entry_name drive.kind file extent) (new_entry drive file extent) ∷ []
stages (ClearsBlock file n) drive = []
stages (WritesRecord file n bytes stamp) drive =
    let name = entry_name drive.kind file (n / 128) in
    with_stamp file stamp drive (where_there (get drive.extents name) (λ entry. map (with_extent drive name) (written_extents drive.kind n bytes entry)))
stages (RemovesEntry file number) drive = without_extent drive (record { user = file.user; name = file.name; number = number }) ∷ []
stages (SetsAttributes file number attributes) drive =
    where_there (get drive.extents (record { user = file.user; name = file.name; number = number }))
    (λ entry. with_extent drive (record { user = file.user; name = file.name; number = number }) (with_attributes attributes entry) ∷ [])
stages (RenamesEntry file number other) drive =
    where_there (get drive.extents (record { user = file.user; name = file.name; number = number }))
    (λ entry. with_extent (without_extent drive (record { user = file.user; name = file.name; number = number }))
    (record { user = other.user; name = other.name; number = number }) entry ∷ [])
stages (PutsXfcb file xfcb) drive = with_xfcb drive file xfcb ∷ []
stages (RemovesXfcb file) drive = without_xfcb drive file ∷ []
stages (RenamesXfcb file other) drive = where_there (get drive.xfcbs file) (λ xfcb. with_xfcb (without_xfcb drive file) other xfcb ∷ [])
stages (PutsLabel label) drive = record drive { label = Some label } ∷ []

-- what a unit makes of a drive
unfoldable pub applied : Drive → FileUnit → Drive
applied drive unit = last_of drive (stages unit drive)

-- some units, one after the other
unfoldable pub all_applied : Drive → List FileUnit → Drive
all_applied drive [] = drive
all_applied drive (unit ∷ units) = all_applied (applied drive unit) units
