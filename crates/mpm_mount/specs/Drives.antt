-- A drive as its files, without allocation blocks and without the places of directory entries: images whose entries stand in
-- another order, or whose blocks lie elsewhere, are one drive. (MP/M II Programmer's Guide, "File Control Blocks" and
-- "Directory Entries".)
use Rattle.std.specs.Prelude.{◌≡◌, ℕ, ◌+◌, ◌-◌, ◌*◌, ◌/◌, ◌%◌, ◌≤◌, ◌==◌, ◌&&◌, Bool, List, [], ◌∷◌, ◌++◌, Option, Some, None, is_some, option_and_then, option_map, length, slice_index_or, slice_set, nat_lt, nat_le, bytes_eq, sum_by, count_by, if◌then◌else◌}
use Rattle.std.specs.List.{filter}
use Rattle.std.specs.declared.cmp.Ordering.{Ordering}
use Rattle.std.specs.Ordering.{nat_cmp}
use Rattle.std.specs.Cmp.Lexicographic.{slice_cmp}
use Rattle.std.specs.FinMap.{FinMap, get, insert, remove, entries, values, len}
use Rattle.mpm_dirent.specs.declared.limits.TheConstants.{LAST_EXTENT}
use Rattle.mpm_base.specs.declared.kind.Kind.{Kind}
use Rattle.mpm_blocks.specs.Geometries.{geometry_of, last_block, block_records}
use Rattle.mpm_mount.specs.declared.slots.EntryName.{EntryName}

-- a file: its user, and its name and type without bit 7
pub record FileName : Type 0 where
  pub user : ℕ
  pub name : List ℕ

-- by user and name
unfoldable pub file_cmp : FileName → FileName → Ordering
file_cmp a b = slice_cmp nat_cmp (a.user ∷ a.name) (b.user ∷ b.name)

-- an entry of a file by user, name and entry number: entry 0 covers the first extents, and so on
unfoldable pub entry_cmp : EntryName → EntryName → Ordering
entry_cmp a b = slice_cmp nat_cmp (a.user ∷ (a.name ++ (a.number ∷ []))) (b.user ∷ (b.name ++ (b.number ∷ [])))

-- what an entry of a file has: bit 7 of the eleven bytes of its name, its last extent, that extent's record count, and of
-- each of its blocks that it holds the records, of 128 bytes
pub record PhysicalExtent : Type 0 where
  pub attributes : List Bool
  pub last : ℕ
  pub count : ℕ
  pub blocks : List (Option (List (List ℕ)))

-- what an XFCB or a label keeps: the mode or data byte, the password and two stamps
pub record Protection : Type 0 where
  pub mode : ℕ
  pub decode : ℕ
  pub password : List ℕ
  pub first : List ℕ
  pub second : List ℕ

pub record DirectoryLabel : Type 0 where
  pub name : List ℕ
  pub protection : Protection

-- the entries of files, the XFCBs, the directory label, and how many entries are kept unread
pub record Drive : Type 0 where
  pub kind : Kind
  pub extents : FinMap entry_cmp PhysicalExtent
  pub xfcbs : FinMap file_cmp Protection
  pub label : Option DirectoryLabel
  pub kept : ℕ

-- how many extents of 128 records an entry covers
abbrev pub covered : Kind → ℕ
covered kind = (geometry_of kind).mask + 1

-- how many blocks an entry has room for
abbrev pub places : Kind → ℕ
places kind = if (geometry_of kind).wide then 8 else 16

-- the number of the entry that covers an extent
abbrev pub entry_number : Kind → ℕ → ℕ
entry_number kind extent = extent / covered kind

-- what is so of each entry that the drive of an image has
pub record IsOfImage (kind : Kind) (name : EntryName) (extent : PhysicalExtent) : Type 0 where
  pub attributes : length extent.attributes ≡ 11
  pub last : extent.last ≤ LAST_EXTENT
  pub number : entry_number kind extent.last ≡ name.number
  pub count : extent.count ≤ 128
  pub blocks : length extent.blocks ≡ places kind

-- the entry that covers an extent
abbrev pub entry_name : Kind → FileName → ℕ → EntryName
entry_name kind file extent = record { user = file.user; name = file.name; number = entry_number kind extent }

-- the entry of an extent that is there: at most the entry's last
abbrev pub with_extent_there : ℕ → PhysicalExtent → Option PhysicalExtent
with_extent_there extent entry = if nat_le extent entry.last then Some entry else None

unfoldable pub extent_at : Drive → FileName → ℕ → Option PhysicalExtent
extent_at drive file extent = option_and_then (with_extent_there extent) (get drive.extents (entry_name drive.kind file extent))

-- the record count of an extent that is there
abbrev pub count_in : PhysicalExtent → ℕ → ℕ
count_in entry extent = if extent == entry.last then entry.count else 128

-- the place of a record's block among those of its entry
abbrev pub block_place : Kind → ℕ → ℕ
block_place kind n = n / block_records kind % places kind

-- a record of an entry, visible or not, where its block is held
abbrev pub record_in : Kind → ℕ → PhysicalExtent → Option (List ℕ)
record_in kind n entry =
    option_map (λ records. slice_index_or records (n % block_records kind) []) (slice_index_or entry.blocks (block_place kind n) None)

unfoldable pub record_of : Drive → FileName → ℕ → Option (List ℕ)
record_of drive file n = option_and_then (record_in drive.kind n) (get drive.extents (entry_name drive.kind file (n / 128)))

-- a record that is visible: below the record count of its extent
abbrev pub visible_in : Kind → ℕ → PhysicalExtent → Option (List ℕ)
visible_in kind n entry = if nat_lt (n % 128) (count_in entry (n / 128)) then record_in kind n entry else None

unfoldable pub visible_of : Drive → FileName → ℕ → Option (List ℕ)
visible_of drive file n = option_and_then (visible_in drive.kind n) (extent_at drive file (n / 128))

-- the entries of a file, in the order of their numbers
abbrev pub is_of : FileName → (EntryName × PhysicalExtent) → Bool
is_of file entry = (entry.0.user == file.user) && bytes_eq entry.0.name file.name

unfoldable pub extents_of : Drive → FileName → List (EntryName × PhysicalExtent)
extents_of drive file = filter (is_of file) (entries drive.extents)

-- what is free
abbrev pub held_blocks : PhysicalExtent → ℕ
held_blocks entry = count_by is_some entry.blocks

unfoldable pub free_records : Drive → ℕ
free_records drive =
    (last_block drive.kind + 1 - (geometry_of drive.kind).directory_blocks - sum_by held_blocks (values drive.extents)) * block_records drive.kind

unfoldable pub free_entries : Drive → ℕ
free_entries drive =
    (geometry_of drive.kind).drm + 1 - (len drive.extents + len drive.xfcbs + (if is_some drive.label then 1 else 0) + drive.kept)

-- changes
abbrev pub with_extent : Drive → EntryName → PhysicalExtent → Drive
with_extent drive name entry = record drive { extents = insert drive.extents name entry }

abbrev pub without_extent : Drive → EntryName → Drive
without_extent drive name = record drive { extents = remove drive.extents name }

abbrev pub with_xfcb : Drive → FileName → Protection → Drive
with_xfcb drive name xfcb = record drive { xfcbs = insert drive.xfcbs name xfcb }

abbrev pub without_xfcb : Drive → FileName → Drive
without_xfcb drive name = record drive { xfcbs = remove drive.xfcbs name }

-- a record of a block that is held has other bytes
abbrev pub with_record_in : PhysicalExtent → ℕ → ℕ → List ℕ → PhysicalExtent
with_record_in entry place r bytes =
    record entry { blocks = slice_set entry.blocks place (option_map (λ records. slice_set records r bytes) (slice_index_or entry.blocks place None)) }
