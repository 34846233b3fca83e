-- What one directory entry in the place of another makes of a drive, and of the sector that it is in.
use Rattle.std.specs.Prelude.{◌≡◌, ℕ, ◌+◌, ◌-◌, ◌*◌, ◌<◌, ◌≤◌, List, Option, Some, None, length, slice_set, if◌then◌else◌}
use Rattle.std.specs.declared.cmp.Ordering.{Ordering}
use Rattle.std.specs.FinMap.{FinMap, get, insert, remove}
use Rattle.mpm_base.specs.declared.kind.Kind.{Kind}
use Rattle.mpm_blocks.specs.Sectors.{Sectors}
use Rattle.mpm_dirent.specs.declared.kinds.Entry.{Entry}
use Rattle.mpm_dirent.specs.declared.kinds.Entry.TheVariants.{File}
use Rattle.mpm_dirent.specs.declared.kinds.FileEntry.{FileEntry}
use Rattle.mpm_mount.specs.declared.slots.EntryName.{EntryName}
use Rattle.mpm_mount.specs.Drives.{FileName, PhysicalExtent, DirectoryLabel, Drive, entry_number, places}
use Rattle.mpm_mount.specs.Faults.{extent_of, block_at}
use Rattle.mpm_mount.specs.Directories.{Directory, IsFreeBlock, entry_in}
use Rattle.mpm_mount.specs.Images.{extent_from, xfcb_from, label_from, is_kept}

-- a pair more, where there is one; a key less
abbrev pub with_pair : {K X : Type 0} {R : K → K → Ordering} → FinMap R X → Option (K × X) → FinMap R X
with_pair m None = m
with_pair m (Some pair) = insert m pair.0 pair.1

abbrev pub without_pair : {K X : Type 0} {R : K → K → Ordering} → FinMap R X → Option (K × X) → FinMap R X
without_pair m None = m
without_pair m (Some pair) = remove m pair.0

-- the label after an entry is replaced by another
abbrev pub label_after : Option DirectoryLabel → Option DirectoryLabel → Option DirectoryLabel → Option DirectoryLabel
label_after before old (Some new) = Some new
label_after before (Some old) None = None
label_after before None None = before

-- a drive in which one directory entry is replaced by another
unfoldable pub exchanged : Sectors → Drive → Entry → Entry → Drive
exchanged sectors drive old new = record drive {
  extents = with_pair (without_pair drive.extents (extent_from sectors drive.kind old)) (extent_from sectors drive.kind new);
  xfcbs = with_pair (without_pair drive.xfcbs (xfcb_from old)) (xfcb_from new);
  label = label_after drive.label (label_from old) (label_from new);
  kept = drive.kept + (if is_kept new then 1 else 0) - (if is_kept old then 1 else 0);
}

-- a file's entry with a block at a place, and another last extent and record count; and what it has then
abbrev pub with_block : FileEntry → ℕ → ℕ → ℕ → ℕ → ℕ → FileEntry
with_block f i block ex s2 rc = record f { ex = ex; s2 = s2; rc = rc; blocks = slice_set f.blocks i block }

abbrev pub with_contents : PhysicalExtent → ℕ → Option (List (List ℕ)) → ℕ → ℕ → PhysicalExtent
with_contents entry i contents last count = record entry { last = last; count = count; blocks = slice_set entry.blocks i contents }

-- the fields of a file's entry have their ranges
pub record HasRanges (f : FileEntry) : Type 0 where
  pub few : f.rc ≤ 128
  pub low : f.ex ≤ 31
  pub high : f.s2 ≤ 63

-- two entries have the same blocks
abbrev pub SameBlocks : Kind → FileEntry → FileEntry → Type 0
SameBlocks kind f g = (i : ℕ) → i < places kind → block_at g i ≡ block_at f i

-- an entry has no block
abbrev pub HasNoBlock : Kind → FileEntry → Type 0
HasNoBlock kind f = (i : ℕ) → i < places kind → block_at f i ≡ 0

-- a file's entry in a slot may take a free block: it stays that entry of its file, and each field has its range
pub record TakesBlock (d : Directory) (slot : ℕ) (f : FileEntry) (i block ex s2 rc : ℕ) : Type 0 where
  pub within : slot < length d.entries
  pub entry : entry_in d slot ≡ File f
  pub place : i < places d.kind
  pub room : i < length f.blocks
  pub free : IsFreeBlock d block
  pub few : rc ≤ 128
  pub low : ex ≤ 31
  pub high : s2 ≤ 63
  pub number : entry_number d.kind (32 * s2 + ex) ≡ entry_number d.kind (extent_of f)

-- the entries of one file alone differ
pub record OnlyFile (file : FileName) (old new : Drive) : Type 0 where
  pub kind : new.kind ≡ old.kind
  pub others : (name : EntryName) → (name.user ≡ file.user → name.name ≡ file.name → ⊥) → get new.extents name ≡ get old.extents name
