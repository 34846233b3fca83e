-- What is found in a directory: the entry of a record, a file's XFCB; and what they are to become.
use Rattle.std.specs.Prelude.{Bool, ◌≡◌, ◌≢◌, ℕ, ◌+◌, ◌*◌, ◌/◌, ◌%◌, ◌≤◌, ◌==◌, ◌&&◌, ◌||◌, List, Option, Some, None, length, nat_lt, nat_le, IsSome, IsSomeAnd, slice_set, if◌then◌else◌}
use Rattle.mpm_base.specs.declared.kind.Kind.{Kind}
use Rattle.mpm_blocks.specs.Geometries.{geometry_of, block_records, place_of}
use Rattle.mpm_cache.specs.declared.cache.SectorPlace.{SectorPlace}
use Rattle.mpm_cache.specs.Cached.{cached_at}
use Rattle.mpm_dirent.specs.declared.kinds.Entry.TheVariants.{File, Xfcb}
use Rattle.mpm_dirent.specs.declared.kinds.FileEntry.{FileEntry}
use Rattle.mpm_dirent.specs.declared.kinds.XfcbEntry.{XfcbEntry}
use Rattle.mpm_dirent.specs.Proper.{IsProper}
use Rattle.mpm_dirent.specs.declared.limits.TheConstants.{LAST_RECORD}
use Rattle.mpm_mount.specs.Drives.{FileName, Protection, block_place}
use Rattle.mpm_mount.specs.Faults.{extent_of, block_at, first_fault}
use Rattle.mpm_mount.specs.Directories.{Directory, entry_in, extent_slot, xfcb_slot}
use Rattle.mpm_files.specs.declared.stamps.Stamp.{Stamp}
use Rattle.mpm_files.specs.declared.stamps.Stamp.TheVariants.{First, Second}
use Rattle.mpm_files.specs.Units.{first_stamped, second_stamped}
use Rattle.mpm_files.specs.Counting.{number_in}

-- a directory has all its slots and no fault
pub record IsSoundDirectory (d : Directory) : Type 0 where
  pub full : length d.entries ≡ (geometry_of d.kind).drm + 1
  pub faultless : first_fault d.kind d.entries ≡ None

-- the entry that covers a record's extent
pub record HasEntry (d : Directory) (file : FileName) (n slot : ℕ) (f : FileEntry) : Type 0 where
  pub sound : IsSoundDirectory d
  pub found : extent_slot d file (n / 128) ≡ Some slot
  pub within : slot ≤ (geometry_of d.kind).drm
  pub entry : entry_in d slot ≡ File f
  pub proper : IsProper (geometry_of d.kind).wide (File f)
  pub number : n ≤ LAST_RECORD

-- a file's XFCB
pub record HasXfcb (d : Directory) (file : FileName) (slot : ℕ) (xfcb : XfcbEntry) : Type 0 where
  pub sound : IsSoundDirectory d
  pub found : xfcb_slot d file ≡ Some slot
  pub within : slot ≤ (geometry_of d.kind).drm
  pub entry : entry_in d slot ≡ Xfcb xfcb
  pub proper : IsProper (geometry_of d.kind).wide (Xfcb xfcb)

-- a file's XFCB is in the sector of a slot
abbrev pub HasXfcbBeside : Directory → FileName → ℕ → Type 0
HasXfcbBeside d file slot = IsSomeAnd (xfcb_slot d file) (λ other. other / 4 ≡ slot / 4)

-- the sector of a record, where its entry holds its block
pub record IsHeldAt (kind : Kind) (f : FileEntry) (n sector : ℕ) : Type 0 where
  pub held : block_at f (block_place kind n) ≢ 0
  pub at : sector ≡ block_at f (block_place kind n) * block_records kind + n % block_records kind

-- the same, by the slot of the entry
abbrev pub sector_at : Directory → ℕ → Option ℕ → ℕ
sector_at d n None = 0
sector_at d n (Some slot) = number_in d.kind n (entry_in d slot) * block_records d.kind + n % block_records d.kind

abbrev pub record_sector : Directory → FileName → ℕ → ℕ
record_sector d file n = sector_at d n (extent_slot d file (n / 128))

-- and it is cached
abbrev pub IsRecordCached : List (SectorPlace × List ℕ) → Directory → FileName → ℕ → Type 0
IsRecordCached cached d file n = IsSome (cached_at cached d.drive (place_of d.kind (record_sector d file n)))

-- a file's entry as a record leaves it: last extent and record count where they rise, and then S1 zero, by which other tools
-- cut a last record; a block at the record's place. ("File Control Block Definition": EX, S1, S2, RC, D0 to Dn.)
abbrev pub is_above : ℕ → FileEntry → Bool
is_above n f = nat_lt (extent_of f) (n / 128) || ((n / 128 == extent_of f) && nat_le f.rc (n % 128))

abbrev pub raised_entry : ℕ → FileEntry → FileEntry
raised_entry n f = if is_above n f then record f { ex = n / 128 % 32; s1 = 0; s2 = n / 128 / 32; rc = n % 128 + 1 } else f

abbrev pub with_number : Kind → ℕ → ℕ → FileEntry → FileEntry
with_number kind n block f = record f { blocks = slice_set f.blocks (block_place kind n) block }

abbrev pub taken_entry : Kind → ℕ → ℕ → FileEntry → FileEntry
taken_entry kind n block f = raised_entry n (with_number kind n block f)

-- an XFCB with one of its stamps. ("Date and Time Stamps".)
abbrev pub stamped_in : Stamp → List ℕ → Protection → Protection
stamped_in First = first_stamped
stamped_in Second = second_stamped

abbrev pub stamped_entry : Stamp → List ℕ → XfcbEntry → XfcbEntry
stamped_entry First moment xfcb = record xfcb { first = moment }
stamped_entry Second moment xfcb = record xfcb { second = moment }
