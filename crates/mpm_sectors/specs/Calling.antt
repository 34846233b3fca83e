-- What each call on a disk leaves of cache and drives, and how many calls of the drives it takes.
use Rattle.std.specs.Prelude.{◌≡◌, ℕ, ◌+◌, ◌/◌, ◌<◌, [], ◌∷◌, true, List, Some, IsSome, IsOk, Result, OnOk, OnErr, is_some, if◌then◌else◌}
use Rattle.mpm_port.specs.declared.drives.Drives.{Ghosts}
use Rattle.mpm_port.specs.Causes.{HasCause}
use Rattle.mpm_blocks.specs.Geometries.{geometry_of, place_of}
use Rattle.mpm_blocks.specs.Sectors.{sectors_of}
use Rattle.mpm_dirent.specs.declared.kinds.Entry.{Entry}
use Rattle.mpm_cache.specs.declared.cache.SectorPlace.{SectorPlace}
use Rattle.mpm_cache.specs.Cached.{cached_at}
use Rattle.mpm_sectors.specs.declared.disk.Disk.{Disk}
use Rattle.mpm_sectors.specs.declared.disk.FreshBlock.{FreshBlock}
use Rattle.mpm_sectors.specs.declared.disk.SlotEntry.{SlotEntry}
use Rattle.mpm_sectors.specs.Writes.{Puts, zeros_from, block_writes, block_calls}
use Rattle.mpm_sectors.specs.Slots.{IsReadBack, slot_write, slots_write}
use Rattle.mpm_sectors.specs.Disks.{TakesCalls, slot_calls, LeavesDisks}

-- a sector was read, without a call of the drives where it is cached, and by one where it isn't
pub record ReadsSector {D A E : Type 0} (of : Ghosts D) (disk : Disk) (sector : ℕ) (out : List ℕ) (cached new : List (SectorPlace × List ℕ)) (old now : D) (steps after : ℕ) (result : Result A E) : Type 0 where
  pub bytes : (image : List ℕ) → (of.disks old).image disk.drive ≡ Some image → OnOk result (out ≡ sectors_of image disk.kind sector)
  pub calls : after ≡ (if is_some (cached_at cached disk.drive (place_of disk.kind sector)) then steps else steps + 1)
  pub succeeds : IsSome (cached_at cached disk.drive (place_of disk.kind sector)) → IsOk result
  pub uncalled : IsSome (cached_at cached disk.drive (place_of disk.kind sector)) → now ≡ old
  pub leaves : LeavesDisks of.disks of.told of.failed_names of.unsynced disk.drive cached new old now
  pub disks : of.disks now ≡ of.disks old
  pub told : of.told now ≡ of.told old
  pub unsynced : of.unsynced now ≡ of.unsynced old
  pub cause : HasCause (of.faults old) (of.faults now) result

-- a sector was written by one call of the drives
pub record PutsSector {D A E : Type 0} (of : Ghosts D) (disk : Disk) (sector : ℕ) (bytes : List ℕ) (cached new : List (SectorPlace × List ℕ)) (old now : D) (steps after : ℕ) (result : Result A E) : Type 0 where
  pub puts : Puts disk.drive disk.kind (record { sector = sector; bytes = bytes } ∷ []) (of.disks old) (of.disks now) result
  pub calls : after ≡ steps + 1
  pub leaves : LeavesDisks of.disks of.told of.failed_names of.unsynced disk.drive cached new old now
  pub unsynced : of.unsynced now disk.drive ≡ true
  pub cause : HasCause (of.faults old) (of.faults now) result

-- zeros were written into some sectors in a row, by a call of the drives each
pub record ClearsSectors {D A E : Type 0} (of : Ghosts D) (disk : Disk) (first count : ℕ) (cached new : List (SectorPlace × List ℕ)) (old now : D) (steps after : ℕ) (result : Result A E) : Type 0 where
  pub puts : Puts disk.drive disk.kind (zeros_from first count) (of.disks old) (of.disks now) result
  pub calls : TakesCalls steps after count result
  pub leaves : LeavesDisks of.disks of.told of.failed_names of.unsynced disk.drive cached new old now
  pub unsynced : OnErr result (of.unsynced now disk.drive ≡ true)
  pub owed : 0 < count → of.unsynced now disk.drive ≡ true
  pub cause : HasCause (of.faults old) (of.faults now) result

-- a record was written into a fresh allocation block, after zeros in those of its other sectors that aren't zeros
pub record PutsBlock {D A E : Type 0} (of : Ghosts D) (disk : Disk) (block : FreshBlock) (index : ℕ) (bytes : List ℕ) (cached new : List (SectorPlace × List ℕ)) (old now : D) (steps after : ℕ) (result : Result A E) : Type 0 where
  pub puts : Puts disk.drive disk.kind (block_writes disk.kind block.number block.clear index bytes) (of.disks old) (of.disks now) result
  pub calls : TakesCalls steps after (block_calls disk.kind block.clear index) result
  pub leaves : LeavesDisks of.disks of.told of.failed_names of.unsynced disk.drive cached new old now
  pub unsynced : of.unsynced now disk.drive ≡ true
  pub cause : HasCause (of.faults old) (of.faults now) result

-- a directory entry was written into its slot
pub record PutsSlot {D A E : Type 0} (of : Ghosts D) (disk : Disk) (slot : ℕ) (entry : Entry) (cached new : List (SectorPlace × List ℕ)) (old now : D) (steps after : ℕ) (result : Result A E) : Type 0 where
  pub puts : (image : List ℕ) → (of.disks old).image disk.drive ≡ Some image
      → Puts disk.drive disk.kind (slot_write disk.kind image slot entry ∷ []) (of.disks old) (of.disks now) result
  pub read : IsReadBack (geometry_of disk.kind).wide entry
  pub calls : TakesCalls steps after (slot_calls cached disk.drive disk.kind (slot / 4)) result
  pub leaves : LeavesDisks of.disks of.told of.failed_names of.unsynced disk.drive cached new old now
  pub unsynced : OnOk result (of.unsynced now disk.drive ≡ true)
  pub cause : HasCause (of.faults old) (of.faults now) result

-- two directory entries were written into their slots, which are of one sector
pub record PutsSlots {D A E : Type 0} (of : Ghosts D) (disk : Disk) (first second : SlotEntry) (cached new : List (SectorPlace × List ℕ)) (old now : D) (steps after : ℕ) (result : Result A E) : Type 0 where
  pub puts : (image : List ℕ) → (of.disks old).image disk.drive ≡ Some image
      → Puts disk.drive disk.kind (slots_write disk.kind image first.slot first.entry second.slot second.entry ∷ []) (of.disks old) (of.disks now) result
  pub read : IsReadBack (geometry_of disk.kind).wide first.entry
  pub second_read : IsReadBack (geometry_of disk.kind).wide second.entry
  pub calls : TakesCalls steps after (slot_calls cached disk.drive disk.kind (first.slot / 4)) result
  pub leaves : LeavesDisks of.disks of.told of.failed_names of.unsynced disk.drive cached new old now
  pub unsynced : OnOk result (of.unsynced now disk.drive ≡ true)
  pub cause : HasCause (of.faults old) (of.faults now) result
