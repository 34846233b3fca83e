-- What each part of a unit asks of a mounted drive and its disk, and what it leaves of them.
use Rattle.std.specs.Prelude.{◌≡◌, ℕ, ◌+◌, ◌/◌, ◌<◌, ◌≤◌, true, false, List, [], ◌∷◌, Option, Some, None, length, IfOk, OnOk, IsSome, Result}
use Rattle.mpm_port.specs.Disks.{Disks}
use Rattle.mpm_port.specs.declared.drives.Drives.{Ghosts}
use Rattle.mpm_blocks.specs.Geometries.{geometry_of, block_records, logical_sectors}
use Rattle.mpm_blocks.specs.Sectors.{sectors_of}
use Rattle.mpm_cache.specs.declared.cache.SectorPlace.{SectorPlace}
use Rattle.mpm_dirent.specs.declared.kinds.Entry.{Entry}
use Rattle.mpm_dirent.specs.declared.kinds.Entry.TheVariants.{File}
use Rattle.mpm_dirent.specs.declared.kinds.FileEntry.{FileEntry}
use Rattle.mpm_dirent.specs.declared.limits.TheConstants.{LAST_EXTENT, LAST_NAMED}
use Rattle.mpm_dirent.specs.Proper.{IsProper}
use Rattle.mpm_sectors.specs.declared.disk.FreshBlock.{FreshBlock}
use Rattle.mpm_sectors.specs.declared.disk.SlotEntry.{SlotEntry}
use Rattle.mpm_sectors.specs.Disks.{IsReadyDisk}
use Rattle.mpm_sectors.specs.Writes.{Write, Puts, block_calls}
use Rattle.mpm_mount.specs.Drives.{FileName, Drive, record_of, visible_of}
use Rattle.mpm_mount.specs.Directories.{Directory, entry_in, with_entry, others, extent_slot, xfcb_slot, label_slot, free_slot, free_block}
use Rattle.mpm_mount.specs.Faults.{cause_of, extent_of}
use Rattle.mpm_mount.specs.Files.{is_file}
use Rattle.mpm_mount.specs.Records.{record_error}
use Rattle.mpm_jobs.specs.declared.jobs.Job.{Job}
use Rattle.mpm_files.specs.declared.lookups.FoundEntry.{FoundEntry}
use Rattle.mpm_files.specs.Units.{FileUnit, ReadsRecord, ClearsBlock, with_stamp}
use Rattle.mpm_files.specs.Plans.{clears_blocks, file_of_job, new_file_of_job}
use Rattle.mpm_files.specs.Counting.{lacks_entry, lacks_block}
use Rattle.mpm_files.specs.Lookups.{HasEntry, HasXfcbBeside, IsRecordCached}
use Rattle.mpm_files.specs.Standing.{OnItsImage, exchanged_in, GoesThrough, DoesUnit, HasFreshBlock, StandsCleared}
use Rattle.mpm_files.specs.Working.{UsesDisk}

-- the disk is ready, and a directory entry may come into a slot: it is proper, and has no fault beside the others
pub record MayPutEntry (disks : Disks) (d : Directory) (cached : List (SectorPlace × List ℕ)) (into : ℕ) (entry : Entry) : Type 0 where
  pub ready : IsReadyDisk disks d.drive d.kind cached
  pub slot : into ≤ (geometry_of d.kind).drm
  pub proper : IsProper (geometry_of d.kind).wide entry
  pub faultless : cause_of d.kind (others d.entries into) entry ≡ None

-- the same of two entries, whose slots are in one sector
pub record MayPutEntries (disks : Disks) (d : Directory) (cached : List (SectorPlace × List ℕ)) (first second : SlotEntry) : Type 0 where
  pub ready : IsReadyDisk disks d.drive d.kind cached
  pub slot : first.slot ≤ (geometry_of d.kind).drm
  pub same : second.slot / 4 ≡ first.slot / 4
  pub proper : IsProper (geometry_of d.kind).wide first.entry
  pub second_proper : IsProper (geometry_of d.kind).wide second.entry
  pub faultless : cause_of d.kind (others d.entries first.slot) first.entry ≡ None
  pub second_faultless : cause_of d.kind (others (with_entry d first.slot first.entry).entries second.slot) second.entry ≡ None

-- the same of a file's entry, where its slot has a file's entry already
pub record MayPutStamped (disks : Disks) (d : Directory) (cached : List (SectorPlace × List ℕ)) (placed : FoundEntry) : Type 0 where
  pub ready : IsReadyDisk disks d.drive d.kind cached
  pub slot : placed.slot ≤ (geometry_of d.kind).drm
  pub was : is_file (entry_in d placed.slot) ≡ true
  pub proper : IsProper (geometry_of d.kind).wide (File placed.file)
  pub faultless : cause_of d.kind (others d.entries placed.slot) (File placed.file) ≡ None

-- the disk is ready, and an entry of a job's file may be added for an extent that a file can have, by a user from 0 to 15: there is none
-- for it, and a slot is free
pub record MayAddEntry (disks : Disks) (d : Directory) (cached : List (SectorPlace × List ℕ)) (job : Job) (extent : ℕ) : Type 0 where
  pub ready : IsReadyDisk disks d.drive d.kind cached
  pub user : job.user < 16
  pub small : extent ≤ LAST_EXTENT
  pub none : extent_slot d (file_of_job job) extent ≡ None
  pub room : IsSome (free_slot d)

-- the disk is ready, and an XFCB of a user from 0 to 15, or the label, may be put: there is one, or a slot is free
pub record MayPutXfcb (disks : Disks) (d : Directory) (cached : List (SectorPlace × List ℕ)) (job : Job) : Type 0 where
  pub ready : IsReadyDisk disks d.drive d.kind cached
  pub user : job.user < 16
  pub room : xfcb_slot d (file_of_job job) ≡ None → IsSome (free_slot d)

pub record MayPutLabel (disks : Disks) (d : Directory) (cached : List (SectorPlace × List ℕ)) : Type 0 where
  pub ready : IsReadyDisk disks d.drive d.kind cached
  pub room : label_slot d ≡ None → IsSome (free_slot d)

-- the disk is ready, and a slot has a file's entry
pub record MayChangeFile (disks : Disks) (d : Directory) (cached : List (SectorPlace × List ℕ)) (into : ℕ) : Type 0 where
  pub ready : IsReadyDisk disks d.drive d.kind cached
  pub within : into ≤ (geometry_of d.kind).drm
  pub was : is_file (entry_in d into) ≡ true

-- the same of an entry of a job's user, where the new name of the job has no such entry
pub record MayRenameEntry (disks : Disks) (d : Directory) (cached : List (SectorPlace × List ℕ)) (job : Job) (into : ℕ) : Type 0 where
  pub ready : IsReadyDisk disks d.drive d.kind cached
  pub within : into ≤ (geometry_of d.kind).drm
  pub file : FileEntry
  pub entry : entry_in d into ≡ File file
  pub user : file.user ≡ job.user
  pub free : extent_slot d (new_file_of_job job) (extent_of file) ≡ None

-- the disk is ready, and the file of a job has an XFCB, but its new name has none
pub record MayRenameXfcb (disks : Disks) (d : Directory) (cached : List (SectorPlace × List ℕ)) (job : Job) : Type 0 where
  pub ready : IsReadyDisk disks d.drive d.kind cached
  pub there : IsSome (xfcb_slot d (file_of_job job))
  pub free : xfcb_slot d (new_file_of_job job) ≡ None

-- the disk is ready, and the block of a record that a call can name is held
pub record MayMoveRecord (disks : Disks) (d : Directory) (cached : List (SectorPlace × List ℕ)) (file : FileName) (n : ℕ) : Type 0 where
  pub ready : IsReadyDisk disks d.drive d.kind cached
  pub number : n ≤ LAST_NAMED
  pub held : lacks_block d file n ≡ false

-- the disk is ready, a record that a call can name has a directory entry in which it lacks a block, and a fresh block is there for it, by
-- the disk's image
pub record MayFillBlock (disks : Disks) (d : Directory) (cached : List (SectorPlace × List ℕ)) (file : FileName) (n : ℕ) (cleared : Option ℕ) : Type 0 where
  pub ready : IsReadyDisk disks d.drive d.kind cached
  pub number : n ≤ LAST_NAMED
  pub entry : lacks_entry d file n ≡ false
  pub lacks : lacks_block d file n ≡ true
  pub image : List ℕ
  pub told : disks.image d.drive ≡ Some image
  pub fresh : HasFreshBlock (clears_blocks d.kind) (sectors_of image d.kind) d cleared

-- the disk is ready, its blocks are cleared in turns of their own, and one is free
pub record MayClearNext (disks : Disks) (d : Directory) (cached : List (SectorPlace × List ℕ)) : Type 0 where
  pub ready : IsReadyDisk disks d.drive d.kind cached
  pub clears : clears_blocks d.kind ≡ true
  pub free : IsSome (free_block d)

-- the disk is ready, and a record has a directory entry
pub record MayRaiseEntry (disks : Disks) (d : Directory) (cached : List (SectorPlace × List ℕ)) (file : FileName) (n into : ℕ) (f : FileEntry) : Type 0 where
  pub ready : IsReadyDisk disks d.drive d.kind cached
  pub entry : HasEntry d file n into f

-- and the lowest free block is this one
pub record MayTakeBlock (disks : Disks) (d : Directory) (cached : List (SectorPlace × List ℕ)) (file : FileName) (n into : ℕ) (f : FileEntry) (block : ℕ) : Type 0 where
  pub ready : IsReadyDisk disks d.drive d.kind cached
  pub entry : HasEntry d file n into f
  pub free : free_block d ≡ Some block

-- the disk is ready, and a sector is one of it
pub record MayPutSector (disks : Disks) (d : Directory) (cached : List (SectorPlace × List ℕ)) (sector : ℕ) : Type 0 where
  pub ready : IsReadyDisk disks d.drive d.kind cached
  pub within : sector < logical_sectors d.kind

-- the disk is ready, a block is the lowest free one, and a record may come to a place in it by 16 calls at most
pub record MayPutBlock (disks : Disks) (d : Directory) (cached : List (SectorPlace × List ℕ)) (block : FreshBlock) (place : ℕ) : Type 0 where
  pub ready : IsReadyDisk disks d.drive d.kind cached
  pub free : free_block d ≡ Some block.number
  pub clear : block.clear ≤ block_records d.kind
  pub index : place < block_records d.kind
  pub few : block_calls d.kind block.clear place ≤ 16

-- the disk is ready, and a block that is cleared in a turn of its own is the lowest free one
pub record MayClearBlock (disks : Disks) (d : Directory) (cached : List (SectorPlace × List ℕ)) (block : ℕ) : Type 0 where
  pub ready : IsReadyDisk disks d.drive d.kind cached
  pub clears : clears_blocks d.kind ≡ true
  pub free : free_block d ≡ Some block

-- a drive of files goes through others, which are said for each image and drive that the directory stands for; the disk is used for it
pub record GoesByDisk {D A E : Type 0} (of : Ghosts D) (most : ℕ) (old_directory new_directory : Directory) (old_cached new_cached : List (SectorPlace × List ℕ)) (old new : D) (old_calls new_calls : ℕ) (said : List ℕ → Drive → (List Drive → Type 0) → Type 0) (result : Result A E) : Type 0 where
  pub puts : OnItsImage (of.disks old) old_directory (λ image files. said image files (λ later. GoesThrough (of.disks new) old_directory.drive new_directory files later result))
  pub works : UsesDisk of most old_directory new_directory old_cached new_cached old new old_calls new_calls result

-- a unit is done, which is said for each image and drive that the directory stands for; the disk is used for it
pub record DoesByDisk {D A E : Type 0} (of : Ghosts D) (most : ℕ) (old_directory new_directory : Directory) (old_cached new_cached : List (SectorPlace × List ℕ)) (old new : D) (old_calls new_calls : ℕ) (said : List ℕ → Drive → (FileUnit → Type 0) → Type 0) (result : Result A E) : Type 0 where
  pub does : OnItsImage (of.disks old) old_directory (λ image files. said image files (λ unit. DoesUnit (of.disks new) old_directory.drive new_directory files unit result))
  pub works : UsesDisk of most old_directory new_directory old_cached new_cached old new old_calls new_calls result

-- a file's entry is put in the place of another, and then the second stamp: by two calls at most where the file's XFCB is in the same sector
pub record PutsStamped {D A E : Type 0} (of : Ghosts D) (most : ℕ) (old_directory new_directory : Directory) (old_cached new_cached : List (SectorPlace × List ℕ)) (old new : D) (old_calls new_calls : ℕ) (placed : FoundEntry) (file : FileName) (moment : Option (List ℕ)) (result : Result A E) : Type 0 where
  pub puts : OnItsImage (of.disks old) old_directory (λ image files. GoesThrough (of.disks new) old_directory.drive new_directory files
      (with_stamp file moment files (exchanged_in image old_directory files placed.slot (File placed.file) ∷ [])) result)
  pub beside : IsSome moment → HasXfcbBeside old_directory file placed.slot → new_calls ≤ old_calls + 2
  pub works : UsesDisk of most old_directory new_directory old_cached new_cached old new old_calls new_calls result

-- these sectors are written, and the disk is used for it
pub record PutsByDisk {D A E : Type 0} (of : Ghosts D) (most : ℕ) (d : Directory) (old_cached new_cached : List (SectorPlace × List ℕ)) (old new : D) (old_calls new_calls : ℕ) (writes : List Write) (result : Result A E) : Type 0 where
  pub puts : Puts d.drive d.kind writes (of.disks old) (of.disks new) result
  pub works : UsesDisk of most d d old_cached new_cached old new old_calls new_calls result

-- the same, where the bytes of a record are among what is written
pub record PutsRecordByDisk {D A E : Type 0} (of : Ghosts D) (most : ℕ) (d : Directory) (old_cached new_cached : List (SectorPlace × List ℕ)) (old new : D) (old_calls new_calls : ℕ) (bytes : List ℕ) (writes : List Write) (result : Result A E) : Type 0 where
  pub puts : Puts d.drive d.kind writes (of.disks old) (of.disks new) result
  pub long : length bytes ≡ 128
  pub works : UsesDisk of most d d old_cached new_cached old new old_calls new_calls result

-- a record is read, visible or not. No call is made where its sector is cached, and no image changes
pub record ReadsByDisk {D A E : Type 0} (of : Ghosts D) (d : Directory) (old_cached new_cached : List (SectorPlace × List ℕ)) (old new : D) (old_calls new_calls : ℕ) (file : FileName) (n : ℕ) (out : List ℕ) (result : Result A E) : Type 0 where
  pub held : OnItsImage (of.disks old) d (λ image files. OnOk result (record_of files file n ≡ Some out))
  pub visible : OnItsImage (of.disks old) d (λ image files. record_error d file n ≡ None → OnOk result (visible_of files file n ≡ Some out))
  pub does : OnItsImage (of.disks old) d (λ image files. DoesUnit (of.disks new) d.drive d files (ReadsRecord file n) result)
  pub cached : IsRecordCached old_cached d file n → new_calls ≡ old_calls
  pub disks : of.disks new ≡ of.disks old
  pub unsynced : (other : ℕ) → of.unsynced new other ≡ of.unsynced old other
  pub works : UsesDisk of 1 d d old_cached new_cached old new old_calls new_calls result

-- the lowest free block is cleared, and the result says which one it is
pub record ClearsByDisk {D E : Type 0} (of : Ghosts D) (d : Directory) (old_cached new_cached : List (SectorPlace × List ℕ)) (old new : D) (old_calls new_calls : ℕ) (result : Result ℕ E) : Type 0 where
  pub block : IfOk result (λ block. free_block d ≡ Some block)
  pub does : OnItsImage (of.disks old) d (λ image files. (file : FileName) (n : ℕ) → DoesUnit (of.disks new) d.drive d files (ClearsBlock file n) result)
  pub cleared : OnItsImage (of.disks old) d (λ image files. IfOk result (λ block. StandsCleared (of.disks new) d files (Some block)))
  pub works : UsesDisk of 18 d d old_cached new_cached old new old_calls new_calls result
