-- What lookups in a directory and the counts of a job's units ask and answer.
use Rattle.std.specs.Prelude.{◌≡◌, ℕ, ◌/◌, ◌≤◌, Bool, true, false, List, Option, None, IfSome, IfNone}
use Rattle.mpm_blocks.specs.Geometries.{geometry_of}
use Rattle.mpm_dirent.specs.declared.limits.TheConstants.{LAST_NAMED, LAST_POSITION}
use Rattle.mpm_mount.specs.Drives.{FileName, Drive}
use Rattle.mpm_mount.specs.Directories.{Directory, Stands, entry_in, xfcb_slot}
use Rattle.mpm_mount.specs.Files.{is_file}
use Rattle.mpm_jobs.specs.declared.jobs.Job.{Job}
use Rattle.mpm_files.specs.declared.counting.Needs.{Needs}
use Rattle.mpm_files.specs.declared.counting.Room.{Room}
use Rattle.mpm_files.specs.declared.lookups.FoundXfcb.{FoundXfcb}
use Rattle.mpm_files.specs.declared.work.Work.{Work}
use Rattle.mpm_files.specs.Counting.{lacks_entry, unit_count}
use Rattle.mpm_files.specs.Lookups.{HasXfcb, HasXfcbBeside}
use Rattle.mpm_files.specs.Serving.{IsInService, begun}

-- a record may be named, and has a directory entry
pub record IsEntered (d : Directory) (file : FileName) (n : ℕ) : Type 0 where
  pub number : n ≤ LAST_NAMED
  pub entry : lacks_entry d file n ≡ false

-- a file's XFCB is found, or it has none
pub record FindsXfcb (d : Directory) (file : FileName) (answer : Option FoundXfcb) : Type 0 where
  pub found : IfSome answer (λ found. HasXfcb d file found.slot found.xfcb)
  pub missing : IfNone answer (xfcb_slot d file ≡ None)

-- a file's XFCB is found in the sector of a slot, or there is none in it
pub record FindsXfcbBeside (d : Directory) (file : FileName) (slot : ℕ) (answer : Option FoundXfcb) : Type 0 where
  pub found : IfSome answer (λ found. HasXfcb d file found.slot found.xfcb)
  pub beside : IfSome answer (λ found. found.slot / 4 ≡ slot / 4)
  pub missing : IfNone answer (HasXfcbBeside d file slot → ⊥)

-- a slot is one of a directory, and has a file's entry
pub record HasFileAt (d : Directory) (slot : ℕ) : Type 0 where
  pub within : slot ≤ (geometry_of d.kind).drm
  pub was : is_file (entry_in d slot) ≡ true

-- the first record of a job is at a position that a block can have, and it has 16 records at most
pub record HasFewRecords (job : Job) : Type 0 where
  pub first : job.first ≤ LAST_POSITION
  pub count : job.count ≤ 16

-- a job is begun with all its units to do, and is in service on each drive that the directory stands for
pub record BeginsJobOn (d : Directory) (job : Job) (answer : Work) : Type 0 where
  pub work : answer ≡ begun job (unit_count d job)
  pub service : (image : List ℕ) (before : Drive) → Stands image d before → IsInService image d before job 0 answer

-- so many directory entries are free, and free blocks have room for so many records
pub record HasFreeRoom (free_entries free_records : ℕ) (room : Room) : Type 0 where
  pub entries : room.entries ≡ free_entries
  pub records : room.records ≡ free_records

-- whether a record needs a directory entry, and whether it needs a block
pub record HasNeeds (needs_entry needs_block : Bool) (needs : Needs) : Type 0 where
  pub entry : needs.entry ≡ needs_entry
  pub block : needs.block ≡ needs_block
