-- What a turn leaves of a job in service, on the attached image of its drive.
use Rattle.std.specs.Prelude.{◌≡◌, ℕ, suc, ◌+◌, ◌*◌, ◌/◌, ◌%◌, ◌<◌, ◌≤◌, ◌==◌, ◌&&◌, not, Bool, false, List, ◌++◌, map, take, drop, replicate, Option, Some, None, is_some, nat_le, if◌then◌else◌, length, Result, OnOk, OnErr}
use Rattle.std.specs.List.{list_any}
use Rattle.std.specs.FinMap.{get}
use Rattle.mpm_port.specs.Disks.{Disks}
use Rattle.mpm_base.specs.Counts.{one_if}
use Rattle.mpm_blocks.specs.Geometries.{geometry_of}
use Rattle.mpm_cache.specs.declared.cache.SectorPlace.{SectorPlace}
use Rattle.mpm_dirent.specs.declared.kinds.Entry.TheVariants.{File}
use Rattle.mpm_dirent.specs.declared.kinds.FileEntry.{FileEntry}
use Rattle.mpm_dirent.specs.Proper.{IsProper}
use Rattle.mpm_dirent.specs.declared.kinds.XfcbEntry.{XfcbEntry}
use Rattle.mpm_dirent.specs.declared.kinds.LabelEntry.{LabelEntry}
use Rattle.mpm_dirent.specs.Names.{plain}
use Rattle.mpm_dirent.specs.declared.limits.TheConstants.{LAST_POSITION, LAST_RECORD}
use Rattle.mpm_mount.specs.declared.searching.Found.{Found}
use Rattle.mpm_mount.specs.Drives.{Drive, extents_of, free_entries}
use Rattle.mpm_mount.specs.Directories.{Directory, Stands, entry_in, xfcb_slot}
use Rattle.mpm_mount.specs.Attributes.{attributes_of}
use Rattle.mpm_mount.specs.Searching.{IsUnambiguous}
use Rattle.mpm_mount.specs.Files.{is_same_file, has_file, file_in, is_part_of}
use Rattle.mpm_jobs.specs.declared.jobs.JobKind.{JobKind}
use Rattle.mpm_jobs.specs.declared.jobs.JobKind.TheVariants.{Read, Write, TestWrite, Make, Delete, Rename, Attributes, Label, Xfcb, Nothing}
use Rattle.mpm_jobs.specs.declared.jobs.Job.{Job}
use Rattle.mpm_files.specs.declared.work.Work.{Work}
use Rattle.mpm_files.specs.Plans.{plan_of, turns_of, file_of_job, new_file_of_job, protection_in, unit_at}
use Rattle.mpm_files.specs.Serving.{units_done, IsInService}
use Rattle.mpm_files.specs.Lookups.{IsSoundDirectory, IsRecordCached}
use Rattle.mpm_files.specs.Standing.{StandsWithinUnit}

-- a file that is made isn't there, and there is a free entry for it, and one for its XFCB where that comes and isn't there
pub record MayMake (drive : Drive) (job : Job) : Type 0 where
  pub none : has_file drive (file_of_job job) ≡ false
  pub room : suc (one_if (not (job.count == 0) && not (is_some (get drive.xfcbs (file_of_job job))))) ≤ free_entries drive

-- a file is renamed to another name, of which no file is there
pub record MayRename (drive : Drive) (job : Job) : Type 0 where
  pub name : IsUnambiguous job.name
  pub other : is_same_file (new_file_of_job job) (file_of_job job) ≡ false
  pub none : has_file drive (new_file_of_job job) ≡ false

-- what is asked of a drive by the sort of a job. Of records that are written none is above the last that a file may have. A name by which
-- entries are sought one after the other fits one name alone. An XFCB or a label that comes has a free entry
abbrev pub SuitsKind : Drive → Job → JobKind → Type 0
SuitsKind drive job Read = Unit {0}
SuitsKind drive job Write = job.first + job.count ≤ LAST_RECORD + 1
SuitsKind drive job TestWrite = Unit {0}
SuitsKind drive job Make = MayMake drive job
SuitsKind drive job Delete = Unit {0}
SuitsKind drive job Rename = MayRename drive job
SuitsKind drive job Attributes = IsUnambiguous job.name
SuitsKind drive job Label = one_if (not (is_some drive.label)) ≤ free_entries drive
SuitsKind drive job Xfcb = one_if (not (is_some (get drive.xfcbs (file_of_job job)))) ≤ free_entries drive
SuitsKind drive job Nothing = Unit {0}

-- the slot of the XFCB that goes next in a deletion: that of the file whose last entry went
abbrev pub xfcb_due_by : Directory → ℕ → Option Found → Option ℕ
xfcb_due_by d user None = None
xfcb_due_by d user (Some found) =
    if list_any (is_part_of (file_in user found.name)) d.entries then None else xfcb_slot d (file_in user found.name)

abbrev pub xfcb_due : Directory → Work → Option ℕ
xfcb_due d work = xfcb_due_by d work.job.user work.last

-- the last entry that was changed, by the name of the job
abbrev pub last_named : List ℕ → Option Found → Option Found
last_named name None = None
last_named name (Some found) = Some (record found { name = name })

abbrev pub last_of_job : Work → Option Found
last_of_job work = last_named work.job.name work.last

-- the entries of a job's XFCB, and of its label
abbrev pub xfcb_of_job : Job → XfcbEntry
xfcb_of_job job =
    let protection = protection_in job in
    record { user = job.user; name = plain job.name; mode = protection.mode; decode = protection.decode; password = protection.password; first = protection.first; second = protection.second }

abbrev pub label_of_job : Job → LabelEntry
label_of_job job =
    let protection = protection_in job in
    record { name = job.new_name; mode = protection.mode; decode = protection.decode; password = protection.password; first = protection.first; second = protection.second }

-- a file's entry is in a slot
pub record IsFileAt (d : Directory) (slot : ℕ) (f : FileEntry) : Type 0 where
  pub sound : IsSoundDirectory d
  pub entry : entry_in d slot ≡ File f
  pub proper : IsProper (geometry_of d.kind).wide (File f)

-- a new entry of a job's file, for an extent: it has the attributes of the file, S1 is 0, and it holds no block
pub record IsNewEntry (d : Directory) (job : Job) (extent : ℕ) (f : FileEntry) : Type 0 where
  pub user : f.user ≡ job.user
  pub name : plain f.name ≡ plain job.name
  pub attributes : (image : List ℕ) (files : Drive) → Stands image d files → map (nat_le 128) f.name ≡ attributes_of (extents_of files (file_of_job job))
  pub low : f.ex ≡ extent % 32
  pub high : f.s2 ≡ extent / 32
  pub tail : f.s1 ≡ 0
  pub count : f.rc ≡ 0
  pub blocks : f.blocks ≡ replicate 16 0

-- the attributes F1' to F4' and T1' to T3' of a name, and F5' to F8' of another
abbrev pub marks_set : List ℕ → List ℕ → List ℕ
marks_set wanted old = take 4 wanted ++ (take 4 (drop 4 old) ++ drop 8 wanted)

-- a record more was read
abbrev pub with_record_read : Work → List ℕ → Work
with_record_read work bytes = record work {
  job = record work.job { bytes = take (128 * work.moved) work.job.bytes ++ (bytes ++ drop (128 * (work.moved + 1)) work.job.bytes) };
  moved = work.moved + 1;
}

-- the sector of the record that is read next is cached
abbrev pub IsNextCached : List (SectorPlace × List ℕ) → Directory → Work → Type 0
IsNextCached cached d work = IsRecordCached cached d (file_of_job work.job) (work.job.first + work.ended)

-- a turn that reads: one call of the drives at most, none where the sector of its record is cached, and no drive is owed a sync by it
pub record OnlyReads (cached : List (SectorPlace × List ℕ)) (d : Directory) (work : Work) (before now : ℕ) (old new : ℕ → Bool) : Type 0 where
  pub calls : now ≤ before + 1
  pub uncalled : IsNextCached cached d work → now ≡ before
  pub unsynced : (other : ℕ) → new other ≡ old other

-- a job that a drive may be asked for
pub record Suits (drive : Drive) (job : Job) : Type 0 where
  pub user : job.user < 16
  pub first : job.first ≤ LAST_POSITION
  pub count : job.count ≤ 16
  pub size : length job.bytes ≡ 4096
  pub kind : SuitsKind drive job job.kind

-- a job is in service on the attached image of a directory's drive, with j turns ended
pub record JobInService (disks : Disks) (d : Directory) (before : Drive) (job : Job) (j : ℕ) (work : Work) : Type 0 where
  pub image : List ℕ
  pub told : disks.image d.drive ≡ Some image
  pub service : IsInService image d before job j work

-- a job is in service that suited its drive, and a unit of it is left
pub record HasUnitLeft (disks : Disks) (d : Directory) (work : Work) : Type 0 where
  pub before : Drive
  pub job : Job
  pub ended : ℕ
  pub suits : Suits before job
  pub service : JobInService disks d before job ended work
  pub left : ended < length (plan_of before job).units

-- the same of a turn, of which a job without units has one too
pub record HasTurnLeft (disks : Disks) (d : Directory) (work : Work) : Type 0 where
  pub before : Drive
  pub job : Job
  pub ended : ℕ
  pub suits : Suits before job
  pub service : JobInService disks d before job ended work
  pub left : ended < turns_of before job

-- a device failed in the turn after j that have ended: the image stands within its unit
pub record Contained (disks : Disks) (drive : ℕ) (before : Drive) (job : Job) (j : ℕ) : Type 0 where
  pub within : StandsWithinUnit disks drive (units_done before job j) (unit_at before job j)

-- one turn more has ended
abbrev pub one_ended : Work → Work
one_ended work = record work { ended = work.ended + 1 }

-- a job that is in service was to do its next unit: after a success it is in service with one turn more, after a failure the image
-- stands within the unit
pub record DoesNext {A E : Type 0} (disks now : Disks) (d e : Directory) (old new : Work) (result : Result A E) : Type 0 where
  pub ok : (before : Drive) (job : Job) (j : ℕ) → Suits before job → JobInService disks d before job j old → j < length (plan_of before job).units
      → OnOk result (JobInService now e before job (suc j) (one_ended new))
  pub err : (before : Drive) (job : Job) (j : ℕ) → Suits before job → JobInService disks d before job j old → j < length (plan_of before job).units
      → OnErr result (Contained now d.drive before job j)
