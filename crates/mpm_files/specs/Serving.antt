-- What a call has come to after the first of its turns, and what its cursor says is left of them.
use Rattle.std.specs.Prelude.{◌≡◌, ℕ, suc, ◌+◌, ◌-◌, ◌*◌, ◌<◌, ◌==◌, Bool, true, false, List, [], ◌∷◌, ◌++◌, Option, Some, None, length, map, max, take, drop, is_some, IfSome, nat_lt, sum_by, if◌then◌else◌}
use Rattle.std.specs.List.{filter, flat_map, range_with_len, list_any}
use Rattle.mpm_base.specs.declared.kind.Kind.{Kind}
use Rattle.mpm_dirent.specs.Names.{plain}
use Rattle.mpm_blocks.specs.Geometries.{block_records}
use Rattle.mpm_blocks.specs.Sectors.{Sectors, sectors_of}
use Rattle.mpm_mount.specs.declared.searching.Found.{Found}
use Rattle.mpm_mount.specs.Drives.{FileName, Drive, entry_number, extents_of, visible_of}
use Rattle.mpm_mount.specs.Directories.{Directory, Stands, free_block}
use Rattle.mpm_mount.specs.Files.{where_there, entries_named, has_file}
use Rattle.mpm_mount.specs.Attributes.{attributes_in}
use Rattle.mpm_file_functions.specs.declared.errors.RecordError.{RecordError}
use Rattle.mpm_file_functions.specs.declared.errors.RecordError.TheVariants.{UnwrittenExtent, UnwrittenData, Mismatch, NoDirectorySpace, NoDataBlock}
use Rattle.mpm_jobs.specs.declared.jobs.JobKind.{JobKind}
use Rattle.mpm_jobs.specs.declared.jobs.JobKind.TheVariants.{Read, Write, TestWrite, Make, Delete, Rename, Attributes, Label, Xfcb, Nothing}
use Rattle.mpm_jobs.specs.declared.jobs.Job.{Job}
use Rattle.mpm_files.specs.declared.counting.Count.{Count}
use Rattle.mpm_files.specs.declared.work.Work.{Work}
use Rattle.mpm_sectors.specs.Writes.{zero_record}
use Rattle.mpm_files.specs.Units.{FileUnit, Idles, ReadsRecord, PassesRecord, AddsEntry, ClearsBlock, WritesRecord, RemovesEntry, SetsAttributes, RenamesEntry, PutsXfcb, RemovesXfcb, RenamesXfcb, PutsLabel, applied, all_applied}
use Rattle.mpm_files.specs.Plans.{CallPlan, TestedRecord, file_of_job, new_file_of_job, has_record, each, of_xfcb, deleting, renaming, protection_in, making, records_of_job, tests_of_job, needs_entry, plan_by, plan_of, turns_of, write_units}

-- the drive after the first j turns of a call
abbrev pub units_done : Drive → Job → ℕ → Drive
units_done drive job j = all_applied drive (take j (plan_of drive job).units)

-- a record that is read or written is moved
abbrev pub records_moved : FileUnit → ℕ
records_moved (ReadsRecord file n) = 1
records_moved (WritesRecord file n bytes stamp) = 1
records_moved (Idles file stamp) = 0
records_moved (PassesRecord file n) = 0
records_moved (AddsEntry file extent) = 0
records_moved (ClearsBlock file n) = 0
records_moved (RemovesEntry file number) = 0
records_moved (SetsAttributes file number attributes) = 0
records_moved (RenamesEntry file number other) = 0
records_moved (PutsXfcb file xfcb) = 0
records_moved (RemovesXfcb file) = 0
records_moved (RenamesXfcb file other) = 0
records_moved (PutsLabel label) = 0

abbrev pub moved_after : Drive → Job → ℕ → ℕ
moved_after drive job j = sum_by records_moved (take j (plan_of drive job).units)

-- the records that units read
abbrev pub record_read : Drive → FileUnit → List (List ℕ)
record_read drive (ReadsRecord file n) = where_there (visible_of drive file n) (λ bytes. bytes ∷ [])
record_read drive (WritesRecord file n bytes stamp) = []
record_read drive (Idles file stamp) = []
record_read drive (PassesRecord file n) = []
record_read drive (AddsEntry file extent) = []
record_read drive (ClearsBlock file n) = []
record_read drive (RemovesEntry file number) = []
record_read drive (SetsAttributes file number attributes) = []
record_read drive (RenamesEntry file number other) = []
record_read drive (PutsXfcb file xfcb) = []
record_read drive (RemovesXfcb file) = []
record_read drive (RenamesXfcb file other) = []
record_read drive (PutsLabel label) = []

unfoldable pub all_read : Drive → List FileUnit → List (List ℕ)
all_read drive [] = []
all_read drive (unit ∷ units) = record_read drive unit ++ all_read (applied drive unit) units

abbrev pub records_after : Drive → Job → ℕ → List (List ℕ)
records_after drive job j = all_read drive (take j (plan_of drive job).units)

-- whether a record had other bytes than were named
abbrev pub is_passing : FileUnit → Bool
is_passing (PassesRecord file n) = true
is_passing (ReadsRecord file n) = false
is_passing (WritesRecord file n bytes stamp) = false
is_passing (Idles file stamp) = false
is_passing (AddsEntry file extent) = false
is_passing (ClearsBlock file n) = false
is_passing (RemovesEntry file number) = false
is_passing (SetsAttributes file number attributes) = false
is_passing (RenamesEntry file number other) = false
is_passing (PutsXfcb file xfcb) = false
is_passing (RemovesXfcb file) = false
is_passing (RenamesXfcb file other) = false
is_passing (PutsLabel label) = false

abbrev pub missed_by : Drive → Job → ℕ → JobKind → Bool
missed_by drive job j TestWrite = list_any is_passing (take j (plan_of drive job).units)
missed_by drive job j Read = false
missed_by drive job j Write = false
missed_by drive job j Make = false
missed_by drive job j Delete = false
missed_by drive job j Rename = false
missed_by drive job j Attributes = false
missed_by drive job j Label = false
missed_by drive job j Xfcb = false
missed_by drive job j Nothing = false

abbrev pub has_missed : Drive → Job → ℕ → Bool
has_missed drive job j = missed_by drive job j job.kind

-- why a call ends is known once its last turn is done
abbrev pub error_after : Drive → Job → ℕ → Option RecordError
error_after drive job j = if nat_lt j (turns_of drive job) then None else (plan_of drive job).error

-- the units of these records, upon a drive as it is in the midst of them, if none could fail
unfoldable pub left_writing : Drive → Bool → FileName → ℕ → List (List ℕ) → Option (List ℕ) → List FileUnit
left_writing drive cleared file n [] stamp = []
left_writing drive cleared file n (bytes ∷ records) stamp =
    let units = write_units drive cleared file n bytes stamp in
    units ++ left_writing (all_applied drive units) false file (n + 1) records None

-- records that are read from n on; and that are passed
abbrev pub left_reading : FileName → ℕ → ℕ → List FileUnit
left_reading file n count = map (ReadsRecord file) (range_with_len n count)

abbrev pub left_passing : FileName → ℕ → ℕ → List FileUnit
left_passing file n count = map (PassesRecord file) (range_with_len n count)

-- records that are tested and written, up to one that has other bytes
unfoldable pub left_testing : Drive → FileName → ℕ → List TestedRecord → Option (List ℕ) → List FileUnit
left_testing drive file n [] stamp = []
left_testing drive file n (test ∷ tests) stamp =
    let unit = WritesRecord file n test.bytes stamp in
    if has_record drive file n test.expected then unit ∷ left_testing (applied drive unit) file (n + 1) tests None else left_passing file n (suc (length tests))

-- a stamp comes with the first record
abbrev pub stamp_left : Option (List ℕ) → ℕ → Option (List ℕ)
stamp_left stamp done = if done == 0 then stamp else None

-- of a deletion the entries that are there, and before them the XFCB of the file whose last entry went
abbrev pub xfcb_left : Drive → ℕ → Option Found → List FileUnit
xfcb_left drive user None = []
xfcb_left drive user (Some found) =
    let file : FileName = record { user = user; name = plain found.name } in
    if has_file drive file then [] else of_xfcb drive file (RemovesXfcb file)

-- of attributes the entries above the last that has them
abbrev pub is_later : Kind → Option Found → ℕ → Bool
is_later kind None number = true
is_later kind (Some found) number = nat_lt (entry_number kind found.extent) number

abbrev pub left_setting : Drive → FileName → List Bool → Option Found → List FileUnit
left_setting drive file attributes last =
    map (λ number. SetsAttributes file number attributes) (filter (is_later drive.kind last) (each (extents_of drive file) (λ entry. entry.0.number)))

-- what is left of a job, by its cursor and the drive as it then is, if no record could fail
abbrev pub left_by : Drive → Work → JobKind → List FileUnit
left_by drive work Read = left_reading (file_of_job work.job) (work.job.first + work.ended) (work.job.count - work.ended)
left_by drive work Write =
    left_writing drive (is_some work.cleared) (file_of_job work.job) (work.job.first + work.moved) (drop work.moved (records_of_job work.job)) (stamp_left work.job.stamp work.moved)
left_by drive work TestWrite =
    if work.has_missed then left_passing (file_of_job work.job) (work.job.first + work.ended) (work.job.count - work.ended)
    else (left_testing drive (file_of_job work.job) (work.job.first + work.ended) (drop work.ended (tests_of_job work.job)) (stamp_left work.job.stamp work.ended))
left_by drive work Make = drop work.ended (making work.job)
left_by drive work Delete = xfcb_left drive work.job.user work.last ++ deleting drive work.job.user work.job.name (entries_named drive)
left_by drive work Rename = renaming drive (file_of_job work.job) (new_file_of_job work.job)
left_by drive work Attributes = left_setting drive (file_of_job work.job) (attributes_in work.job.name) work.last
left_by drive work Label = drop work.ended (PutsLabel (record { name = work.job.new_name; protection = protection_in work.job }) ∷ [])
left_by drive work Xfcb = drop work.ended (PutsXfcb (file_of_job work.job) (protection_in work.job) ∷ [])
left_by drive work Nothing = drop work.ended (Idles (file_of_job work.job) work.job.stamp ∷ [])

unfoldable pub left_of : Drive → Work → List FileUnit
left_of drive work = left_by drive work work.job.kind

-- after j of some units these are left, or more: as many as if none could fail
pub record Follows (units : List FileUnit) (j : ℕ) (left : List FileUnit) : Type 0 where
  pub rest : List FileUnit
  pub same : drop j units ++ rest ≡ left

-- a job whose bytes begin with records that were read
abbrev pub with_records : Job → List (List ℕ) → Job
with_records job records = record job { bytes = flat_map (λ bytes. bytes) records ++ drop (128 * length records) job.bytes }

-- the plan as if each record that is tested had the bytes that are named
abbrev pub untested_by : Drive → Job → JobKind → CallPlan
untested_by drive job TestWrite = plan_by drive job Read
untested_by drive job Read = plan_by drive job Read
untested_by drive job Write = plan_by drive job Write
untested_by drive job Make = plan_by drive job Make
untested_by drive job Delete = plan_by drive job Delete
untested_by drive job Rename = plan_by drive job Rename
untested_by drive job Attributes = plan_by drive job Attributes
untested_by drive job Label = plan_by drive job Label
untested_by drive job Xfcb = plan_by drive job Xfcb
untested_by drive job Nothing = plan_by drive job Nothing

unfoldable pub untested_plan : Drive → Job → CallPlan
untested_plan drive job = untested_by drive job job.kind

-- a job with j turns ended: what it has come to, and what its cursor says is left. Before it, the drive was this one
pub record IsServingJob (before : Drive) (job : Job) (j : ℕ) (work : Work) : Type 0 where
  pub job_is : work.job ≡ with_records job (records_after before job j)
  pub units : work.units ≡ length (plan_of before job).units
  pub ended : work.ended ≡ j
  pub moved : work.moved ≡ moved_after before job j
  pub error : work.error ≡ (untested_plan before job).error
  pub missed : work.has_missed ≡ has_missed before job j
  pub left : Follows (plan_of before job).units j (left_of (units_done before job j) work)

-- a block that was cleared: it is the lowest free one, and so many of its first sectors are zeros
abbrev pub cleared_sectors : ℕ
cleared_sectors = 18

pub record IsCleared (sectors : Sectors) (d : Directory) (block : ℕ) : Type 0 where
  pub free : free_block d ≡ Some block
  pub zeros : (r : ℕ) → r < cleared_sectors → sectors (block * block_records d.kind + r) ≡ zero_record

-- it is in service on a drive: the image stands, with its directory in memory, for the drive after these turns; and a block is cleared for
-- a record that has its directory entry
pub record IsInService (image : List ℕ) (d : Directory) (before : Drive) (job : Job) (j : ℕ) (work : Work) : Type 0 where
  pub stands : Stands image d (units_done before job j)
  pub serving : IsServingJob before job j work
  pub cleared : IfSome work.cleared (IsCleared (sectors_of image d.kind) d)
  pub entered : is_some work.cleared ≡ true → needs_entry (units_done before job j) (file_of_job work.job) (work.job.first + work.moved) ≡ false

-- how many turns it takes
abbrev pub turns_in : Work → ℕ
turns_in work = max work.units 1

-- a job that begins
abbrev pub begun : Job → Count → Work
begun job count =
    record { job = job; units = count.units; ended = 0; moved = 0; error = count.error; has_missed = false; last = None; cleared = None }

-- why it ended, once it has; and the code of that, as functions 33 and 41 answer it, and 21 for a full directory
abbrev pub told_error : Work → Option RecordError
told_error work = if nat_lt work.ended (turns_in work) then None else (if work.has_missed then Some Mismatch else work.error)

abbrev pub error_code : Option RecordError → ℕ
error_code None = 0
error_code (Some UnwrittenData) = 1
error_code (Some NoDirectorySpace) = 1
error_code (Some NoDataBlock) = 2
error_code (Some UnwrittenExtent) = 4
error_code (Some Mismatch) = 7
