-- How many units a job comes to, counted in the directory before its first turn.
use Rattle.std.specs.Prelude.{ℕ, zero, suc, ◌+◌, ◌-◌, ◌/◌, ◌==◌, ◌&&◌, not, Bool, true, false, Option, Some, None, is_some, count_by, List, if◌then◌else◌}
use Rattle.std.specs.List.{list_any}
use Rattle.mpm_base.specs.declared.kind.Kind.{Kind}
use Rattle.mpm_base.specs.Counts.{one_if}
use Rattle.mpm_blocks.specs.Geometries.{block_records}
use Rattle.mpm_dirent.specs.declared.kinds.Entry.{Entry}
use Rattle.mpm_dirent.specs.declared.kinds.Entry.TheVariants.{Free, File, Xfcb, Label, Kept}
use Rattle.mpm_mount.specs.Drives.{FileName, entry_number, block_place}
use Rattle.mpm_mount.specs.Faults.{block_at}
use Rattle.mpm_mount.specs.Directories.{Directory, entry_in, extent_slot, xfcb_slot, free_records_in, free_entries_in}
use Rattle.mpm_mount.specs.Files.{is_fitting, file_in, is_part_of}
use Rattle.mpm_file_functions.specs.declared.errors.RecordError.{RecordError}
use Rattle.mpm_file_functions.specs.declared.errors.RecordError.TheVariants.{NoDirectorySpace, NoDataBlock}
use Rattle.mpm_jobs.specs.declared.jobs.JobKind.{JobKind}
use Rattle.mpm_jobs.specs.declared.jobs.JobKind.TheVariants as kinds
use Rattle.mpm_jobs.specs.declared.jobs.Job.{Job}
use Rattle.mpm_files.specs.declared.counting.Count.{Count}
use Rattle.mpm_files.specs.declared.searching.Sought.{Sought}
use Rattle.mpm_files.specs.declared.searching.Sought.TheVariants.{OfFile, Deleted}
use Rattle.mpm_files.specs.Plans.{file_of_job, new_file_of_job, clears_blocks}
use Rattle.mpm_mount.specs.Records.{record_error}

-- units of a record before those of others, or none where it can't be done
abbrev pub counted : ℕ → Count → Count
counted units count = record count { units = units + count.units }

abbrev pub unless_refused : Option RecordError → ℕ → Count → Count
unless_refused None units count = counted units count
unless_refused (Some error) units count = record { units = 0; error = Some error }

-- records from n on that are read, by what keeps each from being read
unfoldable pub read_count : (ℕ → Option RecordError) → ℕ → ℕ → Count
read_count errors n zero = record { units = 0; error = None }
read_count errors n (suc count) = unless_refused (errors n) 1 (read_count errors (n + 1) count)

-- records in one directory entry; in one block of it
abbrev pub same_entry : Kind → ℕ → ℕ → Bool
same_entry kind m n = entry_number kind (m / 128) == entry_number kind (n / 128)

abbrev pub same_block : Kind → ℕ → ℕ → Bool
same_block kind m n = same_entry kind m n && (block_place kind m == block_place kind n)

-- what a record needs that the record before it in the call hasn't brought
abbrev pub entry_more : Kind → (ℕ → Bool) → Bool → ℕ → Bool
entry_more kind entries later n = entries n && not (later && same_entry kind n (n - 1))

abbrev pub block_more : Kind → (ℕ → Bool) → Bool → ℕ → Bool
block_more kind blocks later n = blocks n && not (later && same_block kind n (n - 1))

-- with so many entries and records free
abbrev pub room_error : Bool → Bool → ℕ → ℕ → Option RecordError
room_error entry block entries records =
    if entry && (entries == 0) then Some NoDirectorySpace else (if block && (records == 0) then Some NoDataBlock else None)

abbrev pub record_units : Kind → Bool → Bool → ℕ
record_units kind entry block = 1 + one_if entry + one_if (clears_blocks kind && block)

-- records from n on that are written, by which of them need an entry or a block of the drive as it was
unfoldable pub write_count : Kind → (ℕ → Bool) → (ℕ → Bool) → ℕ → ℕ → Bool → ℕ → ℕ → Count
write_count kind entries blocks free_entries free_records later n zero = record { units = 0; error = None }
write_count kind entries blocks free_entries free_records later n (suc count) =
    let entry = entry_more kind entries later n in
    let block = block_more kind blocks later n in
    unless_refused (room_error entry block free_entries free_records) (record_units kind entry block)
    (write_count kind entries blocks (free_entries - one_if entry) (free_records - (if block then block_records kind else 0)) true (n + 1) count)

-- what a directory says of a record: whether a directory entry is there for it, and the number of its block, 0 where none is held
abbrev pub lacks_entry : Directory → FileName → ℕ → Bool
lacks_entry d file n = not (is_some (extent_slot d file (n / 128)))

abbrev pub number_in : Kind → ℕ → Entry → ℕ
number_in kind n (File f) = block_at f (block_place kind n)
number_in kind n Free = 0
number_in kind n (Xfcb x) = 0
number_in kind n (Label l) = 0
number_in kind n (Kept bytes) = 0

abbrev pub lacks_block_at : Directory → ℕ → Option ℕ → Bool
lacks_block_at d n None = true
lacks_block_at d n (Some slot) = number_in d.kind n (entry_in d slot) == 0

abbrev pub lacks_block : Directory → FileName → ℕ → Bool
lacks_block d file n = lacks_block_at d n (extent_slot d file (n / 128))

-- which directory entries are counted: those of a job's file, those that a deletion removes
abbrev pub is_deleted : Directory → ℕ → List ℕ → Entry → Bool
is_deleted d user pattern (File f) = is_fitting user pattern (file_in f.user f.name)
is_deleted d user pattern (Xfcb x) = is_fitting user pattern (file_in x.user x.name) && list_any (is_part_of (file_in x.user x.name)) d.entries
is_deleted d user pattern Free = false
is_deleted d user pattern (Label l) = false
is_deleted d user pattern (Kept bytes) = false

abbrev pub is_sought : Directory → Job → Sought → Entry → Bool
is_sought d job OfFile entry = is_part_of (file_of_job job) entry
is_sought d job Deleted entry = is_deleted d job.user job.name entry

-- how many units a job has, and why it ends, as if each record that is tested had the bytes that are named
abbrev pub only_units : ℕ → Count
only_units units = record { units = units; error = None }

abbrev pub reads_of : Directory → Job → Count
reads_of d job = read_count (record_error d (file_of_job job)) job.first job.count

abbrev pub renamed_count : Directory → Job → ℕ
renamed_count d job =
    count_by (is_part_of (file_of_job job)) d.entries + one_if (is_some (xfcb_slot d (file_of_job job))) + one_if (is_some (xfcb_slot d (new_file_of_job job)))

abbrev pub unit_count_by : Directory → Job → JobKind → Count
unit_count_by d job kinds.Read = reads_of d job
unit_count_by d job kinds.TestWrite = reads_of d job
unit_count_by d job kinds.Write =
    write_count d.kind (lacks_entry d (file_of_job job)) (lacks_block d (file_of_job job)) (free_entries_in d) (free_records_in d) false job.first job.count
unit_count_by d job kinds.Make = only_units (1 + one_if (not (job.count == 0)))
unit_count_by d job kinds.Delete = only_units (count_by (is_deleted d job.user job.name) d.entries)
unit_count_by d job kinds.Rename = only_units (renamed_count d job)
unit_count_by d job kinds.Attributes = only_units (count_by (is_part_of (file_of_job job)) d.entries)
unit_count_by d job kinds.Label = only_units 1
unit_count_by d job kinds.Xfcb = only_units 1
unit_count_by d job kinds.Nothing = only_units 1

unfoldable pub unit_count : Directory → Job → Count
unit_count d job = unit_count_by d job job.kind
