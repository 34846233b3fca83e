-- The units of a job, in order, each upon the drive that those before it left. (MP/M II Programmer's Guide, functions 15, 19 to
-- 23, 30, 33, 34, 40, 41, 100 and 103.)
use Rattle.std.specs.Prelude.{ℕ, zero, suc, ◌+◌, ◌*◌, ◌/◌, ◌==◌, ◌&&◌, not, Bool, false, List, [], ◌∷◌, ◌++◌, Option, Some, None, length, map, max, is_some, bytes_eq, slice_index, slice_index_or, slice_range, if◌then◌else◌}
use Rattle.std.specs.List.{range_with_len, list_any}
use Rattle.std.specs.FinMap.{get}
use Rattle.mpm_base.specs.declared.kind.Kind.{Kind}
use Rattle.mpm_dirent.specs.Names.{plain}
use Rattle.mpm_blocks.specs.Geometries.{geometry_of}
use Rattle.mpm_mount.specs.Drives.{FileName, PhysicalExtent, Protection, Drive, entry_name, extents_of, record_of, free_records, free_entries}
use Rattle.mpm_mount.specs.Attributes.{attributes_in}
use Rattle.mpm_mount.specs.Files.{entries_named, is_entry_of, is_fitting, where_there}
use Rattle.mpm_file_functions.specs.declared.errors.RecordError.{RecordError}
use Rattle.mpm_file_functions.specs.declared.errors.RecordError.TheVariants.{Mismatch, NoDirectorySpace, NoDataBlock}
use Rattle.mpm_jobs.specs.declared.jobs.JobKind.{JobKind}
use Rattle.mpm_jobs.specs.declared.jobs.JobKind.TheVariants.{Read, Write, TestWrite, Make, Delete, Rename, Attributes, Label, Xfcb, Nothing}
use Rattle.mpm_jobs.specs.declared.jobs.Job.{Job}
use Rattle.mpm_files.specs.Units.{FileUnit, Idles, ReadsRecord, PassesRecord, AddsEntry, ClearsBlock, WritesRecord, RemovesEntry, SetsAttributes, RenamesEntry, PutsXfcb, RemovesXfcb, RenamesXfcb, PutsLabel, holds_block, applied, all_applied}
use Rattle.mpm_mount.specs.Records.{read_error}

-- the units of a call, and why it ends after them, where a record can't be done
pub record CallPlan : Type 0 where
  pub units : List FileUnit
  pub error : Option RecordError

abbrev pub only : List FileUnit → CallPlan
only units = record { units = units; error = None }

abbrev pub failing : RecordError → CallPlan
failing error = record { units = []; error = Some error }

-- a plan with units before its own; that of a record which can't be done
abbrev pub behind : List FileUnit → CallPlan → CallPlan
behind units plan = record plan { units = units ++ plan.units }

abbrev pub unless_failing : Option RecordError → CallPlan → CallPlan
unless_failing None plan = plan
unless_failing (Some error) plan = failing error

abbrev pub when : Bool → FileUnit → List FileUnit
when test unit = if test then unit ∷ [] else []

-- the files of a job
abbrev pub file_of_job : Job → FileName
file_of_job job = record { user = job.user; name = plain job.name }

abbrev pub new_file_of_job : Job → FileName
new_file_of_job job = record { user = job.user; name = plain job.new_name }

-- a record's 128 bytes among those of a job
abbrev pub record_at : List ℕ → ℕ → List ℕ
record_at bytes k = slice_range bytes (128 * k) (128 * k + 128)

unfoldable pub reading : Drive → FileName → ℕ → ℕ → CallPlan
reading drive file n zero = only []
reading drive file n (suc count) = unless_failing (read_error drive file n) (behind (ReadsRecord file n ∷ []) (reading drive file (n + 1) count))

-- what a record needs to be written: a directory entry, a block
abbrev pub needs_entry : Drive → FileName → ℕ → Bool
needs_entry drive file n = not (is_some (get drive.extents (entry_name drive.kind file (n / 128))))

abbrev pub has_block : Kind → ℕ → Option PhysicalExtent → Bool
has_block kind n None = false
has_block kind n (Some entry) = holds_block kind n entry

abbrev pub needs_block : Drive → FileName → ℕ → Bool
needs_block drive file n = not (has_block drive.kind n (get drive.extents (entry_name drive.kind file (n / 128))))

-- a block is cleared in a unit of its own where an entry covers more than one extent
abbrev pub clears_blocks : Kind → Bool
clears_blocks kind = not ((geometry_of kind).mask == 0)

-- what keeps a record from being written. ("Function 21: Write Sequential", "Function 34: Write Random".)
abbrev pub write_error : Drive → FileName → ℕ → Option RecordError
write_error drive file n =
    if needs_entry drive file n && (free_entries drive == 0) then Some NoDirectorySpace
    else (if needs_block drive file n && (free_records drive == 0) then Some NoDataBlock else None)

-- the units of one record, for which a block may have been cleared
abbrev pub write_units : Drive → Bool → FileName → ℕ → List ℕ → Option (List ℕ) → List FileUnit
write_units drive cleared file n bytes stamp =
    when (needs_entry drive file n) (AddsEntry file (n / 128))
    ++ (when (clears_blocks drive.kind && (needs_block drive file n && not cleared)) (ClearsBlock file n)
    ++ (WritesRecord file n bytes stamp ∷ []))

-- records from n on, the first with a stamp
unfoldable pub writing : Drive → FileName → ℕ → List (List ℕ) → Option (List ℕ) → CallPlan
writing drive file n [] stamp = only []
writing drive file n (bytes ∷ records) stamp =
    let units = write_units drive false file n bytes stamp in
    unless_failing (write_error drive file n) (behind units (writing (all_applied drive units) file (n + 1) records None))

-- a record that is tested and written: the bytes that it must have, and those that it gets. ("Function 41: Test and Write Record".)
pub record TestedRecord : Type 0 where
  pub expected : List ℕ
  pub bytes : List ℕ

abbrev pub has_record : Drive → FileName → ℕ → List ℕ → Bool
has_record drive file n bytes = bytes_eq (where_there (record_of drive file n) (λ there. there)) bytes

-- the records from one that has other bytes on: as many units as there would be, none of which changes anything
unfoldable pub passing : Drive → FileName → ℕ → List TestedRecord → CallPlan
passing drive file n [] = failing Mismatch
passing drive file n (test ∷ tests) =
    if is_some (read_error drive file n) then failing Mismatch else (behind (PassesRecord file n ∷ []) (passing drive file (n + 1) tests))

-- records from n on, the first with a stamp: each is compared and replaced
unfoldable pub testing : Drive → FileName → ℕ → List TestedRecord → Option (List ℕ) → CallPlan
testing drive file n [] stamp = only []
testing drive file n (test ∷ tests) stamp =
    let unit = WritesRecord file n test.bytes stamp in
    unless_failing (read_error drive file n)
    (if has_record drive file n test.expected then behind (unit ∷ []) (testing (applied drive unit) file (n + 1) tests None)
    else passing drive file n (test ∷ tests))

abbrev pub each : {X Y : Type 0} → List X → (X → Y) → List Y
each items f = map f items

-- of each entry of a file, by its number; of its XFCB, where it has one
abbrev pub of_entries : Drive → FileName → (ℕ → FileUnit) → List FileUnit
of_entries drive file unit = each (extents_of drive file) (λ entry. unit entry.0.number)

abbrev pub of_xfcb : Drive → FileName → FileUnit → List FileUnit
of_xfcb drive file unit = when (is_some (get drive.xfcbs file)) unit

-- a user's files whose names fit go, entry by entry, and each one's XFCB after its last entry. ("Function 19: Delete File".)
abbrev pub deleting_entry : Drive → (FileName × ℕ) → List (FileName × ℕ) → List FileUnit
deleting_entry drive entry entries =
    RemovesEntry entry.0 entry.1 ∷ (if list_any (is_entry_of entry.0) entries then [] else of_xfcb drive entry.0 (RemovesXfcb entry.0))

unfoldable pub deleting : Drive → ℕ → List ℕ → List (FileName × ℕ) → List FileUnit
deleting drive user pattern [] = []
deleting drive user pattern (entry ∷ entries) =
    (if is_fitting user pattern entry.0 then deleting_entry drive entry entries else []) ++ deleting drive user pattern entries

-- an XFCB of the new name goes, then each entry and the XFCB get that name. ("Function 23: Rename File".)
abbrev pub renaming : Drive → FileName → FileName → List FileUnit
renaming drive file other =
    of_xfcb drive other (RemovesXfcb other)
    ++ (of_entries drive file (λ number. RenamesEntry file number other) ++ of_xfcb drive file (RenamesXfcb file other))

-- the XFCB or the label of a job. ("Function 100: Set Directory Label", "Function 103: Write File XFCB".)
abbrev pub protection_in : Job → Protection
protection_in job = record {
  mode = slice_index job.bytes 0;
  decode = slice_index job.bytes 1;
  password = slice_range job.bytes 2 10;
  first = slice_range job.bytes 10 14;
  second = slice_range job.bytes 14 18;
}

-- a file is made with an XFCB where the job has one. ("Function 22: Make File".)
abbrev pub making : Job → List FileUnit
making job = AddsEntry (file_of_job job) 0 ∷ when (not (job.count == 0)) (PutsXfcb (file_of_job job) (protection_in job))

-- the records of a job, and those that are tested: the bytes that all must have stand before those that they get
abbrev pub records_of_job : Job → List (List ℕ)
records_of_job job = map (record_at job.bytes) (range_with_len 0 job.count)

abbrev pub test_at : List ℕ → ℕ → ℕ → TestedRecord
test_at bytes count k = record { expected = record_at bytes k; bytes = record_at bytes (count + k) }

abbrev pub tests_of_job : Job → List TestedRecord
tests_of_job job = map (test_at job.bytes job.count) (range_with_len 0 job.count)

-- the units of a job on a drive
abbrev pub plan_by : Drive → Job → JobKind → CallPlan
plan_by drive job Read = reading drive (file_of_job job) job.first job.count
plan_by drive job Write = writing drive (file_of_job job) job.first (records_of_job job) job.stamp
plan_by drive job TestWrite = testing drive (file_of_job job) job.first (tests_of_job job) job.stamp
plan_by drive job Make = only (making job)
plan_by drive job Delete = only (deleting drive job.user job.name (entries_named drive))
plan_by drive job Rename = only (renaming drive (file_of_job job) (new_file_of_job job))
plan_by drive job Attributes = only (of_entries drive (file_of_job job) (λ number. SetsAttributes (file_of_job job) number (attributes_in job.name)))
plan_by drive job Label = only (PutsLabel (record { name = job.new_name; protection = protection_in job }) ∷ [])
plan_by drive job Xfcb = only (PutsXfcb (file_of_job job) (protection_in job) ∷ [])
plan_by drive job Nothing = only (Idles (file_of_job job) job.stamp ∷ [])

unfoldable pub plan_of : Drive → Job → CallPlan
plan_of drive job = plan_by drive job job.kind

-- a unit a turn, and one turn at least
abbrev pub turns_of : Drive → Job → ℕ
turns_of drive job = max 1 (length (plan_of drive job).units)

-- the unit of a turn, counted from 0
abbrev pub unit_at : Drive → Job → ℕ → FileUnit
unit_at drive job j = slice_index_or (plan_of drive job).units j (Idles (file_of_job job) None)
