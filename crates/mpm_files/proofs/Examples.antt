-- Worked rows: a new file on a disk that is empty but for it, a disk that is nearly full, and the order of a deletion and of a renaming.
use Rattle.std.proofs.Common.{◌≡◌, ℕ, false, List, [], ◌∷◌, Some, None, refl}
use Rattle.std.specs.Prelude.{replicate, slice_range}
use Rattle.std.specs.FinMap.{FinMap, get, entries, get-entries, get-insert, entries-insert}
use Rattle.mpm_base.specs.declared.kind.Kind.{Kind}
use Rattle.mpm_base.specs.declared.kind.Kind.TheVariants.{Ibm3740, Hd8}
use Rattle.mpm_mount.specs.Drives.{FileName, entry_cmp, file_cmp, PhysicalExtent, Protection, Drive, places, extents_of, free_records, free_entries, extent_at, visible_of}
use Rattle.mpm_names.specs.Matching.{does_match}
use Rattle.mpm_mount.specs.Files.{entries_named}
use Rattle.mpm_mount.proofs.Orders.{entry_total}
use Rattle.mpm_jobs.specs.declared.jobs.JobKind.{JobKind}
use Rattle.mpm_jobs.specs.declared.jobs.JobKind.TheVariants.{Write, Delete}
use Rattle.mpm_jobs.specs.declared.jobs.Job.{Job}
use Rattle.mpm_sectors.specs.Writes.{zero_record}
use Rattle.mpm_files.specs.Units.{ClearsBlock, WritesRecord, RemovesEntry, RenamesEntry, RemovesXfcb, RenamesXfcb, applied, all_applied, stages, last_of}
use Rattle.mpm_file_functions.specs.declared.errors.RecordError.TheVariants.{UnwrittenData, NoDataBlock}
use Rattle.mpm_files.specs.Plans.{plan_of, writing, deleting, renaming, only}
use Rattle.mpm_mount.specs.Records.{read_error}
use Rattle.mpm_files.specs.Serving.{units_done}

-- the file `A`, empty, and what it is the only one on
abbrev file : FileName
file = record { user = 0; name = 65 ∷ replicate 10 32 }

abbrev no_records : Kind → PhysicalExtent
no_records kind = record { attributes = replicate 11 false; last = 0; count = 0; blocks = replicate (places kind) None }

abbrev with_files : Kind → FinMap entry_cmp PhysicalExtent → FinMap file_cmp Protection → Drive
with_files kind extents xfcbs = record { kind = kind; extents = extents; xfcbs = xfcbs; label = None; kept = 0 }

-- records that are written
abbrev writes : ℕ → ℕ → List ℕ → Job
writes first count bytes =
    record { kind = Write; user = 0; name = 65 ∷ replicate 10 32; new_name = replicate 11 32; first = first; count = count; stamp = None; bytes = bytes }

-- record 20 of an empty file on a floppy disk, which has room for 1,928 records: one unit
record_20 : (m : FinMap entry_cmp PhysicalExtent) (x : FinMap file_cmp Protection) (bytes : List ℕ) → entries m ≡ (record { user = 0; name = 65 ∷ replicate 10 32; number = 0 }, no_records Ibm3740) ∷ []
    → plan_of (with_files Ibm3740 m x) (writes 20 1 bytes) ≡ only (WritesRecord file 20 (slice_range bytes 0 128) None ∷ [])
unfolding plan_of writing all_applied applied stages last_of free_records free_entries entry_cmp
record_20 m x bytes e = simp (get-entries, e) refl

room_before : (m : FinMap entry_cmp PhysicalExtent) (x : FinMap file_cmp Protection) → entries m ≡ (record { user = 0; name = 65 ∷ replicate 10 32; number = 0 }, no_records Ibm3740) ∷ []
    → free_records (with_files Ibm3740 m x) ≡ 1928
unfolding free_records
room_before m x e = simp (e) refl

-- after it there is room for 1,920, records 16 to 19 are zeros, and record 0 isn't there
room_after : (m : FinMap entry_cmp PhysicalExtent) (x : FinMap file_cmp Protection) (bytes : List ℕ) → entries m ≡ (record { user = 0; name = 65 ∷ replicate 10 32; number = 0 }, no_records Ibm3740) ∷ []
    → free_records (units_done (with_files Ibm3740 m x) (writes 20 1 bytes) 1) ≡ 1920
unfolding plan_of writing all_applied applied stages last_of free_records free_entries entry_cmp
room_after m x bytes e = simp (get-entries, entries-insert {X = PhysicalExtent} entry_total, e) refl

record_16_after : (m : FinMap entry_cmp PhysicalExtent) (x : FinMap file_cmp Protection) (bytes : List ℕ) → entries m ≡ (record { user = 0; name = 65 ∷ replicate 10 32; number = 0 }, no_records Ibm3740) ∷ []
    → visible_of (units_done (with_files Ibm3740 m x) (writes 20 1 bytes) 1) file 16 ≡ Some zero_record
unfolding plan_of writing all_applied applied stages last_of free_records free_entries entry_cmp visible_of extent_at
record_16_after m x bytes e = simp (get-insert {X = PhysicalExtent} entry_total, get-entries, e) refl

record_0_after : (m : FinMap entry_cmp PhysicalExtent) (x : FinMap file_cmp Protection) (bytes : List ℕ) → entries m ≡ (record { user = 0; name = 65 ∷ replicate 10 32; number = 0 }, no_records Ibm3740) ∷ []
    → read_error (units_done (with_files Ibm3740 m x) (writes 20 1 bytes) 1) file 0 ≡ Some UnwrittenData
unfolding plan_of writing all_applied applied stages last_of free_records free_entries entry_cmp visible_of extent_at
record_0_after m x bytes e = simp (get-insert {X = PhysicalExtent} entry_total, get-entries, e) refl

-- record 130 on a hard disk of eight megabytes: its block is cleared first
record_130 : (m : FinMap entry_cmp PhysicalExtent) (x : FinMap file_cmp Protection) (bytes : List ℕ) → entries m ≡ (record { user = 0; name = 65 ∷ replicate 10 32; number = 0 }, no_records Hd8) ∷ []
    → plan_of (with_files Hd8 m x) (writes 130 1 bytes) ≡ only (ClearsBlock file 130 ∷ WritesRecord file 130 (slice_range bytes 0 128) None ∷ [])
unfolding plan_of writing all_applied applied stages last_of free_records free_entries entry_cmp
record_130 m x bytes e = simp (get-entries, e) refl

-- two records where there is room for two, and one more
three_records : (m : FinMap entry_cmp PhysicalExtent) (x : FinMap file_cmp Protection) (bytes : List ℕ) (extent : PhysicalExtent) → entries m ≡ (record { user = 0; name = 65 ∷ replicate 10 32; number = 0 }, no_records Ibm3740) ∷ (record { user = 0; name = 66 ∷ replicate 10 32; number = 0 }, record extent { blocks = replicate 240 (Some []) }) ∷ []
    → plan_of (with_files Ibm3740 m x) (writes 6 3 bytes)
    ≡ record { units = WritesRecord file 6 (slice_range bytes 0 128) None ∷ WritesRecord file 7 (slice_range bytes 128 256) None ∷ []; error = Some NoDataBlock }
unfolding plan_of writing all_applied applied stages last_of free_records free_entries entry_cmp
three_records m x bytes extent e = simp (get-insert {X = PhysicalExtent} entry_total, entries-insert {X = PhysicalExtent} entry_total, get-entries, e) refl

-- a file of three entries with an XFCB is deleted by a pattern, and renamed over an XFCB of the new name
abbrev asks : JobKind → Job
asks kind =
    record { kind = kind; user = 0; name = 65 ∷ replicate 10 63; new_name = 66 ∷ replicate 10 32; first = 0; count = 0; stamp = None; bytes = [] }

abbrev other_file : FileName
other_file = record { user = 0; name = 66 ∷ replicate 10 32 }

three_deleted : (m : FinMap entry_cmp PhysicalExtent) (x : FinMap file_cmp Protection) (a b c d : PhysicalExtent) (p : Protection)
    → entries m ≡ (record { user = 0; name = 65 ∷ replicate 10 32; number = 0 }, a) ∷ (record { user = 0; name = 65 ∷ replicate 10 32; number = 1 }, b)
    ∷ (record { user = 0; name = 65 ∷ replicate 10 32; number = 2 }, c) ∷ (record { user = 0; name = 66 ∷ replicate 10 32; number = 0 }, d) ∷ [] → get x file ≡ Some p
    → plan_of (with_files Ibm3740 m x) (asks Delete) ≡ only (RemovesEntry file 0 ∷ RemovesEntry file 1 ∷ RemovesEntry file 2 ∷ RemovesXfcb file ∷ [])
unfolding plan_of deleting entries_named does_match
three_deleted m x a b c d p e f = simp (e, f) refl

three_renamed : (m : FinMap entry_cmp PhysicalExtent) (x : FinMap file_cmp Protection) (a b c : PhysicalExtent) (p q : Protection)
    → entries m ≡ (record { user = 0; name = 65 ∷ replicate 10 32; number = 0 }, a) ∷ (record { user = 0; name = 65 ∷ replicate 10 32; number = 1 }, b)
    ∷ (record { user = 0; name = 65 ∷ replicate 10 32; number = 2 }, c) ∷ [] → get x file ≡ Some p → get x other_file ≡ Some q
    → renaming (with_files Ibm3740 m x) file other_file
    ≡ RemovesXfcb other_file ∷ RenamesEntry file 0 other_file ∷ RenamesEntry file 1 other_file ∷ RenamesEntry file 2 other_file ∷ RenamesXfcb file other_file ∷ []
unfolding extents_of
three_renamed m x a b c p q e f g = simp (e, f, g) refl
