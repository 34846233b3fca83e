-- Which files a call names, and what of a drive stays as it is, turn by turn and within one.
use Rattle.std.specs.Prelude.{◌≡◌, ◌⊎◌, ℕ, ◌≤◌, ◌&&◌, ◌||◌, Bool, true, false, Some, option_map}
use Rattle.std.specs.FinMap.{get}
use Rattle.mpm_mount.specs.Drives.{FileName, PhysicalExtent, Drive, extent_at, count_in, visible_of}
use Rattle.mpm_mount.specs.Files.{is_same_file, is_fitting, has_file}
use Rattle.mpm_jobs.specs.declared.jobs.JobKind.{JobKind}
use Rattle.mpm_jobs.specs.declared.jobs.JobKind.TheVariants.{Read, Write, TestWrite, Make, Delete, Rename, Attributes, Label, Xfcb, Nothing}
use Rattle.mpm_jobs.specs.declared.jobs.Job.{Job}
use Rattle.mpm_sectors.specs.Writes.{zero_record}
use Rattle.mpm_files.specs.Units.{FileUnit, Idles, ReadsRecord, PassesRecord, AddsEntry, ClearsBlock, WritesRecord, RemovesEntry, SetsAttributes, RenamesEntry, PutsXfcb, RemovesXfcb, RenamesXfcb, PutsLabel, applied}
use Rattle.mpm_files.specs.Plans.{needs_block, file_of_job, new_file_of_job}
use Rattle.mpm_files.specs.Serving.{units_done}

-- the files that a unit names; whether it names the label
abbrev pub unit_names : FileUnit → FileName → Bool
unit_names (Idles file stamp) other = is_same_file other file
unit_names (ReadsRecord file n) other = is_same_file other file
unit_names (PassesRecord file n) other = is_same_file other file
unit_names (AddsEntry file extent) other = is_same_file other file
unit_names (ClearsBlock file n) other = is_same_file other file
unit_names (WritesRecord file n bytes stamp) other = is_same_file other file
unit_names (RemovesEntry file number) other = is_same_file other file
unit_names (SetsAttributes file number attributes) other = is_same_file other file
unit_names (RenamesEntry file number new) other = is_same_file other file || is_same_file other new
unit_names (PutsXfcb file xfcb) other = is_same_file other file
unit_names (RemovesXfcb file) other = is_same_file other file
unit_names (RenamesXfcb file new) other = is_same_file other file || is_same_file other new
unit_names (PutsLabel label) other = false

abbrev pub names_label : FileUnit → Bool
names_label (PutsLabel label) = true
names_label (Idles file stamp) = false
names_label (ReadsRecord file n) = false
names_label (PassesRecord file n) = false
names_label (AddsEntry file extent) = false
names_label (ClearsBlock file n) = false
names_label (WritesRecord file n bytes stamp) = false
names_label (RemovesEntry file number) = false
names_label (SetsAttributes file number attributes) = false
names_label (RenamesEntry file number new) = false
names_label (PutsXfcb file xfcb) = false
names_label (RemovesXfcb file) = false
names_label (RenamesXfcb file new) = false

-- the files that a job names: its own; in a renaming the new one too; in a deletion those that fit and are there
abbrev pub names_by : Drive → Job → FileName → JobKind → Bool
names_by drive job other Delete = is_fitting job.user job.name other && has_file drive other
names_by drive job other Rename = is_same_file other (file_of_job job) || is_same_file other (new_file_of_job job)
names_by drive job other Label = false
names_by drive job other Read = is_same_file other (file_of_job job)
names_by drive job other Write = is_same_file other (file_of_job job)
names_by drive job other TestWrite = is_same_file other (file_of_job job)
names_by drive job other Make = is_same_file other (file_of_job job)
names_by drive job other Attributes = is_same_file other (file_of_job job)
names_by drive job other Xfcb = is_same_file other (file_of_job job)
names_by drive job other Nothing = is_same_file other (file_of_job job)

unfoldable pub names : Drive → Job → FileName → Bool
names drive job other = names_by drive job other job.kind

-- reading, a stamp, an XFCB and the label change no directory entry of a file
abbrev pub changes_entries : JobKind → Bool
changes_entries Read = false
changes_entries Write = true
changes_entries TestWrite = true
changes_entries Make = true
changes_entries Delete = true
changes_entries Rename = true
changes_entries Attributes = true
changes_entries Label = false
changes_entries Xfcb = false
changes_entries Nothing = false

abbrev pub is_label_job : JobKind → Bool
is_label_job Label = true
is_label_job Read = false
is_label_job Write = false
is_label_job TestWrite = false
is_label_job Make = false
is_label_job Delete = false
is_label_job Rename = false
is_label_job Attributes = false
is_label_job Xfcb = false
is_label_job Nothing = false

-- a file and its XFCB are as they were
pub record SameFile (file : FileName) (old new : Drive) : Type 0 where
  pub extents : (number : ℕ) → get new.extents (record { user = file.user; name = file.name; number = number }) ≡ get old.extents (record { user = file.user; name = file.name; number = number })
  pub xfcb : get new.xfcbs file ≡ get old.xfcbs file

-- the directory entries of a file are as they were
pub record KeepsEntries (file : FileName) (old new : Drive) : Type 0 where
  pub kind : new.kind ≡ old.kind
  pub entries : (number : ℕ) → get new.extents (record { user = file.user; name = file.name; number = number }) ≡ get old.extents (record { user = file.user; name = file.name; number = number })

-- two drives differ in nothing but files that pass a test, and perhaps the label
pub record KeepsOtherFiles (named : FileName → Bool) (has_label : Bool) (old new : Drive) : Type 0 where
  pub kind : new.kind ≡ old.kind
  pub kept : new.kept ≡ old.kept
  pub files : (file : FileName) → named file ≡ false → SameFile file old new
  pub label : has_label ≡ false → new.label ≡ old.label

-- the record counts and the visible records of all files are the same
pub record SameRecords (old new : Drive) : Type 0 where
  pub counts : (file : FileName) (extent : ℕ) → option_map (λ (entry : PhysicalExtent). count_in entry extent) (extent_at new file extent) ≡ option_map (λ (entry : PhysicalExtent). count_in entry extent) (extent_at old file extent)
  pub visible : (file : FileName) (n : ℕ) → visible_of new file n ≡ visible_of old file n

-- a drive within a unit: what the unit doesn't name is as it was, and record counts and visible records are all those of before it
-- or all those of after it
pub record IsWithinUnit (unit : FileUnit) (before now : Drive) : Type 0 where
  pub keeps : KeepsOtherFiles (unit_names unit) (names_label unit) before now
  pub records : SameRecords before now ⊎ SameRecords (applied before unit) now

-- a drive as a failure leaves it, in some turn of a call from turn j on. Files and XFCBs that the job doesn't name are as before the call,
-- and so is the label but in a job of the label. Record counts and visible records are those after some number of units, at least j
pub record IsContained (before : Drive) (job : Job) (j : ℕ) (now : Drive) : Type 0 where
  pub keeps : KeepsOtherFiles (names before job) (is_label_job job.kind) before now
  pub turn : ℕ
  pub since : j ≤ turn
  pub records : SameRecords (units_done before job turn) now

-- a record is seen as before a call, or as after it, or as the zeros of a block that the call brings
abbrev pub IsShown : Drive → Drive → Drive → FileName → ℕ → Type 0
IsShown before after now file n =
    (visible_of now file n ≡ visible_of before file n)
    ⊎ ((visible_of now file n ≡ visible_of after file n) ⊎ ((visible_of now file n ≡ Some zero_record) × (needs_block before file n ≡ true)))
