-- A job leaves the directory entries of each file that it doesn't name, and all of them where it reads, sets a stamp, or puts an XFCB or
-- the label.
use Rattle.std.proofs.Common.{◌≡◌, ℕ, zero, suc, ◌+◌, ◌/◌, Bool, true, false, ◌&&◌, List, [], ◌∷◌, Option, Some, None, take, refl, ap, ◌∙◌}
use Rattle.std.specs.List.{AllByRecursion}
use Rattle.std.specs.Prelude.{option_and_then}
use Rattle.std.specs.FinMap.{get}
use Rattle.std.proofs.lemmas.Bool.{true≢false}
use Rattle.mpm_base.specs.declared.kind.Kind.{Kind}
use Rattle.mpm_mount.specs.Drives.{FileName, PhysicalExtent, Protection, Drive, entry_number, entry_name, with_extent_there, extent_at, visible_in, visible_of, with_xfcb}
use Rattle.mpm_mount.specs.Files.{where_there}
use Rattle.mpm_mount.specs.Records.{read_error}
use Rattle.mpm_file_functions.specs.declared.errors.RecordError.{RecordError}
use Rattle.mpm_jobs.specs.declared.jobs.JobKind.{JobKind}
use Rattle.mpm_jobs.specs.declared.jobs.JobKind.TheVariants.{Read, Write, TestWrite, Make, Delete, Rename, Attributes, Label, Xfcb, Nothing}
use Rattle.mpm_jobs.specs.declared.jobs.Job.{Job}
use Rattle.mpm_files.specs.Units.{FileUnit, Idles, ReadsRecord, first_stamped, last_of, stages, applied, all_applied}
use Rattle.mpm_files.specs.Plans.{CallPlan, behind, unless_failing, file_of_job, reading, plan_by, plan_of}
use Rattle.mpm_files.specs.Serving.{units_done}
use Rattle.mpm_files.specs.Containment.{names, changes_entries, KeepsEntries}
use Rattle.mpm_files.proofs.Contained.{turns_keep}

-- a unit that changes no directory entry of a file
abbrev LeavesEntries : FileUnit → Type 0
LeavesEntries unit = (drive : Drive) → (applied drive unit).extents ≡ drive.extents

some_leave : (units : List FileUnit) (j : ℕ) (drive : Drive) → AllByRecursion LeavesEntries units → (all_applied drive (take j units)).extents ≡ drive.extents
unfolding all_applied
some_leave [] zero drive each = refl
some_leave [] (suc j) drive each = refl
some_leave (unit ∷ units) zero drive each = refl
some_leave (unit ∷ units) (suc j) drive each = some_leave units j (applied drive unit) each.1 ∙ each.0 drive

stamp_leaves : (drive : Drive) (file : FileName) (moment : List ℕ) (o : Option Protection)
    → (last_of drive (where_there o (λ xfcb. with_xfcb drive file (first_stamped moment xfcb) ∷ []))).extents ≡ drive.extents
unfolding last_of
stamp_leaves drive file moment None = refl
stamp_leaves drive file moment (Some xfcb) = refl

idling_leaves : (file : FileName) (stamp : Option (List ℕ)) → LeavesEntries (Idles file stamp)
unfolding applied stages last_of
idling_leaves file None drive = refl
idling_leaves file (Some moment) drive = stamp_leaves drive file moment (get drive.xfcbs file)

read_leaves : (file : FileName) (n : ℕ) → LeavesEntries (ReadsRecord file n)
unfolding applied stages last_of
read_leaves file n drive = refl

unless_leave : (error : Option RecordError) (unit : FileUnit) (plan : CallPlan) → LeavesEntries unit → AllByRecursion LeavesEntries plan.units
    → AllByRecursion LeavesEntries (unless_failing error (behind (unit ∷ []) plan)).units
unless_leave None unit plan one others = (one, others)
unless_leave (Some error) unit plan one others = tt

reading_leaves : (count : ℕ) (drive : Drive) (file : FileName) (n : ℕ) → AllByRecursion LeavesEntries (reading drive file n count).units
unfolding reading
reading_leaves zero drive file n = tt
reading_leaves (suc count) drive file n =
    unless_leave (read_error drive file n) (ReadsRecord file n) (reading drive file (n + 1) count) (read_leaves file n) (reading_leaves count drive file (n + 1))

by_kind : (drive : Drive) (job : Job) (kind : JobKind) → changes_entries kind ≡ false → AllByRecursion LeavesEntries (plan_by drive job kind).units
unfolding applied stages last_of
by_kind drive job Read is = reading_leaves job.count drive (file_of_job job) job.first
by_kind drive job Write is = absurd (true≢false is)
by_kind drive job TestWrite is = absurd (true≢false is)
by_kind drive job Make is = absurd (true≢false is)
by_kind drive job Delete is = absurd (true≢false is)
by_kind drive job Rename is = absurd (true≢false is)
by_kind drive job Attributes is = absurd (true≢false is)
by_kind drive job Label is = (λ other. refl, tt)
by_kind drive job Xfcb is = (λ other. refl, tt)
by_kind drive job Nothing is = (idling_leaves (file_of_job job) job.stamp, tt)

pub entries_stay : (drive : Drive) (job : Job) (j : ℕ) (file : FileName) → (changes_entries job.kind && names drive job file) ≡ false
    → KeepsEntries file drive (units_done drive job j)
unfolding plan_of
entries_stay drive job j file none = by_change (changes_entries job.kind) refl none
  where
    by_change : (b : Bool) → changes_entries job.kind ≡ b → (b && names drive job file) ≡ false → KeepsEntries file drive (units_done drive job j)
    by_change true is none = record { kind = (turns_keep drive job j).kind; entries = ((turns_keep drive job j).files file none).extents }
    by_change false is none = record {
      kind = (turns_keep drive job j).kind;
      entries = λ number. ap (λ extents. get extents (record { user = file.user; name = file.name; number = number })) (some_leave (plan_of drive job).units j drive (by_kind drive job job.kind is));
    }

pub entries_same : (file : FileName) (drive : Drive) → KeepsEntries file drive drive
entries_same file drive = record { kind = refl; entries = λ number. refl }

-- so each of its records is seen as it was
pub records_stay : (file : FileName) (old new : Drive) (n : ℕ) → KeepsEntries file old new → visible_of new file n ≡ visible_of old file n
unfolding visible_of extent_at
records_stay file old new n keeps =
    let seen : Kind → Option PhysicalExtent → Option (List ℕ) = λ kind entry. option_and_then (visible_in kind n) (option_and_then (with_extent_there (n / 128)) entry) in
    ap (λ kind. seen kind (get new.extents (entry_name kind file (n / 128)))) keeps.kind ∙ ap (seen old.kind) (keeps.entries (entry_number old.kind (n / 128)))
