-- The turns of a renaming.
use Rattle.std.proofs.Common.{◌≡◌, ◌≢◌, ◌⊎◌, inl, inr, ℕ, zero, suc, ◌<◌, Bool, true, false, cond, List, [], ◌∷◌, ◌++◌, Option, Some, None, take, length, refl, sym, ap, subst, ◌∙◌}
use Rattle.std.specs.Prelude.{is_some}
use Rattle.std.specs.List.{list_all}
use Rattle.std.specs.Ordering.{eq_by_cmp, is_eq}
use Rattle.std.specs.Cmp.{tied_itself}
use Rattle.std.specs.FinMap.{FinMap, get, insert, remove, get-insert, get-remove}
use Rattle.std.proofs.lemmas.Bool.{true≢false, and_parts, cases_eq}
use Rattle.mpm_blocks.specs.Sectors.{sectors_of}
use Rattle.mpm_dirent.specs.declared.kinds.Entry.TheVariants.{Free, File}
use Rattle.mpm_dirent.specs.declared.kinds.FileEntry.{FileEntry}
use Rattle.mpm_mount.specs.declared.searching.Found.{Found}
use Rattle.mpm_mount.specs.Drives.{FileName, entry_cmp, PhysicalExtent, Protection, Drive, is_of, extents_of, with_extent, without_extent, with_xfcb, without_xfcb}
use Rattle.mpm_mount.specs.Faults.{name_of}
use Rattle.mpm_mount.specs.Images.{extent_in}
use Rattle.mpm_mount.specs.Changes.{exchanged}
use Rattle.mpm_mount.specs.Directories.{Directory, Stands, entry_in, xfcb_slot}
use Rattle.mpm_mount.specs.Searching.{IsUnambiguous, search_of, IsLeast, IsNext}
use Rattle.mpm_mount.specs.Files.{where_there, is_same_file, has_file, file_in}
use Rattle.mpm_mount.proofs.Orders.{entry_total}
use Rattle.mpm_mount.proofs.Sorts.{xfcb_freed}
use Rattle.mpm_mount.proofs.LookedUp.{xfcb_found, xfcb_missing, kind_of}
use Rattle.mpm_mount.proofs.OneFile.{lowest_found, lowest_missing}
use Rattle.mpm_mount.proofs.Names.{one_file, entries_differ, same_back}
use Rattle.mpm_jobs.specs.declared.jobs.JobKind.TheVariants.{Rename}
use Rattle.mpm_jobs.specs.declared.jobs.Job.{Job}
use Rattle.mpm_files.specs.declared.work.Work.{Work}
use Rattle.mpm_files.specs.Units.{FileUnit, Idles, ReadsRecord, PassesRecord, AddsEntry, ClearsBlock, WritesRecord, RemovesEntry, SetsAttributes, RenamesEntry, PutsXfcb, RemovesXfcb, RenamesXfcb, PutsLabel, stages, last_of, applied, all_applied}
use Rattle.mpm_files.specs.Plans.{plan_of, file_of_job, new_file_of_job, each, when, of_xfcb, of_entries, renaming, plan_by, unit_at}
use Rattle.mpm_files.specs.Serving.{units_done, records_moved, record_read, missed_by, has_missed, Follows, IsServingJob}
use Rattle.mpm_files.specs.Turning.{MayRename, SuitsKind, Suits, one_ended}
use Rattle.mpm_files.proofs.NextRenamed.{renaming_as, renaming_next, renamed_over_next, renamed_xfcb_next}
use Rattle.mpm_files.proofs.Left.{nothing_left}
use Rattle.mpm_files.proofs.Served.{left_as, serves_quietly}
use Rattle.mpm_files.proofs.NextDone.{IsDone}
use Rattle.mpm_files.proofs.NoFile.{no_entry, there_at, all_of_file}
use Rattle.mpm_files.proofs.DeleteTurns.{never_empty}
use Rattle.mpm_files.proofs.Recorded.{other_number}

-- the units of a renaming leave no entry of one number in both files
RenamesOnly : FileName → FileName → FileUnit → Type 0
RenamesOnly file new (RemovesXfcb f) = Unit {0}
RenamesOnly file new (RenamesEntry f number other) = (f ≡ file) × (other ≡ new)
RenamesOnly file new (RenamesXfcb f other) = Unit {0}
RenamesOnly file new (Idles f stamp) = ⊥
RenamesOnly file new (ReadsRecord f n) = ⊥
RenamesOnly file new (PassesRecord f n) = ⊥
RenamesOnly file new (AddsEntry f extent) = ⊥
RenamesOnly file new (ClearsBlock f n) = ⊥
RenamesOnly file new (WritesRecord f n bytes stamp) = ⊥
RenamesOnly file new (RemovesEntry f number) = ⊥
RenamesOnly file new (SetsAttributes f number attributes) = ⊥
RenamesOnly file new (PutsXfcb f xfcb) = ⊥
RenamesOnly file new (PutsLabel label) = ⊥

AllRename : FileName → FileName → List FileUnit → Type 0
AllRename file new [] = Unit {0}
AllRename file new (u ∷ us) = RenamesOnly file new u × AllRename file new us

at : Drive → FileName → ℕ → Option PhysicalExtent
at drive file number = get drive.extents (record { user = file.user; name = file.name; number = number })

Apart : FileName → FileName → Drive → Type 0
Apart file new drive = (number : ℕ) → is_some (at drive file number) ≡ true → at drive new number ≡ None

moved_apart : (drive : Drive) (file new : FileName) (number : ℕ) (entry : PhysicalExtent) → is_same_file new file ≡ false → Apart file new drive
    → Apart file new (with_extent (without_extent drive (record { user = file.user; name = file.name; number = number })) (record { user = new.user; name = new.name; number = number }) entry)
unfolding Apart at
moved_apart drive file new number entry apart so k there = by_number (cases_eq k number)
  where
    rest : FinMap entry_cmp PhysicalExtent
    rest = remove drive.extents (record { user = file.user; name = file.name; number = number })

    old_name : get (insert rest (record { user = new.user; name = new.name; number = number }) entry) (record { user = file.user; name = file.name; number = k }) ≡ get rest (record { user = file.user; name = file.name; number = k })
    old_name =
        get-insert entry_total rest (record { user = new.user; name = new.name; number = number }) entry (record { user = file.user; name = file.name; number = k })
        ∙ ap (λ b. cond b (Some entry) (get rest (record { user = file.user; name = file.name; number = k }))) (entries_differ file new k number (same_back file new ∙ apart))

    by_number : (k ≡ number) ⊎ (k ≢ number) → get (insert rest (record { user = new.user; name = new.name; number = number }) entry) (record { user = new.user; name = new.name; number = k }) ≡ None
    by_number (inl same) = absurd (true≢false (sym there ∙ ap is_some (old_name
        ∙ get-remove entry_total drive.extents (record { user = file.user; name = file.name; number = number }) (record { user = file.user; name = file.name; number = k })
        ∙ ap (λ q. cond (eq_by_cmp entry_cmp (record { user = file.user; name = file.name; number = q }) (record { user = file.user; name = file.name; number = number })) None (get drive.extents (record { user = file.user; name = file.name; number = k }))) same
        ∙ ap (λ r. cond (is_eq r) None (get drive.extents (record { user = file.user; name = file.name; number = k }))) (tied_itself entry_total (record { user = file.user; name = file.name; number = number })))))
    by_number (inr other) =
        get-insert entry_total rest (record { user = new.user; name = new.name; number = number }) entry (record { user = new.user; name = new.name; number = k })
        ∙ ap (λ b. cond b (Some entry) (get rest (record { user = new.user; name = new.name; number = k }))) (other_number new k number other)
        ∙ get-remove entry_total drive.extents (record { user = file.user; name = file.name; number = number }) (record { user = new.user; name = new.name; number = k })
        ∙ ap (λ b. cond b None (get drive.extents (record { user = new.user; name = new.name; number = k }))) (entries_differ new file k number apart)
        ∙ so k (sym (ap is_some (old_name
        ∙ get-remove entry_total drive.extents (record { user = file.user; name = file.name; number = number }) (record { user = file.user; name = file.name; number = k })
        ∙ ap (λ b. cond b None (get drive.extents (record { user = file.user; name = file.name; number = k }))) (other_number file k number other))) ∙ there)

still_apart : (drive : Drive) (file new : FileName) (unit : FileUnit) → is_same_file new file ≡ false → RenamesOnly file new unit → Apart file new drive → Apart file new (applied drive unit)
unfolding RenamesOnly Apart at applied stages last_of
still_apart drive file new (RemovesXfcb f) apart only so = so
still_apart drive file new (RenamesXfcb f other) apart only so = by_xfcb (get drive.xfcbs f)
  where
    by_xfcb : (o : Option Protection) → Apart file new (last_of drive (where_there o (λ xfcb. with_xfcb (without_xfcb drive f) other xfcb ∷ [])))
    by_xfcb None = so
    by_xfcb (Some xfcb) = so
still_apart drive file new (RenamesEntry f number other) apart only so =
    subst (λ (q : FileName). Apart file new (applied drive (RenamesEntry q number other))) (sym only.0)
    (subst (λ (q : FileName). Apart file new (applied drive (RenamesEntry file number q))) (sym only.1) (by_entry (at drive file number)))
  where
    by_entry : (o : Option PhysicalExtent) → Apart file new (last_of drive (where_there o (λ entry. with_extent (without_extent drive (record { user = file.user; name = file.name; number = number })) (record { user = new.user; name = new.name; number = number }) entry ∷ [])))
    by_entry None = so
    by_entry (Some entry) = moved_apart drive file new number entry apart so
still_apart drive file new (Idles f stamp) apart only so = absurd only
still_apart drive file new (ReadsRecord f n) apart only so = absurd only
still_apart drive file new (PassesRecord f n) apart only so = absurd only
still_apart drive file new (AddsEntry f extent) apart only so = absurd only
still_apart drive file new (ClearsBlock f n) apart only so = absurd only
still_apart drive file new (WritesRecord f n bytes stamp) apart only so = absurd only
still_apart drive file new (RemovesEntry f number) apart only so = absurd only
still_apart drive file new (SetsAttributes f number attributes) apart only so = absurd only
still_apart drive file new (PutsXfcb f xfcb) apart only so = absurd only
still_apart drive file new (PutsLabel label) apart only so = absurd only

all_apart : (us : List FileUnit) (j : ℕ) (drive : Drive) (file new : FileName) → is_same_file new file ≡ false → AllRename file new us → Apart file new drive
    → Apart file new (all_applied drive (take j us))
unfolding AllRename all_applied
all_apart [] zero drive file new apart only so = so
all_apart [] (suc j) drive file new apart only so = so
all_apart (u ∷ us) zero drive file new apart only so = so
all_apart (u ∷ us) (suc j) drive file new apart only so = all_apart us j (applied drive u) file new apart only.1 (still_apart drive file new u apart only.0 so)

both_rename : (file new : FileName) (us vs : List FileUnit) → AllRename file new us → AllRename file new vs → AllRename file new (us ++ vs)
unfolding AllRename
both_rename file new [] vs one other = other
both_rename file new (u ∷ us) vs one other = (one.0, both_rename file new us vs one.1 other)

when_renames : (file new : FileName) (b : Bool) (unit : FileUnit) → RenamesOnly file new unit → AllRename file new (when b unit)
unfolding AllRename
when_renames file new true unit only = (only, tt)
when_renames file new false unit only = tt

each_renames : {X : Type 0} (file new : FileName) (xs : List X) (f : X → FileUnit) → ((x : X) → RenamesOnly file new (f x)) → AllRename file new (each xs f)
unfolding AllRename
each_renames file new [] f only = tt
each_renames file new (x ∷ xs) f only = (only x, each_renames file new xs f only)

renaming_renames : (drive : Drive) (file new : FileName) → AllRename file new (renaming drive file new)
unfolding RenamesOnly
renaming_renames drive file new =
    both_rename file new (of_xfcb drive new (RemovesXfcb new)) _ (when_renames file new (is_some (get drive.xfcbs new)) (RemovesXfcb new) tt)
    (both_rename file new (of_entries drive file (λ number. RenamesEntry file number new)) _ (each_renames file new (extents_of drive file) (λ e. RenamesEntry file e.0.number new) (λ e. (refl, refl)))
    (when_renames file new (is_some (get drive.xfcbs file)) (RenamesXfcb file new) tt))

apart_at_first : (drive : Drive) (file new : FileName) → has_file drive new ≡ false → Apart file new drive
unfolding Apart at
apart_at_first drive file new none number there = no_entry drive new number none

pub not_taken : (before : Drive) (job : Job) (j : ℕ) → job.kind ≡ Rename → MayRename before job → (number : ℕ)
    → is_some (get (units_done before job j).extents (record { user = (file_of_job job).user; name = (file_of_job job).name; number = number })) ≡ true
    → get (units_done before job j).extents (record { user = (new_file_of_job job).user; name = (new_file_of_job job).name; number = number }) ≡ None
unfolding Apart at plan_of
not_taken before job j kind may =
    all_apart (plan_of before job).units j before (file_of_job job) (new_file_of_job job) may.other
    (subst (λ k. AllRename (file_of_job job) (new_file_of_job job) (plan_by before job k).units) (sym kind) (renaming_renames before (file_of_job job) (new_file_of_job job)))
    (apart_at_first before (file_of_job job) (new_file_of_job job) may.none)

-- the files of a job in service are those of its work
abbrev file_now : Work → FileName
file_now work = file_of_job work.job

abbrev new_now : Work → FileName
new_now work = new_file_of_job work.job

left_named : (before : Drive) (job : Job) (j : ℕ) (work : Work) → IsServingJob before job j work → work.job.kind ≡ Rename
    → Follows (plan_of before job).units j (renaming (units_done before job j) (file_now work) (new_now work))
left_named before job j work serving is = subst (Follows (plan_of before job).units j) (left_as (units_done before job j) work Rename is) serving.left

kind_is : (before : Drive) (job : Job) (j : ℕ) (work : Work) → IsServingJob before job j work → work.job.kind ≡ Rename → job.kind ≡ Rename
kind_is before job j work serving is = sym (ap (λ (q : Job). q.kind) serving.job_is) ∙ is

quiet : (before : Drive) (job : Job) (j k : ℕ) → job.kind ≡ Rename → has_missed before job k ≡ has_missed before job j
quiet before job j k is = ap (missed_by before job k) is ∙ sym (ap (missed_by before job j) is)

apart_now : (before : Drive) (job : Job) (j : ℕ) (work : Work) → IsServingJob before job j work → MayRename before job → is_same_file (new_now work) (file_now work) ≡ false
apart_now before job j work serving may = ap (λ (q : Job). is_same_file (new_file_of_job q) (file_of_job q)) serving.job_is ∙ may.other

-- the turn of a unit, by what is left after it
renames_done : (before : Drive) (job : Job) (j : ℕ) (work : Work) (unit : FileUnit) → IsServingJob before job j work → work.job.kind ≡ Rename → j < length (plan_of before job).units
    → unit_at before job j ≡ unit → records_moved unit ≡ 0 → record_read (units_done before job j) unit ≡ []
    → Follows (plan_of before job).units (suc j) (renaming (applied (units_done before job j) unit) (file_now work) (new_now work))
    → IsDone before job j (record work { cleared = None }) unit
renames_done before job j work unit serving is h here moves reads left = record {
  unit_is = here;
  serving = serves_quietly before job j work (record work { cleared = None }) unit serving h here moves reads refl refl refl refl refl refl
      (quiet before job j (suc j) (kind_is before job j work serving is))
      (subst (Follows (plan_of before job).units (suc j)) (sym (left_as (applied (units_done before job j) unit) (one_ended (record work { cleared = None })) Rename is)) left);
}

pub may_rename : (before : Drive) (job : Job) (j : ℕ) (work : Work) → IsServingJob before job j work → work.job.kind ≡ Rename → Suits before job → MayRename before job
may_rename before job j work serving is suits = subst (SuitsKind before job) (kind_is before job j work serving is) suits.kind

-- the XFCB of the new name goes
pub over_renamed : (image : List ℕ) (d : Directory) (before : Drive) (job : Job) (j : ℕ) (work : Work) (slot : ℕ) → Stands image d (units_done before job j)
    → IsServingJob before job j work → work.job.kind ≡ Rename → MayRename before job → j < length (plan_of before job).units → xfcb_slot d (new_file_of_job work.job) ≡ Some slot
    → (unit : FileUnit) × (IsDone before job j (record work { cleared = None }) unit
    × (stages unit (units_done before job j) ≡ exchanged (sectors_of image d.kind) (units_done before job j) (entry_in d slot) Free ∷ []))
unfolding stages
over_renamed image d before job j work slot stands serving is may h found =
    let files : Drive = units_done before job j in
    let new : FileName = new_now work in
    let there = xfcb_found image d files new slot stands found in
    let next = renamed_over_next (plan_of before job).units j files (file_now work) new _ (Idles (file_of_job job) None) (left_named before job j work serving is)
    (apart_now before job j work serving may) there.protection h in (
      RemovesXfcb new,
      (
        renames_done before job j work (RemovesXfcb new) serving is h next.0 refl refl next.1,
        ap (λ n. without_xfcb files n ∷ []) (sym there.name_is)
            ∙ ap (λ x. x ∷ []) (sym (xfcb_freed (sectors_of image d.kind) files there.xfcb))
            ∙ ap (λ e. exchanged (sectors_of image d.kind) files e Free ∷ []) (sym there.entry),
      ),
    )

-- the lowest entry of the file goes to the new name
pub record EntryRenamed (image : List ℕ) (d : Directory) (before : Drive) (job : Job) (j : ℕ) (work : Work) (found : Found) : Type 0 where
  pub file : FileEntry
  pub within : found.slot < length d.entries
  pub entry : entry_in d found.slot ≡ File file
  pub user : file.user ≡ work.job.user
  pub free : get (units_done before job j).extents (record { user = work.job.user; name = (new_file_of_job work.job).name; number = (name_of (units_done before job j).kind file).number }) ≡ None
  pub done : IsDone before job j (record work { cleared = None }) (RenamesEntry (file_in file.user file.name) (name_of (units_done before job j).kind file).number (new_file_of_job work.job))

pub entry_renamed : (image : List ℕ) (d : Directory) (before : Drive) (job : Job) (j : ℕ) (work : Work) (found : Found) → Stands image d (units_done before job j)
    → IsServingJob before job j work → work.job.kind ≡ Rename → MayRename before job → j < length (plan_of before job).units → xfcb_slot d (new_file_of_job work.job) ≡ None
    → IsLeast d.kind (search_of d.kind work.job.user work.job.name None) d.entries found → EntryRenamed image d before job j work found
entry_renamed image d before job j work found stands serving is may h none least =
    let files : Drive = units_done before job j in
    let file : FileName = file_now work in
    let new : FileName = new_now work in
    let f : FileEntry = least.file in
    let one : IsUnambiguous work.job.name = subst (λ (q : Job). IsUnambiguous q.name) (sym serving.job_is) may.name in
    let lowest = lowest_found image d files work.job.user work.job.name found stands one least in
    let same : file_in f.user f.name ≡ file = one_file (file_in f.user f.name) file (and_parts (is_same_file (file_in f.user f.name) file) (list_all (is_of file) lowest.0) (sym (ap (list_all (is_of file)) lowest.1) ∙ all_of_file files file)).0 in
    let kind : files.kind ≡ d.kind = kind_of image d files stands in
    let number : ℕ = (name_of d.kind f).number in
    let there : get files.extents (record { user = file.user; name = file.name; number = number }) ≡ Some (extent_in (sectors_of image d.kind) d.kind f) =
    ap (λ (q : FileName). get files.extents (record { user = q.user; name = q.name; number = number })) (sym same) ∙ there_at image d files found.slot f stands least.within least.entry in
    let next = renaming_next (plan_of before job).units j files file new number (extent_in (sectors_of image d.kind) d.kind f) (each lowest.0 (λ e. e.0.number)) (Idles (file_of_job job) None)
    (left_named before job j work serving is) (apart_now before job j work serving may) (xfcb_missing image d files new stands none) there (ap (λ es. each es (λ e. e.0.number)) lowest.1) h in
    let taken : get files.extents (record { user = new.user; name = new.name; number = number }) ≡ None =
    ap (λ (q : Job). get files.extents (record { user = (new_file_of_job q).user; name = (new_file_of_job q).name; number = number })) serving.job_is
    ∙ not_taken before job j (kind_is before job j work serving is) may number
    (ap (λ (q : Job). is_some (get files.extents (record { user = (file_of_job q).user; name = (file_of_job q).name; number = number }))) (sym serving.job_is) ∙ ap is_some there) in
    record {
      file = f;
      within = least.within;
      entry = least.entry;
      user = ap (λ (q : FileName). q.user) same;
      free = ap (λ k. get files.extents (record { user = new.user; name = new.name; number = (name_of k f).number })) kind ∙ taken;
      done = subst (λ k. IsDone before job j (record work { cleared = None }) (RenamesEntry (file_in f.user f.name) (name_of k f).number new)) (sym kind)
          (subst (λ (q : FileName). IsDone before job j (record work { cleared = None }) (RenamesEntry q number new)) (sym same)
          (renames_done before job j work (RenamesEntry file number new) serving is h next.0 refl refl next.1));
    }

-- last its XFCB
no_numbers : (image : List ℕ) (d : Directory) (before : Drive) (job : Job) (j : ℕ) (work : Work) → Stands image d (units_done before job j) → IsServingJob before job j work
    → MayRename before job → IsNext d.kind (search_of d.kind work.job.user work.job.name None) d.entries None
    → each (extents_of (units_done before job j) (file_now work)) (λ e. e.0.number) ≡ []
no_numbers image d before job j work stands serving may missing =
    ap (λ es. each es (λ e. e.0.number))
    (lowest_missing image d (units_done before job j) work.job.user work.job.name stands (subst (λ (q : Job). IsUnambiguous q.name) (sym serving.job_is) may.name) missing)

pub no_xfcb_left : (image : List ℕ) (d : Directory) (before : Drive) (job : Job) (j : ℕ) (work : Work) → Stands image d (units_done before job j)
    → IsServingJob before job j work → work.job.kind ≡ Rename → MayRename before job → j < length (plan_of before job).units → xfcb_slot d (new_file_of_job work.job) ≡ None
    → IsNext d.kind (search_of d.kind work.job.user work.job.name None) d.entries None → get (units_done before job j).xfcbs (file_of_job work.job) ≡ None → ⊥
no_xfcb_left image d before job j work stands serving is may h none missing gone =
    never_empty (plan_of before job).units j (renaming (units_done before job j) (file_now work) (new_now work)) (left_named before job j work serving is)
    (renaming_as (units_done before job j) (file_now work) (new_now work) [] None (xfcb_missing image d (units_done before job j) (new_now work) stands none) gone
    (no_numbers image d before job j work stands serving may missing)) h

pub xfcb_renamed : (image : List ℕ) (d : Directory) (before : Drive) (job : Job) (j : ℕ) (work : Work) → Stands image d (units_done before job j)
    → IsServingJob before job j work → work.job.kind ≡ Rename → MayRename before job → j < length (plan_of before job).units → xfcb_slot d (new_file_of_job work.job) ≡ None
    → IsNext d.kind (search_of d.kind work.job.user work.job.name None) d.entries None
    → IsDone before job j (record work { cleared = None }) (RenamesXfcb (file_of_job work.job) (new_file_of_job work.job))
xfcb_renamed image d before job j work stands serving is may h none missing = by_xfcb (get (units_done before job j).xfcbs (file_now work)) refl
  where
    by_xfcb : (o : Option Protection) → get (units_done before job j).xfcbs (file_now work) ≡ o
        → IsDone before job j (record work { cleared = None }) (RenamesXfcb (file_of_job work.job) (new_file_of_job work.job))
    by_xfcb None gone = absurd (no_xfcb_left image d before job j work stands serving is may h none missing gone)
    by_xfcb (Some xfcb) there =
        let next = renamed_xfcb_next (plan_of before job).units j (units_done before job j) (file_now work) (new_now work) xfcb (Idles (file_of_job job) None)
        (left_named before job j work serving is) (xfcb_missing image d (units_done before job j) (new_now work) stands none) there
        (no_numbers image d before job j work stands serving may missing) h in
        renames_done before job j work (RenamesXfcb (file_now work) (new_now work)) serving is h next.0 refl refl
        (nothing_left (plan_of before job).units (suc j) _ next.1)
