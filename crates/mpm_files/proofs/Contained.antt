-- In each turn, and within it, what a call doesn't name is as it was before the call, and its records are seen as some number of its units
-- leaves them.
use Rattle.std.proofs.Common.{◌≡◌, ◌⊎◌, inl, inr, ℕ, suc, zero, ◌+◌, ◌≤◌, ◌/◌, ◌==◌, Bool, true, false, ◌||◌, ◌&&◌, not, List, [], ◌∷◌, ◌++◌, Option, Some, None, take, map, refl, sym, ap, subst, ◌∙◌, arith}
use Rattle.std.specs.List.{AllByRecursion, list_any}
use Rattle.std.specs.Prelude.{is_some, slice_index_or, if◌then◌else◌}
use Rattle.std.specs.FinMap.{get}
use Rattle.std.proofs.lemmas.Bool.{true≢false, or_parts, and_from, false_from_ne_true}
use Rattle.mpm_base.proofs.Choices.{either}
use Rattle.mpm_mount.specs.Drives.{FileName, Drive, extents_of}
use Rattle.mpm_mount.specs.Files.{is_same_file, entries_named, is_entry_of, has_file, is_fitting}
use Rattle.mpm_mount.proofs.Names.{one_file}
use Rattle.mpm_file_functions.specs.declared.errors.RecordError.{RecordError}
use Rattle.mpm_jobs.specs.declared.jobs.JobKind.{JobKind}
use Rattle.mpm_jobs.specs.declared.jobs.JobKind.TheVariants.{Read, Write, TestWrite, Make, Delete, Rename, Attributes, Label, Xfcb, Nothing}
use Rattle.mpm_jobs.specs.declared.jobs.Job.{Job}
use Rattle.mpm_files.specs.Units.{FileUnit, Idles, ReadsRecord, PassesRecord, AddsEntry, ClearsBlock, WritesRecord, RenamesEntry, PutsXfcb, RemovesXfcb, RenamesXfcb, stages, applied, all_applied}
use Rattle.mpm_files.specs.Plans.{CallPlan, TestedRecord, behind, unless_failing, when, file_of_job, new_file_of_job, write_error, needs_entry, needs_block, clears_blocks, write_units, reading, writing, has_record, passing, testing, of_entries, of_xfcb, deleting_entry, deleting, renaming, protection_in, records_of_job, tests_of_job, plan_by, plan_of, unit_at}
use Rattle.mpm_mount.specs.Records.{read_error}
use Rattle.mpm_files.specs.Serving.{units_done}
use Rattle.mpm_files.specs.Containment.{KeepsOtherFiles, SameRecords, IsWithinUnit, IsContained, unit_names, names_label, names_by, names, is_label_job}
use Rattle.mpm_files.proofs.Keeping.{keeps_itself, keeps_after, keeps_wider, all_so}
use Rattle.mpm_files.proofs.Seen.{seen_itself}
use Rattle.mpm_files.proofs.Within.{stages_within, unit_keeps}
use Rattle.mpm_files.proofs.TurnLaws.{one_turn}

-- a unit names only files that pass a test, and the label only where it may
record NamesOnly (p : FileName → Bool) (l : Bool) (unit : FileUnit) : Type 0 where
  files : (file : FileName) → p file ≡ false → unit_names unit file ≡ false
  label : l ≡ false → names_label unit ≡ false

abbrev AllName : (FileName → Bool) → Bool → List FileUnit → Type 0
AllName p l = AllByRecursion (NamesOnly p l)

name_both : (p : FileName → Bool) (l : Bool) (us vs : List FileUnit) → AllName p l us → AllName p l vs → AllName p l (us ++ vs)
name_both p l [] vs one other = other
name_both p l (u ∷ us) vs one other = (one.0, name_both p l us vs one.1 other)

name_more : (p q : FileName → Bool) (l : Bool) (us : List FileUnit) → ((file : FileName) → q file ≡ false → p file ≡ false) → AllName p l us → AllName q l us
name_more p q l [] wider each = tt
name_more p q l (u ∷ us) wider each = (record { files = λ file no. each.0.files file (wider file no); label = each.0.label }, name_more p q l us wider each.1)

name_some : (p : FileName → Bool) (l : Bool) (us : List FileUnit) (j : ℕ) → AllName p l us → AllName p l (take j us)
name_some p l [] zero each = tt
name_some p l [] (suc j) each = tt
name_some p l (u ∷ us) zero each = tt
name_some p l (u ∷ us) (suc j) each = (each.0, name_some p l us j each.1)

name_when : (p : FileName → Bool) (l b : Bool) (unit : FileUnit) → NamesOnly p l unit → AllName p l (when b unit)
name_when p l true unit names = (names, tt)
name_when p l false unit names = tt

name_each : {K : Type 0} (p : FileName → Bool) (l : Bool) (f : K → FileUnit) (ks : List K) → ((k : K) → NamesOnly p l (f k)) → AllName p l (map f ks)
name_each p l f [] names = tt
name_each p l f (k ∷ ks) names = (names k, name_each p l f ks names)

name_plan : (p : FileName → Bool) (l : Bool) (error : Option RecordError) (us : List FileUnit) (plan : CallPlan) → AllName p l us → AllName p l plan.units
    → AllName p l (unless_failing error (behind us plan)).units
name_plan p l None us plan one other = name_both p l us plan.units one other
name_plan p l (Some error) us plan one other = tt

-- the units of one file
abbrev One : FileName → List FileUnit → Type 0
One file = AllName (λ other. is_same_file other file) false

its : (file : FileName) (unit : FileUnit) → ((other : FileName) → is_same_file other file ≡ false → unit_names unit other ≡ false) → names_label unit ≡ false
    → NamesOnly (λ other. is_same_file other file) false unit
its file unit files label = record { files = files; label = λ no. label }

reading_names : (count : ℕ) (drive : Drive) (file : FileName) (n : ℕ) → One file (reading drive file n count).units
unfolding reading
reading_names zero drive file n = tt
reading_names (suc count) drive file n =
    name_plan (λ other. is_same_file other file) false (read_error drive file n) (ReadsRecord file n ∷ []) (reading drive file (n + 1) count)
    (its file (ReadsRecord file n) (λ other no. no) refl, tt) (reading_names count drive file (n + 1))

units_name : (drive : Drive) (file : FileName) (n : ℕ) (bytes : List ℕ) (stamp : Option (List ℕ)) → One file (write_units drive false file n bytes stamp)
units_name drive file n bytes stamp =
    let p : FileName → Bool = λ other. is_same_file other file in
    let fresh : Bool = clears_blocks drive.kind && (needs_block drive file n && not false) in
    let last : List FileUnit = WritesRecord file n bytes stamp ∷ [] in
    let written : One file last = (its file (WritesRecord file n bytes stamp) (λ other no. no) refl, tt) in
    name_both p false (when (needs_entry drive file n) (AddsEntry file (n / 128))) (when fresh (ClearsBlock file n) ++ last)
    (name_when p false (needs_entry drive file n) (AddsEntry file (n / 128)) (its file (AddsEntry file (n / 128)) (λ other no. no) refl))
    (name_both p false (when fresh (ClearsBlock file n)) last (name_when p false fresh (ClearsBlock file n) (its file (ClearsBlock file n) (λ other no. no) refl)) written)

writing_names : (records : List (List ℕ)) (drive : Drive) (file : FileName) (n : ℕ) (stamp : Option (List ℕ)) → One file (writing drive file n records stamp).units
unfolding writing
writing_names [] drive file n stamp = tt
writing_names (bytes ∷ records) drive file n stamp =
    let units : List FileUnit = write_units drive false file n bytes stamp in
    name_plan (λ other. is_same_file other file) false (write_error drive file n) units (writing (all_applied drive units) file (n + 1) records None)
    (units_name drive file n bytes stamp) (writing_names records (all_applied drive units) file (n + 1) None)

passing_by : (file : FileName) (n : ℕ) (b : Bool) (plan : CallPlan) (failed : CallPlan) → One file plan.units → failed.units ≡ []
    → One file (if b then failed else (behind (PassesRecord file n ∷ []) plan)).units
passing_by file n true plan failed one none = subst (One file) (sym none) tt
passing_by file n false plan failed one none = (its file (PassesRecord file n) (λ other no. no) refl, one)

passing_names : (tests : List TestedRecord) (drive : Drive) (file : FileName) (n : ℕ) → One file (passing drive file n tests).units
unfolding passing
passing_names [] drive file n = tt
passing_names (test ∷ tests) drive file n =
    passing_by file n (is_some (read_error drive file n)) (passing drive file (n + 1) tests) _ (passing_names tests drive file (n + 1)) refl

either_plan : (file : FileName) (error : Option RecordError) (b : Bool) (one other : CallPlan) → One file one.units → One file other.units
    → One file (unless_failing error (if b then one else other)).units
either_plan file (Some error) b one other here there = tt
either_plan file None true one other here there = here
either_plan file None false one other here there = there

testing_names : (tests : List TestedRecord) (drive : Drive) (file : FileName) (n : ℕ) (stamp : Option (List ℕ)) → One file (testing drive file n tests stamp).units
unfolding testing
testing_names [] drive file n stamp = tt
testing_names (test ∷ tests) drive file n stamp =
    let unit : FileUnit = WritesRecord file n test.bytes stamp in
    either_plan file (read_error drive file n) (has_record drive file n test.expected)
    (behind (unit ∷ []) (testing (applied drive unit) file (n + 1) tests None)) (passing drive file n (test ∷ tests))
    (its file unit (λ other no. no) refl, testing_names tests (applied drive unit) file (n + 1) None) (passing_names (test ∷ tests) drive file n)

-- those of a deletion: each entry is of a file that fits and is there
fitting_one : (drive : Drive) (user : ℕ) (pattern : List ℕ) (entry : FileName × ℕ) (entries : List (FileName × ℕ)) (b : Bool) → is_fitting user pattern entry.0 ≡ b
    → AllName (λ other. is_fitting user pattern other && is_same_file other entry.0) false (if b then deleting_entry drive entry entries else [])
fitting_one drive user pattern entry entries false fits = tt
fitting_one drive user pattern entry entries true fits =
    let p : FileName → Bool = λ other. is_fitting user pattern other && is_same_file other entry.0 in
    let apart : (other : FileName) → p other ≡ false → is_same_file other entry.0 ≡ false = λ other no. false_from_ne_true (is_same_file other entry.0) (λ same.
    true≢false (sym (and_from (is_fitting user pattern other) (is_same_file other entry.0) (ap (is_fitting user pattern) (one_file other entry.0 same) ∙ fits) same) ∙ no)) in
    let units : List FileUnit = of_xfcb drive entry.0 (RemovesXfcb entry.0) in
    let removed : NamesOnly p false (RemovesXfcb entry.0) = record { files = apart; label = λ no. refl } in (
      record { files = apart; label = λ no. refl },
      either (AllName p false) (list_any (is_entry_of entry.0) entries) [] units (λ more. tt) (λ last. name_when p false (is_some (get drive.xfcbs entry.0)) (RemovesXfcb entry.0) removed),
    )

-- among more files
among : (f a b : Bool) → (f && (a || b)) ≡ false → ((f && a) ≡ false) × ((f && b) ≡ false)
among true a b e = or_parts a b e
among false a b e = (refl, refl)

deleting_names : (drive : Drive) (user : ℕ) (pattern : List ℕ) (entries : List (FileName × ℕ))
    → AllName (λ other. is_fitting user pattern other && list_any (is_entry_of other) entries) false (deleting drive user pattern entries)
unfolding deleting
deleting_names drive user pattern [] = tt
deleting_names drive user pattern (entry ∷ entries) =
    let p : FileName → Bool = λ other. is_fitting user pattern other && list_any (is_entry_of other) (entry ∷ entries) in
    let parts : (other : FileName) → p other ≡ false
    → ((is_fitting user pattern other && is_same_file other entry.0) ≡ false) × ((is_fitting user pattern other && list_any (is_entry_of other) entries) ≡ false) =
    λ other no. among (is_fitting user pattern other) (is_same_file other entry.0) (list_any (is_entry_of other) entries) no in
    let first : List FileUnit = if is_fitting user pattern entry.0 then deleting_entry drive entry entries else [] in
    name_both p false first (deleting drive user pattern entries)
    (name_more (λ other. is_fitting user pattern other && is_same_file other entry.0) p false first (λ other no. (parts other no).0)
    (fitting_one drive user pattern entry entries (is_fitting user pattern entry.0) refl))
    (name_more (λ other. is_fitting user pattern other && list_any (is_entry_of other) entries) p false (deleting drive user pattern entries) (λ other no. (parts other no).1)
    (deleting_names drive user pattern entries))

-- those of a renaming
renaming_names : (drive : Drive) (file new : FileName) → AllName (λ other. is_same_file other file || is_same_file other new) false (renaming drive file new)
renaming_names drive file new =
    let p : FileName → Bool = λ other. is_same_file other file || is_same_file other new in
    name_both p false (of_xfcb drive new (RemovesXfcb new)) (of_entries drive file (λ number. RenamesEntry file number new) ++ of_xfcb drive file (RenamesXfcb file new))
    (name_when p false (is_some (get drive.xfcbs new)) (RemovesXfcb new)
    (record { files = λ other no. (or_parts (is_same_file other file) (is_same_file other new) no).1; label = λ no. refl }))
    (name_both p false (of_entries drive file (λ number. RenamesEntry file number new)) (of_xfcb drive file (RenamesXfcb file new))
    (name_each p false _ (extents_of drive file) (λ entry. record { files = λ other no. no; label = λ no. refl }))
    (name_when p false (is_some (get drive.xfcbs file)) (RenamesXfcb file new) (record { files = λ other no. no; label = λ no. refl })))

-- the units of a job
by_kind : (drive : Drive) (job : Job) (kind : JobKind) → AllName (λ other. names_by drive job other kind) (is_label_job kind) (plan_by drive job kind).units
unfolding has_file
by_kind drive job Read = reading_names job.count drive (file_of_job job) job.first
by_kind drive job Write = writing_names (records_of_job job) drive (file_of_job job) job.first job.stamp
by_kind drive job TestWrite = testing_names (tests_of_job job) drive (file_of_job job) job.first job.stamp
by_kind drive job Make = (
  its (file_of_job job) (AddsEntry (file_of_job job) 0) (λ other no. no) refl,
  name_when (λ other. is_same_file other (file_of_job job)) false (not (job.count == 0)) (PutsXfcb (file_of_job job) (protection_in job))
      (its (file_of_job job) (PutsXfcb (file_of_job job) (protection_in job)) (λ other no. no) refl),
)
by_kind drive job Delete = deleting_names drive job.user job.name (entries_named drive)
by_kind drive job Rename = renaming_names drive (file_of_job job) (new_file_of_job job)
by_kind drive job Attributes =
    name_each (λ other. is_same_file other (file_of_job job)) false _ (extents_of drive (file_of_job job)) (λ entry. its (file_of_job job) _ (λ other no. no) refl)
by_kind drive job Label = (record { files = λ file no. refl; label = λ no. absurd (true≢false no) }, tt)
by_kind drive job Xfcb = (its (file_of_job job) (PutsXfcb (file_of_job job) (protection_in job)) (λ other no. no) refl, tt)
by_kind drive job Nothing = (its (file_of_job job) (Idles (file_of_job job) job.stamp) (λ other no. no) refl, tt)

job_names : (drive : Drive) (job : Job) → AllName (names drive job) (is_label_job job.kind) (plan_of drive job).units
unfolding plan_of names
job_names drive job = by_kind drive job job.kind

-- what some units keep
all_keep : (p : FileName → Bool) (l : Bool) (us : List FileUnit) (drive : Drive) → AllName p l us → KeepsOtherFiles p l drive (all_applied drive us)
unfolding all_applied
all_keep p l [] drive names = keeps_itself p l drive
all_keep p l (u ∷ us) drive names =
    keeps_after p l drive (applied drive u) (all_applied (applied drive u) us)
    (keeps_wider (unit_names u) p (names_label u) l drive (applied drive u) names.0.files names.0.label (unit_keeps u drive))
    (all_keep p l us (applied drive u) names.1)

-- after each number of turns files and XFCBs that a job doesn't name are as before it, and so is the label but in a job of the label
pub turns_keep : (drive : Drive) (job : Job) (j : ℕ) → KeepsOtherFiles (names drive job) (is_label_job job.kind) drive (units_done drive job j)
turns_keep drive job j =
    all_keep (names drive job) (is_label_job job.kind) (take j (plan_of drive job).units) drive
    (name_some (names drive job) (is_label_job job.kind) (plan_of drive job).units j (job_names drive job))

-- the unit of a turn, or none
unit_named : (p : FileName → Bool) (l : Bool) (us : List FileUnit) (j : ℕ) (other : FileUnit) → AllName p l us
    → NamesOnly p l (slice_index_or us j other) ⊎ (slice_index_or us j other ≡ other)
unit_named p l [] zero other each = inr refl
unit_named p l [] (suc j) other each = inr refl
unit_named p l (u ∷ us) zero other each = inl each.0
unit_named p l (u ∷ us) (suc j) other each = unit_named p l us j other each.1

one_within : (before : Drive) (job : Job) (j turn : ℕ) → j ≤ turn → NamesOnly (names before job) (is_label_job job.kind) (unit_at before job turn) → (now : Drive)
    → IsWithinUnit (unit_at before job turn) (units_done before job turn) now → IsContained before job j now
one_within before job j turn since named now within =
    let p : FileName → Bool = names before job in
    let l : Bool = is_label_job job.kind in
    let unit : FileUnit = unit_at before job turn in
    let keeps : KeepsOtherFiles p l before now =
    keeps_after p l before (units_done before job turn) now (turns_keep before job turn)
    (keeps_wider (unit_names unit) p (names_label unit) l (units_done before job turn) now named.files named.label within.keeps) in
    elim within.records [
      | inl same ↦ record { keeps = keeps; turn = turn; since = since; records = same }
      | inr same ↦ record {
        keeps = keeps;
        turn = suc turn;
        since = omega arith;
        records = subst (λ (d : Drive). SameRecords d now) (sym (one_turn before job turn)) same;
      }
    ]

-- wherever the device fails in a turn of a call from turn j on, the drive is contained
pub turn_contained : (before : Drive) (job : Job) (j turn : ℕ) → j ≤ turn
    → AllByRecursion (IsContained before job j) (units_done before job turn ∷ stages (unit_at before job turn) (units_done before job turn))
unfolding stages
turn_contained before job j turn since =
    let unit : FileUnit = unit_at before job turn in
    let drive : Drive = units_done before job turn in (
      record { keeps = turns_keep before job turn; turn = turn; since = since; records = seen_itself drive },
      elim (unit_named (names before job) (is_label_job job.kind) (plan_of before job).units turn (Idles (file_of_job job) None) (job_names before job)) [
        | inl named ↦ all_so (IsWithinUnit unit drive) (IsContained before job j) (stages unit drive) (one_within before job j turn since named) (stages_within unit drive)
        | inr none ↦ subst (λ (u : FileUnit). AllByRecursion (IsContained before job j) (stages u drive)) (sym none) tt
      ],
    )
