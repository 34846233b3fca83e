-- A call on records moves as many as it is asked for at most, and fewer where one of them fails.
use Rattle.std.proofs.Common.{◌≡◌, ◌∙◌, ℕ, zero, suc, ◌+◌, ◌/◌, ◌≤◌, ◌<◌, Bool, true, false, ◌&&◌, List, [], ◌∷◌, Option, Some, None, length, refl, sym, ap, subst, arith, take_all}
use Rattle.std.specs.Prelude.{is_some, sum_by, if◌then◌else◌}
use Rattle.std.proofs.lemmas.Bool.{true≢false, false≢true, le-ltb}
use Rattle.std.proofs.lemmas.List.Sums.{sum_by-append, sum_by-cons}
use Rattle.std.proofs.lemmas.List.FromFn.{length-map-range_with_len}
use Rattle.mpm_mount.specs.Drives.{FileName, Drive}
use Rattle.mpm_file_functions.specs.declared.errors.RecordError.{RecordError}
use Rattle.mpm_file_functions.specs.declared.errors.RecordError.TheVariants.{Mismatch}
use Rattle.mpm_jobs.specs.declared.jobs.JobKind.{JobKind}
use Rattle.mpm_jobs.specs.declared.jobs.JobKind.TheVariants.{Read, Write, TestWrite, Make, Delete, Rename, Attributes, Label, Xfcb, Nothing}
use Rattle.mpm_jobs.specs.declared.jobs.Job.{Job}
use Rattle.mpm_files.specs.Units.{FileUnit, ReadsRecord, PassesRecord, AddsEntry, ClearsBlock, WritesRecord, applied, all_applied}
use Rattle.mpm_files.specs.Plans.{CallPlan, TestedRecord, behind, failing, unless_failing, file_of_job, reading, needs_entry, needs_block, clears_blocks, write_error, write_units, writing, has_record, passing, testing, record_at, records_of_job, test_at, tests_of_job, plan_by, plan_of, turns_of}
use Rattle.mpm_mount.specs.Records.{read_error}
use Rattle.mpm_files.specs.Serving.{records_moved, moved_after, error_after}
use Rattle.mpm_bdos.proofs.RecordLaws.{one_written}

pub record FewMoved (plan : CallPlan) (count : ℕ) : Type 0 where
  pub most : sum_by records_moved plan.units ≤ count
  pub less : is_some plan.error ≡ true → sum_by records_moved plan.units < count

few_after : (error : Option RecordError) (units : List FileUnit) (plan : CallPlan) (count : ℕ) → sum_by records_moved units ≡ 1 → FewMoved plan count
    → FewMoved (unless_failing error (behind units plan)) (suc count)
few_after (Some error) units plan count is few = record { most = omega arith; less = λ h. omega arith }
few_after None units plan count is few = record {
  most = omega (arith, sum_by-append records_moved units plan.units, is, few.most);
  less = λ h. omega (arith, sum_by-append records_moved units plan.units, is, few.less h);
}

none_fails : (n : ℕ) → false ≡ true → 0 < n
none_fails n h = absurd (false≢true h)

reading_few : (count : ℕ) (drive : Drive) (file : FileName) (n : ℕ) → FewMoved (reading drive file n count) count
unfolding reading
reading_few zero drive file n = record { most = omega arith; less = none_fails zero }
reading_few (suc count) drive file n =
    few_after (read_error drive file n) (ReadsRecord file n ∷ []) (reading drive file (n + 1) count) count refl (reading_few count drive file (n + 1))

writing_few : (records : List (List ℕ)) (drive : Drive) (file : FileName) (n : ℕ) (stamp : Option (List ℕ)) → FewMoved (writing drive file n records stamp) (length records)
unfolding writing
writing_few [] drive file n stamp = record { most = omega arith; less = none_fails zero }
writing_few (bytes ∷ records) drive file n stamp =
    let units = write_units drive false file n bytes stamp in
    few_after (write_error drive file n) units (writing (all_applied drive units) file (n + 1) records None) (length records)
    (one_written (needs_entry drive file n) (clears_blocks drive.kind && (needs_block drive file n && true)) (AddsEntry file (n / 128)) (ClearsBlock file n) (WritesRecord file n bytes stamp) refl refl refl)
    (writing_few records (all_applied drive units) file (n + 1) None)

passes_none : (error : Bool) (file : FileName) (n : ℕ) (plan : CallPlan) → sum_by records_moved plan.units ≡ 0
    → sum_by records_moved (if error then failing Mismatch else (behind (PassesRecord file n ∷ []) plan)).units ≡ 0
passes_none true file n plan is = refl
passes_none false file n plan is = is

passing_none : (tests : List TestedRecord) (drive : Drive) (file : FileName) (n : ℕ) → sum_by records_moved (passing drive file n tests).units ≡ 0
unfolding passing
passing_none [] drive file n = refl
passing_none (test ∷ tests) drive file n = passes_none (is_some (read_error drive file n)) file n (passing drive file (n + 1) tests) (passing_none tests drive file (n + 1))

tested_few : (error : Option RecordError) (same : Bool) (units : List FileUnit) (rest other : CallPlan) (count : ℕ) → sum_by records_moved units ≡ 1 → sum_by records_moved other.units ≡ 0 → FewMoved rest count
    → FewMoved (unless_failing error (if same then behind units rest else other)) (suc count)
tested_few error true units rest other count is none few = few_after error units rest count is few
tested_few (Some error) false units rest other count is none few = record { most = omega arith; less = λ h. omega arith }
tested_few None false units rest other count is none few = record { most = omega (arith, none); less = λ h. omega (arith, none) }

testing_few : (tests : List TestedRecord) (drive : Drive) (file : FileName) (n : ℕ) (stamp : Option (List ℕ)) → FewMoved (testing drive file n tests stamp) (length tests)
unfolding testing
testing_few [] drive file n stamp = record { most = omega arith; less = none_fails zero }
testing_few (test ∷ tests) drive file n stamp =
    let unit = WritesRecord file n test.bytes stamp in
    tested_few (read_error drive file n) (has_record drive file n test.expected) (unit ∷ []) (testing (applied drive unit) file (n + 1) tests None) (passing drive file n (test ∷ tests)) (length tests) refl
    (passing_none (test ∷ tests) drive file n) (testing_few tests (applied drive unit) file (n + 1) None)

-- by the sort of a job
abbrev pub is_on_records : JobKind → Bool
is_on_records Read = true
is_on_records Write = true
is_on_records TestWrite = true
is_on_records Make = false
is_on_records Delete = false
is_on_records Rename = false
is_on_records Attributes = false
is_on_records Label = false
is_on_records Xfcb = false
is_on_records Nothing = false

few_by : (drive : Drive) (job : Job) (kind : JobKind) → is_on_records kind ≡ true → FewMoved (plan_by drive job kind) job.count
few_by drive job Read is = reading_few job.count drive (file_of_job job) job.first
few_by drive job Write is =
    subst (FewMoved (plan_by drive job Write)) (length-map-range_with_len (record_at job.bytes) 0 job.count) (writing_few (records_of_job job) drive (file_of_job job) job.first job.stamp)
few_by drive job TestWrite is =
    subst (FewMoved (plan_by drive job TestWrite)) (length-map-range_with_len (test_at job.bytes job.count) 0 job.count) (testing_few (tests_of_job job) drive (file_of_job job) job.first job.stamp)
few_by drive job Make is = absurd (false≢true is)
few_by drive job Delete is = absurd (false≢true is)
few_by drive job Rename is = absurd (false≢true is)
few_by drive job Attributes is = absurd (false≢true is)
few_by drive job Label is = absurd (false≢true is)
few_by drive job Xfcb is = absurd (false≢true is)
few_by drive job Nothing is = absurd (false≢true is)

never_fails : (drive : Drive) (job : Job) (kind : JobKind) → is_on_records kind ≡ false → is_some (plan_by drive job kind).error ≡ false
never_fails drive job Read is = absurd (true≢false is)
never_fails drive job Write is = absurd (true≢false is)
never_fails drive job TestWrite is = absurd (true≢false is)
never_fails drive job Make is = refl
never_fails drive job Delete is = refl
never_fails drive job Rename is = refl
never_fails drive job Attributes is = refl
never_fails drive job Label is = refl
never_fails drive job Xfcb is = refl
never_fails drive job Nothing is = refl

-- after all turns
pub all_moved : (drive : Drive) (job : Job) → moved_after drive job (turns_of drive job) ≡ sum_by records_moved (plan_of drive job).units
all_moved drive job = ap (sum_by records_moved) (take_all (turns_of drive job) (plan_of drive job).units (omega arith))

pub told_at_last : (drive : Drive) (job : Job) → error_after drive job (turns_of drive job) ≡ (plan_of drive job).error
told_at_last drive job =
    let j : ℕ = turns_of drive job in
    ap (λ b. if b then None else (plan_of drive job).error) (le-ltb j j (omega arith))

fewer_by : (drive : Drive) (job : Job) (on : Bool) → is_on_records job.kind ≡ on → is_some (plan_of drive job).error ≡ true → sum_by records_moved (plan_of drive job).units < job.count
unfolding plan_of
fewer_by drive job true is fails = (few_by drive job job.kind is).less fails
fewer_by drive job false is fails = absurd (true≢false (sym fails ∙ never_fails drive job job.kind is))

pub fewer_moved : (drive : Drive) (job : Job) → is_some (error_after drive job (turns_of drive job)) ≡ true → moved_after drive job (turns_of drive job) < job.count
fewer_moved drive job fails =
    subst (λ n. n < job.count) (sym (all_moved drive job)) (fewer_by drive job (is_on_records job.kind) refl (ap is_some (sym (told_at_last drive job)) ∙ fails))

pub most_moved : (drive : Drive) (job : Job) → is_on_records job.kind ≡ true → moved_after drive job (turns_of drive job) ≤ job.count
unfolding plan_of
most_moved drive job is = subst (λ n. n ≤ job.count) (sym (all_moved drive job)) (few_by drive job job.kind is).most

-- only a call on records fails
pub fails_on_records : (drive : Drive) (job : Job) → is_some (error_after drive job (turns_of drive job)) ≡ true → is_on_records job.kind ≡ true
unfolding plan_of
fails_on_records drive job fails = by_kind (is_on_records job.kind) refl
  where
    by_kind : (on : Bool) → is_on_records job.kind ≡ on → is_on_records job.kind ≡ true
    by_kind true is = is
    by_kind false is = absurd (true≢false (sym (ap is_some (sym (told_at_last drive job)) ∙ fails) ∙ never_fails drive job job.kind is))

-- records that are read are all moved where none fails
all_after : (error : Option RecordError) (unit : FileUnit) (plan : CallPlan) (count : ℕ) → records_moved unit ≡ 1 → (plan.error ≡ None → sum_by records_moved plan.units ≡ count)
    → (unless_failing error (behind (unit ∷ []) plan)).error ≡ None → sum_by records_moved (unless_failing error (behind (unit ∷ []) plan)).units ≡ suc count
all_after (Some error) unit plan count is all none = absurd (cc)
all_after None unit plan count is all none = omega (arith, sum_by-cons records_moved unit plan.units, is, all none)

reading_all : (count : ℕ) (drive : Drive) (file : FileName) (n : ℕ) → (reading drive file n count).error ≡ None → sum_by records_moved (reading drive file n count).units ≡ count
unfolding reading
reading_all zero drive file n none = refl
reading_all (suc count) drive file n none =
    all_after (read_error drive file n) (ReadsRecord file n) (reading drive file (n + 1) count) count refl (reading_all count drive file (n + 1)) none

pub all_where_none_fails : (drive : Drive) (job : Job) → job.kind ≡ Read → error_after drive job (turns_of drive job) ≡ None → moved_after drive job (turns_of drive job) ≡ job.count
unfolding plan_of
all_where_none_fails drive job is none =
    all_moved drive job
    ∙ ap (λ kind. sum_by records_moved (plan_by drive job kind).units) is
    ∙ reading_all job.count drive (file_of_job job) job.first
    (sym (ap (λ kind. (plan_by drive job kind).error) is) ∙ sym (told_at_last drive job) ∙ none)
