-- What is seen of each record in a call that tests records and writes them; and in any job that writes.
use Rattle.std.proofs.Common.{◌≡◌, ◌⊎◌, inl, inr, ℕ, zero, suc, ◌+◌, ◌/◌, ◌<◌, Bool, true, false, ◌&&◌, not, List, [], ◌∷◌, Option, Some, None, take, length, refl, sym, ap, subst, ◌∙◌, arith, take_all, le_refl}
use Rattle.std.specs.Prelude.{is_some, if◌then◌else◌}
use Rattle.std.specs.FinMap.{get}
use Rattle.std.proofs.lemmas.Bool.{true≢false}
use Rattle.mpm_mount.specs.Drives.{FileName, PhysicalExtent, Drive, entry_name, extent_at, visible_of}
use Rattle.mpm_file_functions.specs.declared.errors.RecordError.{RecordError}
use Rattle.mpm_file_functions.specs.declared.errors.RecordError.TheVariants.{Mismatch}
use Rattle.mpm_jobs.specs.declared.jobs.JobKind.TheVariants.{Write, TestWrite}
use Rattle.mpm_jobs.specs.declared.jobs.Job.{Job}
use Rattle.mpm_files.specs.Units.{FileUnit, AddsEntry, ClearsBlock, PassesRecord, WritesRecord, stages, last_of, applied, all_applied}
use Rattle.mpm_files.specs.Plans.{CallPlan, TestedRecord, behind, unless_failing, needs_entry, needs_block, clears_blocks, write_units, has_record, passing, testing, file_of_job, records_of_job, tests_of_job, plan_by, plan_of, turns_of}
use Rattle.mpm_mount.specs.Records.{read_error}
use Rattle.mpm_files.specs.Serving.{units_done}
use Rattle.mpm_files.specs.Containment.{IsShown}
use Rattle.mpm_files.proofs.Needs.{IsWhole, Done, record_done}
use Rattle.mpm_files.proofs.NextUnits.{alone_units, never}
use Rattle.mpm_files.proofs.TurnLaws.{all_turns}
use Rattle.mpm_mount.proofs.ReadErrors.{read_in}
use Rattle.mpm_files.proofs.Tested.{still_whole}
use Rattle.mpm_files.proofs.VisibleRecords.{UnitsShow, units_show, shown_through, writing_shown}

-- records that are passed change nothing
passed_none : (d : Drive) (file : FileName) (n : ℕ) (failed : Bool) (rest : CallPlan) → ((j : ℕ) → all_applied d (take j rest.units) ≡ d) → (j : ℕ)
    → all_applied d (take j (if failed then record { units = []; error = Some Mismatch } else (behind (PassesRecord file n ∷ []) rest)).units) ≡ d
unfolding all_applied applied stages last_of
passed_none d file n true rest so zero = refl
passed_none d file n true rest so (suc j) = refl
passed_none d file n false rest so zero = refl
passed_none d file n false rest so (suc j) = so j

passing_same : (tests : List TestedRecord) (d : Drive) (file : FileName) (n j : ℕ) → all_applied d (take j (passing d file n tests).units) ≡ d
unfolding passing all_applied
passing_same [] d file n zero = refl
passing_same [] d file n (suc j) = refl
passing_same (test ∷ tests) d file n j = passed_none d file n (is_some (read_error d file n)) (passing d file (n + 1) tests) (λ i. passing_same tests d file (n + 1) i) j

passing_all : (tests : List TestedRecord) (d : Drive) (file : FileName) (n : ℕ) → all_applied d (passing d file n tests).units ≡ d
passing_all tests d file n =
    sym (ap (all_applied d) (take_all (length (passing d file n tests).units) (passing d file n tests).units (le_refl (length (passing d file n tests).units)))) ∙ passing_same tests d file n (length (passing d file n tests).units)

-- a record that can be read is written by its own unit alone
entry_there : (d : Drive) (file : FileName) (n : ℕ) (o : Option PhysicalExtent) → read_in d.kind n o ≡ None → not (is_some o) ≡ false
entry_there d file n None none = absurd (true≢false (ap is_some none))
entry_there d file n (Some entry) none = refl

one_unit : (d : Drive) (file : FileName) (n : ℕ) (bytes : List ℕ) (stamp : Option (List ℕ)) → read_error d file n ≡ None
    → write_units d true file n bytes stamp ≡ WritesRecord file n bytes stamp ∷ []
unfolding extent_at visible_of
one_unit d file n bytes stamp none =
    alone_units (needs_entry d file n) (clears_blocks d.kind && (needs_block d file n && not true)) (AddsEntry file (n / 128)) (ClearsBlock file n) (WritesRecord file n bytes stamp)
    (entry_there d file n (get d.extents (entry_name d.kind file (n / 128))) none) (never (clears_blocks d.kind) (needs_block d file n))

replaced_shows : (d : Drive) (file : FileName) (n : ℕ) (bytes : List ℕ) (stamp : Option (List ℕ)) → IsWhole file d → read_error d file n ≡ None
    → UnitsShow file n d (WritesRecord file n bytes stamp ∷ [])
replaced_shows d file n bytes stamp whole none = subst (UnitsShow file n d) (one_unit d file n bytes stamp none) (units_show d file n bytes stamp true whole)

replaced_done : (d : Drive) (file : FileName) (n : ℕ) (bytes : List ℕ) (stamp : Option (List ℕ)) → IsWhole file d → read_error d file n ≡ None
    → Done file n d (applied d (WritesRecord file n bytes stamp))
unfolding all_applied
replaced_done d file n bytes stamp whole none =
    subst (λ us. Done file n d (all_applied d us)) (one_unit d file n bytes stamp none) (record_done d file n bytes stamp true whole)

-- what is seen stays
kept_by : (file : FileName) (m : ℕ) (b : List ℕ) (d : Drive) (error : Option RecordError) (has : Bool) (unit : FileUnit) (rest other : CallPlan) → visible_of d file m ≡ Some b
    → (error ≡ None → visible_of (all_applied (applied d unit) rest.units) file m ≡ Some b) → all_applied d other.units ≡ d
    → visible_of (all_applied d (unless_failing error (if has then behind (unit ∷ []) rest else other)).units) file m ≡ Some b
unfolding all_applied
kept_by file m b d (Some error) has unit rest other now after same = now
kept_by file m b d None true unit rest other now after same = after refl
kept_by file m b d None false unit rest other now after same = ap (λ e. visible_of e file m) same ∙ now

still_seen : (tests : List TestedRecord) (d : Drive) (file : FileName) (n : ℕ) (stamp : Option (List ℕ)) (m : ℕ) (b : List ℕ) → IsWhole file d → m < n → visible_of d file m ≡ Some b
    → visible_of (all_applied d (testing d file n tests stamp).units) file m ≡ Some b
unfolding testing all_applied
still_seen [] d file n stamp m b whole h shown = shown
still_seen (test ∷ tests) d file n stamp m b whole h shown =
    let unit : FileUnit = WritesRecord file n test.bytes stamp in
    kept_by file m b d (read_error d file n) (has_record d file n test.expected) unit (testing (applied d unit) file (n + 1) tests None) (passing d file n (test ∷ tests)) shown
    (λ none. still_seen tests (applied d unit) file (n + 1) None m b (still_whole d file n test.bytes stamp whole none) (omega arith)
    ((replaced_shows d file n test.bytes stamp whole none).changes.stays m b (λ same. absurd (omega (arith, same))) shown))
    (passing_all (test ∷ tests) d file n)

shown_either : (file : FileName) (d : Drive) (m j : ℕ) (error : Option RecordError) (has : Bool) (unit : FileUnit) (rest other : CallPlan)
    → (error ≡ None → (i : ℕ) → IsShown d (all_applied (applied d unit) rest.units) (all_applied (applied d unit) (take i rest.units)) file m)
    → all_applied d (take j other.units) ≡ d
    → let plan : CallPlan = unless_failing error (if has then behind (unit ∷ []) rest else other) in
    IsShown d (all_applied d plan.units) (all_applied d (take j plan.units)) file m
unfolding all_applied
shown_either file d m zero (Some error) has unit rest other so same = inl refl
shown_either file d m (suc j) (Some error) has unit rest other so same = inl refl
shown_either file d m zero None true unit rest other so same = inl refl
shown_either file d m (suc j) None true unit rest other so same = so refl j
shown_either file d m j None false unit rest other so same = inl (ap (λ e. visible_of e file m) same)

pub testing_shown : (tests : List TestedRecord) (d : Drive) (file : FileName) (n : ℕ) (stamp : Option (List ℕ)) (j m : ℕ) → IsWhole file d
    → let units : List FileUnit = (testing d file n tests stamp).units in
    IsShown d (all_applied d units) (all_applied d (take j units)) file m
unfolding testing all_applied
testing_shown [] d file n stamp zero m whole = inl refl
testing_shown [] d file n stamp (suc j) m whole = inl refl
testing_shown (test ∷ tests) d file n stamp j m whole =
    let unit : FileUnit = WritesRecord file n test.bytes stamp in
    let one : Drive = applied d unit in
    let rest : CallPlan = testing one file (n + 1) tests None in
    shown_either file d m j (read_error d file n) (has_record d file n test.expected) unit rest (passing d file n (test ∷ tests))
    (λ none i. shown_through file n d one (all_applied one rest.units) (all_applied one (take i rest.units)) m (replaced_done d file n test.bytes stamp whole none)
    (replaced_shows d file n test.bytes stamp whole none).changes
    (λ b h shown. still_seen tests one file (n + 1) None m b (still_whole d file n test.bytes stamp whole none) (omega arith) shown)
    (testing_shown tests one file (n + 1) None i m (still_whole d file n test.bytes stamp whole none)))
    (passing_same (test ∷ tests) d file n j)

-- of a job that writes: after any number of turns each record of its file is seen as before the call, as after it, or as the zeros of a
-- block that the call brings
done_shown : (before : Drive) (job : Job) (j n : ℕ) → IsShown before (all_applied before (plan_of before job).units) (units_done before job j) (file_of_job job) n
    → IsShown before (units_done before job (turns_of before job)) (units_done before job j) (file_of_job job) n
done_shown before job j n shown = subst (λ (z : Drive). IsShown before z (units_done before job j) (file_of_job job) n) (sym (all_turns before job)) shown

pub records_shown : (before : Drive) (job : Job) (j n : ℕ) → (job.kind ≡ Write) ⊎ (job.kind ≡ TestWrite) → IsWhole (file_of_job job) before
    → IsShown before (units_done before job (turns_of before job)) (units_done before job j) (file_of_job job) n
unfolding plan_of
records_shown before job j n (inl writes) whole =
    done_shown before job j n
    (subst (λ kind. IsShown before (all_applied before (plan_by before job kind).units) (all_applied before (take j (plan_by before job kind).units)) (file_of_job job) n) (sym writes)
    (writing_shown (records_of_job job) before (file_of_job job) job.first job.stamp j n whole))
records_shown before job j n (inr tests) whole =
    done_shown before job j n
    (subst (λ kind. IsShown before (all_applied before (plan_by before job kind).units) (all_applied before (take j (plan_by before job kind).units)) (file_of_job job) n) (sym tests)
    (testing_shown (tests_of_job job) before (file_of_job job) job.first job.stamp j n whole))
