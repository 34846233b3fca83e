-- Why a call ends, once all its turns have ended.
use Rattle.std.proofs.Common.{◌≡◌, ℕ, ◌+◌, ◌≤◌, Bool, true, false, ◌||◌, List, [], ◌∷◌, Option, Some, None, take, length, refl, sym, ap, ◌∙◌, arith, take_all}
use Rattle.std.specs.Prelude.{is_some, nat_lt, if◌then◌else◌}
use Rattle.std.specs.List.{list_any}
use Rattle.std.proofs.lemmas.Bool.{le-ltb}
use Rattle.std.proofs.lemmas.List.FromFn.{length-map-range_with_len}
use Rattle.mpm_mount.specs.Drives.{FileName, Drive}
use Rattle.mpm_file_functions.specs.declared.errors.RecordError.{RecordError}
use Rattle.mpm_file_functions.specs.declared.errors.RecordError.TheVariants.{Mismatch}
use Rattle.mpm_jobs.specs.declared.jobs.JobKind.{JobKind}
use Rattle.mpm_jobs.specs.declared.jobs.JobKind.TheVariants.{Read, Write, TestWrite, Make, Delete, Rename, Attributes, Label, Xfcb, Nothing}
use Rattle.mpm_jobs.specs.declared.jobs.Job.{Job}
use Rattle.mpm_files.specs.declared.counting.Count.{Count}
use Rattle.mpm_files.specs.declared.work.Work.{Work}
use Rattle.mpm_files.specs.Units.{FileUnit, PassesRecord, WritesRecord, applied}
use Rattle.mpm_files.specs.Plans.{CallPlan, TestedRecord, behind, unless_failing, file_of_job, reading, has_record, passing, testing, test_at, tests_of_job, plan_by, plan_of, turns_of}
use Rattle.mpm_mount.specs.Records.{read_error}
use Rattle.mpm_files.specs.Counting.{unless_refused, read_count}
use Rattle.mpm_files.specs.Serving.{is_passing, missed_by, error_after, untested_by, untested_plan, turns_in, IsServingJob, told_error}
use Rattle.mpm_files.proofs.Needs.{IsWhole}
use Rattle.mpm_files.proofs.Tested.{counted_reading, reads_alike, same_reads, still_whole}

-- where records are tested the end is a mismatch, or what it would be if they were read
abbrev missing : CallPlan → Bool
missing plan = list_any is_passing plan.units

passes_first : (file : FileName) (n : ℕ) (error : Option RecordError) (rest : CallPlan) → rest.error ≡ Some Mismatch
    → (if is_some error then record { units = []; error = Some Mismatch } else (behind (PassesRecord file n ∷ []) rest)).error ≡ Some Mismatch
passes_first file n None rest same = same
passes_first file n (Some error) rest same = refl

passing_ends : (tests : List TestedRecord) (d : Drive) (file : FileName) (n : ℕ) → (passing d file n tests).error ≡ Some Mismatch
unfolding passing
passing_ends [] d file n = refl
passing_ends (test ∷ tests) d file n = passes_first file n (read_error d file n) (passing d file (n + 1) tests) (passing_ends tests d file (n + 1))

passing_misses : (test : TestedRecord) (tests : List TestedRecord) (d : Drive) (file : FileName) (n : ℕ) → read_error d file n ≡ None → missing (passing d file n (test ∷ tests)) ≡ true
unfolding passing
passing_misses test tests d file n none =
    ap (λ e. missing (if is_some e then record { units = []; error = Some Mismatch } else (behind (PassesRecord file n ∷ []) (passing d file (n + 1) tests)))) none

ends_by : (error : Option RecordError) (b : Bool) (unit : FileUnit) (rest other : CallPlan) (count : Count) → is_passing unit ≡ false
    → (error ≡ None → rest.error ≡ (if missing rest then Some Mismatch else count.error))
    → (error ≡ None → (other.error ≡ Some Mismatch) × (missing other ≡ true))
    → let plan : CallPlan = unless_failing error (if b then behind (unit ∷ []) rest else other) in
    plan.error ≡ (if missing plan then Some Mismatch else (unless_refused error 1 count).error)
ends_by (Some error) b unit rest other count moves one two = refl
ends_by None true unit rest other count moves one two = one refl ∙ sym (ap (λ c. if c || missing rest then Some Mismatch else count.error) moves)
ends_by None false unit rest other count moves one two = (two refl).0 ∙ sym (ap (λ c. if c then Some Mismatch else count.error) (two refl).1)

testing_ends : (tests : List TestedRecord) (d : Drive) (file : FileName) (n : ℕ) (stamp : Option (List ℕ)) → IsWhole file d
    → (testing d file n tests stamp).error ≡ (if missing (testing d file n tests stamp) then Some Mismatch else (read_count (read_error d file) n (length tests)).error)
unfolding testing read_count
testing_ends [] d file n stamp whole = refl
testing_ends (test ∷ tests) d file n stamp whole =
    let unit : FileUnit = WritesRecord file n test.bytes stamp in
    let after : Drive = applied d unit in
    let rest : CallPlan = testing after file (n + 1) tests None in
    ends_by (read_error d file n) (has_record d file n test.expected) unit rest (passing d file n (test ∷ tests)) (read_count (read_error d file) (n + 1) (length tests)) refl
    (λ none. testing_ends tests after file (n + 1) None (still_whole d file n test.bytes stamp whole none)
    ∙ ap (λ (c : Count). if missing rest then Some Mismatch else c.error)
    (reads_alike (length tests) (read_error after file) (read_error d file) (n + 1) (λ m. same_reads d file n m test.bytes stamp whole none)))
    (λ none. (passing_ends (test ∷ tests) d file n, passing_misses test tests d file n none))

-- by kind
ended_by : (before : Drive) (job : Job) (j : ℕ) (kind : JobKind) → IsWhole (file_of_job job) before → length (plan_by before job kind).units ≤ j
    → list_any is_passing (take j (plan_of before job).units) ≡ list_any is_passing (plan_by before job kind).units
    → (if missed_by before job j kind then Some Mismatch else (untested_by before job kind).error) ≡ (plan_by before job kind).error
ended_by before job j TestWrite whole size all =
    let file : FileName = file_of_job job in
    ap (λ b. if b then Some Mismatch else (reading before file job.first job.count).error) all
    ∙ ap (λ (c : Count). if missing (testing before file job.first (tests_of_job job) job.stamp) then Some Mismatch else c.error)
    (counted_reading job.count before file job.first
    ∙ sym (ap (read_count (read_error before file) job.first) (length-map-range_with_len (test_at job.bytes job.count) 0 job.count)))
    ∙ sym (testing_ends (tests_of_job job) before file job.first job.stamp whole)
ended_by before job j Read whole size all = refl
ended_by before job j Write whole size all = refl
ended_by before job j Make whole size all = refl
ended_by before job j Delete whole size all = refl
ended_by before job j Rename whole size all = refl
ended_by before job j Attributes whole size all = refl
ended_by before job j Label whole size all = refl
ended_by before job j Xfcb whole size all = refl
ended_by before job j Nothing whole size all = refl

-- after all turns a call tells why it ended
pub error_told : (before : Drive) (job : Job) (work : Work) → IsWhole (file_of_job job) before → IsServingJob before job (turns_of before job) work
    → told_error work ≡ error_after before job (turns_of before job)
unfolding plan_of untested_plan
error_told before job work whole serving =
    let j : ℕ = turns_of before job in
    let size : length (plan_of before job).units ≤ j = omega arith in
    let ended : nat_lt work.ended (turns_in work) ≡ false = le-ltb work.ended (turns_in work) (omega (arith, serving.ended, serving.units)) in
    let over : nat_lt j j ≡ false = le-ltb j j (omega arith) in
    ap (λ b. if b then None else (if work.has_missed then Some Mismatch else work.error)) ended
    ∙ ap (λ b. if b then Some Mismatch else work.error) serving.missed
    ∙ ap (λ e. if missed_by before job j job.kind then Some Mismatch else e) serving.error
    ∙ ended_by before job j job.kind whole size (ap (list_any is_passing) (take_all j (plan_of before job).units size))
    ∙ sym (ap (λ b. if b then None else (plan_by before job job.kind).error) over)
