-- A call that tests and writes, cut before the first record that is there and that another process has locked, ends with its job
-- exactly as the table of its function says.
use Rattle.std.proofs.Common.{◌≡◌, ◌∙◌, ℕ, zero, suc, ◌+◌, ◌/◌, Bool, true, false, not, ◌&&◌, cond, List, [], ◌∷◌, Option, Some, None, length, take, sym, refl, ap, arith}
use Rattle.std.specs.Prelude.{nat_lt, sum_by, is_some}
use Rattle.std.proofs.lemmas.List.Sums.{sum_by-append}
use Rattle.mpm_mount.specs.Drives.{FileName, Drive, extent_at, visible_of}
use Rattle.mpm_opens.specs.declared.kinds.FileKey.{FileKey}
use Rattle.mpm_opens.specs.Opens.{OpenFiles}
use Rattle.mpm_file_functions.specs.declared.errors.RecordError.{RecordError}
use Rattle.mpm_file_functions.specs.declared.errors.RecordError.TheVariants.{UnwrittenExtent, UnwrittenData, Mismatch}
use Rattle.mpm_files.specs.Units.{FileUnit, PassesRecord, WritesRecord, applied}
use Rattle.mpm_files.specs.Plans.{CallPlan, TestedRecord, behind, unless_failing, has_record, passing, testing}
use Rattle.mpm_mount.specs.Records.{read_error}
use Rattle.mpm_files.specs.Serving.{records_moved}
use Rattle.mpm_files.proofs.Needs.{IsWhole}
use Rattle.mpm_files.proofs.Tested.{same_reads, still_whole}
use Rattle.mpm_file_functions.specs.declared.ends.RecordEnd.{RecordEnd}
use Rattle.mpm_file_functions.specs.declared.ends.Ended.{Ended}
use Rattle.mpm_file_functions.specs.declared.ends.RecordEnd.TheVariants.{Failing, LockedOff}
use Rattle.mpm_refusals.specs.Subjects.{file_of}
use Rattle.mpm_locks.specs.Locks.{is_locked_off, count_until}
use Rattle.mpm_bdos.specs.Records.{ends, end_of, one_done, ended_by, testing_ended}
use Rattle.mpm_file_functions.specs.Ends.{ends_of, end_by}
use Rattle.mpm_bdos.proofs.RecordLaws.{planned, one_more, is_cut}

-- records from one that has other bytes on: none is moved
none_moved : (unit : FileUnit) (plan : CallPlan) (cut : Bool) → records_moved unit ≡ 0 → planned plan cut ≡ record { moved = 0; end = Some (Failing Mismatch) }
    → planned (behind (unit ∷ []) plan) cut ≡ record { moved = 0; end = Some (Failing Mismatch) }
none_moved unit plan cut no_record so =
    ap (λ moved. record { moved = moved; end = end_by plan.error cut })
    (sum_by-append records_moved (unit ∷ []) plan.units ∙ plus_none (sum_by records_moved (unit ∷ [])) (sum_by records_moved plan.units) (omega (arith, no_record)))
    ∙ so
  where
    plus_none : (units rest : ℕ) → units ≡ 0 → units + rest ≡ rest
    plus_none units rest is = omega arith

passing_by : (unread : Bool) (unit : FileUnit) (rest : CallPlan) (cut : Bool) → records_moved unit ≡ 0 → planned rest cut ≡ record { moved = 0; end = Some (Failing Mismatch) }
    → planned (cond unread (record { units = []; error = Some Mismatch }) (behind (unit ∷ []) rest)) cut ≡ record { moved = 0; end = Some (Failing Mismatch) }
passing_by true unit rest cut no_record so = refl
passing_by false unit rest cut no_record so = none_moved unit rest cut no_record so

passing_ends : (drive : Drive) (file : FileName) (n : ℕ) (tests : List TestedRecord) (cut : Bool) → planned (passing drive file n tests) cut ≡ record { moved = 0; end = Some (Failing Mismatch) }
unfolding passing
passing_ends drive file n [] cut = refl
passing_ends drive file n (test ∷ tests) cut =
    passing_by (is_some (read_error drive file n)) (PassesRecord file n) (passing drive file (n + 1) tests) cut refl (passing_ends drive file (n + 1) tests cut)

-- a record that is there, which isn't another's: it is replaced, or has other bytes
abbrev testing_step : Drive → FileName → ℕ → TestedRecord → List TestedRecord → Option (List ℕ) → Bool → CallPlan
testing_step drive file n test tests stamp same =
    cond same (behind (WritesRecord file n test.bytes stamp ∷ []) (testing (applied drive (WritesRecord file n test.bytes stamp)) file (n + 1) tests None))
    (passing drive file n (test ∷ tests))

by_bytes : (drive : Drive) (file : FileName) (n : ℕ) (test : TestedRecord) (tests : List TestedRecord) (stamp : Option (List ℕ)) (k count : ℕ) (rest : Ended) (same : Bool)
    → planned (testing (applied drive (WritesRecord file n test.bytes stamp)) file (n + 1) tests None) (nat_lt k count) ≡ rest
    → planned (testing_step drive file n test tests stamp same) (nat_lt (suc k) (suc count)) ≡ ended_by (cond (not same) (Some (Failing Mismatch)) None) rest
by_bytes drive file n test tests stamp k count rest true so =
    one_more (WritesRecord file n test.bytes stamp ∷ []) (testing (applied drive (WritesRecord file n test.bytes stamp)) file (n + 1) tests None) k count refl ∙ ap one_done so
by_bytes drive file n test tests stamp k count rest false so = passing_ends drive file n (test ∷ tests) (nat_lt (suc k) (suc count))

-- a record by whether it is there, and whether it is another's
abbrev errors_by : Bool → Bool → Option RecordError
errors_by no_extent no_data = cond no_extent (Some UnwrittenExtent) (cond no_data (Some UnwrittenData) None)

abbrev pub cut_testing : Drive → FileName → ℕ → List TestedRecord → Option (List ℕ) → ℕ → Ended
cut_testing drive file n tests stamp k = planned (testing drive file n (take k tests) stamp) (nat_lt k (length tests))

abbrev ends_by : Bool → Bool → Bool → Bool → Option RecordEnd
ends_by no_extent no_data locked same =
    cond no_extent (Some (Failing UnwrittenExtent)) (cond no_data (Some (Failing UnwrittenData))
    (cond locked (Some LockedOff) (cond (not same) (Some (Failing Mismatch)) None)))

abbrev some_tests : Drive → FileName → ℕ → TestedRecord → List TestedRecord → Option (List ℕ) → Option RecordError → Bool → ℕ → CallPlan
some_tests drive file n test tests stamp error same zero = record { units = []; error = None }
some_tests drive file n test tests stamp error same (suc k) = unless_failing error (testing_step drive file n test (take k tests) stamp same)

by_record : (drive : Drive) (file : FileName) (n : ℕ) (test : TestedRecord) (tests : List TestedRecord) (stamp : Option (List ℕ)) (k : ℕ) (rest : Ended) (no_extent no_data locked same : Bool)
    → (errors_by no_extent no_data ≡ None → cut_testing (applied drive (WritesRecord file n test.bytes stamp)) file (n + 1) tests None k ≡ rest)
    → planned (some_tests drive file n test tests stamp (errors_by no_extent no_data) same (cond (locked && not (is_some (errors_by no_extent no_data))) 0 (suc k)))
    (nat_lt (cond (locked && not (is_some (errors_by no_extent no_data))) 0 (suc k)) (suc (length tests)))
    ≡ ended_by (ends_by no_extent no_data locked same) rest
by_record drive file n test tests stamp k rest true no_data true same so = refl
by_record drive file n test tests stamp k rest true no_data false same so = refl
by_record drive file n test tests stamp k rest false true true same so = refl
by_record drive file n test tests stamp k rest false true false same so = refl
by_record drive file n test tests stamp k rest false false true same so = ap (λ cut. record { moved = 0; end = end_by None cut }) (is_cut (length tests))
by_record drive file n test tests stamp k rest false false false same so =
    by_bytes drive file n test (take k tests) stamp k (length tests) rest same (so refl)

-- where each record is counted, locked or not, on the drive as the call finds it
abbrev pub stops_at : OpenFiles → ℕ → FileKey → (ℕ → Option RecordError) → ℕ → Bool
stops_at opens p file errors n = is_locked_off opens p file n && not (is_some (errors n))

as_plan : (drive : Drive) (file : FileName) (n : ℕ) (test : TestedRecord) (tests : List TestedRecord) (stamp : Option (List ℕ)) (k : ℕ)
    → testing drive file n (take k (test ∷ tests)) stamp ≡ some_tests drive file n test tests stamp (read_error drive file n) (has_record drive file n test.expected) k
unfolding testing
as_plan drive file n test tests stamp zero = refl
as_plan drive file n test tests stamp (suc k) = refl

pub testing_ends : (opens : OpenFiles) (p : ℕ) (file : FileKey) (errors : ℕ → Option RecordError) (drive : Drive) (n : ℕ) (tests : List TestedRecord) (stamp : Option (List ℕ))
    → IsWhole (file_of file) drive → ((m : ℕ) → read_error drive (file_of file) m ≡ errors m)
    → cut_testing drive (file_of file) n tests stamp (count_until (stops_at opens p file errors) n (length tests)) ≡ testing_ended opens p file drive n tests stamp
unfolding testing count_until testing_ended end_of ends ends_of
testing_ends opens p file errors drive n [] stamp whole alike = refl
testing_ends opens p file errors drive n (test ∷ tests) stamp whole alike =
    let name = file_of file in
    let k = count_until (stops_at opens p file errors) (n + 1) (length tests) in
    let unit = WritesRecord name n test.bytes stamp in
    ap (λ stop. cut_testing drive name n (test ∷ tests) stamp (cond (is_locked_off opens p file n && not (is_some stop)) 0 (suc k))) (sym (alike n))
    ∙ ap (λ plan. planned plan (nat_lt (cond (is_locked_off opens p file n && not (is_some (read_error drive name n))) 0 (suc k)) (suc (length tests))))
    (as_plan drive name n test tests stamp (cond (is_locked_off opens p file n && not (is_some (read_error drive name n))) 0 (suc k)))
    ∙ by_record drive name n test tests stamp k (testing_ended opens p file (applied drive unit) (n + 1) tests None)
    (not (is_some (extent_at drive name (n / 128)))) (not (is_some (visible_of drive name n))) (is_locked_off opens p file n) (has_record drive name n test.expected)
    (λ there. testing_ends opens p file errors (applied drive unit) (n + 1) tests None (still_whole drive name n test.bytes stamp whole there)
    (λ m. same_reads drive name n m test.bytes stamp whole there ∙ alike m))
