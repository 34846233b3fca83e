-- The turns of a job that tests records and writes them.
use Rattle.std.proofs.Common.{◌≡◌, ◌⊎◌, inl, inr, ℕ, suc, ◌+◌, ◌-◌, ◌≤◌, ◌<◌, Bool, true, false, ◌||◌, List, [], ◌∷◌, ◌++◌, Option, Some, None, Ok, take, drop, length, refl, sym, ap, subst, ◌∙◌, arith, add-zero}
use Rattle.std.proofs.Math.Bool.{or-false, or-true}
use Rattle.std.specs.Prelude.{bytes_eq, if◌then◌else◌}
use Rattle.std.specs.List.{list_any}
use Rattle.std.proofs.lemmas.Bool.{cases_lt}
use Rattle.std.proofs.lemmas.List.{append-nil, drop_all, length-drop}
use Rattle.std.proofs.lemmas.List.FromFn.{length-map-range_with_len}
use Rattle.mpm_dirent.specs.declared.limits.TheConstants.{LAST_NAMED}
use Rattle.mpm_port.specs.Disks.{Disks}
use Rattle.mpm_mount.specs.Drives.{FileName, Drive, record_of}
use Rattle.mpm_mount.specs.Directories.{Directory, Stands}
use Rattle.mpm_mount.specs.Files.{where_there}
use Rattle.mpm_jobs.specs.declared.jobs.JobKind.TheVariants.{TestWrite}
use Rattle.mpm_jobs.specs.declared.jobs.Job.{Job}
use Rattle.mpm_files.specs.declared.work.Work.{Work}
use Rattle.mpm_files.specs.Units.{FileUnit, Idles, PassesRecord, WritesRecord, stages, applied}
use Rattle.mpm_files.specs.Plans.{TestedRecord, file_of_job, has_record, test_at, tests_of_job, plan_by, plan_of, unit_at}
use Rattle.mpm_mount.specs.Records.{read_error}
use Rattle.mpm_files.specs.Counting.{lacks_block}
use Rattle.mpm_files.specs.Serving.{units_done, records_after, with_records, is_passing, missed_by, has_missed, left_passing, left_testing, stamp_left, Follows, IsServingJob}
use Rattle.mpm_files.specs.Standing.{StandsOn, DoesUnit}
use Rattle.mpm_files.specs.Turning.{Suits, one_ended}
use Rattle.mpm_files.proofs.StandingLaws.{goes_nowhere, does}
use Rattle.mpm_files.proofs.RecordReads.{is_readable}
use Rattle.mpm_mount.proofs.ReadErrors.{read_error_same}
use Rattle.mpm_files.proofs.NextUnits.{Next, next_of, passes_left, match_left, mismatch_left, items_left}
use Rattle.mpm_files.proofs.Served.{take_more, left_as, serves_on}
use Rattle.mpm_files.proofs.NextDone.{IsDone}
use Rattle.mpm_files.proofs.DeleteTurns.{never_empty}
use Rattle.mpm_files.proofs.Fitting.{AllSo, IsThere, so_at, testing_there}
use Rattle.mpm_files.proofs.ReadTurns.{moves_few, none_left, read_now}
use Rattle.mpm_files.proofs.WriteTurns.{next_number, no_stamp}

kind_is : (before : Drive) (job : Job) (j : ℕ) (work : Work) → IsServingJob before job j work → work.job.kind ≡ TestWrite → job.kind ≡ TestWrite
kind_is before job j work serving is = sym (ap (λ (q : Job). q.kind) serving.job_is) ∙ is

-- the record that is next: the bytes that it must have, and those that it gets
abbrev pub test_now : Work → TestedRecord
test_now work = test_at work.job.bytes work.job.count work.ended

abbrev pub stamp_now : Work → Option (List ℕ)
stamp_now work = stamp_left work.job.stamp work.ended

abbrev later_tests : Work → List TestedRecord
later_tests work = drop (work.ended + 1) (tests_of_job work.job)

abbrev passes_now : Work → List FileUnit
passes_now work = left_passing (file_of_job work.job) (read_now work) (work.job.count - work.ended)

abbrev passes_later : Work → List FileUnit
passes_later work = left_passing (file_of_job work.job) (work.job.first + (work.ended + 1)) (work.job.count - (work.ended + 1))

abbrev tests_now : Drive → Work → List FileUnit
tests_now files work = left_testing files (file_of_job work.job) (read_now work) (drop work.ended (tests_of_job work.job)) (stamp_now work)

-- there is one
no_tests : (files : Drive) (file : FileName) (n : ℕ) (tests : List TestedRecord) (stamp : Option (List ℕ)) → tests ≡ [] → left_testing files file n tests stamp ≡ []
unfolding left_testing
no_tests files file n [] stamp none = refl
no_tests files file n (test ∷ tests) stamp none = absurd (omega (arith, ap length none))

tests_many : (job : Job) → length (tests_of_job job) ≡ job.count
tests_many job = length-map-range_with_len (test_at job.bytes job.count) 0 job.count

nothing_tested : (files : Drive) (work : Work) (missed : Bool) → work.job.count ≤ work.ended → (if missed then passes_now work else tests_now files work) ≡ []
nothing_tested files work true over = ap (left_passing (file_of_job work.job) (read_now work)) (none_left work.job.count work.ended over)
nothing_tested files work false over =
    no_tests files (file_of_job work.job) (read_now work) (drop work.ended (tests_of_job work.job)) (stamp_now work)
    (drop_all work.ended (tests_of_job work.job) (omega (arith, over, tests_many work.job)))

pub tests_more : (before : Drive) (job : Job) (j : ℕ) (work : Work) → IsServingJob before job j work → work.job.kind ≡ TestWrite → j < length (plan_of before job).units → work.ended < work.job.count
tests_more before job j work serving is h = by_size (cases_lt work.ended work.job.count)
  where
    by_size : (work.ended < work.job.count) ⊎ (work.job.count ≤ work.ended) → work.ended < work.job.count
    by_size (inl less) = less
    by_size (inr over) =
        absurd (never_empty (plan_of before job).units j _ (subst (Follows (plan_of before job).units j) (left_as (units_done before job j) work TestWrite is) serving.left)
        (nothing_tested (units_done before job j) work work.has_missed over) h)

-- it is passed where one before it had other bytes
left_now : (before : Drive) (job : Job) (j : ℕ) (work : Work) (missed : Bool) → IsServingJob before job j work → work.job.kind ≡ TestWrite → work.has_missed ≡ missed
    → Follows (plan_of before job).units j (if missed then passes_now work else tests_now (units_done before job j) work)
left_now before job j work missed serving is same =
    subst (Follows (plan_of before job).units j)
    (left_as (units_done before job j) work TestWrite is ∙ ap (λ b. if b then passes_now work else tests_now (units_done before job j) work) same) serving.left

next_passed : (before : Drive) (job : Job) (j : ℕ) (work : Work) → IsServingJob before job j work → work.job.kind ≡ TestWrite → j < length (plan_of before job).units → work.has_missed ≡ true
    → Next (plan_of before job).units j (PassesRecord (file_of_job work.job) (read_now work)) (Idles (file_of_job job) None) (passes_later work)
next_passed before job j work serving is h missed =
    next_of (plan_of before job).units j (PassesRecord (file_of_job work.job) (read_now work)) (Idles (file_of_job job) None) (passes_later work) (passes_now work)
    (left_now before job j work true serving is missed)
    (passes_left (file_of_job work.job) work.job.first work.ended work.job.count (tests_more before job j work serving is h)) h

-- else it is tested
first_test : (before : Drive) (job : Job) (j : ℕ) (work : Work) → IsServingJob before job j work → work.job.kind ≡ TestWrite → j < length (plan_of before job).units
    → tests_now (units_done before job j) work ≡ left_testing (units_done before job j) (file_of_job work.job) (read_now work) (test_now work ∷ later_tests work) (stamp_now work)
first_test before job j work serving is h =
    ap (λ ts. left_testing (units_done before job j) (file_of_job work.job) (read_now work) ts (stamp_now work))
    (items_left (test_at work.job.bytes work.job.count) work.ended work.job.count (tests_more before job j work serving is h))

next_missed : (before : Drive) (job : Job) (j : ℕ) (work : Work) → IsServingJob before job j work → work.job.kind ≡ TestWrite → j < length (plan_of before job).units → work.has_missed ≡ false
    → has_record (units_done before job j) (file_of_job work.job) (read_now work) (test_now work).expected ≡ false
    → Next (plan_of before job).units j (PassesRecord (file_of_job work.job) (read_now work)) (Idles (file_of_job job) None) (passes_later work)
next_missed before job j work serving is h missed has =
    let less = tests_more before job j work serving is h in
    let many : suc (length (later_tests work)) ≡ work.job.count - work.ended = omega (arith, less, length-drop (work.ended + 1) (tests_of_job work.job), tests_many work.job) in
    next_of (plan_of before job).units j (PassesRecord (file_of_job work.job) (read_now work)) (Idles (file_of_job job) None) (passes_later work) (tests_now (units_done before job j) work)
    (left_now before job j work false serving is missed)
    (first_test before job j work serving is h
    ∙ mismatch_left (units_done before job j) (file_of_job work.job) (read_now work) (test_now work) (later_tests work) (stamp_now work) has
    ∙ ap (left_passing (file_of_job work.job) (read_now work)) many
    ∙ passes_left (file_of_job work.job) work.job.first work.ended work.job.count less) h

abbrev pub writes_now : Work → FileUnit
writes_now work = WritesRecord (file_of_job work.job) (read_now work) (test_now work).bytes (stamp_now work)

next_matched : (before : Drive) (job : Job) (j : ℕ) (work : Work) → IsServingJob before job j work → work.job.kind ≡ TestWrite → j < length (plan_of before job).units → work.has_missed ≡ false
    → has_record (units_done before job j) (file_of_job work.job) (read_now work) (test_now work).expected ≡ true
    → Next (plan_of before job).units j (writes_now work) (Idles (file_of_job job) None)
    (left_testing (applied (units_done before job j) (writes_now work)) (file_of_job work.job) (read_now work + 1) (later_tests work) None)
next_matched before job j work serving is h missed has =
    next_of (plan_of before job).units j (writes_now work) (Idles (file_of_job job) None)
    (left_testing (applied (units_done before job j) (writes_now work)) (file_of_job work.job) (read_now work + 1) (later_tests work) None) (tests_now (units_done before job j) work)
    (left_now before job j work false serving is missed)
    (first_test before job j work serving is h
    ∙ match_left (units_done before job j) (file_of_job work.job) (read_now work) (test_now work) (later_tests work) (stamp_now work) has) h

-- it is there
there_at_turn : (before : Drive) (job : Job) (j : ℕ) → job.kind ≡ TestWrite → j < length (plan_of before job).units → IsThere (units_done before job j) (unit_at before job j)
unfolding plan_of
there_at_turn before job j is h =
    so_at IsThere (plan_of before job).units j (Idles (file_of_job job) None) before
    (subst (λ k. AllSo IsThere before (plan_by before job k).units) (sym is) (testing_there (tests_of_job job) before (file_of_job job) job.first job.stamp)) h

pub record_there : (before : Drive) (job : Job) (j : ℕ) (work : Work) → IsServingJob before job j work → work.job.kind ≡ TestWrite → j < length (plan_of before job).units
    → read_error (units_done before job j) (file_of_job work.job) (read_now work) ≡ None
record_there before job j work serving is h = by_missed work.has_missed refl
  where
    there : IsThere (units_done before job j) (unit_at before job j)
    there = there_at_turn before job j (kind_is before job j work serving is) h

    by_test : work.has_missed ≡ false → (has : Bool) → has_record (units_done before job j) (file_of_job work.job) (read_now work) (test_now work).expected ≡ has
        → read_error (units_done before job j) (file_of_job work.job) (read_now work) ≡ None
    by_test missed true has = subst (IsThere (units_done before job j)) (next_matched before job j work serving is h missed has).0 there
    by_test missed false has = subst (IsThere (units_done before job j)) (next_missed before job j work serving is h missed has).0 there

    by_missed : (missed : Bool) → work.has_missed ≡ missed → read_error (units_done before job j) (file_of_job work.job) (read_now work) ≡ None
    by_missed true missed = subst (IsThere (units_done before job j)) (next_passed before job j work serving is h missed).0 there
    by_missed false missed = by_test missed (has_record (units_done before job j) (file_of_job work.job) (read_now work) (test_now work).expected) refl

-- whether one was missed after a unit more
any_last : {X : Type 0} (p : X → Bool) (xs : List X) (x : X) (b : Bool) → p x ≡ b → list_any p (xs ++ (x ∷ [])) ≡ (list_any p xs || b)
any_last p [] x true is = ap (λ b. b || false) is
any_last p [] x false is = ap (λ b. b || false) is
any_last p (y ∷ xs) x b is = ap (λ c. p y || c) (any_last p xs x b is) ∙ or_next (p y) (list_any p xs) b
  where
    or_next : (a c d : Bool) → (a || (c || d)) ≡ ((a || c) || d)
    or_next true c d = refl
    or_next false c d = refl

missed_then : (before : Drive) (job : Job) (j : ℕ) (b : Bool) → job.kind ≡ TestWrite → j < length (plan_of before job).units → is_passing (unit_at before job j) ≡ b
    → has_missed before job (suc j) ≡ (has_missed before job j || b)
missed_then before job j b is h passes =
    ap (missed_by before job (suc j)) is
    ∙ ap (list_any is_passing) (take_more (plan_of before job).units j (Idles (file_of_job job) None) h)
    ∙ any_last is_passing (take j (plan_of before job).units) (unit_at before job j) b passes
    ∙ ap (λ c. c || b) (sym (ap (missed_by before job j) is))

-- the turn of a record that is passed
passed_done : (before : Drive) (job : Job) (j : ℕ) (work : Work) (missed : Bool) → IsServingJob before job j work → work.job.kind ≡ TestWrite → j < length (plan_of before job).units → missed ≡ true
    → Next (plan_of before job).units j (PassesRecord (file_of_job work.job) (read_now work)) (Idles (file_of_job job) None) (passes_later work)
    → IsDone before job j (record work { has_missed = missed; cleared = None }) (PassesRecord (file_of_job work.job) (read_now work))
passed_done before job j work missed serving is h passing next =
    let files : Drive = units_done before job j in
    let unit : FileUnit = PassesRecord (file_of_job work.job) (read_now work) in
    let new : Work = record work { has_missed = missed; cleared = None } in
    record {
      unit_is = next.0;
      serving = serves_on before job j work new unit serving h next.0
          (serving.job_is ∙ ap (with_records job) (sym (append-nil (records_after before job j)))) refl refl (sym (add-zero work.moved)) refl
          (passing ∙ sym (missed_then before job j true (kind_is before job j work serving is) h (ap is_passing next.0) ∙ or-true (has_missed before job j)))
          (subst (Follows (plan_of before job).units (suc j))
          (sym (left_as (applied files unit) (one_ended new) TestWrite is ∙ ap (λ b. if b then passes_later work else tests_now (applied files unit) (one_ended new)) passing)) next.1);
    }

pub still_passed : (before : Drive) (job : Job) (j : ℕ) (work : Work) → IsServingJob before job j work → work.job.kind ≡ TestWrite → j < length (plan_of before job).units → work.has_missed ≡ true
    → IsDone before job j (record work { cleared = None }) (PassesRecord (file_of_job work.job) (read_now work))
still_passed before job j work serving is h missed = passed_done before job j work work.has_missed serving is h missed (next_passed before job j work serving is h missed)

pub first_passed : (before : Drive) (job : Job) (j : ℕ) (work : Work) → IsServingJob before job j work → work.job.kind ≡ TestWrite → j < length (plan_of before job).units → work.has_missed ≡ false
    → has_record (units_done before job j) (file_of_job work.job) (read_now work) (test_now work).expected ≡ false
    → IsDone before job j (record work { has_missed = true; cleared = None }) (PassesRecord (file_of_job work.job) (read_now work))
first_passed before job j work serving is h missed has = passed_done before job j work true serving is h refl (next_missed before job j work serving is h missed has)

-- the turn of a record that is replaced
pub test_passed : (before : Drive) (job : Job) (j : ℕ) (work : Work) → IsServingJob before job j work → work.job.kind ≡ TestWrite → j < length (plan_of before job).units → work.has_missed ≡ false
    → has_record (units_done before job j) (file_of_job work.job) (read_now work) (test_now work).expected ≡ true
    → IsDone before job j (record work { moved = work.moved + 1; cleared = None }) (writes_now work)
test_passed before job j work serving is h missed has =
    let us : List FileUnit = (plan_of before job).units in
    let files : Drive = units_done before job j in
    let file : FileName = file_of_job work.job in
    let unit : FileUnit = writes_now work in
    let new : Work = record work { moved = work.moved + 1; cleared = None } in
    let next = next_matched before job j work serving is h missed has in
    record {
      unit_is = next.0;
      serving = serves_on before job j work new unit serving h next.0
          (serving.job_is ∙ ap (with_records job) (sym (append-nil (records_after before job j)))) refl refl refl refl
          (serving.missed ∙ sym (missed_then before job j false (kind_is before job j work serving is) h (ap is_passing next.0) ∙ or-false (has_missed before job j)))
          (subst (Follows us (suc j))
          (sym (left_as (applied files unit) (one_ended new) TestWrite is
          ∙ ap (λ b. if b then passes_later work else left_testing (applied files unit) file (work.job.first + (work.ended + 1)) (later_tests work) (stamp_left work.job.stamp (work.ended + 1))) missed
          ∙ ap (λ n. left_testing (applied files unit) file n (later_tests work) (stamp_left work.job.stamp (work.ended + 1))) (sym (next_number work.job.first work.ended))
          ∙ ap (left_testing (applied files unit) file (read_now work + 1) (later_tests work)) (no_stamp work.job.stamp work.ended)))
          next.1);
    }

-- few are moved, and few are tested
pub record IsFew (work : Work) : Type 0 where
  pub more : work.ended < work.job.count
  pub number : read_now work ≤ LAST_NAMED
  pub count : work.job.count ≤ 16
  pub moved : work.moved ≤ 16

pub tests_few : (before : Drive) (job : Job) (j : ℕ) (work : Work) → IsServingJob before job j work → work.job.kind ≡ TestWrite → Suits before job → j < length (plan_of before job).units → IsFew work
tests_few before job j work serving is suits h =
    let more : work.ended < work.job.count = tests_more before job j work serving is h in
    let first : work.job.first ≡ job.first = ap (λ (q : Job). q.first) serving.job_is in
    let count : work.job.count ≡ job.count = ap (λ (q : Job). q.count) serving.job_is in
    record {
      more = more;
      number = omega (arith, more, first, count, suits.first, suits.count);
      count = omega (arith, count, suits.count);
      moved = omega (arith, more, count, suits.count, serving.moved, serving.ended, moves_few (plan_of before job).units j);
    }

-- what the directory says of the record, and whether it has the bytes
pub record_held : (image : List ℕ) (d : Directory) (before : Drive) (job : Job) (j : ℕ) (work : Work) → Stands image d (units_done before job j) → IsServingJob before job j work
    → work.job.kind ≡ TestWrite → j < length (plan_of before job).units → lacks_block d (file_of_job work.job) (read_now work) ≡ false
record_held image d before job j work stands serving is h =
    (is_readable image d (units_done before job j) (file_of_job work.job) (read_now work) stands
    (sym (read_error_same image d (units_done before job j) (file_of_job work.job) (read_now work) stands) ∙ record_there before job j work serving is h)).1

pub has_there : (files : Drive) (file : FileName) (n : ℕ) (there expected : List ℕ) → record_of files file n ≡ Some there → has_record files file n expected ≡ bytes_eq there expected
has_there files file n there expected is = ap (λ (o : Option (List ℕ)). bytes_eq (where_there o (λ bytes. bytes)) expected) is

-- passing changes nothing
pub passes : {A E : Type 0} (disks : Disks) (d : Directory) (files : Drive) (file : FileName) (n : ℕ) (x : A) → StandsOn disks d files
    → DoesUnit {A = A} {E = E} disks d.drive d files (PassesRecord file n) (Ok x)
unfolding stages
passes disks d files file n x stands = does disks d.drive d files (PassesRecord file n) [] (Ok x) refl (goes_nowhere disks d.drive d files x stands)
