-- The turns of a job that reads records.
use Rattle.std.proofs.Common.{◌≡◌, ◌⊎◌, inl, inr, ℕ, zero, suc, ◌+◌, ◌-◌, ◌*◌, ◌/◌, ◌≤◌, ◌<◌, Bool, true, false, not, List, [], ◌∷◌, ◌++◌, Option, Some, None, Err, take, drop, length, refl, sym, ap, subst, ◌∙◌, arith, Ok, Result}
use Rattle.std.specs.Prelude.{is_some, sum_by, if◌then◌else◌, IsErr}
use Rattle.std.specs.List.{flat_map}
use Rattle.std.proofs.lemmas.List.{append-nil, append_assoc, length-append, length-drop, drop-drop}
use Rattle.std.proofs.lemmas.List.Sums.{sum_by-cons}
use Rattle.std.proofs.lemmas.Bool.{true≢false, cases_lt}
use Rattle.std.proofs.Math.Seq.{take-append_seam, drop-append-add}
use Rattle.mpm_dirent.specs.declared.limits.TheConstants.{LAST_NAMED}
use Rattle.mpm_port.specs.Disks.{Disks}
use Rattle.mpm_mount.specs.Drives.{FileName, Drive, extent_at, visible_of}
use Rattle.mpm_mount.specs.Directories.{Directory, Stands}
use Rattle.mpm_mount.specs.Files.{where_there}
use Rattle.mpm_file_functions.specs.declared.errors.RecordError.TheVariants.{UnwrittenExtent, UnwrittenData}
use Rattle.mpm_jobs.specs.declared.jobs.JobKind.TheVariants.{Read}
use Rattle.mpm_jobs.specs.declared.jobs.Job.{Job}
use Rattle.mpm_files.specs.declared.work.Work.{Work}
use Rattle.mpm_files.specs.Units.{FileUnit, Idles, ReadsRecord, PassesRecord, AddsEntry, ClearsBlock, WritesRecord, RemovesEntry, SetsAttributes, RenamesEntry, PutsXfcb, RemovesXfcb, RenamesXfcb, PutsLabel, stages, last_of, applied}
use Rattle.mpm_files.specs.Plans.{file_of_job, behind, reading, plan_by, plan_of, unit_at}
use Rattle.mpm_mount.specs.Records.{read_error}
use Rattle.mpm_files.specs.Serving.{units_done, records_moved, record_read, all_read, records_after, with_records, missed_by, has_missed, left_reading, Follows, IsServingJob}
use Rattle.mpm_files.specs.Standing.{StandsOn}
use Rattle.mpm_files.specs.Turning.{Suits, DoesNext, one_ended, with_record_read}
use Rattle.mpm_files.proofs.StandingLaws.{stays}
use Rattle.mpm_files.proofs.NextUnits.{reads_left, next_of}
use Rattle.mpm_files.proofs.Served.{left_as, serves_on}
use Rattle.mpm_files.proofs.NextDone.{IsDone, fails_next}
use Rattle.mpm_files.proofs.DeleteTurns.{never_empty}
use Rattle.mpm_files.proofs.Fitting.{AllSo, unless_so, IsThere, so_at, reading_there}

kind_is : (before : Drive) (job : Job) (j : ℕ) (work : Work) → IsServingJob before job j work → work.job.kind ≡ Read → job.kind ≡ Read
kind_is before job j work serving is = sym (ap (λ (q : Job). q.kind) serving.job_is) ∙ is

quiet : (before : Drive) (job : Job) (j k : ℕ) → job.kind ≡ Read → has_missed before job k ≡ has_missed before job j
quiet before job j k is = ap (missed_by before job k) is ∙ sym (ap (missed_by before job j) is)

-- the number of the record that is next
abbrev pub read_now : Work → ℕ
read_now work = work.job.first + work.ended

pub none_left : (count done : ℕ) → count ≤ done → count - done ≡ 0
none_left count done h = omega arith

pub reads_more : (before : Drive) (job : Job) (j : ℕ) (work : Work) → IsServingJob before job j work → work.job.kind ≡ Read → j < length (plan_of before job).units → work.ended < work.job.count
reads_more before job j work serving is h = by_size (cases_lt work.ended work.job.count)
  where
    by_size : (work.ended < work.job.count) ⊎ (work.job.count ≤ work.ended) → work.ended < work.job.count
    by_size (inl less) = less
    by_size (inr over) =
        absurd (never_empty (plan_of before job).units j _ (subst (Follows (plan_of before job).units j) (left_as (units_done before job j) work Read is) serving.left)
        (ap (left_reading (file_of_job work.job) (read_now work)) (none_left work.job.count work.ended over)) h)

next_read : (before : Drive) (job : Job) (j : ℕ) (work : Work) → IsServingJob before job j work → work.job.kind ≡ Read → j < length (plan_of before job).units
    → (unit_at before job j ≡ ReadsRecord (file_of_job work.job) (read_now work))
    × Follows (plan_of before job).units (suc j) (left_reading (file_of_job work.job) (work.job.first + (work.ended + 1)) (work.job.count - (work.ended + 1)))
next_read before job j work serving is h =
    next_of (plan_of before job).units j (ReadsRecord (file_of_job work.job) (read_now work)) (Idles (file_of_job job) None) _ _
    (subst (Follows (plan_of before job).units j) (left_as (units_done before job j) work Read is) serving.left)
    (reads_left (file_of_job work.job) work.job.first work.ended work.job.count (reads_more before job j work serving is h)) h

-- it is there
pub record_there : (before : Drive) (job : Job) (j : ℕ) (work : Work) → IsServingJob before job j work → work.job.kind ≡ Read → j < length (plan_of before job).units
    → read_error (units_done before job j) (file_of_job work.job) (read_now work) ≡ None
unfolding plan_of
record_there before job j work serving is h =
    subst (IsThere (units_done before job j)) (next_read before job j work serving is h).0
    (so_at IsThere (plan_of before job).units j (Idles (file_of_job job) None) before
    (subst (λ k. AllSo IsThere before (plan_by before job k).units) (sym (kind_is before job j work serving is)) (reading_there job.count before (file_of_job job) job.first)) h)

-- its number, and how many were read, fit
pub read_small : (before : Drive) (job : Job) (j : ℕ) (work : Work) → IsServingJob before job j work → work.job.kind ≡ Read → j < length (plan_of before job).units → Suits before job
    → read_now work ≤ LAST_NAMED
read_small before job j work serving is h suits =
    omega (arith, reads_more before job j work serving is h, ap (λ (q : Job). q.first) serving.job_is, ap (λ (q : Job). q.count) serving.job_is, suits.first, suits.count)

moves_one : (unit : FileUnit) → records_moved unit ≤ 1
moves_one (ReadsRecord file n) = omega arith
moves_one (WritesRecord file n bytes stamp) = omega arith
moves_one (Idles file stamp) = omega arith
moves_one (PassesRecord file n) = omega arith
moves_one (AddsEntry file extent) = omega arith
moves_one (ClearsBlock file n) = omega arith
moves_one (RemovesEntry file number) = omega arith
moves_one (SetsAttributes file number attributes) = omega arith
moves_one (RenamesEntry file number other) = omega arith
moves_one (PutsXfcb file xfcb) = omega arith
moves_one (RemovesXfcb file) = omega arith
moves_one (RenamesXfcb file other) = omega arith
moves_one (PutsLabel label) = omega arith

pub moves_few : (us : List FileUnit) (j : ℕ) → sum_by records_moved (take j us) ≤ j
moves_few [] zero = omega arith
moves_few [] (suc j) = omega arith
moves_few (u ∷ us) zero = omega arith
moves_few (u ∷ us) (suc j) = omega (arith, moves_one u, moves_few us j, sum_by-cons records_moved u (take j us))

pub few_read : (before : Drive) (job : Job) (j : ℕ) (work : Work) → IsServingJob before job j work → work.job.kind ≡ Read → j < length (plan_of before job).units → Suits before job
    → work.moved < 16
few_read before job j work serving is h suits =
    omega (arith, reads_more before job j work serving is h, ap (λ (q : Job). q.count) serving.job_is, suits.count, serving.moved, serving.ended, moves_few (plan_of before job).units j)

-- bytes that are put after others
pub put_behind : (front bytes rest : List ℕ) (n : ℕ) → length front ≡ n → take n (front ++ drop n rest) ++ (bytes ++ drop (n + 128) (front ++ drop n rest)) ≡ front ++ (bytes ++ drop (n + 128) rest)
put_behind front bytes rest n size =
    ap (λ k. take k (front ++ drop n rest) ++ (bytes ++ drop (n + 128) (front ++ drop n rest))) (sym size)
    ∙ ap (λ l. l ++ (bytes ++ drop (n + 128) (front ++ drop n rest))) (take-append_seam front (drop n rest))
    ∙ ap (λ k. front ++ (bytes ++ drop (k + 128) (front ++ drop n rest))) (sym size)
    ∙ ap (λ l. front ++ (bytes ++ l)) (drop-append-add front (drop n rest) 128 ∙ drop-drop 128 n rest)

-- as many records were read as were moved
OneEach : Drive → FileUnit → Type 0
OneEach drive unit = length (record_read drive unit) ≡ records_moved unit

one_by : (e : Bool) (v : Option (List ℕ)) → (if not e then Some UnwrittenExtent else (if not (is_some v) then Some UnwrittenData else None)) ≡ None → length (where_there v (λ b. b ∷ [])) ≡ 1
one_by true (Some b) none = refl
one_by true None none = absurd (true≢false (ap is_some none))
one_by false v none = absurd (true≢false (ap is_some none))

reads_each : (count : ℕ) (drive : Drive) (file : FileName) (n : ℕ) → AllSo OneEach drive (reading drive file n count).units
unfolding reading AllSo OneEach applied stages last_of
reads_each zero drive file n = tt
reads_each (suc count) drive file n =
    unless_so OneEach drive (read_error drive file n) (behind (ReadsRecord file n ∷ []) (reading drive file (n + 1) count)) (λ none.
    (one_by (is_some (extent_at drive file (n / 128))) (visible_of drive file n) none, reads_each count drive file (n + 1)))

as_many_read : (us : List FileUnit) (j : ℕ) (drive : Drive) → AllSo OneEach drive us → length (all_read drive (take j us)) ≡ sum_by records_moved (take j us)
unfolding AllSo OneEach all_read
as_many_read [] zero drive all = refl
as_many_read [] (suc j) drive all = refl
as_many_read (u ∷ us) zero drive all = refl
as_many_read (u ∷ us) (suc j) drive all =
    length-append (record_read drive u) (all_read (applied drive u) (take j us))
    ∙ omega (arith, all.0, as_many_read us j (applied drive u) all.1, sum_by-cons records_moved u (take j us))

moved_read : (before : Drive) (job : Job) (j : ℕ) (work : Work) → IsServingJob before job j work → work.job.kind ≡ Read → work.moved ≡ length (records_after before job j)
unfolding plan_of
moved_read before job j work serving is =
    serving.moved ∙ sym (as_many_read (plan_of before job).units j before
    (subst (λ k. AllSo OneEach before (plan_by before job k).units) (sym (kind_is before job j work serving is)) (reads_each job.count before (file_of_job job) job.first)))

-- one more is kept after them
flat : List (List ℕ) → List ℕ
flat rs = flat_map (λ bytes. bytes) rs

flat_more : (rs : List (List ℕ)) (bytes : List ℕ) → flat (rs ++ (bytes ∷ [])) ≡ flat rs ++ bytes
unfolding flat
flat_more [] bytes = append-nil bytes
flat_more (r ∷ rs) bytes = ap (λ l. r ++ l) (flat_more rs bytes) ∙ sym (append_assoc r (flat rs) bytes)

kept_record : (job : Job) (rs : List (List ℕ)) (bytes : List ℕ) (moved : ℕ) → moved ≡ length rs → length (flat rs) ≡ 128 * length rs
    → take (128 * moved) (with_records job rs).bytes ++ (bytes ++ drop (128 * (moved + 1)) (with_records job rs).bytes) ≡ (with_records job (rs ++ (bytes ∷ []))).bytes
unfolding flat
kept_record job rs bytes moved is size =
    let n : ℕ = 128 * length rs in
    let next : 128 * (moved + 1) ≡ n + 128 = omega (arith, is) in
    let at : 128 * moved ≡ n = omega (arith, is) in
    let all : 128 * length (rs ++ (bytes ∷ [])) ≡ n + 128 = omega (arith, length-append rs (bytes ∷ [])) in
    ap (λ k. take k (with_records job rs).bytes ++ (bytes ++ drop (128 * (moved + 1)) (with_records job rs).bytes)) at
    ∙ ap (λ k. take n (with_records job rs).bytes ++ (bytes ++ drop k (with_records job rs).bytes)) next
    ∙ put_behind (flat rs) bytes job.bytes n size
    ∙ sym (append_assoc (flat rs) bytes (drop (n + 128) job.bytes))
    ∙ ap (λ l. l ++ drop (n + 128) job.bytes) (sym (flat_more rs bytes))
    ∙ ap (λ k. flat (rs ++ (bytes ∷ [])) ++ drop k job.bytes) (sym all)

flat_size : (job : Job) (rs : List (List ℕ)) → length job.bytes ≡ 4096 → length (with_records job rs).bytes ≡ 4096 → length rs ≤ 32 → length (flat rs) ≡ 128 * length rs
unfolding flat
flat_size job rs size whole few =
    omega (arith, whole, size, few, length-append (flat_map (λ bytes. bytes) rs) (drop (128 * length rs) job.bytes), length-drop (128 * length rs) job.bytes)

-- the turn of a record that is read
pub record_was_read : (before : Drive) (job : Job) (j : ℕ) (work : Work) (bytes : List ℕ) → IsServingJob before job j work → work.job.kind ≡ Read → j < length (plan_of before job).units
    → length job.bytes ≡ 4096 → length work.job.bytes ≡ 4096 → work.moved ≤ 32 → visible_of (units_done before job j) (file_of_job work.job) (read_now work) ≡ Some bytes
    → IsDone before job j (with_record_read (record work { cleared = None }) bytes) (ReadsRecord (file_of_job work.job) (read_now work))
unfolding applied stages last_of
record_was_read before job j work bytes serving is h size whole few seen =
    let rs : List (List ℕ) = records_after before job j in
    let files : Drive = units_done before job j in
    let unit : FileUnit = ReadsRecord (file_of_job work.job) (read_now work) in
    let new : Work = with_record_read (record work { cleared = None }) bytes in
    let many : work.moved ≡ length rs = moved_read before job j work serving is in
    let next = next_read before job j work serving is h in
    let flat_is : length (flat rs) ≡ 128 * length rs = flat_size job rs size (ap (λ (q : Job). length q.bytes) (sym serving.job_is) ∙ whole) (omega (arith, many, few)) in
    record {
      unit_is = next.0;
      serving = serves_on before job j work new unit serving h next.0
          (ap (λ (q : Job). record q { bytes = take (128 * work.moved) q.bytes ++ (bytes ++ drop (128 * (work.moved + 1)) q.bytes) }) serving.job_is
          ∙ ap (λ (l : List ℕ). record job { bytes = l }) (kept_record job rs bytes work.moved many flat_is)
          ∙ ap (λ o. with_records job (rs ++ where_there o (λ b. b ∷ []))) (sym seen))
          refl refl refl refl (serving.missed ∙ sym (quiet before job j (suc j) (kind_is before job j work serving is)))
          (subst (Follows (plan_of before job).units (suc j)) (sym (left_as files (one_ended new) Read is)) next.1);
    }

-- reading changes nothing
pub read_stands : (image : List ℕ) (d : Directory) (files : Drive) (old new : Disks) → old.image d.drive ≡ Some image → Stands image d files → new ≡ old → StandsOn new d files
read_stands image d files old new told stands same = record { image = image; told = ap (λ (x : Disks). x.image d.drive) same ∙ told; stands = stands }

pub reading_failed : {A E : Type 0} (old new : Disks) (d : Directory) (work after : Work) (error : E) → new ≡ old → DoesNext {A = A} old new d d work after (Err error)
reading_failed {A = A} old new d work after error same =
    fails_next old new d d work after error (λ image before job j told suits service h. (
      unit_at before job j,
      (
        refl,
        (stays {A = A} new d.drive d d (units_done before job j) (stages (unit_at before job j) (units_done before job j)) error refl
            (read_stands image d (units_done before job j) old new told service.stands same)).err,
      ),
    ))

-- and so where the call passes that failure on
pub reading_passed : {A E : Type 0} (old new : Disks) (d : Directory) (work after : Work) (result : Result A E) → IsErr result → new ≡ old → DoesNext old new d d work after result
reading_passed old new d work after (Ok x) is same = absurd (cc)
reading_passed old new d work after (Err error) is same = reading_failed old new d work after error same
