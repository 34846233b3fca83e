-- What the records of a call come to, by its work after its last turn, is what its turns have come to.
use Rattle.std.proofs.Common.{◌≡◌, ◌∙◌, ℕ, zero, suc, ◌+◌, ◌≤◌, ◌<◌, ◌==◌, Bool, true, false, cond, List, Option, Some, None, IfSome, refl, sym, ap, subst, arith, eqb-true}
use Rattle.std.specs.Prelude.{is_some, nat_lt}
use Rattle.std.proofs.lemmas.Bool.{false≢true}
use Rattle.std.proofs.lemmas.Bool.Decides.{nat_tests}
use Rattle.std.proofs.lemmas.Option.{same_Some}
use Rattle.mpm_mount.specs.Drives.{Drive}
use Rattle.mpm_mount.specs.Directories.{Directory}
use Rattle.mpm_file_functions.specs.declared.errors.RecordError.{RecordError}
use Rattle.mpm_jobs.specs.declared.jobs.Job.{Job}
use Rattle.mpm_files.specs.declared.work.Work.{Work}
use Rattle.mpm_jobs.specs.declared.jobs.JobKind.TheVariants as kinds
use Rattle.mpm_files.specs.Plans.{file_of_job, turns_of}
use Rattle.mpm_files.specs.Serving.{IsServingJob}
use Rattle.mpm_files.proofs.Missed.{error_told}
use Rattle.mpm_file_functions.specs.declared.functions.FileFunction.{FileFunction}
use Rattle.mpm_file_functions.specs.declared.functions.FileFunction.TheVariants.{ResetDisks, OpenFile, CloseFile, SearchFirst, SearchNext, DeleteFile, ReadSequential, WriteSequential, MakeFile, RenameFile, ProtectDisk, SetAttributes, ReadRandom, WriteRandom, FileSize, ResetDrives, AccessDrives, FreeDrives, TestAndWrite, LockRecord, UnlockRecord, FreeSpace, FlushBuffers, SetLabel, LabelData, ReadXfcb, WriteXfcb}
use Rattle.mpm_refusals.specs.Filing.{Situation, block}
use Rattle.mpm_mount.specs.Looking.{data_byte}
use Rattle.mpm_refusals.specs.Subjects.{drive_at, first_record}
use Rattle.mpm_refusals.specs.Refusals.{makes_xfcb, refusal_of}
use Rattle.mpm_file_functions.specs.Ends.{end_by}
use Rattle.mpm_bdos.specs.Jobs.{is_cut_at, free_count, reading_job, writing_job, testing_job, job_on, made_xfcb, making_job, job_by, unless_refused, job_of, turns_by, call_turns, Turned, turned_by, turned}
use Rattle.mpm_locks.specs.Locks.{count_until}
use Rattle.mpm_file_entries.specs.Protections.{with_protection}
use Rattle.mpm_jobs.specs.Jobs.{with_one, where_some}
use Rattle.mpm_bdos.specs.Replies.{is_cut_by, end_after}
use Rattle.mpm_bdos.specs.Ending.{IsSoundDrive, is_cut_short, count_of, moved_by, error_of, ended}
use Rattle.mpm_file_entries.specs.Granting.{FewDone}
use Rattle.mpm_bdos.specs.Serving.{WorksOn}
use Rattle.mpm_bdos.proofs.MovedLaws.{is_on_records, fewer_moved, most_moved, fails_on_records}

-- how many records a job has
count_in : Option Job → ℕ
count_in None = 0
count_in (Some job) = job.count

-- the work says what the turns of its job have come to
record Says (drive : Drive) (job : Option Job) (turns : ℕ) (work : Option Work) : Type 0 where
  moved : moved_by work ≡ (turned_by drive turns job).moved
  error : error_of work ≡ (turned_by drive turns job).error
  count : count_of work ≡ count_in job

says_by : (drive : Drive) (image : List ℕ) (directory : Option Directory) (job : Option Job) (turns : ℕ) (work : Option Work) → IsSoundDrive drive → turns ≡ turns_by drive job
    → WorksOn image directory drive job turns work → Says drive job turns work
unfolding count_in
says_by drive image directory None turns None sound last works = record { moved = refl; error = refl; count = refl }
says_by drive image None (Some job) turns (Some work) sound last works = absurd works
says_by drive image (Some d) (Some job) turns (Some work) sound last works =
    let serving : IsServingJob drive job (turns_of drive job) work = subst (λ j. IsServingJob drive job j work) last works.serving in
    record {
      moved = works.serving.moved;
      error = error_told drive job work (λ k entry is. (sound.each (file_of_job job) k entry is).blocks) serving
          ∙ ap (λ j. (turned_by drive j (Some job)).error) (sym last);
      count = ap (λ (j : Job). j.count) works.serving.job_is;
    }
says_by drive image directory (Some job) turns None sound last works = absurd works
says_by drive image directory None turns (Some work) sound last works = absurd works

-- it was cut where the job has fewer records
counted_by : (n : ℕ) (job : Job) (b : Bool) → (n == 0) ≡ b → job.count ≡ n → count_in (cond b None (Some job)) ≡ n
unfolding count_in
counted_by n job true none is = sym (eqb-true n 0 none)
counted_by n job false none is = is

counted : (n : ℕ) (job : Job) → job.count ≡ n → count_in (where_some n job) ≡ n
counted n job is = counted_by n job (n == 0) refl is

cut_by : (s : Situation) (function : FileFunction) (job : Option Job) → job_by s function ≡ job → is_cut_short function (count_in job) s.caller.multi ≡ is_cut_by s function
unfolding job_by
cut_by s ResetDisks job is = refl
cut_by s OpenFile job is = refl
cut_by s CloseFile job is = refl
cut_by s SearchFirst job is = refl
cut_by s SearchNext job is = refl
cut_by s DeleteFile job is = refl
cut_by s ReadSequential job is = refl
cut_by s WriteSequential job is =
    ap (λ j. nat_lt (count_in j) s.caller.multi) (sym is) ∙ ap (λ n. nat_lt n s.caller.multi) (counted (free_count s) (writing_job s (free_count s)) refl)
cut_by s MakeFile job is = refl
cut_by s RenameFile job is = refl
cut_by s ProtectDisk job is = refl
cut_by s SetAttributes job is = refl
cut_by s ReadRandom job is = refl
cut_by s WriteRandom job is =
    ap (λ j. nat_lt (count_in j) s.caller.multi) (sym is) ∙ ap (λ n. nat_lt n s.caller.multi) (counted (free_count s) (writing_job s (free_count s)) refl)
cut_by s FileSize job is = refl
cut_by s ResetDrives job is = refl
cut_by s AccessDrives job is = refl
cut_by s FreeDrives job is = refl
cut_by s TestAndWrite job is =
    ap (λ j. nat_lt (count_in j) s.caller.multi) (sym is) ∙ ap (λ n. nat_lt n s.caller.multi) (counted (free_count s) (testing_job s (free_count s)) refl)
cut_by s LockRecord job is = refl
cut_by s UnlockRecord job is = refl
cut_by s FreeSpace job is = refl
cut_by s FlushBuffers job is = refl
cut_by s SetLabel job is = refl
cut_by s LabelData job is = refl
cut_by s ReadXfcb job is = refl
cut_by s WriteXfcb job is = refl

-- a call that isn't refused has the job of its function
pub own_job : (s : Situation) → refusal_of s ≡ None → job_of s ≡ job_by s s.function
unfolding job_of
own_job s none = ap (λ r. unless_refused r (job_by s s.function)) none

last_turn : (s : Situation) → call_turns s ≡ turns_by (drive_at s) (job_of s)
unfolding call_turns
last_turn s = refl

says : (s : Situation) (image : List ℕ) (directory : Option Directory) (work : Option Work) → IsSoundDrive (drive_at s) → WorksOn image directory (drive_at s) (job_of s) (call_turns s) work
    → Says (drive_at s) (job_of s) (call_turns s) work
says s image directory work sound works = says_by (drive_at s) image directory (job_of s) (call_turns s) work sound (last_turn s) works

pub ended_is : (s : Situation) (image : List ℕ) (directory : Option Directory) (work : Option Work) → refusal_of s ≡ None → IsSoundDrive (drive_at s)
    → WorksOn image directory (drive_at s) (job_of s) (call_turns s) work
    → ended s.function s.caller.multi work ≡ record { moved = (turned s (call_turns s)).moved; end = end_after s (turned s (call_turns s)) }
unfolding ended turned end_after
ended_is s image directory work none sound works =
    let so = says s image directory work sound works in
    let t : Turned = turned_by (drive_at s) (call_turns s) (job_of s) in
    ap (λ moved. record { moved = moved; end = end_by (error_of work) (is_cut_short s.function (count_of work) s.caller.multi) }) so.moved
    ∙ ap (λ error. record { moved = t.moved; end = end_by error (is_cut_short s.function (count_of work) s.caller.multi) }) so.error
    ∙ ap (λ cut. record { moved = t.moved; end = end_by t.error cut })
    (ap (λ n. is_cut_short s.function n s.caller.multi) so.count ∙ cut_by s s.function (job_of s) (sym (own_job s none)))

-- where something ended them, fewer were moved than the call names
few_end : (error : Option RecordError) (cut : Bool) (moved multi : ℕ) → (is_some error ≡ true → moved < multi) → (cut ≡ true → moved < multi)
    → IfSome (end_by error cut) (λ end. moved < multi)
few_end (Some error) cut moved multi fails cuts = fails refl
few_end None true moved multi fails cuts = cuts refl
few_end None false moved multi fails cuts = tt

-- and no job on records has more
free_by : (stops : Bool) (n count : ℕ) → n ≤ count → cond stops 0 (suc n) ≤ suc count
free_by true n count few = omega arith
free_by false n count few = omega (arith, few)

pub until_within : (stops : ℕ → Bool) (n count : ℕ) → count_until stops n count ≤ count
unfolding count_until
until_within stops n zero = omega arith
until_within stops n (suc count) = free_by (stops n) (count_until stops (n + 1) count) count (until_within stops (n + 1) count)

pub free_within : (s : Situation) → free_count s ≤ s.caller.multi
unfolding free_count
free_within s = until_within (is_cut_at s s.function) (first_record s) s.caller.multi

count_is : (made job : Job) (multi : ℕ) → Some made ≡ Some job → made.count ≤ multi → job.count ≤ multi
count_is made job multi is few = subst (λ (j : Job). j.count ≤ multi) (same_Some made job is) few

count_where : (none : Bool) (made job : Job) (multi : ℕ) → cond none None (Some made) ≡ Some job → made.count ≤ multi → job.count ≤ multi
count_where true made job multi is few = absurd (cc)
count_where false made job multi is few = count_is made job multi is few

on_none : (made job : Job) (multi : ℕ) → Some made ≡ Some job → is_on_records made.kind ≡ false → is_on_records job.kind ≡ true → job.count ≤ multi
on_none made job multi is off on = absurd (false≢true (sym off ∙ ap (λ (j : Job). is_on_records j.kind) (same_Some made job is) ∙ on))

making_on_none : (b : Bool) (one other : Job) → is_on_records one.kind ≡ false → is_on_records other.kind ≡ false → is_on_records (cond b one other).kind ≡ false
making_on_none true one other first last = first
making_on_none false one other first last = last

count_within : (s : Situation) (function : FileFunction) (job : Job) → is_on_records job.kind ≡ true → job_by s function ≡ Some job → job.count ≤ s.caller.multi
unfolding job_by
count_within s ResetDisks job on is = absurd (cc)
count_within s OpenFile job on is = on_none _ job s.caller.multi is refl on
count_within s CloseFile job on is = absurd (cc)
count_within s SearchFirst job on is = absurd (cc)
count_within s SearchNext job on is = absurd (cc)
count_within s DeleteFile job on is = on_none _ job s.caller.multi is refl on
count_within s ReadSequential job on is = count_is (reading_job s) job s.caller.multi is (omega arith)
count_within s WriteSequential job on is = count_where (free_count s == 0) (writing_job s (free_count s)) job s.caller.multi is (free_within s)
count_within s MakeFile job on is =
    on_none (making_job s) job s.caller.multi is
    (making_on_none (makes_xfcb (data_byte (drive_at s)) (block s)) (with_one (with_protection (made_xfcb s) (job_on s kinds.Make))) (job_on s kinds.Make) refl refl) on
count_within s RenameFile job on is = on_none _ job s.caller.multi is refl on
count_within s ProtectDisk job on is = absurd (cc)
count_within s SetAttributes job on is = on_none _ job s.caller.multi is refl on
count_within s ReadRandom job on is = count_is (reading_job s) job s.caller.multi is (omega arith)
count_within s WriteRandom job on is = count_where (free_count s == 0) (writing_job s (free_count s)) job s.caller.multi is (free_within s)
count_within s FileSize job on is = absurd (cc)
count_within s ResetDrives job on is = absurd (cc)
count_within s AccessDrives job on is = absurd (cc)
count_within s FreeDrives job on is = absurd (cc)
count_within s TestAndWrite job on is = count_where (free_count s == 0) (testing_job s (free_count s)) job s.caller.multi is (free_within s)
count_within s LockRecord job on is = absurd (cc)
count_within s UnlockRecord job on is = absurd (cc)
count_within s FreeSpace job on is = absurd (cc)
count_within s FlushBuffers job on is = absurd (cc)
count_within s SetLabel job on is = on_none _ job s.caller.multi is refl on
count_within s LabelData job on is = absurd (cc)
count_within s ReadXfcb job on is = absurd (cc)
count_within s WriteXfcb job on is = on_none _ job s.caller.multi is refl on

kind_by : (job made : Job) (b : Bool) → cond b None (Some made) ≡ Some job → job.kind ≡ made.kind
kind_by job made true e = absurd (cc)
kind_by job made false e = ap (λ (j : Job). j.kind) (sym (same_Some made job e))

pub kind_of : (n : ℕ) (job made : Job) → where_some n made ≡ Some job → job.kind ≡ made.kind
kind_of n job made e = kind_by job made (n == 0) e

cut_on_records : (s : Situation) (function : FileFunction) (job : Job) (n : ℕ) → is_cut_short function n s.caller.multi ≡ true → job_by s function ≡ Some job
    → (is_on_records job.kind ≡ true) × (n < s.caller.multi)
unfolding job_by
cut_on_records s ResetDisks job n cut is = absurd (false≢true cut)
cut_on_records s OpenFile job n cut is = absurd (false≢true cut)
cut_on_records s CloseFile job n cut is = absurd (false≢true cut)
cut_on_records s SearchFirst job n cut is = absurd (false≢true cut)
cut_on_records s SearchNext job n cut is = absurd (false≢true cut)
cut_on_records s DeleteFile job n cut is = absurd (false≢true cut)
cut_on_records s ReadSequential job n cut is = absurd (false≢true cut)
cut_on_records s WriteSequential job n cut is =
    (ap is_on_records (kind_of (free_count s) job (writing_job s (free_count s)) is), grind (arith, nat_tests))
cut_on_records s MakeFile job n cut is = absurd (false≢true cut)
cut_on_records s RenameFile job n cut is = absurd (false≢true cut)
cut_on_records s ProtectDisk job n cut is = absurd (false≢true cut)
cut_on_records s SetAttributes job n cut is = absurd (false≢true cut)
cut_on_records s ReadRandom job n cut is = absurd (false≢true cut)
cut_on_records s WriteRandom job n cut is =
    (ap is_on_records (kind_of (free_count s) job (writing_job s (free_count s)) is), grind (arith, nat_tests))
cut_on_records s FileSize job n cut is = absurd (false≢true cut)
cut_on_records s ResetDrives job n cut is = absurd (false≢true cut)
cut_on_records s AccessDrives job n cut is = absurd (false≢true cut)
cut_on_records s FreeDrives job n cut is = absurd (false≢true cut)
cut_on_records s TestAndWrite job n cut is =
    (ap is_on_records (kind_of (free_count s) job (testing_job s (free_count s)) is), grind (arith, nat_tests))
cut_on_records s LockRecord job n cut is = absurd (false≢true cut)
cut_on_records s UnlockRecord job n cut is = absurd (false≢true cut)
cut_on_records s FreeSpace job n cut is = absurd (false≢true cut)
cut_on_records s FlushBuffers job n cut is = absurd (false≢true cut)
cut_on_records s SetLabel job n cut is = absurd (false≢true cut)
cut_on_records s LabelData job n cut is = absurd (false≢true cut)
cut_on_records s ReadXfcb job n cut is = absurd (false≢true cut)
cut_on_records s WriteXfcb job n cut is = absurd (false≢true cut)

few_by : (s : Situation) (job : Option Job) (work : Option Work) → job_by s s.function ≡ job → Says (drive_at s) job (turns_by (drive_at s) job) work → 1 ≤ s.caller.multi
    → IfSome (end_by (error_of work) (is_cut_short s.function (count_of work) s.caller.multi)) (λ end. moved_by work < s.caller.multi)
unfolding count_in
few_by s None work is so some =
    few_end (error_of work) (is_cut_short s.function (count_of work) s.caller.multi) (moved_by work) s.caller.multi (λ h. omega (arith, so.moved, some)) (λ h. omega (arith, so.moved, some))
few_by s (Some job) work is so some =
    few_end (error_of work) (is_cut_short s.function (count_of work) s.caller.multi) (moved_by work) s.caller.multi
    (λ h. let fails = ap is_some (sym so.error) ∙ h in
    omega (arith, so.moved, fewer_moved (drive_at s) job fails, count_within s s.function job (fails_on_records (drive_at s) job fails) is))
    (λ h. let cut = cut_on_records s s.function job (count_of work) h is in omega (arith, so.moved, most_moved (drive_at s) job cut.0, cut.1, so.count))

pub ended_few : (s : Situation) (image : List ℕ) (directory : Option Directory) (work : Option Work) → refusal_of s ≡ None → IsSoundDrive (drive_at s)
    → WorksOn image directory (drive_at s) (job_of s) (call_turns s) work → 1 ≤ s.caller.multi → FewDone s.caller.multi (ended s.function s.caller.multi work)
unfolding ended
ended_few s image directory work none sound works some =
    few_by s (job_of s) work (sym (own_job s none)) (subst (λ j. Says (drive_at s) (job_of s) j work) (last_turn s) (says s image directory work sound works)) some
