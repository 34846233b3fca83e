-- A call that reads or writes records comes to what the table of its function says, record by record.
use Rattle.std.proofs.Common.{◌≡◌, ◌∙◌, ℕ, zero, suc, ◌+◌, ◌-◌, ◌*◌, ◌<◌, ◌≤◌, Bool, false, ◌==◌, List, [], ◌∷◌, ◌++◌, Option, Some, None, map, length, take, drop, sym, refl, ap, subst, arith}
use Rattle.std.specs.Prelude.{nat_lt, replicate, if◌then◌else◌}
use Rattle.std.specs.List.{range_with_len}
use Rattle.std.proofs.lemmas.Bool.Decides.{nat_tests}
use Rattle.std.proofs.lemmas.List.FromFn.{length-map-range_with_len}
use Rattle.mpm_dirent.specs.Names.{plain}
use Rattle.mpm_mount.specs.Drives.{Drive}
use Rattle.mpm_jobs.specs.declared.jobs.Job.{Job}
use Rattle.mpm_jobs.specs.Jobs.{filled, where_some}
use Rattle.mpm_files.specs.Plans.{record_at, records_of_job, reading, writing, plan_of, turns_of}
use Rattle.mpm_files.specs.Serving.{moved_after, error_after}
use Rattle.mpm_file_functions.specs.declared.ends.Ended.{Ended}
use Rattle.mpm_file_functions.specs.declared.functions.FileFunction.{FileFunction}
use Rattle.mpm_file_functions.specs.declared.functions.FileFunction.TheVariants.{ReadSequential, WriteSequential, ReadRandom, WriteRandom}
use Rattle.mpm_file_functions.specs.Ends.{end_by}
use Rattle.mpm_refusals.specs.Filing.{Situation, block}
use Rattle.mpm_refusals.specs.Subjects.{file_of, drive_at, subject, subject_key, first_record}
use Rattle.mpm_refusals.specs.Refusals.{refusal_of}
use Rattle.mpm_locks.specs.Locks.{is_locked_off, count_until}
use Rattle.mpm_bdos.specs.Jobs.{is_cut_at, free_count, writing_stamp, reading_job, writing_job, job_by, job_of, turns_by, call_turns, turned_by, turned}
use Rattle.mpm_bdos.specs.Replies.{is_cut_by, end_after, ended_for}
use Rattle.mpm_bdos.specs.Records.{writing_ended, reading_ended}
use Rattle.mpm_bdos.proofs.NamedFiles.{subject_name}
use Rattle.mpm_bdos.proofs.EndingLaws.{own_job, until_within}
use Rattle.mpm_bdos.proofs.MovedLaws.{all_moved, told_at_last}
use Rattle.mpm_bdos.proofs.RecordLaws.{planned, cut_writing, reading_ends, random_reading_ends, writing_ends, random_writing_ends}

-- the file of a job on a call's file
pub call_file : (s : Situation) → record { user = (subject s).user; name = plain (block s).name } ≡ file_of (subject_key s)
call_file s = ap (λ (name : List ℕ). record { user = (subject s).user; name = name }) (sym (subject_name s))

-- what a job comes to after all of its turns
abbrev pub came : Drive → Job → Bool → Ended
came drive job cut = record { moved = moved_after drive job (turns_of drive job); end = end_by (error_after drive job (turns_of drive job)) cut }

pub comes_to : (drive : Drive) (job : Job) (cut : Bool) → came drive job cut ≡ planned (plan_of drive job) cut
comes_to drive job cut = λ i. record { moved = all_moved drive job i; end = end_by (told_at_last drive job i) cut }

pub by_job : (s : Situation) (job : Option Job) → job_of s ≡ job → turned s (call_turns s) ≡ turned_by (drive_at s) (turns_by (drive_at s) job) job
unfolding turned call_turns
by_job s job is = ap (λ j. turned_by (drive_at s) (turns_by (drive_at s) j) j) is

-- functions 20 and 33
reads_by : (s : Situation) → planned (plan_of (drive_at s) (reading_job s)) false ≡ planned (reading (drive_at s) (file_of (subject_key s)) (first_record s) s.caller.multi) false
unfolding plan_of
reads_by s = ap (λ file. planned (reading (drive_at s) file (first_record s) s.caller.multi) false) (call_file s)

pub reading_call_ends : (s : Situation) → refusal_of s ≡ None → s.function ≡ ReadSequential
    → ended_for s (turned s (call_turns s)) ReadSequential ≡ reading_ended ReadSequential s.filing.opens s.caller.process (subject_key s) (drive_at s) (first_record s) s.caller.multi
unfolding end_after job_by
reading_call_ends s none is =
    let t : turned s (call_turns s) ≡ turned_by (drive_at s) (turns_of (drive_at s) (reading_job s)) (Some (reading_job s)) = by_job s (Some (reading_job s)) (own_job s none ∙ ap (job_by s) is) in
    (λ i. record { moved = (t i).moved; end = end_by (t i).error (is_cut_by s (is i)) })
    ∙ comes_to (drive_at s) (reading_job s) false ∙ reads_by s
    ∙ reading_ends s.filing.opens s.caller.process (subject_key s) (drive_at s) (first_record s) s.caller.multi

pub random_reading_call_ends : (s : Situation) → refusal_of s ≡ None → s.function ≡ ReadRandom
    → ended_for s (turned s (call_turns s)) ReadRandom ≡ reading_ended ReadRandom s.filing.opens s.caller.process (subject_key s) (drive_at s) (first_record s) s.caller.multi
unfolding end_after job_by
random_reading_call_ends s none is =
    let t : turned s (call_turns s) ≡ turned_by (drive_at s) (turns_of (drive_at s) (reading_job s)) (Some (reading_job s)) = by_job s (Some (reading_job s)) (own_job s none ∙ ap (job_by s) is) in
    (λ i. record { moved = (t i).moved; end = end_by (t i).error (is_cut_by s (is i)) })
    ∙ comes_to (drive_at s) (reading_job s) false ∙ reads_by s
    ∙ random_reading_ends s.filing.opens s.caller.process (subject_key s) (drive_at s) (first_record s) s.caller.multi

-- bytes in a room of so many, with zeros after them: a part of them is the same where more bytes come
abbrev pub room : ℕ → List ℕ → List ℕ
room size bytes = take size bytes ++ drop (length bytes) (replicate size 0)

front_alike : (n few size : ℕ) (bytes : List ℕ) → n ≤ few → n ≤ size → take n (room size (take few bytes)) ≡ take n (room size bytes)
front_alike zero few size bytes h k = refl
front_alike (suc n) zero size bytes h k = absurd (omega (arith, h))
front_alike (suc n) (suc few) zero bytes h k = absurd (omega (arith, k))
front_alike (suc n) (suc few) (suc size) [] h k = refl
front_alike (suc n) (suc few) (suc size) (byte ∷ bytes) h k = ap (λ rest. byte ∷ rest) (front_alike n few size bytes (omega (arith, h)) (omega (arith, k)))

pub part_alike : (from n few size : ℕ) (bytes : List ℕ) → from + n ≤ few → from + n ≤ size → take n (drop from (room size (take few bytes))) ≡ take n (drop from (room size bytes))
part_alike zero n few size bytes h k = front_alike n few size bytes (omega (arith, h)) (omega (arith, k))
part_alike (suc from) n zero size bytes h k = absurd (omega (arith, h))
part_alike (suc from) n (suc few) zero bytes h k = absurd (omega (arith, k))
part_alike (suc from) n (suc few) (suc size) [] h k = refl
part_alike (suc from) n (suc few) (suc size) (byte ∷ bytes) h k = part_alike from n few size bytes (omega (arith, h)) (omega (arith, k))

record_alike : (bytes : List ℕ) (i count : ℕ) → i < count → count ≤ 16 → record_at (filled (take (128 * count) bytes)) i ≡ record_at (filled bytes) i
unfolding filled
record_alike bytes i count less few = part_alike (128 * i) ((128 * i + 128) - 128 * i) (128 * count) 4096 bytes (omega (arith, less)) (omega (arith, less, few))

first_of_more : (f g : ℕ → List ℕ) (from few more : ℕ) → few ≤ more → ((i : ℕ) → i < from + few → f i ≡ g i)
    → map f (range_with_len from few) ≡ take few (map g (range_with_len from more))
first_of_more f g from zero more h same = refl
first_of_more f g from (suc few) zero h same = absurd (omega (arith, h))
first_of_more f g from (suc few) (suc more) h same =
    λ i. same from (omega arith) i ∷ first_of_more f g (from + 1) few more (omega (arith, h)) (λ k less. same k (omega (arith, less))) i

-- the records of a call that writes, as many as it names
abbrev pub call_records : Situation → List (List ℕ)
call_records s = records_of_job (writing_job s s.caller.multi)

first_records : (s : Situation) (k : ℕ) → k ≤ s.caller.multi → s.caller.multi ≤ 16 → records_of_job (writing_job s k) ≡ take k (call_records s)
first_records s k few all =
    first_of_more (record_at (filled (take (128 * k) s.call.bytes))) (record_at (filled (take (128 * s.caller.multi) s.call.bytes))) 0 k s.caller.multi few
    (λ i less. record_alike s.call.bytes i k (omega (arith, less)) (omega (arith, few, all)) ∙ sym (record_alike s.call.bytes i s.caller.multi (omega (arith, less, few)) all))

-- functions 21 and 34, by how many of the records come before one that another process has locked
writes_by : (s : Situation) (k : ℕ) (cut : Bool) → k ≤ s.caller.multi → s.caller.multi ≤ 16
    → planned (plan_of (drive_at s) (writing_job s k)) cut ≡ planned (writing (drive_at s) (file_of (subject_key s)) (first_record s) (take k (call_records s)) (writing_stamp s)) cut
unfolding plan_of
writes_by s k cut few all =
    λ i. planned (writing (drive_at s) (call_file s i) (first_record s) (first_records s k few all i) (writing_stamp s)) cut

pub unless_none : (k : ℕ) (job : Job) → where_some (suc k) job ≡ Some job
unless_none k job = ap (λ b. if b then None else (Some job)) (is_some_count k)
  where
    is_some_count : (k : ℕ) → (suc k == 0) ≡ false
    is_some_count k = grind (arith, nat_tests)

writing_by : (s : Situation) (k : ℕ) (cut : Bool) → job_of s ≡ where_some k (writing_job s k) → k ≤ s.caller.multi → s.caller.multi ≤ 16
    → record { moved = (turned s (call_turns s)).moved; end = end_by (turned s (call_turns s)).error cut }
    ≡ planned (writing (drive_at s) (file_of (subject_key s)) (first_record s) (take k (call_records s)) (writing_stamp s)) cut
unfolding writing
writing_by s zero cut is few all =
    let t : turned s (call_turns s) ≡ turned_by (drive_at s) 1 None = by_job s None is in
    λ i. record { moved = (t i).moved; end = end_by (t i).error cut }
writing_by s (suc k) cut is few all =
    let some : job_of s ≡ Some (writing_job s (suc k)) = is ∙ unless_none k (writing_job s (suc k)) in
    let t : turned s (call_turns s) ≡ turned_by (drive_at s) (turns_of (drive_at s) (writing_job s (suc k))) (Some (writing_job s (suc k))) = by_job s (Some (writing_job s (suc k))) some in
    (λ i. record { moved = (t i).moved; end = end_by (t i).error cut }) ∙ comes_to (drive_at s) (writing_job s (suc k)) cut ∙ writes_by s (suc k) cut few all

-- the records before the first that another process has locked
abbrev locked_at : Situation → ℕ → Bool
locked_at s n = is_locked_off s.filing.opens s.caller.process (subject_key s) n

before_lock : (s : Situation) (function : FileFunction) → s.function ≡ function → ((n : ℕ) → is_cut_at s function n ≡ locked_at s n)
    → free_count s ≡ count_until (locked_at s) (first_record s) s.caller.multi
unfolding free_count
before_lock s function is same =
    ap (λ f. count_until (is_cut_at s f) (first_record s) s.caller.multi) is
    ∙ (λ i. count_until (λ n. same n i) (first_record s) s.caller.multi)

cut_so : (s : Situation) (k : ℕ) → k ≡ count_until (locked_at s) (first_record s) s.caller.multi
    → planned (writing (drive_at s) (file_of (subject_key s)) (first_record s) (take k (call_records s)) (writing_stamp s)) (nat_lt k s.caller.multi)
    ≡ cut_writing s.filing.opens s.caller.process (subject_key s) (drive_at s) (first_record s) (call_records s) (writing_stamp s)
    (count_until (is_locked_off s.filing.opens s.caller.process (subject_key s)) (first_record s) (length (call_records s)))
cut_so s k is =
    let size : length (call_records s) ≡ s.caller.multi = length-map-range_with_len (record_at (writing_job s s.caller.multi).bytes) 0 s.caller.multi in
    let same : k ≡ count_until (locked_at s) (first_record s) (length (call_records s)) = is ∙ ap (count_until (locked_at s) (first_record s)) (sym size) in
    λ i. planned (writing (drive_at s) (file_of (subject_key s)) (first_record s) (take (same i) (call_records s)) (writing_stamp s)) (nat_lt (same i) (sym size i))

pub writing_call_ends : (s : Situation) → refusal_of s ≡ None → s.function ≡ WriteSequential → s.caller.multi ≤ 16
    → ended_for s (turned s (call_turns s)) WriteSequential
    ≡ writing_ended WriteSequential s.filing.opens s.caller.process (subject_key s) (drive_at s) (first_record s) (call_records s) (writing_stamp s)
unfolding end_after job_by
writing_call_ends s none is all =
    let k : ℕ = free_count s in
    let free : k ≡ count_until (locked_at s) (first_record s) s.caller.multi = before_lock s WriteSequential is (λ n. refl) in
    let few : k ≤ s.caller.multi = subst (λ n. n ≤ s.caller.multi) (sym free) (until_within (locked_at s) (first_record s) s.caller.multi) in
    (λ i. record { moved = (turned s (call_turns s)).moved; end = end_by (turned s (call_turns s)).error (is_cut_by s (is i)) })
    ∙ writing_by s k (nat_lt k s.caller.multi) (own_job s none ∙ ap (job_by s) is) few all ∙ cut_so s k free
    ∙ writing_ends s.filing.opens s.caller.process (subject_key s) (drive_at s) (first_record s) (call_records s) (writing_stamp s)

pub random_writing_call_ends : (s : Situation) → refusal_of s ≡ None → s.function ≡ WriteRandom → s.caller.multi ≤ 16
    → ended_for s (turned s (call_turns s)) WriteRandom
    ≡ writing_ended WriteRandom s.filing.opens s.caller.process (subject_key s) (drive_at s) (first_record s) (call_records s) (writing_stamp s)
unfolding end_after job_by
random_writing_call_ends s none is all =
    let k : ℕ = free_count s in
    let free : k ≡ count_until (locked_at s) (first_record s) s.caller.multi = before_lock s WriteRandom is (λ n. refl) in
    let few : k ≤ s.caller.multi = subst (λ n. n ≤ s.caller.multi) (sym free) (until_within (locked_at s) (first_record s) s.caller.multi) in
    (λ i. record { moved = (turned s (call_turns s)).moved; end = end_by (turned s (call_turns s)).error (is_cut_by s (is i)) })
    ∙ writing_by s k (nat_lt k s.caller.multi) (own_job s none ∙ ap (job_by s) is) few all ∙ cut_so s k free
    ∙ random_writing_ends s.filing.opens s.caller.process (subject_key s) (drive_at s) (first_record s) (call_records s) (writing_stamp s)
