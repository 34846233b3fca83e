-- A call that tests and writes records comes to what the table of its function says, record by record.
use Rattle.std.proofs.Common.{◌≡◌, ◌∙◌, ℕ, zero, suc, ◌+◌, ◌-◌, ◌*◌, ◌<◌, ◌≤◌, Bool, List, [], ◌∷◌, ◌++◌, Some, None, map, length, take, drop, sym, refl, ap, subst, arith}
use Rattle.std.specs.Prelude.{nat_lt, replicate}
use Rattle.std.specs.List.{range_with_len}
use Rattle.std.proofs.lemmas.List.{drop-drop}
use Rattle.std.proofs.lemmas.List.FromFn.{length-map-range_with_len}
use Rattle.mpm_mount.specs.Records.{read_error}
use Rattle.mpm_jobs.specs.Jobs.{filled, testing_bytes, where_some}
use Rattle.mpm_files.specs.Plans.{TestedRecord, record_at, test_at, tests_of_job, testing, plan_of, turns_of}
use Rattle.mpm_files.proofs.Needs.{IsWhole}
use Rattle.mpm_file_functions.specs.declared.functions.FileFunction.TheVariants.{TestAndWrite}
use Rattle.mpm_file_functions.specs.Ends.{end_by}
use Rattle.mpm_refusals.specs.Filing.{Situation}
use Rattle.mpm_refusals.specs.Subjects.{file_of, drive_at, subject_key, first_record}
use Rattle.mpm_refusals.specs.Refusals.{refusal_of}
use Rattle.mpm_locks.specs.Locks.{count_until}
use Rattle.mpm_bdos.specs.Ending.{IsSoundDrive}
use Rattle.mpm_bdos.specs.Jobs.{is_cut_at, free_count, writing_stamp, testing_job, job_by, job_of, call_turns, turned_by, turned}
use Rattle.mpm_bdos.specs.Replies.{is_cut_by, end_after, ended_for}
use Rattle.mpm_bdos.specs.Records.{testing_ended}
use Rattle.mpm_bdos.proofs.EndingLaws.{own_job, until_within}
use Rattle.mpm_bdos.proofs.RecordLaws.{planned}
use Rattle.mpm_bdos.proofs.TestedLaws.{cut_testing, stops_at, testing_ends}
use Rattle.mpm_bdos.proofs.CallEnds.{call_file, comes_to, by_job, room, part_alike, unless_none}

-- lists of which nothing is left
take_none : (n : ℕ) → take {A = ℕ} n [] ≡ []
take_none zero = refl
take_none (suc n) = refl

drop_none : (n : ℕ) → drop {A = ℕ} n [] ≡ []
drop_none zero = refl
drop_none (suc n) = refl

zeros_left : (few total size : ℕ) → total ≡ few + size → drop few (replicate {A = ℕ} total 0) ≡ replicate size 0
zeros_left zero total size t = ap (λ n. replicate {A = ℕ} n 0) (omega (arith, t))
zeros_left (suc few) zero size t = absurd (omega (arith, t))
zeros_left (suc few) (suc total) size t = zeros_left few total size (omega (arith, t))

empty_room : (size : ℕ) → room size [] ≡ replicate size 0
empty_room size = ap (λ front. front ++ replicate size 0) (take_none size)

-- the first of some bytes, and then others that come no earlier among them: both are found where they were put
abbrev joined : ℕ → ℕ → ℕ → List ℕ → List ℕ
joined few more some bytes = take few bytes ++ take some (drop more bytes)

front_joined : (n few more some size : ℕ) (bytes : List ℕ) → n ≤ few → few ≤ more → n ≤ size → take n (room size (joined few more some bytes)) ≡ take n (room size bytes)
front_joined zero few more some size bytes h k l = refl
front_joined (suc n) zero more some size bytes h k l = absurd (omega (arith, h))
front_joined (suc n) (suc few) zero some size bytes h k l = absurd (omega (arith, k))
front_joined (suc n) (suc few) (suc more) some zero bytes h k l = absurd (omega (arith, l))
front_joined (suc n) (suc few) (suc more) some (suc size) [] h k l = ap (λ rest. take (suc n) (room (suc size) rest)) (take_none some)
front_joined (suc n) (suc few) (suc more) some (suc size) (byte ∷ bytes) h k l =
    ap (λ rest. byte ∷ rest) (front_joined n few more some size bytes (omega (arith, h)) (omega (arith, k)) (omega (arith, l)))

part_joined : (from n few more some size : ℕ) (bytes : List ℕ) → from + n ≤ few → few ≤ more → from + n ≤ size
    → take n (drop from (room size (joined few more some bytes))) ≡ take n (drop from (room size bytes))
part_joined zero n few more some size bytes h k l = front_joined n few more some size bytes (omega (arith, h)) k (omega (arith, l))
part_joined (suc from) n zero more some size bytes h k l = absurd (omega (arith, h))
part_joined (suc from) n (suc few) zero some size bytes h k l = absurd (omega (arith, k))
part_joined (suc from) n (suc few) (suc more) some zero bytes h k l = absurd (omega (arith, l))
part_joined (suc from) n (suc few) (suc more) some (suc size) [] h k l = ap (λ rest. take n (drop (suc from) (room (suc size) rest))) (take_none some)
part_joined (suc from) n (suc few) (suc more) some (suc size) (byte ∷ bytes) h k l =
    part_joined from n few more some size bytes (omega (arith, h)) (omega (arith, k)) (omega (arith, l))

past_joined : (few more some total size : ℕ) (bytes : List ℕ) → few ≤ more → total ≡ few + size → drop few (room total (joined few more some bytes)) ≡ room size (take some (drop more bytes))
past_joined zero more some total size bytes h t = ap (λ n. room n (take some (drop more bytes))) (omega (arith, t))
past_joined (suc few) zero some total size bytes h t = absurd (omega (arith, h))
past_joined (suc few) (suc more) some zero size bytes h t = absurd (omega (arith, t))
past_joined (suc few) (suc more) some (suc total) size [] h t =
    ap (λ rest. drop (suc few) (room (suc total) rest)) (take_none some) ∙ zeros_left few total size (omega (arith, t)) ∙ sym (empty_room size) ∙ ap (room size) (sym (take_none some))
past_joined (suc few) (suc more) some (suc total) size (byte ∷ bytes) h t = past_joined few more some total size bytes (omega (arith, h)) (omega (arith, t))

-- a part is the same in a larger room
zeros_alike : (from n one other : ℕ) → from + n ≤ one → from + n ≤ other → take n (drop from (replicate {A = ℕ} one 0)) ≡ take n (drop from (replicate other 0))
zeros_alike zero zero one other h k = refl
zeros_alike zero (suc n) zero other h k = absurd (omega (arith, h))
zeros_alike zero (suc n) (suc one) zero h k = absurd (omega (arith, k))
zeros_alike zero (suc n) (suc one) (suc other) h k = ap (λ rest. 0 ∷ rest) (zeros_alike zero n one other (omega (arith, h)) (omega (arith, k)))
zeros_alike (suc from) n zero other h k = absurd (omega (arith, h))
zeros_alike (suc from) n (suc one) zero h k = absurd (omega (arith, k))
zeros_alike (suc from) n (suc one) (suc other) h k = zeros_alike from n one other (omega (arith, h)) (omega (arith, k))

room_alike : (from n one other : ℕ) (bytes : List ℕ) → from + n ≤ one → from + n ≤ other → take n (drop from (room one bytes)) ≡ take n (drop from (room other bytes))
room_alike from n one other [] h k =
    ap (λ x. take n (drop from x)) (empty_room one) ∙ zeros_alike from n one other h k ∙ ap (λ x. take n (drop from x)) (sym (empty_room other))
room_alike zero zero one other (byte ∷ bytes) h k = refl
room_alike zero (suc n) zero other (byte ∷ bytes) h k = absurd (omega (arith, h))
room_alike zero (suc n) (suc one) zero (byte ∷ bytes) h k = absurd (omega (arith, k))
room_alike zero (suc n) (suc one) (suc other) (byte ∷ bytes) h k = ap (λ rest. byte ∷ rest) (room_alike zero n one other bytes (omega (arith, h)) (omega (arith, k)))
room_alike (suc from) n zero other (byte ∷ bytes) h k = absurd (omega (arith, h))
room_alike (suc from) n (suc one) zero (byte ∷ bytes) h k = absurd (omega (arith, k))
room_alike (suc from) n (suc one) (suc other) (byte ∷ bytes) h k = room_alike from n one other bytes (omega (arith, h)) (omega (arith, k))

-- the bytes that a record must have, and those that it gets, wherever the rest of the records end
expected_alike : (bytes : List ℕ) (i count all : ℕ) → i < count → count ≤ all → all ≤ 16 → record_at (filled (testing_bytes bytes all count)) i ≡ record_at (filled bytes) i
unfolding filled testing_bytes
expected_alike bytes i count all less few most =
    part_joined (128 * i) ((128 * i + 128) - 128 * i) (128 * count) (128 * all) (128 * count) 4096 bytes (omega (arith, less)) (omega (arith, few)) (omega (arith, less, few, most))

written_alike : (bytes : List ℕ) (i count all size : ℕ) → i < count → count ≤ all → all ≤ 16 → 4096 ≡ 128 * count + size
    → record_at (filled (testing_bytes bytes all count)) (count + i) ≡ record_at (filled (drop (128 * all) bytes)) i
unfolding filled testing_bytes
written_alike bytes i count all size less few most total =
    let front : List ℕ = room 4096 (joined (128 * count) (128 * all) (128 * count) bytes) in
    let n : ℕ = (128 * i + 128) - 128 * i in
    let long : (128 * (count + i) + 128) - 128 * (count + i) ≡ n = omega arith in
    let place : 128 * (count + i) ≡ 128 * count + 128 * i = omega arith in
    ap (λ m. take m (drop (128 * (count + i)) front)) long
    ∙ ap (λ p. take n (drop p front)) place
    ∙ ap (take n) (sym (drop-drop (128 * i) (128 * count) front))
    ∙ ap (λ rest. take n (drop (128 * i) rest)) (past_joined (128 * count) (128 * all) (128 * count) 4096 size bytes (omega (arith, few)) total)
    ∙ part_alike (128 * i) n (128 * count) size (drop (128 * all) bytes) (omega (arith, less)) (omega (arith, less, few, most, total))
    ∙ room_alike (128 * i) n size 4096 (drop (128 * all) bytes) (omega (arith, less, few, most, total)) (omega (arith, less, few, most))

test_alike : (bytes : List ℕ) (i count all : ℕ) → i < count → count ≤ all → all ≤ 16
    → test_at (filled (testing_bytes bytes all count)) count i ≡ record { expected = record_at (filled bytes) i; bytes = record_at (filled (drop (128 * all) bytes)) i }
test_alike bytes i count all less few most = λ j. record {
  expected = expected_alike bytes i count all less few most j;
  bytes = written_alike bytes i count all (4096 - 128 * count) less few most (omega (arith, few, most)) j;
}

first_tests : (f g : ℕ → TestedRecord) (from few more : ℕ) → few ≤ more → ((i : ℕ) → i < from + few → f i ≡ g i)
    → map f (range_with_len from few) ≡ take few (map g (range_with_len from more))
first_tests f g from zero more h same = refl
first_tests f g from (suc few) zero h same = absurd (omega (arith, h))
first_tests f g from (suc few) (suc more) h same =
    λ i. same from (omega arith) i ∷ first_tests f g (from + 1) few more (omega (arith, h)) (λ k less. same k (omega (arith, less))) i

-- the records that a call tests and writes, as many as it names
abbrev pub call_tests : Situation → List TestedRecord
call_tests s = tests_of_job (testing_job s s.caller.multi)

tests_first : (s : Situation) (k : ℕ) → k ≤ s.caller.multi → s.caller.multi ≤ 16 → tests_of_job (testing_job s k) ≡ take k (call_tests s)
tests_first s k few most =
    first_tests (test_at (filled (testing_bytes s.call.bytes s.caller.multi k)) k) (test_at (filled (testing_bytes s.call.bytes s.caller.multi s.caller.multi)) s.caller.multi) 0 k s.caller.multi few
    (λ i less. test_alike s.call.bytes i k s.caller.multi (omega (arith, less)) few most
    ∙ sym (test_alike s.call.bytes i s.caller.multi s.caller.multi (omega (arith, less, few)) (omega arith) most))

tests_by : (s : Situation) (k : ℕ) (cut : Bool) → k ≤ s.caller.multi → s.caller.multi ≤ 16
    → planned (plan_of (drive_at s) (testing_job s k)) cut ≡ planned (testing (drive_at s) (file_of (subject_key s)) (first_record s) (take k (call_tests s)) (writing_stamp s)) cut
unfolding plan_of
tests_by s k cut few most =
    λ i. planned (testing (drive_at s) (call_file s i) (first_record s) (tests_first s k few most i) (writing_stamp s)) cut

testing_by : (s : Situation) (k : ℕ) (cut : Bool) → job_of s ≡ where_some k (testing_job s k) → k ≤ s.caller.multi → s.caller.multi ≤ 16
    → record { moved = (turned s (call_turns s)).moved; end = end_by (turned s (call_turns s)).error cut }
    ≡ planned (testing (drive_at s) (file_of (subject_key s)) (first_record s) (take k (call_tests s)) (writing_stamp s)) cut
unfolding testing
testing_by s zero cut is few most =
    let t : turned s (call_turns s) ≡ turned_by (drive_at s) 1 None = by_job s None is in
    λ i. record { moved = (t i).moved; end = end_by (t i).error cut }
testing_by s (suc k) cut is few most =
    let some : job_of s ≡ Some (testing_job s (suc k)) = is ∙ unless_none k (testing_job s (suc k)) in
    let t : turned s (call_turns s) ≡ turned_by (drive_at s) (turns_of (drive_at s) (testing_job s (suc k))) (Some (testing_job s (suc k))) = by_job s (Some (testing_job s (suc k))) some in
    (λ i. record { moved = (t i).moved; end = end_by (t i).error cut }) ∙ comes_to (drive_at s) (testing_job s (suc k)) cut ∙ tests_by s (suc k) cut few most

-- the records before the first that is there and that another process has locked
abbrev stopped_at : Situation → ℕ → Bool
stopped_at s n = stops_at s.filing.opens s.caller.process (subject_key s) (read_error (drive_at s) (file_of (subject_key s))) n

before_lock : (s : Situation) → s.function ≡ TestAndWrite → free_count s ≡ count_until (stopped_at s) (first_record s) s.caller.multi
unfolding free_count
before_lock s is = ap (λ f. count_until (is_cut_at s f) (first_record s) s.caller.multi) is

cut_so : (s : Situation) (k : ℕ) → k ≡ count_until (stopped_at s) (first_record s) s.caller.multi
    → planned (testing (drive_at s) (file_of (subject_key s)) (first_record s) (take k (call_tests s)) (writing_stamp s)) (nat_lt k s.caller.multi)
    ≡ cut_testing (drive_at s) (file_of (subject_key s)) (first_record s) (call_tests s) (writing_stamp s) (count_until (stopped_at s) (first_record s) (length (call_tests s)))
cut_so s k is =
    let size : length (call_tests s) ≡ s.caller.multi = length-map-range_with_len (test_at (testing_job s s.caller.multi).bytes s.caller.multi) 0 s.caller.multi in
    let same : k ≡ count_until (stopped_at s) (first_record s) (length (call_tests s)) = is ∙ ap (count_until (stopped_at s) (first_record s)) (sym size) in
    λ i. planned (testing (drive_at s) (file_of (subject_key s)) (first_record s) (take (same i) (call_tests s)) (writing_stamp s)) (nat_lt (same i) (sym size i))

pub testing_call_ends : (s : Situation) → refusal_of s ≡ None → s.function ≡ TestAndWrite → s.caller.multi ≤ 16 → IsSoundDrive (drive_at s)
    → ended_for s (turned s (call_turns s)) TestAndWrite
    ≡ testing_ended s.filing.opens s.caller.process (subject_key s) (drive_at s) (first_record s) (call_tests s) (writing_stamp s)
unfolding end_after job_by
testing_call_ends s none is most sound =
    let k : ℕ = free_count s in
    let free : k ≡ count_until (stopped_at s) (first_record s) s.caller.multi = before_lock s is in
    let few : k ≤ s.caller.multi = subst (λ n. n ≤ s.caller.multi) (sym free) (until_within (stopped_at s) (first_record s) s.caller.multi) in
    let whole : IsWhole (file_of (subject_key s)) (drive_at s) = λ number entry at. (sound.each (file_of (subject_key s)) number entry at).blocks in
    (λ i. record { moved = (turned s (call_turns s)).moved; end = end_by (turned s (call_turns s)).error (is_cut_by s (is i)) })
    ∙ testing_by s k (nat_lt k s.caller.multi) (own_job s none ∙ ap (job_by s) is) few most ∙ cut_so s k free
    ∙ testing_ends s.filing.opens s.caller.process (subject_key s) (read_error (drive_at s) (file_of (subject_key s))) (drive_at s) (first_record s) (call_tests s) (writing_stamp s) whole (λ m. refl)
