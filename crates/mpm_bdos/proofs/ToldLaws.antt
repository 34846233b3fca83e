-- What bounds a reply: few records are done where something ended them, a position is one that a block can have, and the records that
-- were read stand at the front of their job's bytes.
use Rattle.std.proofs.Common.{◌≡◌, ◌∙◌, ◌⊎◌, inl, inr, ℕ, zero, suc, ◌+◌, ◌*◌, ◌/◌, ◌≤◌, ◌<◌, ◌==◌, not, Bool, true, false, cond, List, [], ◌∷◌, ◌++◌, Option, Some, None, IfSome, length, refl, sym, ap, subst, arith, eqb-true, take_all}
use Rattle.std.specs.Prelude.{is_some, nat_le, sum_by, option_and_then}
use Rattle.std.specs.FinMap.{get}
use Rattle.std.proofs.lemmas.Bool.{false≢true, cases_lt}
use Rattle.std.proofs.lemmas.Bool.Decides.{nat_tests}
use Rattle.std.proofs.lemmas.Option.{same_Some}
use Rattle.std.proofs.lemmas.List.Sums.{sum_by-cons}
use Rattle.mpm_dirent.specs.declared.limits.TheConstants.{LAST_EXTENT, LAST_POSITION, LAST_RECORD}
use Rattle.mpm_mount.specs.Drives.{FileName, PhysicalExtent, Drive, entry_number, entry_name, with_extent_there, extent_at, visible_of}
use Rattle.mpm_mount.specs.Directories.{Directory}
use Rattle.mpm_opens.specs.declared.kinds.FileKey.{FileKey}
use Rattle.mpm_opens.specs.declared.kinds.Mode.TheVariants.{Unlocked}
use Rattle.mpm_opens.specs.Kinds.{is_same_mode}
use Rattle.mpm_opens.specs.Opens.{OpenFiles, locked}
use Rattle.mpm_mount.specs.Files.{where_there}
use Rattle.mpm_file_functions.specs.declared.errors.RecordError.{RecordError}
use Rattle.mpm_file_functions.specs.declared.errors.RecordError.TheVariants.{UnwrittenExtent, UnwrittenData, NoDirectorySpace, NoDataBlock, Mismatch}
use Rattle.mpm_jobs.specs.declared.jobs.JobKind.TheVariants as kinds
use Rattle.mpm_jobs.specs.declared.jobs.Job.{Job}
use Rattle.mpm_files.specs.declared.work.Work.{Work}
use Rattle.mpm_files.specs.Units.{ReadsRecord, stages, last_of, applied}
use Rattle.mpm_files.specs.Plans.{CallPlan, file_of_job, behind, unless_failing, reading, plan_by, plan_of, turns_of}
use Rattle.mpm_files.specs.Serving.{records_moved, moved_after, all_read, records_after, IsServingJob}
use Rattle.mpm_files.specs.Turning.{Suits}
use Rattle.mpm_file_functions.specs.declared.ends.RecordEnd.{RecordEnd}
use Rattle.mpm_file_functions.specs.declared.ends.RecordEnd.TheVariants.{Failing}
use Rattle.mpm_file_functions.specs.declared.functions.FileFunction.{FileFunction}
use Rattle.mpm_file_functions.specs.declared.functions.FileFunction.TheVariants.{ResetDisks, OpenFile, CloseFile, SearchFirst, SearchNext, DeleteFile, ReadSequential, WriteSequential, MakeFile, RenameFile, ProtectDisk, SetAttributes, ReadRandom, WriteRandom, FileSize, ResetDrives, AccessDrives, FreeDrives, TestAndWrite, LockRecord, UnlockRecord, FreeSpace, FlushBuffers, SetLabel, LabelData, ReadXfcb, WriteXfcb}
use Rattle.mpm_refusals.specs.Filing.{Situation, block}
use Rattle.mpm_fcb.specs.Positions.{random_record}
use Rattle.mpm_refusals.specs.Subjects.{drive_at, subject_key, first_by, first_record, open_mode}
use Rattle.mpm_file_functions.specs.Refusals.{refusals_of}
use Rattle.mpm_refusals.specs.Refusals.{applies, refusal_of}
use Rattle.mpm_bdos.specs.Records.{Locking, unless_ended, end_of, locking}
use Rattle.mpm_file_functions.specs.Ends.{error_code_of, end_by, coded, done_by}
use Rattle.mpm_bdos.specs.Jobs.{free_count, reading_job, writing_job, testing_job, job_by, job_of, turns_by, call_turns, Turned, turned_by, turned}
use Rattle.mpm_bdos.specs.Changes.{locking_of}
use Rattle.mpm_bdos.specs.Replies.{is_cut_by, end_after, granted_of}
use Rattle.mpm_file_entries.specs.Granting.{position_by, value_by, FewDone, is_moving, IsPlaced}
use Rattle.mpm_bdos.specs.Replies as replies
use Rattle.mpm_bdos.specs.Ending.{IsSoundDrive, ended, is_reading, HasRead}
use Rattle.mpm_bdos.specs.Leaving.{nothing_locked}
use Rattle.mpm_bdos.specs.Serving.{WorksOn}
use Rattle.mpm_bdos.specs.Replying.{IsServed}
use Rattle.mpm_bdos.proofs.Granted.{none_applies}
use Rattle.mpm_bdos.proofs.MovedLaws.{is_on_records, most_moved, all_moved, all_where_none_fails}
use Rattle.mpm_bdos.proofs.EndingLaws.{own_job, kind_of, ended_is, ended_few}
use Rattle.mpm_bdos.proofs.Suited.{IsCall, low_first, within_file}

-- locks
one_further : (o : Option RecordEnd) (m n : ℕ) → IfSome o (λ end. m < n) → IfSome o (λ end. m + 1 < suc n)
one_further None m n h = tt
one_further (Some end) m n h = omega (arith, h)

few_step : (e : Option RecordEnd) (opens : OpenFiles) (rest : Locking) (count : ℕ) → IfSome rest.end (λ end. rest.moved < count)
    → IfSome (unless_ended opens e rest).end (λ end. (unless_ended opens e rest).moved < suc count)
few_step None opens rest count h = one_further rest.end rest.moved count h
few_step (Some end) opens rest count h = omega arith

pub few_locked : (count : ℕ) (drive : Drive) (opens : OpenFiles) (p : ℕ) (file : FileKey) (n : ℕ) → IfSome (locking drive opens p file n count).end (λ end. (locking drive opens p file n count).moved < count)
unfolding locking
few_locked zero drive opens p file n = tt
few_locked (suc count) drive opens p file n =
    few_step (end_of LockRecord (record { drive = drive; opens = opens; process = p; file = file; expected = [] }) n) opens (locking drive (locked opens p file n) p file (n + 1) count) count
    (few_locked count drive (locked opens p file n) p file (n + 1))

few_where : (b : Bool) (opens : OpenFiles) (l : Locking) (n : ℕ) → IfSome l.end (λ end. l.moved < n) → IfSome (cond b l (nothing_locked opens)).end (λ end. (cond b l (nothing_locked opens)).moved < n)
few_where true opens l n h = h
few_where false opens l n h = tt

few_locking : (s : Situation) → IfSome (locking_of s).end (λ end. (locking_of s).moved < s.caller.multi)
unfolding locking_of
few_locking s =
    few_where (is_same_mode (open_mode s) Unlocked) s.filing.opens (locking (drive_at s) s.filing.opens s.caller.process (subject_key s) (first_record s) s.caller.multi) s.caller.multi
    (few_locked s.caller.multi (drive_at s) s.filing.opens s.caller.process (subject_key s) (first_record s))

called : (s : Situation) (image : List ℕ) (directory : Option Directory) (work : Option Work) → IsServed s image directory work → IsCall s
called s image directory work served = record { caller = served.caller; users = served.users; size = served.size; low = served.low }

pub ends_so : (s : Situation) (image : List ℕ) (directory : Option Directory) (work : Option Work) → IsServed s image directory work
    → ended s.function s.caller.multi work ≡ record { moved = (turned s (call_turns s)).moved; end = end_after s (turned s (call_turns s)) }
ends_so s image directory work served = ended_is s image directory work served.none served.sound served.works

-- few are done where something ended them
few_for : (s : Situation) (f : FileFunction) → FewDone s.caller.multi (record { moved = (turned s (call_turns s)).moved; end = end_after s (turned s (call_turns s)) })
    → FewDone s.caller.multi (replies.ended_for s (turned s (call_turns s)) f)
few_for s ResetDisks h = h
few_for s OpenFile h = h
few_for s CloseFile h = h
few_for s SearchFirst h = h
few_for s SearchNext h = h
few_for s DeleteFile h = h
few_for s ReadSequential h = h
few_for s WriteSequential h = h
few_for s MakeFile h = h
few_for s RenameFile h = h
few_for s ProtectDisk h = h
few_for s SetAttributes h = h
few_for s ReadRandom h = h
few_for s WriteRandom h = h
few_for s FileSize h = h
few_for s ResetDrives h = h
few_for s AccessDrives h = h
few_for s FreeDrives h = h
few_for s TestAndWrite h = h
few_for s LockRecord h = few_locking s
few_for s UnlockRecord h = h
few_for s FreeSpace h = h
few_for s FlushBuffers h = h
few_for s SetLabel h = h
few_for s LabelData h = h
few_for s ReadXfcb h = h
few_for s WriteXfcb h = h

pub few_granted : (s : Situation) (image : List ℕ) (directory : Option Directory) (work : Option Work) → IsServed s image directory work
    → FewDone s.caller.multi (granted_of s (turned s (call_turns s))).ended
unfolding granted_of
few_granted s image directory work served =
    few_for s s.function
    (subst (FewDone s.caller.multi) (ends_so s image directory work served) (ended_few s image directory work served.none served.sound served.works served.caller.some))

-- a call on records moves 16 at most
on_records_by : (s : Situation) (f : FileFunction) (job : Job) → is_moving f ≡ true → job_by s f ≡ Some job → is_on_records job.kind ≡ true
unfolding job_by
on_records_by s ResetDisks job is e = absurd (false≢true is)
on_records_by s OpenFile job is e = absurd (false≢true is)
on_records_by s CloseFile job is e = absurd (false≢true is)
on_records_by s SearchFirst job is e = absurd (false≢true is)
on_records_by s SearchNext job is e = absurd (false≢true is)
on_records_by s DeleteFile job is e = absurd (false≢true is)
on_records_by s ReadSequential job is e = ap (λ (j : Job). is_on_records j.kind) (sym (same_Some (reading_job s) job e))
on_records_by s WriteSequential job is e = ap is_on_records (kind_of (free_count s) job (writing_job s (free_count s)) e)
on_records_by s MakeFile job is e = absurd (false≢true is)
on_records_by s RenameFile job is e = absurd (false≢true is)
on_records_by s ProtectDisk job is e = absurd (false≢true is)
on_records_by s SetAttributes job is e = absurd (false≢true is)
on_records_by s ReadRandom job is e = ap (λ (j : Job). is_on_records j.kind) (sym (same_Some (reading_job s) job e))
on_records_by s WriteRandom job is e = ap is_on_records (kind_of (free_count s) job (writing_job s (free_count s)) e)
on_records_by s FileSize job is e = absurd (false≢true is)
on_records_by s ResetDrives job is e = absurd (false≢true is)
on_records_by s AccessDrives job is e = absurd (false≢true is)
on_records_by s FreeDrives job is e = absurd (false≢true is)
on_records_by s TestAndWrite job is e = ap is_on_records (kind_of (free_count s) job (testing_job s (free_count s)) e)
on_records_by s LockRecord job is e = absurd (false≢true is)
on_records_by s UnlockRecord job is e = absurd (false≢true is)
on_records_by s FreeSpace job is e = absurd (false≢true is)
on_records_by s FlushBuffers job is e = absurd (false≢true is)
on_records_by s SetLabel job is e = absurd (false≢true is)
on_records_by s LabelData job is e = absurd (false≢true is)
on_records_by s ReadXfcb job is e = absurd (false≢true is)
on_records_by s WriteXfcb job is e = absurd (false≢true is)

moved_by_job : (s : Situation) (job : Option Job) → job_of s ≡ job → (turned s (call_turns s)).moved ≡ (turned_by (drive_at s) (turns_by (drive_at s) job) job).moved
unfolding turned call_turns
moved_by_job s job is = ap (λ j. (turned_by (drive_at s) (turns_by (drive_at s) j) j).moved) is

moved_16_by : (s : Situation) (job : Option Job) → job_by s s.function ≡ job → is_moving s.function ≡ true → IfSome job (Suits (drive_at s)) → (turned_by (drive_at s) (turns_by (drive_at s) job) job).moved ≤ 16
moved_16_by s None is moves suits = omega arith
moved_16_by s (Some job) is moves suits = omega (arith, most_moved (drive_at s) job (on_records_by s s.function job moves is), suits.count)

moved_16 : (s : Situation) → refusal_of s ≡ None → is_moving s.function ≡ true → IfSome (job_of s) (Suits (drive_at s)) → (turned s (call_turns s)).moved ≤ 16
moved_16 s none moves suits =
    subst (λ n. n ≤ 16) (sym (moved_by_job s (job_of s) refl)) (moved_16_by s (job_of s) (sym (own_job s none)) moves suits)

-- records that are read are of extents that are there
low_extent : (extent last : ℕ) → extent ≤ last → last ≤ LAST_EXTENT → extent ≤ LAST_EXTENT
low_extent extent last h low = omega (arith, h, low)

extent_low : (extent : ℕ) (found : Option PhysicalExtent) → ((e : PhysicalExtent) → found ≡ Some e → e.last ≤ LAST_EXTENT) → is_some (option_and_then (with_extent_there extent) found) ≡ true → extent ≤ LAST_EXTENT
extent_low extent None low there = absurd (false≢true there)
extent_low extent (Some e) low there = by_test (nat_le extent e.last) refl there
  where
    by_test : (b : Bool) → nat_le extent e.last ≡ b → is_some (cond b (Some e) None) ≡ true → extent ≤ LAST_EXTENT
    by_test true is there = low_extent extent e.last (grind (arith, nat_tests)) (low e refl)
    by_test false is there = absurd (false≢true there)

low_record : (drive : Drive) (file : FileName) (n : ℕ) → IsSoundDrive drive → is_some (extent_at drive file (n / 128)) ≡ true → n ≤ LAST_RECORD
unfolding extent_at
low_record drive file n sound there =
    let low : n / 128 ≤ LAST_EXTENT = extent_low (n / 128) (get drive.extents (entry_name drive.kind file (n / 128))) (λ e is. (sound.each file (entry_number drive.kind (n / 128)) e is).last) there in
    omega (arith, low)

read_low_by : (e seen : Bool) (rest : CallPlan) (file : FileName) (n : ℕ) → (e ≡ true → n ≤ LAST_RECORD)
    → 0 < sum_by records_moved (unless_failing (cond (not e) (Some UnwrittenExtent) (cond (not seen) (Some UnwrittenData) None)) (behind (ReadsRecord file n ∷ []) rest)).units → n ≤ LAST_RECORD
read_low_by true seen rest file n low h = low refl
read_low_by false seen rest file n low h = absurd (omega (arith, h))

read_low : (count : ℕ) (drive : Drive) (file : FileName) (n : ℕ) → IsSoundDrive drive → 0 < sum_by records_moved (reading drive file n count).units → n ≤ LAST_RECORD
unfolding reading
read_low zero drive file n sound h = absurd (omega (arith, h))
read_low (suc count) drive file n sound h =
    read_low_by (is_some (extent_at drive file (n / 128))) (is_some (visible_of drive file n)) (reading drive file (n + 1) count) file n (low_record drive file n sound) h

-- a call on records stands where a block can
sequential_read : (s : Situation) → job_of s ≡ Some (reading_job s)
    → (turned s (call_turns s)).moved ≡ sum_by records_moved (reading (drive_at s) (file_of_job (reading_job s)) (first_record s) s.caller.multi).units
unfolding plan_of
sequential_read s is = moved_by_job s (Some (reading_job s)) is ∙ all_moved (drive_at s) (reading_job s)

read_place : (first moved : ℕ) → first ≤ LAST_POSITION → moved ≤ 16 → (0 < moved → first ≤ LAST_RECORD) → (0 < moved) ⊎ (moved ≤ 0) → first + moved ≤ LAST_POSITION
read_place first moved low few reads (inl some) = omega (arith, few, reads some)
read_place first moved low few reads (inr nothing) = omega (arith, low, nothing)

place_by : (s : Situation) (image : List ℕ) (directory : Option Directory) (work : Option Work) (f : FileFunction) → IsServed s image directory work → s.function ≡ f → is_moving f ≡ true
    → position_by f (first_record s) (replies.ended_for s (turned s (call_turns s)) f).moved ≤ LAST_POSITION
unfolding refusals_of applies job_by
place_by s image directory work ResetDisks served is moves = absurd (false≢true moves)
place_by s image directory work OpenFile served is moves = absurd (false≢true moves)
place_by s image directory work CloseFile served is moves = absurd (false≢true moves)
place_by s image directory work SearchFirst served is moves = absurd (false≢true moves)
place_by s image directory work SearchNext served is moves = absurd (false≢true moves)
place_by s image directory work DeleteFile served is moves = absurd (false≢true moves)
place_by s image directory work ReadSequential served is moves =
    let job : job_of s ≡ Some (reading_job s) = own_job s served.none ∙ ap (job_by s) is in
    let t : Turned = turned s (call_turns s) in
    read_place (first_record s) t.moved (low_first s ReadSequential (called s image directory work served) served.none is refl) (moved_16 s served.none (ap is_moving is) served.suits)
    (λ some. read_low s.caller.multi (drive_at s) (file_of_job (reading_job s)) (first_record s) served.sound (subst (λ n. 0 < n) (sequential_read s job) some))
    (cases_lt 0 t.moved)
place_by s image directory work WriteSequential served is moves =
    let none = none_applies s (refusals_of WriteSequential) (ap refusals_of is) served.none in
    omega (arith, within_file (first_record s) s.caller.multi none.1.1.0, moved_16 s served.none (ap is_moving is) served.suits, served.caller.some)
place_by s image directory work MakeFile served is moves = absurd (false≢true moves)
place_by s image directory work RenameFile served is moves = absurd (false≢true moves)
place_by s image directory work ProtectDisk served is moves = absurd (false≢true moves)
place_by s image directory work SetAttributes served is moves = absurd (false≢true moves)
place_by s image directory work ReadRandom served is moves = low_first s ReadRandom (called s image directory work served) served.none is refl
place_by s image directory work WriteRandom served is moves = low_first s WriteRandom (called s image directory work served) served.none is refl
place_by s image directory work FileSize served is moves = absurd (false≢true moves)
place_by s image directory work ResetDrives served is moves = absurd (false≢true moves)
place_by s image directory work AccessDrives served is moves = absurd (false≢true moves)
place_by s image directory work FreeDrives served is moves = absurd (false≢true moves)
place_by s image directory work TestAndWrite served is moves = low_first s TestAndWrite (called s image directory work served) served.none is refl
place_by s image directory work LockRecord served is moves = absurd (false≢true moves)
place_by s image directory work UnlockRecord served is moves = absurd (false≢true moves)
place_by s image directory work FreeSpace served is moves = absurd (false≢true moves)
place_by s image directory work FlushBuffers served is moves = absurd (false≢true moves)
place_by s image directory work SetLabel served is moves = absurd (false≢true moves)
place_by s image directory work LabelData served is moves = absurd (false≢true moves)
place_by s image directory work ReadXfcb served is moves = absurd (false≢true moves)
place_by s image directory work WriteXfcb served is moves = absurd (false≢true moves)

pub placed : (s : Situation) (image : List ℕ) (directory : Option Directory) (work : Option Work) → IsServed s image directory work → is_moving s.function ≡ true
    → IsPlaced (granted_of s (turned s (call_turns s)))
unfolding granted_of
placed s image directory work served moves = λ _. place_by s image directory work s.function served refl moves

-- a call that locks records names such as a file may have
pub in_file : (s : Situation) (image : List ℕ) (directory : Option Directory) (work : Option Work) → IsServed s image directory work → s.function ≡ LockRecord → random_record (block s) ≤ LAST_RECORD
unfolding refusals_of applies first_record
in_file s image directory work served f =
    let none = none_applies s (refusals_of LockRecord) (ap refusals_of f) served.none in
    omega (arith, within_file (first_by (block s) s.function) s.caller.multi none.1.1.0, ap (first_by (block s)) f, served.caller.some)

-- records that were read
read_each_by : (there : Bool) (seen : Option (List ℕ)) (drive : Drive) (file : FileName) (n : ℕ) (rest : CallPlan) → visible_of drive file n ≡ seen
    → length (all_read drive rest.units) ≡ sum_by records_moved rest.units
    → length (all_read drive (unless_failing (cond (not there) (Some UnwrittenExtent) (cond (not (is_some seen)) (Some UnwrittenData) None)) (behind (ReadsRecord file n ∷ []) rest)).units)
    ≡ sum_by records_moved (unless_failing (cond (not there) (Some UnwrittenExtent) (cond (not (is_some seen)) (Some UnwrittenData) None)) (behind (ReadsRecord file n ∷ []) rest)).units
unfolding all_read applied stages last_of
read_each_by true (Some bytes) drive file n rest is so =
    ap (λ o. length (where_there o (λ b. b ∷ []) ++ all_read drive rest.units)) is ∙ omega (arith, so, sum_by-cons records_moved (ReadsRecord file n) rest.units)
read_each_by true None drive file n rest is so = refl
read_each_by false seen drive file n rest is so = refl

read_each : (count : ℕ) (drive : Drive) (file : FileName) (n : ℕ) → length (all_read drive (reading drive file n count).units) ≡ sum_by records_moved (reading drive file n count).units
unfolding reading all_read
read_each zero drive file n = refl
read_each (suc count) drive file n =
    read_each_by (is_some (extent_at drive file (n / 128))) (visible_of drive file n) drive file n (reading drive file (n + 1) count) refl (read_each count drive file (n + 1))

count_read : (drive : Drive) (job : Job) → job.kind ≡ kinds.Read → length (records_after drive job (turns_of drive job)) ≡ moved_after drive job (turns_of drive job)
unfolding plan_of
count_read drive job is =
    ap (λ units. length (all_read drive units)) (take_all (turns_of drive job) (plan_of drive job).units (omega arith))
    ∙ ap (λ kind. length (all_read drive (plan_by drive job kind).units)) is
    ∙ read_each job.count drive (file_of_job job) job.first
    ∙ sym (ap (λ kind. sum_by records_moved (plan_by drive job kind).units) is)
    ∙ sym (all_moved drive job)

reads_by : (drive : Drive) (image : List ℕ) (directory : Option Directory) (job : Job) (work : Option Work) → job.kind ≡ kinds.Read → Suits drive job
    → WorksOn image directory drive (Some job) (turns_of drive job) work → HasRead (moved_after drive job (turns_of drive job)) work (records_after drive job (turns_of drive job))
reads_by drive image directory job None is suits works = absurd works
reads_by drive image None job (Some work) is suits works = absurd works
reads_by drive image (Some d) job (Some work) is suits works =
    let serving : IsServingJob drive job (turns_of drive job) work = works.serving in
    record {
      before = job;
      job_is = serving.job_is;
      size = suits.size;
      count = count_read drive job is;
    }

reads_job : (s : Situation) (image : List ℕ) (directory : Option Directory) (work : Option Work) (job : Job) → job_of s ≡ Some job → job.kind ≡ kinds.Read → IsServed s image directory work
    → HasRead (turned s (call_turns s)).moved work (turned s (call_turns s)).records
unfolding turned call_turns
reads_job s image directory work job is kind served =
    let D : Drive = drive_at s in
    let suits : Suits D job = subst (λ j. IfSome j (Suits D)) is served.suits in
    let works : WorksOn image directory D (Some job) (turns_of D job) work = subst (λ j. WorksOn image directory D j (turns_by D j) work) is served.works in
    subst (λ j. HasRead (turned_by D (turns_by D j) j).moved work (turned_by D (turns_by D j) j).records) (sym is) (reads_by D image directory job work kind suits works)

-- all of them, where none fails
reads_all : (s : Situation) → job_of s ≡ Some (reading_job s) → (turned s (call_turns s)).error ≡ None → (turned s (call_turns s)).moved ≡ s.caller.multi
unfolding turned call_turns
reads_all s is =
    let D : Drive = drive_at s in
    subst (λ j. (turned_by D (turns_by D j) j).error ≡ None → (turned_by D (turns_by D j) j).moved ≡ s.caller.multi) (sym is)
    (λ none. all_where_none_fails D (reading_job s) refl none)

-- so many are done by the value
done_where : (multi moved value code : ℕ) → 0 < code → code < 4096 → value ≡ 4096 * moved + code → done_by multi value ≡ moved
done_where multi moved value code some few is = by_test (value == 0) refl
  where
    by_test : (b : Bool) → (value == 0) ≡ b → cond b multi (value / 4096) ≡ moved
    by_test true none = absurd (omega (arith, eqb-true value 0 none, some, is))
    by_test false none = omega (arith, is, some, few)

sequential_codes : (error : RecordError) → (0 < error_code_of ReadSequential error) × (error_code_of ReadSequential error < 4096)
sequential_codes UnwrittenExtent = (omega arith, omega arith)
sequential_codes UnwrittenData = (omega arith, omega arith)
sequential_codes NoDirectorySpace = (omega arith, omega arith)
sequential_codes NoDataBlock = (omega arith, omega arith)
sequential_codes Mismatch = (omega arith, omega arith)

random_codes : (error : RecordError) → (0 < error_code_of ReadRandom error) × (error_code_of ReadRandom error < 4096)
random_codes UnwrittenExtent = (omega arith, omega arith)
random_codes UnwrittenData = (omega arith, omega arith)
random_codes NoDirectorySpace = (omega arith, omega arith)
random_codes NoDataBlock = (omega arith, omega arith)
random_codes Mismatch = (omega arith, omega arith)

done_as_told : (f : FileFunction) (multi moved : ℕ) (error : Option RecordError) → ((e : RecordError) → (0 < error_code_of f e) × (error_code_of f e < 4096))
    → (error ≡ None → moved ≡ multi) → done_by multi (coded f moved (end_by error false)) ≡ moved
done_as_told f multi moved None codes all = sym (all refl)
done_as_told f multi moved (Some error) codes all = done_where multi moved (coded f moved (Some (Failing error))) (error_code_of f error) (codes error).0 (codes error).1 refl

sequential_value : (s : Situation) (drive : Drive) (t : Turned) → s.function ≡ ReadSequential → value_by drive (granted_of s t) ReadSequential ≡ coded ReadSequential t.moved (end_by t.error false)
unfolding granted_of value_by end_after
sequential_value s drive t is =
    ap (λ f. coded ReadSequential (replies.ended_for s t f).moved (replies.ended_for s t f).end) is ∙ ap (λ f. coded ReadSequential t.moved (end_by t.error (is_cut_by s f))) is

random_value : (s : Situation) (drive : Drive) (t : Turned) → s.function ≡ ReadRandom → value_by drive (granted_of s t) ReadRandom ≡ coded ReadRandom t.moved (end_by t.error false)
unfolding granted_of value_by end_after
random_value s drive t is =
    ap (λ f. coded ReadRandom (replies.ended_for s t f).moved (replies.ended_for s t f).end) is ∙ ap (λ f. coded ReadRandom t.moved (end_by t.error (is_cut_by s f))) is

reads_value : (s : Situation) (image : List ℕ) (directory : Option Directory) (work : Option Work) (f : FileFunction) (value : ℕ) → IsServed s image directory work → job_of s ≡ Some (reading_job s)
    → ((e : RecordError) → (0 < error_code_of f e) × (error_code_of f e < 4096))
    → value ≡ coded f (turned s (call_turns s)).moved (end_by (turned s (call_turns s)).error false) → HasRead (done_by s.caller.multi value) work (turned s (call_turns s)).records
reads_value s image directory work f value served is codes told =
    let t : Turned = turned s (call_turns s) in
    subst (λ n. HasRead n work t.records) (sym (ap (done_by s.caller.multi) told ∙ done_as_told f s.caller.multi t.moved t.error codes (reads_all s is)))
    (reads_job s image directory work (reading_job s) is refl served)

reads_function : (s : Situation) (image : List ℕ) (directory : Option Directory) (work : Option Work) (drive : Drive) (f : FileFunction) → IsServed s image directory work → s.function ≡ f → is_reading f ≡ true
    → HasRead (done_by s.caller.multi (value_by drive (granted_of s (turned s (call_turns s))) f)) work (turned s (call_turns s)).records
unfolding job_by
reads_function s image directory work drive ResetDisks served is reads = absurd (false≢true reads)
reads_function s image directory work drive OpenFile served is reads = absurd (false≢true reads)
reads_function s image directory work drive CloseFile served is reads = absurd (false≢true reads)
reads_function s image directory work drive SearchFirst served is reads = absurd (false≢true reads)
reads_function s image directory work drive SearchNext served is reads = absurd (false≢true reads)
reads_function s image directory work drive DeleteFile served is reads = absurd (false≢true reads)
reads_function s image directory work drive ReadSequential served is reads =
    reads_value s image directory work ReadSequential _ served (own_job s served.none ∙ ap (job_by s) is) sequential_codes (sequential_value s drive (turned s (call_turns s)) is)
reads_function s image directory work drive WriteSequential served is reads = absurd (false≢true reads)
reads_function s image directory work drive MakeFile served is reads = absurd (false≢true reads)
reads_function s image directory work drive RenameFile served is reads = absurd (false≢true reads)
reads_function s image directory work drive ProtectDisk served is reads = absurd (false≢true reads)
reads_function s image directory work drive SetAttributes served is reads = absurd (false≢true reads)
reads_function s image directory work drive ReadRandom served is reads =
    reads_value s image directory work ReadRandom _ served (own_job s served.none ∙ ap (job_by s) is) random_codes (random_value s drive (turned s (call_turns s)) is)
reads_function s image directory work drive WriteRandom served is reads = absurd (false≢true reads)
reads_function s image directory work drive FileSize served is reads = absurd (false≢true reads)
reads_function s image directory work drive ResetDrives served is reads = absurd (false≢true reads)
reads_function s image directory work drive AccessDrives served is reads = absurd (false≢true reads)
reads_function s image directory work drive FreeDrives served is reads = absurd (false≢true reads)
reads_function s image directory work drive TestAndWrite served is reads = absurd (false≢true reads)
reads_function s image directory work drive LockRecord served is reads = absurd (false≢true reads)
reads_function s image directory work drive UnlockRecord served is reads = absurd (false≢true reads)
reads_function s image directory work drive FreeSpace served is reads = absurd (false≢true reads)
reads_function s image directory work drive FlushBuffers served is reads = absurd (false≢true reads)
reads_function s image directory work drive SetLabel served is reads = absurd (false≢true reads)
reads_function s image directory work drive LabelData served is reads = absurd (false≢true reads)
reads_function s image directory work drive ReadXfcb served is reads = absurd (false≢true reads)
reads_function s image directory work drive WriteXfcb served is reads = absurd (false≢true reads)

pub has_read : (s : Situation) (image : List ℕ) (directory : Option Directory) (work : Option Work) (drive : Drive) → IsServed s image directory work → is_reading s.function ≡ true
    → HasRead (done_by s.caller.multi (value_by drive (granted_of s (turned s (call_turns s))) s.function)) work (turned s (call_turns s)).records
has_read s image directory work drive served reads = reads_function s image directory work drive s.function served refl reads
