-- The job of a call that nothing refuses suits the drive that it names.
use Rattle.std.proofs.Common.{◌≡◌, ◌≢◌, ◌∙◌, ℕ, suc, ◌+◌, ◌%◌, ◌<◌, ◌≤◌, ◌==◌, ◌&&◌, not, Bool, true, false, cond, List, Option, Some, None, IfSome, length, sym, refl, ap, subst, arith}
use Rattle.std.specs.Prelude.{is_some, nat_lt, slice_index, if◌then◌else◌}
use Rattle.std.specs.FinMap.{get}
use Rattle.std.proofs.lemmas.Bool.{or_parts}
use Rattle.std.proofs.lemmas.Bool.Decides.{nat_tests}
use Rattle.std.proofs.lemmas.Option.{same_Some}
use Rattle.mpm_base.specs.Counts.{one_if}
use Rattle.mpm_base.proofs.Choices.{either}
use Rattle.mpm_dirent.specs.Names.{plain}
use Rattle.mpm_dirent.specs.declared.limits.TheConstants.{LAST_POSITION, LAST_RECORD}
use Rattle.mpm_dirent.proofs.Lengths.{part_size}
use Rattle.mpm_mount.specs.Drives.{FileName, Drive, free_entries}
use Rattle.mpm_mount.specs.Searching.{IsUnambiguous}
use Rattle.mpm_opens.proofs.Listing.{fails_at}
use Rattle.mpm_mount.specs.Files.{has_file}
use Rattle.mpm_fcb.specs.Blocks.{block_of}
use Rattle.mpm_fcb.specs.Names.{new_name_of, is_ambiguous}
use Rattle.mpm_fcb.specs.Positions.{sequential_record, are_beyond}
use Rattle.mpm_jobs.specs.declared.jobs.JobKind.TheVariants as kinds
use Rattle.mpm_jobs.specs.declared.jobs.Job.{Job}
use Rattle.mpm_files.specs.Turning.{SuitsKind, Suits}
use Rattle.mpm_file_functions.specs.declared.functions.FileFunction.{FileFunction}
use Rattle.mpm_file_functions.specs.declared.functions.FileFunction.TheVariants.{ResetDisks, OpenFile, CloseFile, SearchFirst, SearchNext, DeleteFile, ReadSequential, WriteSequential, MakeFile, RenameFile, ProtectDisk, SetAttributes, ReadRandom, WriteRandom, FileSize, ResetDrives, AccessDrives, FreeDrives, TestAndWrite, LockRecord, UnlockRecord, FreeSpace, FlushBuffers, SetLabel, LabelData, ReadXfcb, WriteXfcb}
use Rattle.mpm_file_functions.specs.declared.refusals.Refusal.{Refusal}
use Rattle.mpm_file_functions.specs.declared.refusals.Refusal.TheVariants.{Ambiguous, BeyondFile, NotFound, FileExists, DirectoryFull}
use Rattle.mpm_refusals.specs.Filing.{Situation, block, HaveUsers}
use Rattle.mpm_mount.specs.Looking.{data_byte}
use Rattle.mpm_refusals.specs.Subjects.{drive_at, open_key, own_file, new_file, is_there, subject_by, subject, first_by, first_record}
use Rattle.mpm_file_functions.specs.Refusals.{refusals_of}
use Rattle.mpm_refusals.specs.Refusals.{has_question, is_missing, makes_xfcb, lacks_xfcb, lacks_label, needed_by, existing_file, is_directory_full, applies, refusal_of}
use Rattle.mpm_jobs.specs.Jobs.{filled, with_stamp, with_one, with_new_name}
use Rattle.mpm_file_entries.specs.Protections.{with_protection}
use Rattle.mpm_bdos.specs.Jobs.{made_xfcb, job_on, free_count, reading_job, writing_job, testing_job, making_job, labelling_job, guarding_job, job_by, unless_refused, job_of}
use Rattle.mpm_file_entries.specs.Granting.{is_moving}
use Rattle.mpm_bdos.specs.Serving.{IsCaller}
use Rattle.mpm_refusals.proofs.AskedLaws.{file_is}
use Rattle.mpm_jobs.proofs.Filling.{filled_room}
use Rattle.mpm_bdos.proofs.Granted.{none_applies}
use Rattle.mpm_bdos.proofs.Absent.{absent, is_other}
use Rattle.mpm_bdos.proofs.NamedFiles.{subject_user}
use Rattle.mpm_bdos.proofs.EndingLaws.{free_within}

-- what is so of each call: of its caller, of the users of open files, and of the bytes of its block
pub record IsCall (s : Situation) : Type 0 where
  pub caller : IsCaller s.caller
  pub users : HaveUsers s.filing.opens
  pub size : length s.call.fcb ≡ 36
  pub low : sequential_record (block s) ≤ LAST_POSITION

user_of : (s : Situation) → IsCall s → (subject s).user < 16
user_of s call = subject_user s call.caller.user call.users

-- a job whose bytes are filled in
built : (drive : Drive) (job : Job) (bytes : List ℕ) → job.bytes ≡ filled bytes → job.user < 16 → job.first ≤ LAST_POSITION → job.count ≤ 16 → SuitsKind drive job job.kind
    → Suits drive job
built drive job bytes is user first count kind =
    record { user = user; first = first; count = count; size = ap length is ∙ filled_room bytes; kind = kind }

-- names
not_equal : (n m : ℕ) → (n == m) ≡ false → n ≢ m
not_equal n m e = grind (arith, nat_tests)

clear_name : (name : List ℕ) → length name ≡ 11 → is_ambiguous name ≡ false → IsUnambiguous name
unfolding is_ambiguous
clear_name name size none =
    record { size = size; marks = λ k h. not_equal (slice_index name k % 128) 63 (fails_at (λ byte. byte % 128 == 63) name k 0 refl none) }

name_size : (s : Situation) → length s.call.fcb ≡ 36 → length (block s).name ≡ 11
unfolding block_of
name_size s size = part_size 1 11 s.call.fcb (omega (arith, size))

-- records
-- records that are not beyond a file are within the 262,144 that it may have
pub within_file : (first count : ℕ) → are_beyond first count ≡ false → first + count ≤ LAST_RECORD + 1
within_file first count e = grind (arith, nat_tests)

not_beyond : (s : Situation) → applies s (subject s) BeyondFile ≡ false → first_record s + s.caller.multi ≤ LAST_RECORD + 1
unfolding applies
not_beyond s e = within_file (first_record s) s.caller.multi e

reading_suits : (s : Situation) → IsCall s → first_record s ≤ LAST_POSITION → Suits (drive_at s) (reading_job s)
reading_suits s call low = built (drive_at s) (reading_job s) _ refl (user_of s call) low call.caller.few tt

sequential_first : (s : Situation) → s.function ≡ ReadSequential → first_record s ≡ sequential_record (block s)
unfolding first_record
sequential_first s is = ap (first_by (block s)) is

sequential_reading_suits : (s : Situation) → IsCall s → s.function ≡ ReadSequential → Suits (drive_at s) (reading_job s)
sequential_reading_suits s call is = reading_suits s call (omega (arith, sequential_first s is, call.low))

writing_suits : (s : Situation) → IsCall s → first_record s + s.caller.multi ≤ LAST_RECORD + 1 → Suits (drive_at s) (writing_job s (free_count s))
writing_suits s call last =
    built (drive_at s) (writing_job s (free_count s)) _ refl (user_of s call) (omega (arith, last)) (omega (arith, free_within s, call.caller.few))
    (omega (arith, last, free_within s))

testing_suits : (s : Situation) → IsCall s → first_record s + s.caller.multi ≤ LAST_RECORD + 1 → Suits (drive_at s) (testing_job s (free_count s))
testing_suits s call last =
    built (drive_at s) (testing_job s (free_count s)) _ refl (user_of s call) (omega (arith, last)) (omega (arith, free_within s, call.caller.few)) tt

-- files that are opened, deleted, and whose attributes are set
opening_suits : (s : Situation) (stamp : Option (List ℕ)) → IsCall s → Suits (drive_at s) (with_stamp stamp (job_on s kinds.Nothing))
opening_suits s stamp call = built (drive_at s) (with_stamp stamp (job_on s kinds.Nothing)) _ refl (user_of s call) (omega arith) (omega arith) tt

deletion_suits : (s : Situation) → IsCall s → Suits (drive_at s) (job_on s kinds.Delete)
deletion_suits s call = built (drive_at s) (job_on s kinds.Delete) _ refl (user_of s call) (omega arith) (omega arith) tt

attributes_suit : (s : Situation) → IsCall s → s.function ≡ SetAttributes → applies s (subject s) Ambiguous ≡ false → Suits (drive_at s) (job_on s kinds.Attributes)
unfolding applies
attributes_suit s call is clear =
    built (drive_at s) (job_on s kinds.Attributes) _ refl (user_of s call) (omega arith) (omega arith)
    (clear_name (block s).name (name_size s call.size) (ap (has_question (block s)) (sym is) ∙ clear))

-- the file of a job is the one that the call is about
abbrev asked_file : Situation → FileName
asked_file s = record { user = (subject s).user; name = plain (block s).name }

-- a directory entry is free for each that a call needs
enough : (free needed : ℕ) → nat_lt free needed ≡ false → needed ≤ free
enough free needed e = grind (arith, nat_tests)

has_room : (s : Situation) (function : FileFunction) → s.function ≡ function → applies s (subject s) DirectoryFull ≡ false
    → needed_by function (makes_xfcb (data_byte (drive_at s)) (block s)) (lacks_xfcb (drive_at s) (subject s)) (lacks_label (drive_at s)) ≤ free_entries (drive_at s)
unfolding applies is_directory_full
has_room s function is full =
    enough (free_entries (drive_at s)) (needed_by function (makes_xfcb (data_byte (drive_at s)) (block s)) (lacks_xfcb (drive_at s) (subject s)) (lacks_label (drive_at s)))
    (ap (is_directory_full (drive_at s) (subject s) (block s)) (sym is) ∙ full)

-- a making
room_for_two : (drive : Drive) (file asked : FileName) (makes : Bool) → asked ≡ file → makes ≡ true → 1 + one_if (makes && lacks_xfcb drive file) ≤ free_entries drive
    → suc (one_if (not (is_some (get drive.xfcbs asked)))) ≤ free_entries drive
room_for_two drive file asked makes same is room =
    let both : 1 + one_if (lacks_xfcb drive file) ≤ free_entries drive = subst (λ (b : Bool). 1 + one_if (b && lacks_xfcb drive file) ≤ free_entries drive) is room in
    let two : suc (one_if (lacks_xfcb drive file)) ≤ free_entries drive = omega (arith, both) in
    subst (λ (f : FileName). suc (one_if (not (is_some (get drive.xfcbs f)))) ≤ free_entries drive) (sym same) two

room_for_one : (drive : Drive) (file : FileName) (makes : Bool) → 1 + one_if (makes && lacks_xfcb drive file) ≤ free_entries drive → 1 ≤ free_entries drive
room_for_one drive file makes room = omega (arith, room)

no_file : (drive : Drive) (file asked : FileName) → asked ≡ file → is_there drive file ≡ false → has_file drive asked ≡ false
no_file drive file asked same none = subst (λ (f : FileName). has_file drive f ≡ false) (sym same) (absent drive file none)

making_suits_by : (s : Situation) → IsCall s → is_there (drive_at s) (subject s) ≡ false → (makes : Bool)
    → 1 + one_if (makes && lacks_xfcb (drive_at s) (subject s)) ≤ free_entries (drive_at s)
    → Suits (drive_at s) (if makes then with_one (with_protection (made_xfcb s) (job_on s kinds.Make)) else (job_on s kinds.Make))
making_suits_by s call none makes room =
    let drive : Drive = drive_at s in
    let absent_one : has_file drive (asked_file s) ≡ false = no_file drive (subject s) (asked_file s) (file_is s) none in
    either (Suits drive) makes (with_one (with_protection (made_xfcb s) (job_on s kinds.Make))) (job_on s kinds.Make)
    (λ is. built drive (with_one (with_protection (made_xfcb s) (job_on s kinds.Make))) _ refl (user_of s call) (omega arith) (omega arith)
    (record { none = absent_one; room = room_for_two drive (subject s) (asked_file s) makes (file_is s) is room }))
    (λ is. built drive (job_on s kinds.Make) _ refl (user_of s call) (omega arith) (omega arith)
    (record { none = absent_one; room = room_for_one drive (subject s) makes room }))

making_suits : (s : Situation) → IsCall s → s.function ≡ MakeFile → applies s (subject s) FileExists ≡ false → applies s (subject s) DirectoryFull ≡ false
    → Suits (drive_at s) (making_job s)
unfolding applies needed_by subject_by
making_suits s call is none full =
    making_suits_by s call
    (ap (is_there (drive_at s)) (ap (subject_by (drive_at s) (own_file s) (open_key s)) is) ∙ ap (λ f. is_there (drive_at s) (existing_file s f)) (sym is) ∙ none)
    (makes_xfcb (data_byte (drive_at s)) (block s)) (has_room s MakeFile is full)

-- a renaming
renaming_suits : (s : Situation) → IsCall s → s.function ≡ RenameFile → applies s (subject s) Ambiguous ≡ false → applies s (subject s) NotFound ≡ false
    → applies s (subject s) FileExists ≡ false → Suits (drive_at s) (with_new_name (new_name_of (block s)) (job_on s kinds.Rename))
unfolding applies subject_by
renaming_suits s call is clear there none =
    let drive : Drive = drive_at s in
    let own : subject s ≡ own_file s = ap (subject_by (drive_at s) (own_file s) (open_key s)) is in
    let new : FileName = record { user = (subject s).user; name = plain (new_name_of (block s)) } in
    let new_is : new ≡ new_file s = ap (λ (f : FileName). record { user = f.user; name = plain (new_name_of (block s)) }) own in
    let question = or_parts (is_ambiguous (block s).name) (is_ambiguous (new_name_of (block s))) (ap (has_question (block s)) (sym is) ∙ clear) in
    let found : is_there drive (subject s) ≡ true = is_found (is_there drive (subject s)) (ap (is_missing s (subject s)) (sym is) ∙ there) in
    let none_new : is_there drive new ≡ false = ap (is_there drive) new_is ∙ ap (λ f. is_there drive (existing_file s f)) (sym is) ∙ none in
    built drive (with_new_name (new_name_of (block s)) (job_on s kinds.Rename)) _ refl (user_of s call) (omega arith) (omega arith)
    (record {
      name = clear_name (block s).name (name_size s call.size) question.0;
      other = is_other drive (asked_file s) new (ap (is_there drive) (file_is s) ∙ found) none_new;
      none = absent drive new none_new;
    })
  where
    is_found : (b : Bool) → not b ≡ false → b ≡ true
    is_found true e = refl
    is_found false e = absurd (cc)

-- a label and an XFCB
labelling_suits : (s : Situation) → IsCall s → s.function ≡ SetLabel → applies s (subject s) DirectoryFull ≡ false → Suits (drive_at s) (labelling_job s)
unfolding needed_by
labelling_suits s call is full = built (drive_at s) (labelling_job s) _ refl (user_of s call) (omega arith) (omega arith) (has_room s SetLabel is full)

guarding_suits : (s : Situation) → IsCall s → s.function ≡ WriteXfcb → applies s (subject s) DirectoryFull ≡ false → Suits (drive_at s) (guarding_job s)
unfolding needed_by
guarding_suits s call is full =
    let drive : Drive = drive_at s in
    built drive (guarding_job s) _ refl (user_of s call) (omega arith) (omega arith)
    (subst (λ (f : FileName). one_if (not (is_some (get drive.xfcbs f))) ≤ free_entries drive) (sym (file_is s)) (has_room s WriteXfcb is full))

-- by the function
pub some_job : (job given : Job) (b : Bool) → cond b None (Some given) ≡ Some job → given ≡ job
some_job job given true e = absurd (cc)
some_job job given false e = same_Some given job e

suits_by : (s : Situation) (job : Job) → IsCall s → refusal_of s ≡ None → (function : FileFunction) → s.function ≡ function → job_by s function ≡ Some job → Suits (drive_at s) job
unfolding job_by refusals_of
suits_by s job call none OpenFile is e = subst (Suits (drive_at s)) (same_Some _ job e) (opening_suits s _ call)
suits_by s job call none DeleteFile is e = subst (Suits (drive_at s)) (same_Some _ job e) (deletion_suits s call)
suits_by s job call none ReadSequential is e = subst (Suits (drive_at s)) (same_Some _ job e) (sequential_reading_suits s call is)
suits_by s job call none WriteSequential is e =
    let granted = none_applies s (refusals_of WriteSequential) (ap refusals_of is) none in
    subst (Suits (drive_at s)) (some_job job (writing_job s (free_count s)) (free_count s == 0) e) (writing_suits s call (not_beyond s granted.1.1.0))
suits_by s job call none MakeFile is e =
    let granted = none_applies s (refusals_of MakeFile) (ap refusals_of is) none in
    subst (Suits (drive_at s)) (same_Some (making_job s) job e) (making_suits s call is granted.1.1.1.0 granted.1.1.1.1.1.1.0)
suits_by s job call none RenameFile is e =
    let granted = none_applies s (refusals_of RenameFile) (ap refusals_of is) none in
    subst (Suits (drive_at s)) (same_Some _ job e) (renaming_suits s call is granted.1.0 granted.1.1.0 granted.1.1.1.1.1.0)
suits_by s job call none SetAttributes is e =
    let granted = none_applies s (refusals_of SetAttributes) (ap refusals_of is) none in
    subst (Suits (drive_at s)) (same_Some _ job e) (attributes_suit s call is granted.1.0)
suits_by s job call none ReadRandom is e =
    let granted = none_applies s (refusals_of ReadRandom) (ap refusals_of is) none in
    subst (Suits (drive_at s)) (same_Some _ job e) (reading_suits s call (omega (arith, not_beyond s granted.1.1.0)))
suits_by s job call none WriteRandom is e =
    let granted = none_applies s (refusals_of WriteRandom) (ap refusals_of is) none in
    subst (Suits (drive_at s)) (some_job job (writing_job s (free_count s)) (free_count s == 0) e) (writing_suits s call (not_beyond s granted.1.1.0))
suits_by s job call none TestAndWrite is e =
    let granted = none_applies s (refusals_of TestAndWrite) (ap refusals_of is) none in
    subst (Suits (drive_at s)) (some_job job (testing_job s (free_count s)) (free_count s == 0) e) (testing_suits s call (not_beyond s granted.1.1.0))
suits_by s job call none SetLabel is e =
    let granted = none_applies s (refusals_of SetLabel) (ap refusals_of is) none in
    subst (Suits (drive_at s)) (same_Some (labelling_job s) job e) (labelling_suits s call is granted.1.1.1.0)
suits_by s job call none WriteXfcb is e =
    let granted = none_applies s (refusals_of WriteXfcb) (ap refusals_of is) none in
    subst (Suits (drive_at s)) (same_Some (guarding_job s) job e) (guarding_suits s call is granted.1.1.1.1.1.1.0)
suits_by s job call none ResetDisks is e = absurd (cc)
suits_by s job call none CloseFile is e = absurd (cc)
suits_by s job call none SearchFirst is e = absurd (cc)
suits_by s job call none SearchNext is e = absurd (cc)
suits_by s job call none ProtectDisk is e = absurd (cc)
suits_by s job call none FileSize is e = absurd (cc)
suits_by s job call none ResetDrives is e = absurd (cc)
suits_by s job call none AccessDrives is e = absurd (cc)
suits_by s job call none FreeDrives is e = absurd (cc)
suits_by s job call none LockRecord is e = absurd (cc)
suits_by s job call none UnlockRecord is e = absurd (cc)
suits_by s job call none FreeSpace is e = absurd (cc)
suits_by s job call none FlushBuffers is e = absurd (cc)
suits_by s job call none LabelData is e = absurd (cc)
suits_by s job call none ReadXfcb is e = absurd (cc)

granted_suits : (s : Situation) (job : Job) (refusal : Option Refusal) → IsCall s → refusal_of s ≡ refusal → unless_refused refusal (job_by s s.function) ≡ Some job
    → Suits (drive_at s) job
granted_suits s job None call none is = suits_by s job call none s.function refl is
granted_suits s job (Some refusal) call refused is = absurd (cc)

pub job_suits : (s : Situation) (job : Job) → IsCall s → job_of s ≡ Some job → Suits (drive_at s) job
unfolding job_of
job_suits s job call is = granted_suits s job (refusal_of s) call refl is

pub each_suits : (s : Situation) (job : Option Job) → IsCall s → job_of s ≡ job → IfSome job (Suits (drive_at s))
each_suits s None call is = tt
each_suits s (Some job) call is = job_suits s job call is

-- the records of a job begin where a block can stand
pub low_first : (s : Situation) (function : FileFunction) → IsCall s → refusal_of s ≡ None → s.function ≡ function → is_moving function ≡ true → first_record s ≤ LAST_POSITION
unfolding refusals_of
low_first s ReadSequential call none is has = omega (arith, sequential_first s is, call.low)
low_first s WriteSequential call none is has =
    let granted = none_applies s (refusals_of WriteSequential) (ap refusals_of is) none in
    omega (arith, not_beyond s granted.1.1.0)
low_first s ReadRandom call none is has =
    let granted = none_applies s (refusals_of ReadRandom) (ap refusals_of is) none in
    omega (arith, not_beyond s granted.1.1.0)
low_first s WriteRandom call none is has =
    let granted = none_applies s (refusals_of WriteRandom) (ap refusals_of is) none in
    omega (arith, not_beyond s granted.1.1.0)
low_first s TestAndWrite call none is has =
    let granted = none_applies s (refusals_of TestAndWrite) (ap refusals_of is) none in
    omega (arith, not_beyond s granted.1.1.0)
low_first s ResetDisks call none is has = absurd (cc)
low_first s OpenFile call none is has = absurd (cc)
low_first s CloseFile call none is has = absurd (cc)
low_first s SearchFirst call none is has = absurd (cc)
low_first s SearchNext call none is has = absurd (cc)
low_first s DeleteFile call none is has = absurd (cc)
low_first s MakeFile call none is has = absurd (cc)
low_first s RenameFile call none is has = absurd (cc)
low_first s ProtectDisk call none is has = absurd (cc)
low_first s SetAttributes call none is has = absurd (cc)
low_first s FileSize call none is has = absurd (cc)
low_first s ResetDrives call none is has = absurd (cc)
low_first s AccessDrives call none is has = absurd (cc)
low_first s FreeDrives call none is has = absurd (cc)
low_first s LockRecord call none is has = absurd (cc)
low_first s UnlockRecord call none is has = absurd (cc)
low_first s FreeSpace call none is has = absurd (cc)
low_first s FlushBuffers call none is has = absurd (cc)
low_first s SetLabel call none is has = absurd (cc)
low_first s LabelData call none is has = absurd (cc)
low_first s ReadXfcb call none is has = absurd (cc)
low_first s WriteXfcb call none is has = absurd (cc)
