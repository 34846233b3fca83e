-- A file that another process has open in read-only mode is none of those whose directory entries a call changes.
use Rattle.std.proofs.Common.{◌≡◌, ◌≢◌, ◌∙◌, ℕ, ◌==◌, ◌&&◌, ◌||◌, Bool, true, false, cond, List, [], ◌∷◌, Option, Some, None, refl, sym, ap, subst}
use Rattle.std.specs.Prelude.{is_some, option_map}
use Rattle.std.specs.List.{list_any}
use Rattle.std.specs.Option.{option_or}
use Rattle.std.proofs.lemmas.Bool.{true≢false, false≢true, or_parts, not-false, false_from_ne_true}
use Rattle.std.proofs.lemmas.Option.{same_Some}
use Rattle.mpm_base.proofs.Choices.{either}
use Rattle.mpm_dirent.specs.Names.{plain}
use Rattle.mpm_mount.specs.Drives.{FileName}
use Rattle.mpm_mount.specs.Files.{is_same_file, entries_named, is_fitting, has_file}
use Rattle.mpm_mount.specs.Looking.{data_byte}
use Rattle.mpm_mount.proofs.Names.{one_file, same_back}
use Rattle.mpm_opens.specs.declared.kinds.FileKey.{FileKey}
use Rattle.mpm_opens.specs.declared.kinds.Item.{Item}
use Rattle.mpm_opens.specs.declared.kinds.Mode.{Mode}
use Rattle.mpm_opens.specs.declared.kinds.Mode.TheVariants.{ReadOnly}
use Rattle.mpm_opens.specs.Items.{place_at, have_others}
use Rattle.mpm_opens.specs.Opens.{OpenFiles, item_of, IsItemOf, AreItems}
use Rattle.mpm_opens.proofs.OpeningLaws.{live_stands}
use Rattle.mpm_opens.proofs.FindingLaws.{is_named_item}
use Rattle.mpm_opens.proofs.OthersLaws.{others_have, both_read}
use Rattle.mpm_fcb.specs.Names.{new_name_of}
use Rattle.mpm_file_functions.specs.declared.functions.FileFunction.{FileFunction}
use Rattle.mpm_file_functions.specs.declared.functions.FileFunction.TheVariants.{ResetDisks, OpenFile, CloseFile, SearchFirst, SearchNext, DeleteFile, ReadSequential, WriteSequential, MakeFile, RenameFile, ProtectDisk, SetAttributes, ReadRandom, WriteRandom, FileSize, ResetDrives, AccessDrives, FreeDrives, TestAndWrite, LockRecord, UnlockRecord, FreeSpace, FlushBuffers, SetLabel, LabelData, ReadXfcb, WriteXfcb}
use Rattle.mpm_file_functions.specs.declared.refusals.Refusal.{Refusal}
use Rattle.mpm_file_functions.specs.declared.refusals.Refusal.TheVariants.{NotMounted, NotOpen, BeyondFile, ProtectedDrive, ReadOnlyFile, WrongPassword, InUse, FileExists}
use Rattle.mpm_file_functions.specs.Refusals.{refusals_of, refusals_of_each}
use Rattle.mpm_jobs.specs.declared.jobs.Job.{Job}
use Rattle.mpm_jobs.specs.declared.jobs.JobKind.TheVariants as kinds
use Rattle.mpm_jobs.specs.Jobs.{with_one, with_new_name}
use Rattle.mpm_files.specs.Containment.{names, changes_entries}
use Rattle.mpm_refusals.specs.Filing.{Situation, block}
use Rattle.mpm_refusals.specs.Subjects.{drive_number, drive_at, is_there, has_attribute, own_file, open_key, open_mode, mode_if_open, open_file, key_of, file_of, subject_by, subject, deleted_in}
use Rattle.mpm_refusals.specs.Refusals.{applies, is_open_read_only, is_mode, existing_file, opening_refusal, is_used, makes_xfcb, file_refusal, first_refused, refuses_deleted, deletion_refusal, refusal_of}
use Rattle.mpm_refusals.specs.Asking.{asked_of, file_asked, where_deleted}
use Rattle.mpm_refusals.proofs.AskedLaws.{file_is, refusal_parts}
use Rattle.mpm_refusals.proofs.Deleted.{deleter}
use Rattle.mpm_file_entries.specs.Protections.{with_protection}
use Rattle.mpm_bdos.specs.Jobs.{job_on, free_count, writing_job, testing_job, made_xfcb, making_job, job_by}
use Rattle.mpm_bdos.proofs.Granted.{none_applies}
use Rattle.mpm_bdos.proofs.Absent.{is_other}
use Rattle.mpm_bdos.proofs.DeletedFiles.{deleted_among}
use Rattle.mpm_bdos.proofs.AnsweredLaws.{IsNamed, item_named, key_is_named, mode_is, subject_where}
use Rattle.mpm_bdos.proofs.Suited.{some_job}

-- a file on the drive of a call that another process has open in read-only mode, by the number of its open file
pub record IsHeld (s : Situation) (key : FileKey) (number : ℕ) (item : Item) : Type 0 where
  pub placed : place_at s.filing.opens.items number ≡ Some item
  pub other : item.process ≢ s.caller.process
  pub file : item.file ≡ key
  pub mode : item.mode ≡ ReadOnly
  pub drive : key.drive ≡ drive_number s
  pub there : is_there (drive_at s) (file_of key) ≡ true

its_key : (s : Situation) (key : FileKey) (file : FileName) → key.drive ≡ drive_number s → is_same_file (file_of key) file ≡ true → key_of (drive_number s) file ≡ key
its_key s key file drive same =
    ap (key_of (drive_number s)) (sym (one_file (file_of key) file same)) ∙ ap (λ d. record { drive = d; user = key.user; name = key.name }) (sym drive)

-- it is none that no other process has open, and none that isn't there
used_apart : (s : Situation) (key : FileKey) (number : ℕ) (item : Item) (file : FileName) → IsHeld s key number item
    → have_others s.filing.opens.items s.caller.process (key_of (drive_number s) file) ≡ false → is_same_file (file_of key) file ≡ false
used_apart s key number item file held none =
    false_from_ne_true (is_same_file (file_of key) file)
    (λ same. true≢false (sym (others_have s.filing.opens.items s.caller.process (key_of (drive_number s) file) number item held.placed held.other
    (held.file ∙ sym (its_key s key file held.drive same))) ∙ none))

there_apart : (s : Situation) (key : FileKey) (number : ℕ) (item : Item) (file : FileName) → IsHeld s key number item → is_there (drive_at s) file ≡ false
    → is_same_file (file_of key) file ≡ false
there_apart s key number item file held none = same_back (file_of key) file ∙ is_other (drive_at s) (file_of key) file held.there none

-- a call that writes records of its open file
record IsWriting (s : Situation) : Type 0 where
  row : refusals_of s.function ≡ NotMounted ∷ NotOpen ∷ BeyondFile ∷ ProtectedDrive ∷ ReadOnlyFile ∷ []
  its : subject s ≡ open_file (own_file s) (open_key s)
  asks : (mode : Option Mode) → is_open_read_only mode s.function ≡ is_mode ReadOnly mode

writing_by : (s : Situation) (function : FileFunction) → s.function ≡ function → refusals_of function ≡ NotMounted ∷ NotOpen ∷ BeyondFile ∷ ProtectedDrive ∷ ReadOnlyFile ∷ []
    → subject_by (drive_at s) (own_file s) (open_key s) function ≡ open_file (own_file s) (open_key s) → ((mode : Option Mode) → is_open_read_only mode function ≡ is_mode ReadOnly mode)
    → IsWriting s
writing_by s function is row its asks = record {
  row = ap refusals_of is ∙ row;
  its = ap (subject_by (drive_at s) (own_file s) (open_key s)) is ∙ its;
  asks = λ mode. ap (is_open_read_only mode) is ∙ asks mode;
}

-- what its open file is, if it is that file: in read-only mode too
reads_too : (s : Situation) (key : FileKey) (number : ℕ) (item : Item) → IsHeld s key number item → AreItems s.filing.opens.items → (i : IsNamed s)
    → subject s ≡ open_file (own_file s) (open_key s) → is_same_file (file_of key) (subject s) ≡ true → mode_if_open s ≡ Some ReadOnly
reads_too s key number item held sound i its same =
    let opens : OpenFiles = s.filing.opens in
    let mine : Item = item_of opens i.n in
    let own : IsItemOf opens s.caller.process i.key i.n = is_named_item opens s.caller.process i.n (drive_number s) (plain (block s).name) i.key i.key_is in
    let one : i.key ≡ key = subject_where s i its ∙ its_key s key (subject s) held.drive same in
    let read : mine.mode ≡ ReadOnly =
    both_read opens.items number i.n mine item sound held.placed (live_stands (place_at opens.items i.n) own.live) (λ e. held.other (sym e ∙ own.its_process))
    (own.its_file ∙ one ∙ sym held.file) held.mode in
    ap (option_map (λ (k : FileKey). open_mode s)) (key_is_named s i) ∙ ap Some (mode_is s i ∙ read)

writing_apart : (s : Situation) (key : FileKey) (number : ℕ) (item : Item) → IsHeld s key number item → AreItems s.filing.opens.items → refusal_of s ≡ None → IsWriting s
    → is_same_file (file_of key) (subject s) ≡ false
unfolding applies
writing_apart s key number item held sound none writes =
    let granted = none_applies s (NotMounted ∷ NotOpen ∷ BeyondFile ∷ ProtectedDrive ∷ ReadOnlyFile ∷ []) writes.row none in
    let i : IsNamed s = item_named s (not-false (is_some (open_key s)) granted.1.0) in
    let asked = or_parts (has_attribute (drive_at s) (subject s) 8) (is_open_read_only (mode_if_open s) s.function) granted.1.1.1.1.0 in
    false_from_ne_true (is_same_file (file_of key) (subject s))
    (λ same. true≢false (sym (writes.asks (mode_if_open s) ∙ ap (is_mode ReadOnly) (reads_too s key number item held sound i writes.its same)) ∙ asked.1))

-- a deletion names none that another process has open
or_none : (one other : Option Refusal) → option_or one other ≡ None → (one ≡ None) × (other ≡ None)
or_none None other e = (refl, e)
or_none (Some refusal) other e = absurd (cc)

refused_step : (refusal : FileName → Option Refusal) (file one : FileName) (more b : Bool) → is_same_file file one ≡ b → refusal one ≡ None → (more ≡ true → refusal file ≡ None)
    → (b || more) ≡ true → refusal file ≡ None
refused_step refusal file one more true same none rest among = ap refusal (one_file file one same) ∙ none
refused_step refusal file one more false other none rest among = rest among

none_refused : (refusal : FileName → Option Refusal) (file : FileName) (files : List FileName) → first_refused refusal files ≡ None → list_any (is_same_file file) files ≡ true
    → refusal file ≡ None
none_refused refusal file [] none among = absurd (false≢true among)
none_refused refusal file (one ∷ files) none among =
    let parts = or_none (refusal one) (first_refused refusal files) none in
    refused_step refusal file one (list_any (is_same_file file) files) (is_same_file file one) refl parts.0 (none_refused refusal file files parts.1) among

third_none : (a b c : Bool) → cond a (Some ReadOnlyFile) (cond b (Some WrongPassword) (cond c (Some InUse) None)) ≡ None → c ≡ false
third_none true b c e = absurd (cc)
third_none false true c e = absurd (cc)
third_none false false true e = absurd (cc)
third_none false false false e = refl

none_deleted : (s : Situation) → refusal_of s ≡ None → s.function ≡ DeleteFile → deletion_refusal (drive_at s) s.filing.opens (deleter s) (block s).name ≡ None
none_deleted s none is =
    let refused : Option Refusal = deletion_refusal (drive_at s) s.filing.opens (deleter s) (block s).name in
    ap (where_deleted refused) (sym is) ∙ (or_none _ (where_deleted refused s.function) (sym (refusal_parts s) ∙ none)).1

unused_deleted : (s : Situation) (file : FileName) → refusal_of s ≡ None → s.function ≡ DeleteFile
    → list_any (is_same_file file) (deleted_in (drive_at s) s.caller.user (block s).name) ≡ true
    → have_others s.filing.opens.items s.caller.process (key_of (drive_number s) file) ≡ false
unfolding deletion_refusal file_refusal refusals_of_each
unused_deleted s file none is among =
    third_none (refuses_deleted (drive_at s) s.filing.opens (deleter s) file ReadOnlyFile) (refuses_deleted (drive_at s) s.filing.opens (deleter s) file WrongPassword)
    (refuses_deleted (drive_at s) s.filing.opens (deleter s) file InUse)
    (none_refused (file_refusal (drive_at s) s.filing.opens (deleter s)) file (deleted_in (drive_at s) s.caller.user (block s).name) (none_deleted s none is) among)

deleted_apart : (s : Situation) (key : FileKey) (number : ℕ) (item : Item) → IsHeld s key number item → refusal_of s ≡ None → s.function ≡ DeleteFile
    → (is_fitting s.caller.user (block s).name (file_of key) && has_file (drive_at s) (file_of key)) ≡ false
unfolding has_file
deleted_apart s key number item held none is =
    false_from_ne_true (is_fitting s.caller.user (block s).name (file_of key) && has_file (drive_at s) (file_of key))
    (λ named. true≢false (sym (others_have s.filing.opens.items s.caller.process (key_of (drive_number s) (file_of key)) number item held.placed held.other
    (held.file ∙ ap (λ d. record { drive = d; user = key.user; name = key.name }) held.drive))
    ∙ unused_deleted s (file_of key) none is (deleted_among (file_of key) s.caller.user (block s).name (entries_named (drive_at s)) ∙ named)))

-- the file of a job is the one that the call is about
own_apart : (s : Situation) (file : FileName) → is_same_file file (subject s) ≡ false → is_same_file file (file_asked (asked_of s)) ≡ false
own_apart s file apart = ap (is_same_file file) (file_is s) ∙ apart

-- where another process may not have it open
free_apart : (s : Situation) (key : FileKey) (number : ℕ) (item : Item) (function : FileFunction) → IsHeld s key number item → s.function ≡ function
    → is_used (opening_refusal s (subject s)) (have_others s.filing.opens.items s.caller.process (key_of (drive_number s) (subject s))) function
    ≡ have_others s.filing.opens.items s.caller.process (key_of (drive_number s) (subject s))
    → applies s (subject s) InUse ≡ false → is_same_file (file_of key) (file_asked (asked_of s)) ≡ false
unfolding applies
free_apart s key number item function held is asks unused =
    let others : Bool = have_others s.filing.opens.items s.caller.process (key_of (drive_number s) (subject s)) in
    own_apart s (file_of key)
    (used_apart s key number item (subject s) held (sym asks ∙ ap (is_used (opening_refusal s (subject s)) others) (sym is) ∙ unused))

-- where the file may not be there
new_apart : (s : Situation) (key : FileKey) (number : ℕ) (item : Item) (function : FileFunction) → IsHeld s key number item → s.function ≡ function
    → applies s (subject s) FileExists ≡ false → is_same_file (file_of key) (existing_file s function) ≡ false
unfolding applies
new_apart s key number item function held is none =
    there_apart s key number item (existing_file s function) held (ap (λ f. is_there (drive_at s) (existing_file s f)) (sym is) ∙ none)

own_subject : (s : Situation) (function : FileFunction) → s.function ≡ function → subject_by (drive_at s) (own_file s) (open_key s) function ≡ own_file s → subject s ≡ own_file s
own_subject s function is own = ap (subject_by (drive_at s) (own_file s) (open_key s)) is ∙ own

neither : (a b : Bool) → a ≡ false → b ≡ false → (a || b) ≡ false
neither a b first second = ap (λ x. x || b) first ∙ second

-- a job of the call
abbrev LeavesIt : Situation → FileKey → Job → Type 0
LeavesIt s key job = (changes_entries job.kind && names (drive_at s) job (file_of key)) ≡ false

renaming_apart : (s : Situation) (key : FileKey) (number : ℕ) (item : Item) → IsHeld s key number item → refusal_of s ≡ None → s.function ≡ RenameFile
    → LeavesIt s key (with_new_name (new_name_of (block s)) (job_on s kinds.Rename))
unfolding names refusals_of subject_by
renaming_apart s key number item held none is =
    let granted = none_applies s (refusals_of RenameFile) (ap refusals_of is) none in
    let new : FileName = record { user = (subject s).user; name = plain (new_name_of (block s)) } in
    let new_is : new ≡ existing_file s RenameFile = ap (λ (f : FileName). record { user = f.user; name = plain (new_name_of (block s)) }) (own_subject s RenameFile is refl) in
    neither (is_same_file (file_of key) (file_asked (asked_of s))) (is_same_file (file_of key) new)
    (free_apart s key number item RenameFile held is refl granted.1.1.1.1.1.1.1.0)
    (ap (is_same_file (file_of key)) new_is ∙ new_apart s key number item RenameFile held is granted.1.1.1.1.1.0)

making_apart : (s : Situation) (key : FileKey) (number : ℕ) (item : Item) → IsHeld s key number item → refusal_of s ≡ None → s.function ≡ MakeFile
    → LeavesIt s key (making_job s)
unfolding names refusals_of subject_by
making_apart s key number item held none is =
    let granted = none_applies s (refusals_of MakeFile) (ap refusals_of is) none in
    let apart : is_same_file (file_of key) (file_asked (asked_of s)) ≡ false =
    own_apart s (file_of key) (ap (is_same_file (file_of key)) (own_subject s MakeFile is refl) ∙ new_apart s key number item MakeFile held is granted.1.1.1.0) in
    either (LeavesIt s key) (makes_xfcb (data_byte (drive_at s)) (block s)) (with_one (with_protection (made_xfcb s) (job_on s kinds.Make))) (job_on s kinds.Make)
    (λ _. apart) (λ _. apart)

deleting_apart : (s : Situation) (key : FileKey) (number : ℕ) (item : Item) → IsHeld s key number item → refusal_of s ≡ None → s.function ≡ DeleteFile
    → LeavesIt s key (job_on s kinds.Delete)
unfolding names subject_by
deleting_apart s key number item held none is =
    ap (λ user. is_fitting user (block s).name (file_of key) && has_file (drive_at s) (file_of key)) (ap (λ (f : FileName). f.user) (own_subject s DeleteFile is refl))
    ∙ deleted_apart s key number item held none is

setting_apart : (s : Situation) (key : FileKey) (number : ℕ) (item : Item) → IsHeld s key number item → refusal_of s ≡ None → s.function ≡ SetAttributes
    → LeavesIt s key (job_on s kinds.Attributes)
unfolding names refusals_of
setting_apart s key number item held none is =
    let granted = none_applies s (refusals_of SetAttributes) (ap refusals_of is) none in
    free_apart s key number item SetAttributes held is refl granted.1.1.1.1.1.0

pub job_leaves : (s : Situation) (key : FileKey) (number : ℕ) (item : Item) → IsHeld s key number item → AreItems s.filing.opens.items → refusal_of s ≡ None
    → (function : FileFunction) → s.function ≡ function → (job : Job) → job_by s function ≡ Some job → LeavesIt s key job
unfolding job_by names refusals_of subject_by
job_leaves s key number item held sound none OpenFile is job e = subst (LeavesIt s key) (same_Some _ job e) refl
job_leaves s key number item held sound none DeleteFile is job e = subst (LeavesIt s key) (same_Some _ job e) (deleting_apart s key number item held none is)
job_leaves s key number item held sound none ReadSequential is job e = subst (LeavesIt s key) (same_Some _ job e) refl
job_leaves s key number item held sound none WriteSequential is job e =
    subst (LeavesIt s key) (some_job job (writing_job s (free_count s)) (free_count s == 0) e)
    (own_apart s (file_of key) (writing_apart s key number item held sound none (writing_by s WriteSequential is refl refl (λ mode. refl))))
job_leaves s key number item held sound none MakeFile is job e = subst (LeavesIt s key) (same_Some (making_job s) job e) (making_apart s key number item held none is)
job_leaves s key number item held sound none RenameFile is job e = subst (LeavesIt s key) (same_Some _ job e) (renaming_apart s key number item held none is)
job_leaves s key number item held sound none SetAttributes is job e = subst (LeavesIt s key) (same_Some _ job e) (setting_apart s key number item held none is)
job_leaves s key number item held sound none ReadRandom is job e = subst (LeavesIt s key) (same_Some _ job e) refl
job_leaves s key number item held sound none WriteRandom is job e =
    subst (LeavesIt s key) (some_job job (writing_job s (free_count s)) (free_count s == 0) e)
    (own_apart s (file_of key) (writing_apart s key number item held sound none (writing_by s WriteRandom is refl refl (λ mode. refl))))
job_leaves s key number item held sound none TestAndWrite is job e =
    subst (LeavesIt s key) (some_job job (testing_job s (free_count s)) (free_count s == 0) e)
    (own_apart s (file_of key) (writing_apart s key number item held sound none (writing_by s TestAndWrite is refl refl (λ mode. refl))))
job_leaves s key number item held sound none SetLabel is job e = subst (LeavesIt s key) (same_Some _ job e) refl
job_leaves s key number item held sound none WriteXfcb is job e = subst (LeavesIt s key) (same_Some _ job e) refl
job_leaves s key number item held sound none ResetDisks is job e = absurd (cc)
job_leaves s key number item held sound none CloseFile is job e = absurd (cc)
job_leaves s key number item held sound none SearchFirst is job e = absurd (cc)
job_leaves s key number item held sound none SearchNext is job e = absurd (cc)
job_leaves s key number item held sound none ProtectDisk is job e = absurd (cc)
job_leaves s key number item held sound none FileSize is job e = absurd (cc)
job_leaves s key number item held sound none ResetDrives is job e = absurd (cc)
job_leaves s key number item held sound none AccessDrives is job e = absurd (cc)
job_leaves s key number item held sound none FreeDrives is job e = absurd (cc)
job_leaves s key number item held sound none LockRecord is job e = absurd (cc)
job_leaves s key number item held sound none UnlockRecord is job e = absurd (cc)
job_leaves s key number item held sound none FreeSpace is job e = absurd (cc)
job_leaves s key number item held sound none FlushBuffers is job e = absurd (cc)
job_leaves s key number item held sound none LabelData is job e = absurd (cc)
job_leaves s key number item held sound none ReadXfcb is job e = absurd (cc)
