-- What a call leaves of open files, and what its reply goes by, is what its turns have come to.
use Rattle.std.proofs.Common.{◌≡◌, ◌∙◌, ℕ, ◌==◌, ◌&&◌, Bool, true, false, cond, List, Option, Some, None, refl, sym, ap, subst}
use Rattle.std.specs.Prelude.{bytes_eq, is_some, option_and_then, option_map, unwrap_or}
use Rattle.std.proofs.lemmas.Bool.{true≢false, false≢true, eqb-true, not-false}
use Rattle.std.proofs.lemmas.Option.{same_Some}
use Rattle.mpm_mount.specs.Drives.{Drive}
use Rattle.mpm_opens.specs.declared.kinds.FileKey.{FileKey}
use Rattle.mpm_opens.specs.declared.kinds.Item.{Item}
use Rattle.mpm_opens.specs.declared.kinds.Mode.{Mode}
use Rattle.mpm_opens.specs.declared.kinds.Mode.TheVariants.{Locked, Unlocked, ReadOnly}
use Rattle.mpm_opens.specs.Kinds.{is_same_mode, is_file}
use Rattle.mpm_opens.specs.Items.{place_at, is_named, file_where, file_named, add_answer}
use Rattle.mpm_opens.specs.Opens.{OpenFiles, item_of, AreOpen, added, given_back, closed, written}
use Rattle.mpm_files.specs.declared.work.Work.{Work}
use Rattle.mpm_fcb.specs.Names.{has_f5}
use Rattle.mpm_fcb.specs.Positions.{random_record}
use Rattle.mpm_file_functions.specs.declared.functions.FileFunction.{FileFunction}
use Rattle.mpm_file_functions.specs.declared.functions.FileFunction.TheVariants.{ResetDisks, OpenFile, CloseFile, SearchFirst, SearchNext, DeleteFile, ReadSequential, WriteSequential, MakeFile, RenameFile, ProtectDisk, SetAttributes, ReadRandom, WriteRandom, FileSize, ResetDrives, AccessDrives, FreeDrives, TestAndWrite, LockRecord, UnlockRecord, FreeSpace, FlushBuffers, SetLabel, LabelData, ReadXfcb, WriteXfcb}
use Rattle.mpm_refusals.specs.Filing.{Situation, block}
use Rattle.mpm_refusals.specs.Subjects.{drive_number, drive_at, own_file, key_of, file_of, item_number, key_named, open_key, open_mode, open_file, opened_in, subject_by, subject, subject_key, first_by, first_record, given_password, mode_in, mode_by}
use Rattle.mpm_file_functions.specs.Refusals.{refusals_of}
use Rattle.mpm_refusals.specs.Refusals.{applies, refusal_of}
use Rattle.mpm_bdos.specs.Records.{Locking, locking}
use Rattle.mpm_locks.specs.Locks.{unlocking}
use Rattle.mpm_bdos.specs.Jobs.{job_by, call_turns, turned}
use Rattle.mpm_bdos.specs.Changes.{is_among, is_deleted, deleted_by, locking_of, opens_by}
use Rattle.mpm_bdos.specs.Replies.{end_after, opened_as, granted_of}
use Rattle.mpm_bdos.specs.Replies as replies
use Rattle.mpm_refusals.specs.Asking.{opened_as as item_as, open_item, asked_of, key_asked, mode_needed}
use Rattle.mpm_bdos.specs.Ending.{ended}
use Rattle.mpm_bdos.specs.Replying.{is_on_drives}
use Rattle.mpm_bdos.specs.Leaving.{nothing_locked, locked_by, ended_of, locked_where, unlocked_where, left_by, locked_for, ended_for, opened_by, opened_for, granted_by}
use Rattle.mpm_bdos.proofs.DeletedFiles.{deleted_given}
use Rattle.mpm_bdos.proofs.Granted.{none_applies}
use Rattle.mpm_bdos.proofs.EndingLaws.{own_job}
use Rattle.mpm_bdos.proofs.NamedFiles.{subject_name}
use Rattle.mpm_bdos.proofs.OpenedLaws.{Alike, still_asked}
use Rattle.mpm_bdos.proofs.StillLaws.{same_drive, opening_alike}

-- the file that it is about
key_same : (s : Situation) → key_asked (asked_of s) ≡ subject_key s
key_same s = ap (λ name. record { drive = drive_number s; user = (subject s).user; name = name }) (sym (subject_name s))

-- the mode in which it is opened or made
opened_subject : (s : Situation) → s.function ≡ OpenFile → subject s ≡ opened_in (drive_at s) (own_file s)
unfolding subject_by
opened_subject s f = ap (subject_by (drive_at s) (own_file s) (open_key s)) f

pub mode_opened : (s : Situation) → refusal_of s ≡ None → s.function ≡ OpenFile → mode_needed (turned s (call_turns s)).drive (asked_of s) ≡ mode_by s OpenFile
unfolding mode_by
mode_opened s none f =
    let after : Drive = (turned s (call_turns s)).drive in
    ap (mode_in after (own_file s) (block s) (given_password s) s.caller.password) f
    ∙ sym (still_asked (own_file s) (drive_at s) after (block s) (given_password s) s.caller.password
    (subst (λ file. Alike file (drive_at s) after) (opened_subject s f) (opening_alike s none f)))

pub mode_made : (s : Situation) → s.function ≡ MakeFile → mode_needed (turned s (call_turns s)).drive (asked_of s) ≡ mode_by s MakeFile
unfolding mode_by
mode_made s f = ap (mode_in (turned s (call_turns s)).drive (own_file s) (block s) (given_password s) s.caller.password) f

-- the open file that it names
pub record IsNamed (s : Situation) : Type 0 where
  pub n : ℕ
  pub key : FileKey
  pub number_is : item_number s ≡ Some n
  pub key_is : key_named s n ≡ Some key

named_by : (s : Situation) (number : Option ℕ) → item_number s ≡ number → is_some (option_and_then (key_named s) number) ≡ true → IsNamed s
named_by s None is there = absurd (false≢true there)
named_by s (Some n) is there = by_key (key_named s n) refl there
  where
    by_key : (found : Option FileKey) → key_named s n ≡ found → is_some found ≡ true → IsNamed s
    by_key None found there = absurd (false≢true there)
    by_key (Some key) found there = record { n = n; key = key; number_is = is; key_is = found }

pub item_named : (s : Situation) → is_some (open_key s) ≡ true → IsNamed s
unfolding open_key
item_named s there = named_by s (item_number s) refl there

drive_where : (mine here named : Bool) (file key : FileKey) (drive : ℕ) → (file.drive == drive) ≡ here → cond (mine && (here && named)) (Some file) None ≡ Some key → key.drive ≡ drive
drive_where true true true file key drive is e = ap (λ (k : FileKey). k.drive) (sym (same_Some file key e)) ∙ eqb-true file.drive drive is
drive_where true true false file key drive is e = absurd (cc)
drive_where true false named file key drive is e = absurd (cc)
drive_where false here named file key drive is e = absurd (cc)

drive_of_place : (p drive : ℕ) (name : List ℕ) (key : FileKey) (place : Option Item) → file_where (is_named p drive name) place ≡ Some key → key.drive ≡ drive
drive_of_place p drive name key None is = absurd (cc)
drive_of_place p drive name key (Some item) is = drive_where (item.process == p) (item.file.drive == drive) (bytes_eq item.file.name name) item.file key drive refl is

named_drive : (s : Situation) (n : ℕ) (key : FileKey) → key_named s n ≡ Some key → key.drive ≡ drive_number s
unfolding file_named
named_drive s n key is = drive_of_place s.caller.process (drive_number s) _ key (place_at s.filing.opens.items n) is

item_is : (s : Situation) (i : IsNamed s) → open_item s ≡ Some (item_as s.filing.opens i.n i.key)
item_is s i =
    ap (option_and_then (λ n. option_map (item_as s.filing.opens n) (key_named s n))) i.number_is ∙ ap (option_map (item_as s.filing.opens i.n)) i.key_is

pub key_is_named : (s : Situation) (i : IsNamed s) → open_key s ≡ Some i.key
unfolding open_key
key_is_named s i = ap (option_and_then (key_named s)) i.number_is ∙ i.key_is

pub mode_is : (s : Situation) (i : IsNamed s) → open_mode s ≡ (item_of s.filing.opens i.n).mode
mode_is s i = ap (λ number. (item_of s.filing.opens (unwrap_or number 0)).mode) i.number_is

pub subject_where : (s : Situation) (i : IsNamed s) → subject s ≡ open_file (own_file s) (open_key s) → i.key ≡ subject_key s
subject_where s i is =
    let own : subject s ≡ file_of i.key = is ∙ ap (open_file (own_file s)) (key_is_named s i) in
    ap (λ drive. record { drive = drive; user = i.key.user; name = i.key.name }) (named_drive s i.n i.key i.key_is)
    ∙ sym (ap (key_of (drive_number s)) own)

pub lock_subject : (s : Situation) → s.function ≡ LockRecord → subject s ≡ open_file (own_file s) (open_key s)
unfolding subject_by
lock_subject s f = ap (subject_by (drive_at s) (own_file s) (open_key s)) f

unlock_subject : (s : Situation) → s.function ≡ UnlockRecord → subject s ≡ open_file (own_file s) (open_key s)
unfolding subject_by
unlock_subject s f = ap (subject_by (drive_at s) (own_file s) (open_key s)) f

pub lock_named : (s : Situation) → refusal_of s ≡ None → s.function ≡ LockRecord → IsNamed s
unfolding refusals_of applies
lock_named s none f = item_named s (not-false (is_some (open_key s)) (none_applies s (refusals_of LockRecord) (ap refusals_of f) none).1.0)

unlock_named : (s : Situation) → refusal_of s ≡ None → s.function ≡ UnlockRecord → IsNamed s
unfolding refusals_of applies
unlock_named s none f = item_named s (not-false (is_some (open_key s)) (none_applies s (refusals_of UnlockRecord) (ap refusals_of f) none).1.0)

by_mode : (drive : Drive) (opens : OpenFiles) (p : ℕ) (file : FileKey) (first count : ℕ) (mode : Mode)
    → locked_by drive opens p file first count mode ≡ cond (is_same_mode mode Unlocked) (locking drive opens p file first count) (nothing_locked opens)
by_mode drive opens p file first count Locked = refl
by_mode drive opens p file first count Unlocked = refl
by_mode drive opens p file first count ReadOnly = refl

lock_drive : (s : Situation) → refusal_of s ≡ None → s.function ≡ LockRecord → (turned s (call_turns s)).drive ≡ drive_at s
unfolding job_by
lock_drive s none f = same_drive s (own_job s none ∙ ap (job_by s) f)

pub locked_same : (s : Situation) → refusal_of s ≡ None → s.function ≡ LockRecord
    → locked_where (turned s (call_turns s)).drive s.filing.opens s.caller.process (random_record (block s)) s.caller.multi (open_item s) ≡ locking_of s
unfolding locking_of first_record
locked_same s none f =
    let i = lock_named s none f in
    let opens = s.filing.opens in
    let first : random_record (block s) ≡ first_by (block s) s.function = sym (ap (first_by (block s)) f) in
    ap (locked_where (turned s (call_turns s)).drive opens s.caller.process (random_record (block s)) s.caller.multi) (item_is s i)
    ∙ by_mode (turned s (call_turns s)).drive opens s.caller.process i.key (random_record (block s)) s.caller.multi (item_of opens i.n).mode
    ∙ ap (λ mode. cond (is_same_mode mode Unlocked) (locking (turned s (call_turns s)).drive opens s.caller.process i.key (random_record (block s)) s.caller.multi) (nothing_locked opens)) (sym (mode_is s i))
    ∙ ap (λ l. cond (is_same_mode (open_mode s) Unlocked) l (nothing_locked opens))
    (ap (λ drive. locking drive opens s.caller.process i.key (random_record (block s)) s.caller.multi) (lock_drive s none f)
    ∙ ap (λ key. locking (drive_at s) opens s.caller.process key (random_record (block s)) s.caller.multi) (subject_where s i (lock_subject s f))
    ∙ ap (λ n. locking (drive_at s) opens s.caller.process (subject_key s) n s.caller.multi) first)

unlocked_same : (s : Situation) → refusal_of s ≡ None → s.function ≡ UnlockRecord
    → unlocked_where s.filing.opens s.caller.process (random_record (block s)) s.caller.multi (open_item s)
    ≡ unlocking s.filing.opens s.caller.process (subject_key s) (first_record s) s.caller.multi
unfolding first_record
unlocked_same s none f =
    let i = unlock_named s none f in
    let opens = s.filing.opens in
    ap (unlocked_where opens s.caller.process (random_record (block s)) s.caller.multi) (item_is s i)
    ∙ ap (λ key. unlocking opens s.caller.process key (random_record (block s)) s.caller.multi) (subject_where s i (unlock_subject s f))
    ∙ ap (λ n. unlocking opens s.caller.process (subject_key s) n s.caller.multi) (sym (ap (first_by (block s)) f))

-- open files
abbrev pub opens_left : Situation → Drive → ℕ → List (Option FileKey) → FileFunction → OpenFiles
opens_left s after moved deleted f =
    opened_by after (locked_for after (left_by s.filing.opens (asked_of s) (key_asked (asked_of s)) moved deleted f) (asked_of s) f) (asked_of s) f

written_same : (s : Situation) (moved : ℕ) → moved ≡ (turned s (call_turns s)).moved
    → cond (moved == 0) s.filing.opens (written s.filing.opens s.caller.process (key_asked (asked_of s)))
    ≡ cond ((turned s (call_turns s)).moved == 0) s.filing.opens (written s.filing.opens s.caller.process (subject_key s))
written_same s moved is =
    ap (λ n. cond (n == 0) s.filing.opens (written s.filing.opens s.caller.process (key_asked (asked_of s)))) is
    ∙ ap (λ key. cond ((turned s (call_turns s)).moved == 0) s.filing.opens (written s.filing.opens s.caller.process key)) (key_same s)

opens_by_function : (s : Situation) (moved : ℕ) (deleted : List (Option FileKey)) (f : FileFunction) → refusal_of s ≡ None → s.function ≡ f → AreOpen s.filing.opens
    → moved ≡ (turned s (call_turns s)).moved → deleted ≡ deleted_by s f → is_on_drives f ≡ false
    → opens_left s (turned s (call_turns s)).drive moved deleted f ≡ opens_by s (turned s (call_turns s)) f
unfolding left_by locked_for opened_by opens_by deleted_by
opens_by_function s moved deleted ResetDisks none is sound moves goes other = absurd (true≢false other)
opens_by_function s moved deleted OpenFile none is sound moves goes other =
    ap (λ key. added s.filing.opens s.caller.process key (mode_needed (turned s (call_turns s)).drive (asked_of s))) (key_same s)
    ∙ ap (added s.filing.opens s.caller.process (subject_key s)) (mode_opened s none is)
opens_by_function s moved deleted CloseFile none is sound moves goes other =
    ap (λ key. cond (has_f5 (block s)) s.filing.opens (closed s.filing.opens s.caller.process key)) (key_same s)
opens_by_function s moved deleted SearchFirst none is sound moves goes other = refl
opens_by_function s moved deleted SearchNext none is sound moves goes other = refl
opens_by_function s moved deleted DeleteFile none is sound moves goes other =
    ap (λ files. given_back s.filing.opens s.caller.process (is_among files)) goes ∙ deleted_given s.filing.opens s.caller.process (is_deleted s) sound
opens_by_function s moved deleted ReadSequential none is sound moves goes other = refl
opens_by_function s moved deleted WriteSequential none is sound moves goes other = written_same s moved moves
opens_by_function s moved deleted MakeFile none is sound moves goes other =
    ap (λ key. added s.filing.opens s.caller.process key (mode_needed (turned s (call_turns s)).drive (asked_of s))) (key_same s)
    ∙ ap (added s.filing.opens s.caller.process (subject_key s)) (mode_made s is)
opens_by_function s moved deleted RenameFile none is sound moves goes other =
    ap (λ key. given_back s.filing.opens s.caller.process (is_file key)) (key_same s)
opens_by_function s moved deleted ProtectDisk none is sound moves goes other = absurd (true≢false other)
opens_by_function s moved deleted SetAttributes none is sound moves goes other = refl
opens_by_function s moved deleted ReadRandom none is sound moves goes other = refl
opens_by_function s moved deleted WriteRandom none is sound moves goes other = written_same s moved moves
opens_by_function s moved deleted FileSize none is sound moves goes other = refl
opens_by_function s moved deleted ResetDrives none is sound moves goes other = absurd (true≢false other)
opens_by_function s moved deleted AccessDrives none is sound moves goes other = absurd (true≢false other)
opens_by_function s moved deleted FreeDrives none is sound moves goes other = absurd (true≢false other)
opens_by_function s moved deleted TestAndWrite none is sound moves goes other = written_same s moved moves
opens_by_function s moved deleted LockRecord none is sound moves goes other = ap (λ (l : Locking). l.opens) (locked_same s none is)
opens_by_function s moved deleted UnlockRecord none is sound moves goes other = unlocked_same s none is
opens_by_function s moved deleted FreeSpace none is sound moves goes other = refl
opens_by_function s moved deleted FlushBuffers none is sound moves goes other = absurd (true≢false other)
opens_by_function s moved deleted SetLabel none is sound moves goes other = refl
opens_by_function s moved deleted LabelData none is sound moves goes other = refl
opens_by_function s moved deleted ReadXfcb none is sound moves goes other = refl
opens_by_function s moved deleted WriteXfcb none is sound moves goes other = refl

pub opens_same : (s : Situation) (moved : ℕ) (deleted : List (Option FileKey)) → refusal_of s ≡ None → AreOpen s.filing.opens
    → moved ≡ (turned s (call_turns s)).moved → deleted ≡ deleted_by s s.function → is_on_drives s.function ≡ false
    → opens_left s (turned s (call_turns s)).drive moved deleted s.function ≡ opens_by s (turned s (call_turns s)) s.function
opens_same s moved deleted none sound moves goes other = opens_by_function s moved deleted s.function none refl sound moves goes other

-- what the reply goes by
abbrev left_before : Situation → ℕ → List (Option FileKey) → FileFunction → OpenFiles
left_before s moved deleted f = left_by s.filing.opens (asked_of s) (key_asked (asked_of s)) moved deleted f

ended_by_function : (s : Situation) (moved : ℕ) (deleted : List (Option FileKey)) (work : Option Work) (f : FileFunction) → refusal_of s ≡ None → s.function ≡ f
    → ended f s.caller.multi work ≡ record { moved = (turned s (call_turns s)).moved; end = end_after s (turned s (call_turns s)) }
    → ended_for (turned s (call_turns s)).drive (left_before s moved deleted f) (asked_of s) work f ≡ replies.ended_for s (turned s (call_turns s)) f
unfolding left_by ended_for
ended_by_function s moved deleted work ResetDisks none is so = so
ended_by_function s moved deleted work OpenFile none is so = so
ended_by_function s moved deleted work CloseFile none is so = so
ended_by_function s moved deleted work SearchFirst none is so = so
ended_by_function s moved deleted work SearchNext none is so = so
ended_by_function s moved deleted work DeleteFile none is so = so
ended_by_function s moved deleted work ReadSequential none is so = so
ended_by_function s moved deleted work WriteSequential none is so = so
ended_by_function s moved deleted work MakeFile none is so = so
ended_by_function s moved deleted work RenameFile none is so = so
ended_by_function s moved deleted work ProtectDisk none is so = so
ended_by_function s moved deleted work SetAttributes none is so = so
ended_by_function s moved deleted work ReadRandom none is so = so
ended_by_function s moved deleted work WriteRandom none is so = so
ended_by_function s moved deleted work FileSize none is so = so
ended_by_function s moved deleted work ResetDrives none is so = so
ended_by_function s moved deleted work AccessDrives none is so = so
ended_by_function s moved deleted work FreeDrives none is so = so
ended_by_function s moved deleted work TestAndWrite none is so = so
ended_by_function s moved deleted work LockRecord none is so = ap ended_of (locked_same s none is)
ended_by_function s moved deleted work UnlockRecord none is so = so
ended_by_function s moved deleted work FreeSpace none is so = so
ended_by_function s moved deleted work FlushBuffers none is so = so
ended_by_function s moved deleted work SetLabel none is so = so
ended_by_function s moved deleted work LabelData none is so = so
ended_by_function s moved deleted work ReadXfcb none is so = so
ended_by_function s moved deleted work WriteXfcb none is so = so

opened_by_function : (s : Situation) (moved : ℕ) (deleted : List (Option FileKey)) (f : FileFunction) → refusal_of s ≡ None → s.function ≡ f
    → opened_for (turned s (call_turns s)).drive (locked_for (turned s (call_turns s)).drive (left_before s moved deleted f) (asked_of s) f) (asked_of s) f ≡ replies.opened_for s f
unfolding left_by locked_for opened_for
opened_by_function s moved deleted ResetDisks none is = refl
opened_by_function s moved deleted OpenFile none is =
    ap (λ mode. opened_as mode (add_answer s.filing.opens.items s.caller.process (key_asked (asked_of s)) mode)) (mode_opened s none is)
    ∙ ap (λ key. opened_as (mode_by s OpenFile) (add_answer s.filing.opens.items s.caller.process key (mode_by s OpenFile))) (key_same s)
opened_by_function s moved deleted CloseFile none is = refl
opened_by_function s moved deleted SearchFirst none is = refl
opened_by_function s moved deleted SearchNext none is = refl
opened_by_function s moved deleted DeleteFile none is = refl
opened_by_function s moved deleted ReadSequential none is = refl
opened_by_function s moved deleted WriteSequential none is = refl
opened_by_function s moved deleted MakeFile none is =
    ap (λ mode. opened_as mode (add_answer s.filing.opens.items s.caller.process (key_asked (asked_of s)) mode)) (mode_made s is)
    ∙ ap (λ key. opened_as (mode_by s MakeFile) (add_answer s.filing.opens.items s.caller.process key (mode_by s MakeFile))) (key_same s)
opened_by_function s moved deleted RenameFile none is = refl
opened_by_function s moved deleted ProtectDisk none is = refl
opened_by_function s moved deleted SetAttributes none is = refl
opened_by_function s moved deleted ReadRandom none is = refl
opened_by_function s moved deleted WriteRandom none is = refl
opened_by_function s moved deleted FileSize none is = refl
opened_by_function s moved deleted ResetDrives none is = refl
opened_by_function s moved deleted AccessDrives none is = refl
opened_by_function s moved deleted FreeDrives none is = refl
opened_by_function s moved deleted TestAndWrite none is = refl
opened_by_function s moved deleted LockRecord none is = refl
opened_by_function s moved deleted UnlockRecord none is = refl
opened_by_function s moved deleted FreeSpace none is = refl
opened_by_function s moved deleted FlushBuffers none is = refl
opened_by_function s moved deleted SetLabel none is = refl
opened_by_function s moved deleted LabelData none is = refl
opened_by_function s moved deleted ReadXfcb none is = refl
opened_by_function s moved deleted WriteXfcb none is = refl

pub granted_same : (s : Situation) (moved : ℕ) (deleted : List (Option FileKey)) (work : Option Work) → refusal_of s ≡ None
    → ended s.function s.caller.multi work ≡ record { moved = (turned s (call_turns s)).moved; end = end_after s (turned s (call_turns s)) }
    → granted_by (turned s (call_turns s)).drive (left_before s moved deleted s.function) (asked_of s) work ≡ granted_of s (turned s (call_turns s))
unfolding granted_of first_record
granted_same s moved deleted work none so =
    let ends = ended_by_function s moved deleted work s.function none refl so in
    let opens = opened_by_function s moved deleted s.function none refl in
    (λ i. record {
      function = s.function;
      block = block s;
      owner = (subject s).user;
      first = first_by (block s) s.function;
      ended = ends i;
      opened = opens i;
    })
