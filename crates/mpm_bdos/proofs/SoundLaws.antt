-- What is so of open files and locks stays so with each call on files, and with what those leave who end: no two locks are of one
-- record.
use Rattle.std.proofs.Common.{◌≡◌, ℕ, zero, suc, ◌+◌, ◌==◌, Bool, true, false, cond, [], Option, Some, None, refl, subst}
use Rattle.mpm_mount.specs.Drives.{Drive}
use Rattle.mpm_opens.specs.declared.kinds.FileKey.{FileKey}
use Rattle.mpm_opens.specs.declared.kinds.Mode.{Mode}
use Rattle.mpm_opens.specs.declared.kinds.Mode.TheVariants.{Unlocked}
use Rattle.mpm_opens.specs.Kinds.{is_same_mode, is_file, is_any}
use Rattle.mpm_opens.specs.Items.{number_of}
use Rattle.mpm_opens.specs.Opens.{OpenFiles, AreOpen, IsItemOf, process_of, with_its_item, added, closed_at, closed, written_at, written, locked}
use Rattle.mpm_opens.proofs.OpenLaws.{locks_freed, open_added}
use Rattle.mpm_opens.proofs.OpeningLaws.{number_is_live}
use Rattle.mpm_opens.proofs.SoundLaws.{sound_given_back, sound_closed, sound_written, sound_locked}
use Rattle.mpm_opens.proofs.FindingLaws.{is_named_item}
use Rattle.mpm_fcb.specs.Names.{has_f5}
use Rattle.mpm_file_functions.specs.declared.ends.RecordEnd.{RecordEnd}
use Rattle.mpm_file_functions.specs.declared.functions.FileFunction.{FileFunction}
use Rattle.mpm_file_functions.specs.declared.functions.FileFunction.TheVariants.{ResetDisks, OpenFile, CloseFile, SearchFirst, SearchNext, DeleteFile, ReadSequential, WriteSequential, MakeFile, RenameFile, ProtectDisk, SetAttributes, ReadRandom, WriteRandom, FileSize, ResetDrives, AccessDrives, FreeDrives, TestAndWrite, LockRecord, UnlockRecord, FreeSpace, FlushBuffers, SetLabel, LabelData, ReadXfcb, WriteXfcb}
use Rattle.mpm_file_functions.specs.declared.refusals.Refusal.{Refusal}
use Rattle.mpm_refusals.specs.Filing.{Filing, Situation, block}
use Rattle.mpm_refusals.specs.Subjects.{drive_number, drive_at, open_mode, subject_key, first_record, mode_by, names_drive}
use Rattle.mpm_refusals.specs.Refusals.{refusal_of}
use Rattle.mpm_bdos.specs.Records.{Locking, end_of, unless_ended, locking}
use Rattle.mpm_locks.specs.Locks.{is_lock_within, unlocking}
use Rattle.mpm_bdos.specs.Jobs.{Turned, call_turns, turned}
use Rattle.mpm_bdos.specs.Changes.{locking_of, is_deleted, opens_by, filing_after}
use Rattle.mpm_bdos.specs.Leaving.{nothing_locked}
use Rattle.mpm_bdos.specs.Outcomes.{outcome_by, file_call, left_by, without_search}
use Rattle.mpm_bdos.proofs.AnsweredLaws.{IsNamed, subject_where, lock_subject, lock_named}

either : (b : Bool) (one other : OpenFiles) → AreOpen one → AreOpen other → AreOpen (cond b one other)
either true one other a b = a
either false one other a b = b

-- a file is opened, closed, or written by
sound_opened : (opens : OpenFiles) (p : ℕ) (file : FileKey) (mode : Mode) → AreOpen opens → AreOpen (added opens p file mode)
unfolding added
sound_opened opens p file mode sound = open_added opens.items opens.locks p file mode sound

sound_closing : (opens : OpenFiles) (p : ℕ) (file : FileKey) → AreOpen opens → AreOpen (closed opens p file)
unfolding closed
sound_closing opens p file sound = by_number (number_of opens.items p file) refl
  where
    by_number : (number : Option ℕ) → number_of opens.items p file ≡ number → AreOpen (with_its_item closed_at opens number)
    by_number None is = sound
    by_number (Some number) is = sound_closed opens number sound (number_is_live opens.items p file number is)

sound_writing : (opens : OpenFiles) (p : ℕ) (file : FileKey) → AreOpen opens → AreOpen (written opens p file)
unfolding written
sound_writing opens p file sound = by_number (number_of opens.items p file) refl
  where
    by_number : (number : Option ℕ) → number_of opens.items p file ≡ number → AreOpen (with_its_item written_at opens number)
    by_number None is = sound
    by_number (Some number) is = sound_written opens number sound (number_is_live opens.items p file number is)

-- records are locked by way of an item, and freed
still_its : (opens : OpenFiles) (p item : ℕ) (file : FileKey) (n : ℕ) → IsItemOf opens p file item → IsItemOf (locked opens p file n) p file item
unfolding locked
still_its opens p item file n its = record { live = its.live; its_process = its.its_process; its_file = its.its_file }

sound_lock : (opens : OpenFiles) (p item : ℕ) (file : FileKey) (n : ℕ) → AreOpen opens → IsItemOf opens p file item → AreOpen (locked opens p file n)
sound_lock opens p item file n sound its =
    subst (λ q. AreOpen (locked opens q file n)) its.its_process
    (subst (λ key. AreOpen (locked opens (process_of opens item) key n)) its.its_file (sound_locked opens item n sound its.live))

sound_unless : (opens : OpenFiles) (end : Option RecordEnd) (rest : Locking) → AreOpen opens → AreOpen rest.opens → AreOpen (unless_ended opens end rest).opens
sound_unless opens None rest sound others = others
sound_unless opens (Some end) rest sound others = sound

sound_locks : (drive : Drive) (opens : OpenFiles) (p item : ℕ) (file : FileKey) (n count : ℕ) → AreOpen opens → IsItemOf opens p file item
    → AreOpen (locking drive opens p file n count).opens
unfolding locking
sound_locks drive opens p item file n zero sound its = sound
sound_locks drive opens p item file n (suc count) sound its =
    sound_unless opens (end_of LockRecord (record { drive = drive; opens = opens; process = p; file = file; expected = [] }) n)
    (locking drive (locked opens p file n) p file (n + 1) count) sound
    (sound_locks drive (locked opens p file n) p item file (n + 1) count (sound_lock opens p item file n sound its) (still_its opens p item file n its))

sound_locking : (s : Situation) → refusal_of s ≡ None → s.function ≡ LockRecord → AreOpen s.filing.opens → AreOpen (locking_of s).opens
unfolding locking_of
sound_locking s none is sound = by_mode (is_same_mode (open_mode s) Unlocked) (lock_named s none is)
  where
    by_mode : (unlocked_mode : Bool) → IsNamed s
        → AreOpen (cond unlocked_mode (locking (drive_at s) s.filing.opens s.caller.process (subject_key s) (first_record s) s.caller.multi) (nothing_locked s.filing.opens)).opens
    by_mode true i =
        sound_locks (drive_at s) s.filing.opens s.caller.process i.n (subject_key s) (first_record s) s.caller.multi sound
        (subst (λ key. IsItemOf s.filing.opens s.caller.process key i.n) (subject_where s i (lock_subject s is))
        (is_named_item s.filing.opens s.caller.process i.n (drive_number s) _ i.key i.key_is))
    by_mode false i = sound

sound_freeing : (opens : OpenFiles) (p : ℕ) (file : FileKey) (n count : ℕ) → AreOpen opens → AreOpen (unlocking opens p file n count)
unfolding unlocking
sound_freeing opens p file n count sound = locks_freed opens.items opens.locks p (is_lock_within file n count) sound

-- a call that isn't refused
opens_sound : (s : Situation) (t : Turned) (f : FileFunction) → refusal_of s ≡ None → s.function ≡ f → AreOpen s.filing.opens → AreOpen (opens_by s t f)
unfolding opens_by
opens_sound s t ResetDisks none is sound = sound
opens_sound s t OpenFile none is sound = sound_opened s.filing.opens s.caller.process (subject_key s) (mode_by s OpenFile) sound
opens_sound s t CloseFile none is sound =
    either (has_f5 (block s)) s.filing.opens (closed s.filing.opens s.caller.process (subject_key s)) sound
    (sound_closing s.filing.opens s.caller.process (subject_key s) sound)
opens_sound s t SearchFirst none is sound = sound
opens_sound s t SearchNext none is sound = sound
opens_sound s t DeleteFile none is sound = sound_given_back s.filing.opens s.caller.process (is_deleted s) sound
opens_sound s t ReadSequential none is sound = sound
opens_sound s t WriteSequential none is sound =
    either (t.moved == 0) s.filing.opens (written s.filing.opens s.caller.process (subject_key s)) sound
    (sound_writing s.filing.opens s.caller.process (subject_key s) sound)
opens_sound s t MakeFile none is sound = sound_opened s.filing.opens s.caller.process (subject_key s) (mode_by s MakeFile) sound
opens_sound s t RenameFile none is sound = sound_given_back s.filing.opens s.caller.process (is_file (subject_key s)) sound
opens_sound s t ProtectDisk none is sound = sound
opens_sound s t SetAttributes none is sound = sound
opens_sound s t ReadRandom none is sound = sound
opens_sound s t WriteRandom none is sound =
    either (t.moved == 0) s.filing.opens (written s.filing.opens s.caller.process (subject_key s)) sound
    (sound_writing s.filing.opens s.caller.process (subject_key s) sound)
opens_sound s t FileSize none is sound = sound
opens_sound s t ResetDrives none is sound = sound
opens_sound s t AccessDrives none is sound = sound
opens_sound s t FreeDrives none is sound = sound_given_back s.filing.opens s.caller.process (λ key. names_drive s FreeDrives key.drive) sound
opens_sound s t TestAndWrite none is sound =
    either (t.moved == 0) s.filing.opens (written s.filing.opens s.caller.process (subject_key s)) sound
    (sound_writing s.filing.opens s.caller.process (subject_key s) sound)
opens_sound s t LockRecord none is sound = sound_locking s none is sound
opens_sound s t UnlockRecord none is sound = sound_freeing s.filing.opens s.caller.process (subject_key s) (first_record s) s.caller.multi sound
opens_sound s t FreeSpace none is sound = sound
opens_sound s t FlushBuffers none is sound = sound
opens_sound s t SetLabel none is sound = sound
opens_sound s t LabelData none is sound = sound
opens_sound s t ReadXfcb none is sound = sound
opens_sound s t WriteXfcb none is sound = sound

-- a call
pub call_keeps_sound : (s : Situation) → AreOpen s.filing.opens → AreOpen (file_call s).filing.opens
unfolding file_call filing_after
call_keeps_sound s sound = by_refusal (refusal_of s) refl
  where
    by_refusal : (refusal : Option Refusal) → refusal_of s ≡ refusal → AreOpen (outcome_by s (turned s (call_turns s)) refusal).filing.opens
    by_refusal None is = opens_sound s (turned s (call_turns s)) s.function is refl sound
    by_refusal (Some refusal) is = sound

-- a process that ended
pub end_keeps_sound : (filing : Filing) (p : ℕ) → AreOpen filing.opens → AreOpen (without_search (left_by filing p) p).opens
unfolding left_by without_search
end_keeps_sound filing p sound = sound_given_back filing.opens p is_any sound
