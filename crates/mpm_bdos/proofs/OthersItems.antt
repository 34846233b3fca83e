-- A call leaves the open files of all processes but its caller.
use Rattle.std.proofs.Common.{ℕ, zero, suc, ◌+◌, ◌==◌, if◌then◌else◌, Option, Some, None}
use Rattle.mpm_base.proofs.Choices.{either}
use Rattle.mpm_mount.specs.Drives.{Drive}
use Rattle.mpm_opens.specs.declared.kinds.FileKey.{FileKey}
use Rattle.mpm_opens.specs.declared.kinds.Mode.TheVariants.{Unlocked}
use Rattle.mpm_opens.specs.Kinds.{is_same_mode, is_file, is_any}
use Rattle.mpm_opens.specs.Opens.{OpenFiles, locked, closed, written, LeavesOthers}
use Rattle.mpm_opens.proofs.OthersLaws.{leaves_same, leaves_after, added_leaves, given_back_leaves, closed_leaves, written_leaves, locked_leaves}
use Rattle.mpm_locks.proofs.Unlocking.{unlocking_leaves}
use Rattle.mpm_file_functions.specs.declared.ends.RecordEnd.{RecordEnd}
use Rattle.mpm_file_functions.specs.declared.functions.FileFunction.{FileFunction}
use Rattle.mpm_file_functions.specs.declared.functions.FileFunction.TheVariants.{ResetDisks, OpenFile, CloseFile, SearchFirst, SearchNext, DeleteFile, ReadSequential, WriteSequential, MakeFile, RenameFile, ProtectDisk, SetAttributes, ReadRandom, WriteRandom, FileSize, ResetDrives, AccessDrives, FreeDrives, TestAndWrite, LockRecord, UnlockRecord, FreeSpace, FlushBuffers, SetLabel, LabelData, ReadXfcb, WriteXfcb}
use Rattle.mpm_file_functions.specs.declared.refusals.Refusal.{Refusal}
use Rattle.mpm_fcb.specs.Names.{has_f5}
use Rattle.mpm_refusals.specs.Filing.{Filing, Situation, block}
use Rattle.mpm_refusals.specs.Subjects.{drive_at, subject_key, first_record, open_mode, mode_by, names_drive}
use Rattle.mpm_refusals.specs.Refusals.{refusal_of}
use Rattle.mpm_bdos.specs.Records.{Locking, end_of, unless_ended, locking}
use Rattle.mpm_bdos.specs.Jobs.{Turned, call_turns, turned}
use Rattle.mpm_bdos.specs.Changes.{locking_of, is_deleted, opens_by, filing_after}
use Rattle.mpm_bdos.specs.Outcomes.{outcome_by, file_call, left_by, without_search}
use Rattle.mpm_bdos.specs.Leaving.{nothing_locked}
use Rattle.mpm_bdos.proofs.LockedOff.{asking}

-- records that are locked
unless_leaves : (p : ℕ) (opens : OpenFiles) (end : Option RecordEnd) (rest : Locking) → LeavesOthers p opens rest.opens → LeavesOthers p opens (unless_ended opens end rest).opens
unless_leaves p opens None rest leaves = leaves
unless_leaves p opens (Some end) rest leaves = leaves_same p opens

locks_leave : (count : ℕ) (drive : Drive) (opens : OpenFiles) (p : ℕ) (file : FileKey) (n : ℕ) → LeavesOthers p opens (locking drive opens p file n count).opens
unfolding locking
locks_leave zero drive opens p file n = leaves_same p opens
locks_leave (suc count) drive opens p file n =
    let rest : Locking = locking drive (locked opens p file n) p file (n + 1) count in
    unless_leaves p opens (end_of LockRecord (asking drive opens p file) n) rest
    (leaves_after p opens (locked opens p file n) rest.opens (locked_leaves opens p file n) (locks_leave count drive (locked opens p file n) p file (n + 1)))

locking_leaves : (s : Situation) → LeavesOthers s.caller.process s.filing.opens (locking_of s).opens
unfolding locking_of
locking_leaves s =
    let opens : OpenFiles = s.filing.opens in
    let locks : Locking = locking (drive_at s) opens s.caller.process (subject_key s) (first_record s) s.caller.multi in
    either (λ (l : Locking). LeavesOthers s.caller.process opens l.opens) (is_same_mode (open_mode s) Unlocked) locks (nothing_locked opens)
    (λ _. locks_leave s.caller.multi (drive_at s) opens s.caller.process (subject_key s) (first_record s)) (λ _. leaves_same s.caller.process opens)

-- records that are written, and a file that is closed
written_leave : (s : Situation) (moved : ℕ) → LeavesOthers s.caller.process s.filing.opens (if moved == 0 then s.filing.opens else (written s.filing.opens s.caller.process (subject_key s)))
written_leave s moved =
    either (LeavesOthers s.caller.process s.filing.opens) (moved == 0) s.filing.opens (written s.filing.opens s.caller.process (subject_key s))
    (λ _. leaves_same s.caller.process s.filing.opens) (λ _. written_leaves s.filing.opens s.caller.process (subject_key s))

closing_leaves : (s : Situation) → LeavesOthers s.caller.process s.filing.opens (if has_f5 (block s) then s.filing.opens else (closed s.filing.opens s.caller.process (subject_key s)))
closing_leaves s =
    either (LeavesOthers s.caller.process s.filing.opens) (has_f5 (block s)) s.filing.opens (closed s.filing.opens s.caller.process (subject_key s))
    (λ _. leaves_same s.caller.process s.filing.opens) (λ _. closed_leaves s.filing.opens s.caller.process (subject_key s))

opens_leave : (s : Situation) (t : Turned) (f : FileFunction) → LeavesOthers s.caller.process s.filing.opens (opens_by s t f)
unfolding opens_by
opens_leave s t ResetDisks = leaves_same s.caller.process s.filing.opens
opens_leave s t OpenFile = added_leaves s.filing.opens s.caller.process (subject_key s) (mode_by s OpenFile)
opens_leave s t CloseFile = closing_leaves s
opens_leave s t SearchFirst = leaves_same s.caller.process s.filing.opens
opens_leave s t SearchNext = leaves_same s.caller.process s.filing.opens
opens_leave s t DeleteFile = given_back_leaves s.filing.opens s.caller.process (is_deleted s)
opens_leave s t ReadSequential = leaves_same s.caller.process s.filing.opens
opens_leave s t WriteSequential = written_leave s t.moved
opens_leave s t MakeFile = added_leaves s.filing.opens s.caller.process (subject_key s) (mode_by s MakeFile)
opens_leave s t RenameFile = given_back_leaves s.filing.opens s.caller.process (is_file (subject_key s))
opens_leave s t ProtectDisk = leaves_same s.caller.process s.filing.opens
opens_leave s t SetAttributes = leaves_same s.caller.process s.filing.opens
opens_leave s t ReadRandom = leaves_same s.caller.process s.filing.opens
opens_leave s t WriteRandom = written_leave s t.moved
opens_leave s t FileSize = leaves_same s.caller.process s.filing.opens
opens_leave s t ResetDrives = leaves_same s.caller.process s.filing.opens
opens_leave s t AccessDrives = leaves_same s.caller.process s.filing.opens
opens_leave s t FreeDrives = given_back_leaves s.filing.opens s.caller.process (λ key. names_drive s FreeDrives key.drive)
opens_leave s t TestAndWrite = written_leave s t.moved
opens_leave s t LockRecord = locking_leaves s
opens_leave s t UnlockRecord = unlocking_leaves s.filing.opens s.caller.process (subject_key s) (first_record s) s.caller.multi
opens_leave s t FreeSpace = leaves_same s.caller.process s.filing.opens
opens_leave s t FlushBuffers = leaves_same s.caller.process s.filing.opens
opens_leave s t SetLabel = leaves_same s.caller.process s.filing.opens
opens_leave s t LabelData = leaves_same s.caller.process s.filing.opens
opens_leave s t ReadXfcb = leaves_same s.caller.process s.filing.opens
opens_leave s t WriteXfcb = leaves_same s.caller.process s.filing.opens

pub call_leaves : (s : Situation) → LeavesOthers s.caller.process s.filing.opens (file_call s).filing.opens
unfolding file_call filing_after
call_leaves s = by_refusal (refusal_of s)
  where
    by_refusal : (refusal : Option Refusal) → LeavesOthers s.caller.process s.filing.opens (outcome_by s (turned s (call_turns s)) refusal).filing.opens
    by_refusal None = opens_leave s (turned s (call_turns s)) s.function
    by_refusal (Some refusal) = leaves_same s.caller.process s.filing.opens

-- a process that ended
pub end_leaves : (filing : Filing) (p : ℕ) → LeavesOthers p filing.opens (without_search (left_by filing p) p).opens
unfolding left_by without_search
end_leaves filing p = given_back_leaves filing.opens p is_any
