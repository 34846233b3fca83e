-- What a call on a mounted drive leaves of open files, by what was looked up of it: the same as the rules in Changes.antt and
-- Replies.antt, which look it up themselves.
use Rattle.std.specs.Prelude.{◌≡◌, ℕ, ◌≤◌, ◌==◌, true, List, Option, Some, None, if◌then◌else◌}
use Rattle.mpm_dirent.specs.declared.limits.TheConstants.{LAST_RECORD}
use Rattle.mpm_opens.specs.declared.kinds.FileKey.{FileKey}
use Rattle.mpm_opens.specs.declared.kinds.Mode.{Mode}
use Rattle.mpm_opens.specs.declared.kinds.Mode.TheVariants.{Locked, Unlocked, ReadOnly}
use Rattle.mpm_opens.specs.Kinds.{is_file}
use Rattle.mpm_opens.specs.Opens.{OpenFiles, added, given_back, closed, written}
use Rattle.mpm_opens.specs.Items.{add_answer}
use Rattle.mpm_file_functions.specs.declared.functions.FileFunction.{FileFunction}
use Rattle.mpm_file_functions.specs.declared.functions.FileFunction.TheVariants.{OpenFile, CloseFile, MakeFile, LockRecord, DeleteFile, WriteSequential, RenameFile, WriteRandom, TestAndWrite, UnlockRecord}
use Rattle.mpm_base.specs.Calls.{Answer, Taken}
use Rattle.mpm_mount.specs.Drives.{FileName, Drive}
use Rattle.mpm_mount.specs.Directories.{Directory, Stands}
use Rattle.mpm_fcb.specs.Names.{has_f5}
use Rattle.mpm_fcb.specs.Positions.{random_record}
use Rattle.mpm_files.specs.declared.work.Work.{Work}
use Rattle.mpm_refusals.specs.declared.asking.Asked.{Asked}
use Rattle.mpm_refusals.specs.declared.subjects.OpenItem.{OpenItem}
use Rattle.mpm_refusals.specs.Subjects.{first_by}
use Rattle.mpm_refusals.specs.Asking.{key_asked, mode_needed}
use Rattle.mpm_file_functions.specs.declared.ends.Ended.{Ended}
use Rattle.mpm_file_entries.specs.declared.granting.OpenedAs.{OpenedAs}
use Rattle.mpm_file_entries.specs.declared.granting.Granted.{Granted}
use Rattle.mpm_bdos.specs.Records.{Locking, locking}
use Rattle.mpm_locks.specs.Locks.{unlocking}
use Rattle.mpm_file_functions.specs.Ends.{done_by}
use Rattle.mpm_bdos.specs.Changes.{is_among}
use Rattle.mpm_bdos.specs.Replies.{opened_as, answer_by}
use Rattle.mpm_file_entries.specs.Granting.{value_by, is_moving, FewDone, IsPlaced}
use Rattle.mpm_bdos.specs.Ending.{moved_by, ended, is_reading, HasRead}

-- records are locked by way of a file that is open in unlocked mode; in others nothing is done
abbrev pub nothing_locked : OpenFiles → Locking
nothing_locked opens = record { opens = opens; moved = 0; end = None }

abbrev pub locked_by : Drive → OpenFiles → ℕ → FileKey → ℕ → ℕ → Mode → Locking
locked_by drive opens p file first count Unlocked = locking drive opens p file first count
locked_by drive opens p file first count Locked = nothing_locked opens
locked_by drive opens p file first count ReadOnly = nothing_locked opens

abbrev pub ended_of : Locking → Ended
ended_of locking = record { moved = locking.moved; end = locking.end }

-- by way of an open file that a call names, if its caller has that
abbrev pub locked_where : Drive → OpenFiles → ℕ → ℕ → ℕ → Option OpenItem → Locking
locked_where drive opens p first count None = nothing_locked opens
locked_where drive opens p first count (Some item) = locked_by drive opens p item.file first count item.mode

abbrev pub unlocked_where : OpenFiles → ℕ → ℕ → ℕ → Option OpenItem → OpenFiles
unlocked_where opens p first count None = opens
unlocked_where opens p first count (Some item) = unlocking opens p item.file first count

-- calls that neither open a file nor lock records
unfoldable pub left_by : OpenFiles → Asked → FileKey → ℕ → List (Option FileKey) → FileFunction → OpenFiles
left_by opens a file moved deleted CloseFile = if has_f5 a.block then opens else (closed opens a.caller.process file)
left_by opens a file moved deleted DeleteFile = given_back opens a.caller.process (is_among deleted)
left_by opens a file moved deleted RenameFile = given_back opens a.caller.process (is_file file)
left_by opens a file moved deleted WriteSequential = if moved == 0 then opens else (written opens a.caller.process file)
left_by opens a file moved deleted WriteRandom = if moved == 0 then opens else (written opens a.caller.process file)
left_by opens a file moved deleted TestAndWrite = if moved == 0 then opens else (written opens a.caller.process file)
left_by opens a file moved deleted UnlockRecord = unlocked_where opens a.caller.process (first_by a.block UnlockRecord) a.caller.multi a.item
left_by opens a file moved deleted function = opens

-- the records that it locks are such as a file may have
abbrev pub IsInFile : Asked → Type 0
IsInFile a = a.function ≡ LockRecord → random_record a.block ≤ LAST_RECORD

-- a call that locks records
unfoldable pub locked_for : Drive → OpenFiles → Asked → FileFunction → OpenFiles
locked_for drive opens a LockRecord = (locked_where drive opens a.caller.process (random_record a.block) a.caller.multi a.item).opens
locked_for drive opens a function = opens

unfoldable pub ended_for : Drive → OpenFiles → Asked → Option Work → FileFunction → Ended
ended_for drive opens a work LockRecord = ended_of (locked_where drive opens a.caller.process (random_record a.block) a.caller.multi a.item)
ended_for drive opens a work function = ended function a.caller.multi work

-- a call that opens a file, or makes one
unfoldable pub opened_by : Drive → OpenFiles → Asked → FileFunction → OpenFiles
opened_by drive opens a OpenFile = added opens a.caller.process (key_asked a) (mode_needed drive a)
opened_by drive opens a MakeFile = added opens a.caller.process (key_asked a) (mode_needed drive a)
opened_by drive opens a function = opens

abbrev pub opened_now : Drive → OpenFiles → Asked → Option OpenedAs
opened_now drive opens a = opened_as (mode_needed drive a) (add_answer opens.items a.caller.process (key_asked a) (mode_needed drive a))

unfoldable pub opened_for : Drive → OpenFiles → Asked → FileFunction → Option OpenedAs
opened_for drive opens a OpenFile = opened_now drive opens a
opened_for drive opens a MakeFile = opened_now drive opens a
opened_for drive opens a function = None

-- what the reply goes by
abbrev pub granted_by : Drive → OpenFiles → Asked → Option Work → Granted
granted_by drive opens a work = record {
  function = a.function;
  block = a.block;
  owner = a.owner;
  first = first_by a.block a.function;
  ended = ended_for drive opens a work a.function;
  opened = opened_for drive (locked_for drive opens a a.function) a a.function;
}

-- open files after a call: what it leaves of them, and then what it opens or locks
abbrev pub left_first : OpenFiles → Asked → Option Work → List (Option FileKey) → OpenFiles
left_first opens a work deleted = left_by opens a (key_asked a) (moved_by work) deleted a.function

abbrev pub opened_then : Drive → OpenFiles → Asked → OpenFiles
opened_then drive opens a = opened_by drive (locked_for drive opens a a.function) a a.function

abbrev pub opens_left : Drive → OpenFiles → Asked → Option Work → List (Option FileKey) → OpenFiles
opens_left drive opens a work deleted = opened_then drive (left_first opens a work deleted) a

-- a call after its turns may be answered: few records are done where something ended them, its position is one that a block can have,
-- and the records that it read stand at the front of its job's bytes
pub record IsGranted (drive : Drive) (opens : OpenFiles) (a : Asked) (work : Option Work) (deleted : List (Option FileKey)) (records : List (List ℕ)) : Type 0 where
  pub in_file : IsInFile a
  pub few : FewDone a.caller.multi (granted_by drive (left_first opens a work deleted) a work).ended
  pub placed : is_moving a.function ≡ true → IsPlaced (granted_by drive (left_first opens a work deleted) a work)
  pub read : is_reading a.function ≡ true
      → HasRead (done_by a.caller.multi (value_by drive (granted_by drive (left_first opens a work deleted) a work) a.function)) work records

-- it is answered so, with the entry that it found
abbrev pub IsGrantedReply : Directory → OpenFiles → Asked → Option Work → List (Option FileKey) → Option (FileName × ℕ) → Taken → Answer → Type 0
IsGrantedReply directory opens a work deleted found call answer =
    (image : List ℕ) (drive : Drive) (records : List (List ℕ)) (entry : Option (FileName × ℕ)) → Stands image directory drive
    → IsGranted drive opens a work deleted records → found ≡ entry
    → answer ≡ answer_by drive (granted_by drive (left_first opens a work deleted) a work) records entry call.fcb call.dma
