-- What the parts of a reply ask and leave: of open files and their locks, of records, and of what is answered.
use Rattle.std.specs.Prelude.{◌≡◌, ℕ, ◌<◌, ◌≤◌, Bool, List, [], Option, None, IfSome, min}
use Rattle.std.specs.List.{flat_map}
use Rattle.mpm_base.specs.Calls.{Answer, Taken, answering}
use Rattle.mpm_dirent.specs.Names.{plain}
use Rattle.mpm_dirent.specs.declared.limits.TheConstants.{LAST_POSITION}
use Rattle.mpm_fcb.specs.declared.block.ControlBlock.{ControlBlock}
use Rattle.mpm_fcb.specs.Blocks.{block_of}
use Rattle.mpm_fcb.specs.Positions.{sequential_record}
use Rattle.mpm_mount.specs.Drives.{FileName, Drive}
use Rattle.mpm_mount.specs.Directories.{Directory}
use Rattle.mpm_mount.specs.Standing.{OnItsDrive}
use Rattle.mpm_opens.specs.declared.kinds.FileKey.{FileKey}
use Rattle.mpm_opens.specs.declared.kinds.Mode.{Mode}
use Rattle.mpm_opens.specs.Items.{add_answer}
use Rattle.mpm_opens.specs.Opens.{OpenFiles, AreOpen, added}
use Rattle.mpm_locks.specs.Locks.{count_until}
use Rattle.mpm_marks.specs.Driving.{marks_by, protected_by, freed_by}
use Rattle.mpm_file_functions.specs.declared.ends.Ended.{Ended}
use Rattle.mpm_file_functions.specs.declared.functions.FileFunction.{FileFunction}
use Rattle.mpm_file_functions.specs.declared.functions.FileFunction.TheVariants.{LockRecord}
use Rattle.mpm_file_functions.specs.declared.refusals.Extended.{Extended}
use Rattle.mpm_file_functions.specs.declared.refusals.Refusal.{Refusal}
use Rattle.mpm_file_functions.specs.Refusals.{answered, refused_value, refused_extended}
use Rattle.mpm_file_entries.specs.declared.granting.Granted.{Granted}
use Rattle.mpm_file_entries.specs.declared.granting.OpenedAs.{OpenedAs}
use Rattle.mpm_files.specs.declared.work.Work.{Work}
use Rattle.mpm_refusals.specs.declared.asking.Asked.{Asked}
use Rattle.mpm_refusals.specs.declared.caller.FileCall.{FileCall}
use Rattle.mpm_refusals.specs.declared.subjects.OpenItem.{OpenItem}
use Rattle.mpm_refusals.specs.Asking.{IsOwnItem}
use Rattle.mpm_refusals.specs.Filing.{HaveUsers}
use Rattle.mpm_refusals.specs.Subjects.{first_by}
use Rattle.mpm_bdos.specs.declared.planning.About.{About}
use Rattle.mpm_bdos.specs.Jobs.{is_tested_off}
use Rattle.mpm_bdos.specs.Records.{AreOfFile, Locking}
use Rattle.mpm_bdos.specs.Leaving.{IsInFile, IsGrantedReply, ended_of, locked_for, ended_for, opened_by, opened_for, opened_then, granted_by, opens_left}
use Rattle.mpm_bdos.specs.Replies.{opened_as, answering_at}
use Rattle.mpm_bdos.specs.Serving.{IsCaller}
use Rattle.mpm_bdos.specs.Starting.{about_in}

-- a file is opened for a process, if it may be, and the result says so; the users of open files stay in their range
pub record OpensFile (old new : OpenFiles) (p : ℕ) (file : FileKey) (mode : Mode) (answer : Option OpenedAs) : Type 0 where
  pub opens : new ≡ added old p file mode
  pub opened : answer ≡ opened_as mode (add_answer old.items p file mode)
  pub number : IfSome answer (λ made. made.number ≤ 63)
  pub users : HaveUsers old → file.user < 16 → HaveUsers new

-- what a call opens or makes, if it does that
pub record OpensAsked (d : Directory) (old new : OpenFiles) (a : Asked) (answer : Option OpenedAs) : Type 0 where
  pub opens : OnItsDrive d (λ drive. new ≡ opened_by drive old a a.function)
  pub opened : OnItsDrive d (λ drive. answer ≡ opened_for drive old a a.function)
  pub number : IfSome answer (λ made. made.number ≤ 63)
  pub users : HaveUsers old → a.owner < 16 → HaveUsers new

-- the open file by way of which records are locked is the process's own, and the records are such as a file may have
pub record MayLockBy (opens : OpenFiles) (p : ℕ) (by : Option OpenItem) (first count : ℕ) : Type 0 where
  pub item : IfSome by (λ item. IsOwnItem opens p item)
  pub records : AreOfFile first count

-- records are locked, which is said for each drive that the directory stands for, and no open file changes but for its locks
pub record LocksByItem (d : Directory) (old new : OpenFiles) (locking : Drive → Locking) (answer : Ended) : Type 0 where
  pub opens : OnItsDrive d (λ drive. new ≡ (locking drive).opens)
  pub ended : OnItsDrive d (λ drive. answer ≡ ended_of (locking drive))
  pub items : new.items ≡ old.items

-- the open file of a call that locks records is its caller's own, and 16 records are moved at most
pub record MayEndRecords (opens : OpenFiles) (a : Asked) : Type 0 where
  pub item : a.function ≡ LockRecord → IfSome a.item (λ item. IsOwnItem opens a.caller.process item)
  pub few : a.caller.multi ≤ 16

-- what the records of a call come to, which it locks or which its job has moved
pub record EndsRecords (d : Directory) (old new : OpenFiles) (a : Asked) (work : Option Work) (answer : Ended) : Type 0 where
  pub opens : OnItsDrive d (λ drive. IsInFile a → new ≡ locked_for drive old a a.function)
  pub ended : OnItsDrive d (λ drive. IsInFile a → answer ≡ ended_for drive old a work a.function)
  pub items : new.items ≡ old.items

-- what the reply of a call goes by, with the file that it opens and the records that it locks
pub record GrantsCall (d : Directory) (old new : OpenFiles) (a : Asked) (work : Option Work) (answer : Granted) : Type 0 where
  pub opens : OnItsDrive d (λ drive. IsInFile a → new ≡ opened_then drive old a)
  pub granted : OnItsDrive d (λ drive. IsInFile a → answer ≡ granted_by drive old a work)
  pub number : IfSome answer.opened (λ made. made.number ≤ 63)
  pub users : HaveUsers old → a.owner < 16 → HaveUsers new

-- a record of a file is tested by its name without attributes; its position is one that a file may have, and 16 are tested at most
pub record MayTestRecords (file : FileKey) (from few : ℕ) : Type 0 where
  pub plain_is : plain file.name ≡ file.name
  pub first : from ≤ LAST_POSITION
  pub count : few ≤ 16

-- how many records that are tested come before the first that ends the call by a lock
pub record CountsTested (d : Directory) (opens : OpenFiles) (p : ℕ) (file : FileKey) (first count answer : ℕ) : Type 0 where
  pub value : OnItsDrive d (λ drive. answer ≡ count_until (is_tested_off drive opens p file) first count)
  pub few : answer ≤ count

-- a call that is refused is answered by its refusal
pub record RefusesCall (refusal : Refusal) (drive : ℕ) (answer : Answer) (result : Option Extended) : Type 0 where
  pub reply : answer ≡ answering (refused_value (answered refusal))
  pub extended : result ≡ refused_extended drive (answered refusal)

-- a call on drives is answered, with what it leaves of protected drives, of open files and of marks
pub record RepliesOnDrives (call : FileCall) (mounted : Bool) (answer : Answer) (old_protected new_protected : List Bool) (old_opens new_opens : OpenFiles) (old_marks new_marks : List ℕ) : Type 0 where
  pub reply : answer ≡ record { hl = 0; fcb = None; at = call.call.now.dma; bytes = [] }
  pub protected : new_protected ≡ protected_by old_protected mounted call.caller.drive call.call.now.word call.function
  pub opens : new_opens ≡ freed_by old_opens call.caller.process call.call.now.word call.function
  pub marks : new_marks ≡ marks_by old_marks call.caller.process call.call.now.word call.function

-- a value is answered with the records that were read, and no file control block
pub record AnswersRecords (Read : List (List ℕ) → Type 0) (value at : ℕ) (answer : Answer) : Type 0 where
  pub all : (records : List (List ℕ)) → Read records → answer ≡ answering_at value at (flat_map (λ bytes. bytes) records)
  pub none : answer.fcb ≡ None

-- a call on a mounted drive may be answered: the open file that it names is its caller's own
pub record MayAnswerMounted (opens : OpenFiles) (a : Asked) : Type 0 where
  pub own : IfSome a.item (λ item. IsOwnItem opens a.caller.process item)
  pub caller : IsCaller a.caller

-- and is answered, with what it leaves of open files
pub record AnswersMounted (d : Directory) (old new : OpenFiles) (a : Asked) (work : Option Work) (deleted : List (Option FileKey)) (entry : Option (FileName × ℕ)) (call : Taken) (answer : Answer) : Type 0 where
  pub sound : AreOpen old
  pub users : HaveUsers old → a.owner < 16 → HaveUsers new
  pub opens : OnItsDrive d (λ drive. IsInFile a → new ≡ opens_left drive old a work deleted)
  pub reply : IsGrantedReply d old a work deleted entry call answer

-- what was looked up of a call, of which its job is made: its file's name has no attributes, and its first record is a position that a
-- block can have
pub record LooksUpCall (opens : OpenFiles) (p : ℕ) (b : ControlBlock) (function : FileFunction) (drive owner : ℕ) (number : Option ℕ) (about : About) : Type 0 where
  pub value : about ≡ about_in opens p b function drive owner number
  pub plain_is : plain about.file.name ≡ about.file.name
  pub few : about.first ≤ LAST_POSITION
  pub low : sequential_record b ≤ LAST_POSITION

-- the first of a call's records, or the last position that a block can have; that of its sequential reading is no more than that
pub record IsFirstPosition (b : ControlBlock) (function : FileFunction) (n : ℕ) : Type 0 where
  pub value : n ≡ min (first_by b function) LAST_POSITION
  pub few : n ≤ LAST_POSITION
  pub low : sequential_record b ≤ LAST_POSITION

-- a job may be made of what was looked up of a call, and of the call's block
pub record MayPlanJob (about : About) (multi : ℕ) (b : ControlBlock) (fcb : List ℕ) : Type 0 where
  pub plain_is : plain about.file.name ≡ about.file.name
  pub first : about.first ≤ LAST_POSITION
  pub count : multi ≤ 16
  pub block : b ≡ block_of fcb

-- a call may be answered by what was granted: the number of the file that it opened, if it opened one, is one that a block can have
pub record MayAnswerGranted (granted : Granted) (multi : ℕ) : Type 0 where
  pub number : IfSome granted.opened (λ made. made.number ≤ 63)
  pub some : 1 ≤ multi
  pub few : multi ≤ 16
