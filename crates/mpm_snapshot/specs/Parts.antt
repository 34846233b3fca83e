-- What the parts of the program leave: who looks at the machine of a save, the run of a save, and the parts of running a core on.
use Rattle.std.specs.Prelude.{◌≡◌, ◌≢◌, ℕ, true, false, List, [], ◌∷◌, ◌++◌, Option, ⊤, Result, IfOk, IfErr, MatchResult}
use Rattle.mpm_port.specs.declared.files.Files as files
use Rattle.mpm_port.specs.declared.drives.Drives as drives
use Rattle.mpm_port.specs.declared.sink.Sink as sink
use Rattle.mpm_port.specs.Texts.{AppendsPart}
use Rattle.mpm_system.specs.declared.system.System.{System}
use Rattle.mpm_core_file.specs.CoreFiles.{CoreContents, core_bytes}
use Rattle.mpm_core.specs.Taking.{Takes, core_at}
use Rattle.mpm_top.specs.declared.status.Status.{Status}
use Rattle.mpm_top.specs.declared.status.Status.TheVariants as run
use Rattle.mpm_top.specs.Words.{Command}
use Rattle.mpm_top.specs.declared.words.Form.TheVariants.{Program}
use Rattle.mpm_top.specs.Endings.{UnlessReadFault}
use Rattle.mpm_top.specs.Promises.{Seen, seen, Fails, Promises, SeesLast}
use Rattle.mpm_snapshot.specs.declared.status.SnapStatus.{SnapStatus}
use Rattle.mpm_snapshot.specs.declared.status.SnapStatus.TheVariants.{Done, Usage, MachineFault, ScriptFault, ImageFault, TooLong, ReadFault, DiskFault, WriteFault, OutOfMemory, NoProcess, CoreFault}
use Rattle.mpm_snapshot.specs.declared.saving.Taker.{Taker}
use Rattle.mpm_snapshot.specs.Endings.{Runs, HasFault, Saves, Resumes, FailsSnapshot, LeavesOutput, WritesNoOutput, unheard, run_of}

-- Who looked at a machine for the core of a process: it has it, exactly where there is one.
pub record Took (old : Taker) (system : System) (new : Taker) : Type 0 where
  pub process : new.process ≡ old.process
  pub takes : Takes (core_at old.process system) old.core new.core new.taken

-- the core that was taken, if one was, was written so
abbrev pub WritesTaken : Taker → List ℕ → List ℕ → SnapStatus → Type 0
WritesTaken taker first written Done = (taker.taken ≡ true) × (written ≡ first ++ core_bytes taker.core)
WritesTaken taker first written WriteFault = (taker.taken ≡ true) × AppendsPart first (core_bytes taker.core) written
WritesTaken taker first written NoProcess = taker.taken ≡ false
WritesTaken taker first written status = ⊥

-- what is seen of files and drives, before there is an output
abbrev pub silent : {F D : Type 0} → files.Ghosts F → drives.Ghosts D → F → D → Seen
silent of on files_now drives_now =
    seen of.contents of.failed_names on.disks on.told on.unsynced on.faults on.failed_names (λ text. text) (λ text. 0) files_now drives_now []

-- the run of a save: it keeps all promises of `run_words`, its output is heard by nobody, and that was seen after its last step; a program's
-- leaves drives as they are (`Still`)
pub record RunsUnheard (Still : Type 0) (missing : List ℕ → Type 0) (command : Command) (Saw : System → Type 0) (old new : Seen) (status : Status) : Type 0 where
  pub usage : status ≢ run.Usage
  pub text : List ℕ
  pub promises : Promises (text ≡ []) missing command (unheard old []) (unheard new text) status
  pub saw : status ≡ run.Ran → SeesLast Saw command (unheard old []) (unheard new text)
  pub fails : Fails old new status
  pub program : command.form ≡ Program → Still
  pub files : (other : List ℕ) → new.host.contents other ≡ old.host.contents other

-- how a save ends whose run ended so, and after which nothing more comes
abbrev pub status_of : Status → SnapStatus
status_of run.Ran = Done
status_of run.Usage = Usage
status_of run.MachineFault = MachineFault
status_of (run.ScriptFault line) = ScriptFault line
status_of (run.ImageFault drive cause place) = ImageFault drive cause place
status_of (run.TooLong what) = TooLong what
status_of run.ReadFault = ReadFault
status_of (run.DiskFault step) = DiskFault step
status_of (run.WriteFault step) = WriteFault
status_of run.OutOfMemory = OutOfMemory

-- A core was run on, and a line about it was written so
abbrev pub EndsResuming : ℕ → CoreContents → List ℕ → List ℕ → SnapStatus → Type 0
EndsResuming most core first written Done = Runs most core (λ text. written ≡ first ++ text)
EndsResuming most core first written WriteFault = Runs most core (λ text. AppendsPart first text written)
EndsResuming most core first written status = ⊥

-- no core was read of a file
abbrev pub RefusesCore : Type 0 → Option (List ℕ) → Type 0 → SnapStatus → Type 0
RefusesCore missing contents unread ReadFault = unread
RefusesCore missing contents unread OutOfMemory = ⊤
RefusesCore missing contents unread (CoreFault place) = HasFault missing contents place
RefusesCore missing contents unread status = ⊥

-- a file's name joins the failed ones only where that ended the program
abbrev pub KeepsNames : List (List ℕ) → List (List ℕ) → SnapStatus → Type 0
KeepsNames old new status = UnlessReadFault (run_of status) (new ≡ old)

-- a file was read, and that holds of what came of it (`Has`), or none came; what files hold stays
pub record FetchesFile {F A : Type 0} (of : files.Ghosts F) (name : List ℕ) (Has : A → Type 0) (old new : F) (result : Result A SnapStatus) : Type 0 where
  pub ok : IfOk result Has
  pub refuses : IfErr result (RefusesCore (of.missing old name) (of.contents old name) (of.failed_names new ≡ of.failed_names old ++ (name ∷ [])))
  pub names : MatchResult result (λ _. of.failed_names new ≡ of.failed_names old) (KeepsNames (of.failed_names old) (of.failed_names new))
  pub files : (other : List ℕ) → of.contents new other ≡ of.contents old other

-- the core that was taken was written, if one was, and nothing else
pub record PutsTaken {S : Type 0} (of : sink.Ghosts S) (taker : Taker) (old new : S) (status : SnapStatus) : Type 0 where
  pub wrote : WritesTaken taker (of.written old) (of.written new) status
  pub leaves : LeavesOutput of old new status

-- the core of a process was saved after a command, or not: why it ends so, and what failed. The output is as it was (`Same`) and drives are
-- (`Still`) where the record says so
pub record EndsSave (Same Still : Type 0) (missing : List ℕ → Type 0) (command : Command) (process : ℕ) (old new : Seen) (status : SnapStatus) : Type 0 where
  pub usage : status ≢ Usage
  pub saves : Saves missing command process old new status
  pub program : command.form ≡ Program → Still
  pub fails : FailsSnapshot old new status
  pub nothing : WritesNoOutput status → Same

-- a core was run on, and a line about it was written, and nothing else
pub record PutsRun {S : Type 0} (of : sink.Ghosts S) (most : ℕ) (core : CoreContents) (old new : S) (status : SnapStatus) : Type 0 where
  pub ends : EndsResuming most core (of.written old) (of.written new) status
  pub leaves : LeavesOutput of old new status

-- the core that a file has was run on, or not: why it ends so, and what failed; what files hold stays
pub record EndsResume {F S : Type 0} (of : files.Ghosts F) (by : sink.Ghosts S) (name : List ℕ) (most : ℕ) (old_files new_files : F) (old_sink new_sink : S) (status : SnapStatus) : Type 0 where
  pub usage : status ≢ Usage
  pub resumes : Resumes (of.missing old_files name) (of.contents old_files name) (of.failed_names new_files ≡ of.failed_names old_files ++ (name ∷ [])) most (by.written old_sink) (by.written new_sink) status
  pub names : KeepsNames (of.failed_names old_files) (of.failed_names new_files) status
  pub leaves : LeavesOutput by old_sink new_sink status
  pub files : (other : List ℕ) → of.contents new_files other ≡ of.contents old_files other
