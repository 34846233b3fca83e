-- How the program ends, and why; what is written then, and what failed.
use Rattle.std.specs.Prelude.{◌≡◌, ℕ, List, [], ◌∷◌, ◌++◌, Option, Some, None, ⊤, MatchOption, take}
use Rattle.mpm_port.specs.declared.sink.Sink as sink
use Rattle.mpm_port.specs.Causes.{Rose}
use Rattle.mpm_port.specs.Texts.{AppendsPart}
use Rattle.mpm_system.specs.declared.system.System.{System}
use Rattle.mpm_core_file.specs.CoreFiles.{CoreContents, IsCore, core_bytes, fault_of}
use Rattle.mpm_replay.specs.declared.replaying.Replayed.{Replayed}
use Rattle.mpm_core.specs.Taking.{core_at}
use Rattle.mpm_core.specs.Replaying.{Replays}
use Rattle.mpm_core.specs.Agreement.{Agree}
use Rattle.mpm_top.specs.declared.status.Status.{Status}
use Rattle.mpm_top.specs.declared.status.Status.TheVariants as run
use Rattle.mpm_top.specs.Words.{Command}
use Rattle.mpm_top.specs.Endings.{UnlessReadFault, UnlessDiskFault}
use Rattle.mpm_top.specs.Promises.{Seen, Promises, SeesLast}
use Rattle.mpm_snapshot.specs.declared.status.SnapStatus.{SnapStatus}
use Rattle.mpm_snapshot.specs.declared.status.SnapStatus.TheVariants.{Done, Usage, MachineFault, ScriptFault, ImageFault, TooLong, ReadFault, DiskFault, WriteFault, OutOfMemory, NoProcess, CoreFault}
use Rattle.mpm_snapshot.specs.Lines.{line}
use Rattle.mpm_snapshot.specs.Requests.{Request, Save, Resume}

-- A save runs its command as `run_words` does, but nobody hears the output: it has some text, and never fails.
abbrev pub unheard : Seen → List ℕ → Seen
unheard outside text = record outside { printed = record { text = text; faults = 0 } }

-- how that run ended: what comes after its last step comes only where it went well
abbrev pub run_of : SnapStatus → Status
run_of Done = run.Ran
run_of Usage = run.Usage
run_of MachineFault = run.MachineFault
run_of (ScriptFault line) = run.ScriptFault line
run_of (ImageFault drive cause place) = run.ImageFault drive cause place
run_of (TooLong what) = run.TooLong what
run_of ReadFault = run.ReadFault
run_of (DiskFault step) = run.DiskFault step
run_of WriteFault = run.Ran
run_of OutOfMemory = run.OutOfMemory
run_of NoProcess = run.Ran
run_of (CoreFault place) = run.Ran

-- one of three: a save ended after its run; in it, or before; or it doesn't end so
abbrev pub by_run : Type 0 → Type 0 → Type 0 → SnapStatus → Type 0
by_run after before never Done = after
by_run after before never Usage = never
by_run after before never MachineFault = before
by_run after before never (ScriptFault line) = before
by_run after before never (ImageFault drive cause place) = before
by_run after before never (TooLong what) = before
by_run after before never ReadFault = before
by_run after before never (DiskFault step) = before
by_run after before never WriteFault = after
by_run after before never OutOfMemory = before
by_run after before never NoProcess = after
by_run after before never (CoreFault place) = never

-- the process of a system has a core, the file of which was written so
pub record HasCore (process : ℕ) (Writes : List ℕ → Type 0) (system : System) : Type 0 where
  pub core : CoreContents
  pub taken : core_at process system ≡ Some core
  pub is : IsCore core
  pub wrote : Writes (core_bytes core)

-- what was found of the process of a system, and written: its core; a first part of it where the output failed; or it has none
abbrev pub FindsCore : ℕ → List ℕ → List ℕ → SnapStatus → System → Type 0
FindsCore process first written Done system = HasCore process (λ bytes. written ≡ first ++ bytes) system
FindsCore process first written WriteFault system = HasCore process (λ bytes. AppendsPart first bytes written) system
FindsCore process first written status system = core_at process system ≡ None

-- How a save ends: the run keeps all promises of `run_words`; and after its last step, before its end, that was found of the process
pub record Saves (missing : List ℕ → Type 0) (command : Command) (process : ℕ) (old new : Seen) (status : SnapStatus) : Type 0 where
  pub text : List ℕ
  pub run : Promises (text ≡ []) missing command (unheard old []) (unheard new text) (run_of status)
  pub last : by_run (SeesLast (FindsCore process old.printed.text new.printed.text status) command (unheard old []) (unheard new text)) ⊤ ⊥ status

-- A file is there, and this is what came of it: as many of its first bytes as the largest core has, and one more.
pub record Came (missing : Type 0) (contents : Option (List ℕ)) (text : List ℕ) : Type 0 where
  pub there : missing → ⊥
  pub known : MatchOption contents ⊤ (λ file. text ≡ take 65588 file)

-- a core was run on by at most so many instructions, and a line about it was written so. Where its machine would have done as many alone, it
-- agrees with it
pub record Runs (most : ℕ) (core : CoreContents) (Writes : List ℕ → Type 0) : Type 0 where
  pub left : CoreContents
  pub replayed : Replayed
  pub replays : Replays most core left replayed
  pub agrees : Agree most core left replayed
  pub wrote : Writes (line left.head replayed)

-- it is the file of a core
pub record IsReadCore (missing : Type 0) (contents : Option (List ℕ)) (core : CoreContents) : Type 0 where
  pub is : IsCore core
  pub came : Came missing contents (core_bytes core)
  pub sound : fault_of (core_bytes core) ≡ None

-- which was run on so
pub record ResumesCore (missing : Type 0) (contents : Option (List ℕ)) (most : ℕ) (Writes : List ℕ → Type 0) : Type 0 where
  pub core : CoreContents
  pub read : IsReadCore missing contents core
  pub run : Runs most core Writes

-- it is none of a core, as is seen at a place
pub record HasFault (missing : Type 0) (contents : Option (List ℕ)) (place : ℕ) : Type 0 where
  pub text : List ℕ
  pub came : Came missing contents text
  pub fault : fault_of text ≡ Some place

-- How a core that is run on ends
abbrev pub Resumes : Type 0 → Option (List ℕ) → Type 0 → ℕ → List ℕ → List ℕ → SnapStatus → Type 0
Resumes missing contents unread most first written Done = ResumesCore missing contents most (λ text. written ≡ first ++ text)
Resumes missing contents unread most first written Usage = ⊥
Resumes missing contents unread most first written MachineFault = ⊥
Resumes missing contents unread most first written (ScriptFault line) = ⊥
Resumes missing contents unread most first written (ImageFault drive cause place) = ⊥
Resumes missing contents unread most first written (TooLong what) = ⊥
Resumes missing contents unread most first written ReadFault = unread
Resumes missing contents unread most first written (DiskFault step) = ⊥
Resumes missing contents unread most first written WriteFault = ResumesCore missing contents most (λ text. AppendsPart first text written)
Resumes missing contents unread most first written OutOfMemory = ⊤
Resumes missing contents unread most first written NoProcess = ⊥
Resumes missing contents unread most first written (CoreFault place) = HasFault missing contents place

-- how a request ends
abbrev pub EndsSnapshot : (List ℕ → Type 0) → Request → Seen → Seen → SnapStatus → Type 0
EndsSnapshot missing (Save command process) old new status = Saves missing command process old new status
EndsSnapshot missing (Resume name most) old new status =
    Resumes (missing name) (old.host.contents name) (new.failed.files ≡ old.failed.files ++ (name ∷ [])) most old.printed.text new.printed.text status

-- What failed: a file's name joins the failed ones, a drive fails, and the output fails, only where that ended the program. What files hold
-- stays
abbrev pub FailsSink : ℕ → ℕ → SnapStatus → Type 0
FailsSink before now WriteFault = Rose before now
FailsSink before now status = now ≡ before

pub record FailsSnapshot (old new : Seen) (status : SnapStatus) : Type 0 where
  pub files : UnlessReadFault (run_of status) (new.failed.files ≡ old.failed.files)
  pub drives : UnlessDiskFault (run_of status) (new.failed.drives ≡ old.failed.drives)
  pub output : FailsSink old.printed.faults new.printed.faults status
  pub contents : (other : List ℕ) → new.host.contents other ≡ old.host.contents other

-- the endings at which nothing is written
abbrev pub WritesNoOutput : SnapStatus → Type 0
WritesNoOutput Done = ⊥
WritesNoOutput WriteFault = ⊥
WritesNoOutput status = ⊤

-- the output fails only where that ended the program, and is as it was where nothing is written
pub record LeavesOutput {S : Type 0} (by : sink.Ghosts S) (old new : S) (status : SnapStatus) : Type 0 where
  pub output : FailsSink (by.faults old) (by.faults new) status
  pub nothing : WritesNoOutput status → new ≡ old
