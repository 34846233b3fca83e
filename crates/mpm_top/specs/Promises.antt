-- What `run_words` promises of a command, over any files, drives and output, in the order in which one asks: what was written, what the
-- images stand for then, what failed, and why it ended so.
use Rattle.std.specs.Prelude.{◌≡◌, ℕ, ◌≤◌, ◌⊎◌, Bool, List, ◌++◌, Some, length}
use Rattle.mpm_port.specs.Causes.{Rose}
use Rattle.mpm_port.specs.Disks.{Disks}
use Rattle.mpm_drives.specs.Images.{Images}
use Rattle.mpm_drives.specs.Mounted.{AsksNoWrite}
use Rattle.mpm_render.specs.Outputs.{closed}
use Rattle.mpm_system.specs.declared.system.System.{System}
use Rattle.mpm_machine.specs.State.{State}
use Rattle.mpm_machine.specs.After.{after}
use Rattle.mpm_machine.specs.Settling.{carried}
use Rattle.mpm_top.specs.declared.status.Status.{Status}
use Rattle.mpm_top.specs.declared.status.Status.TheVariants.{Ran, Usage, MachineFault, ScriptFault, ImageFault, TooLong, ReadFault, DiskFault, WriteFault, OutOfMemory}
use Rattle.mpm_top.specs.Words.{Command}
use Rattle.mpm_top.specs.Beginnings.{Contents, Host, FailedSoFar, host, failed, input_of, room_for, script_name, drives_listed, BeginsCommand}
use Rattle.mpm_top.specs.Runs.{Printed, printed, StandFor, AreSyncedOf, KeepsOthers, StopsAt, ClosesAt, drives_left}
use Rattle.mpm_top.specs.Endings.{UnlessReadFault, UnlessDiskFault, UnlessWriteFault, Ends, EndsAs, ending}
use Rattle.mpm_port.specs.declared.drives.Drives.{Ghosts}
use Rattle.mpm_port.specs.declared.files.Files.{Ghosts as FileGhosts}
use Rattle.mpm_port.specs.declared.sink.Sink.{Ghosts as SinkGhosts}

-- what is seen of files, drives and output: what files hold and what is known of images by their names; the images of the drives that are
-- attached, and which have unsynced writes; what failed so far; and what was written
pub record Seen : Type 0 where
  pub host : Host
  pub disks : Disks
  pub unsynced : ℕ → Bool
  pub failed : FailedSoFar
  pub printed : Printed

abbrev pub seen : {F D S : Type 0} → (F → Contents) → (F → List (List ℕ)) → (D → Disks) → (D → Images) → (D → ℕ → Bool) → (D → ℕ) → (D → List (List ℕ))
    → (S → List ℕ) → (S → ℕ) → F → D → S → Seen
seen contents unfetched disks told unsynced faults unattached written failures files drives sink = record {
  host = host contents told files drives;
  disks = disks drives;
  unsynced = unsynced drives;
  failed = failed unfetched faults unattached files drives;
  printed = printed written failures sink;
}

-- so by what the traits tell of themselves
abbrev pub seen_by : {F D S : Type 0} → FileGhosts F → Ghosts D → SinkGhosts S → F → D → S → Seen
seen_by of on by files drives sink = seen of.contents of.failed_names on.disks on.told on.unsynced on.faults on.failed_names by.written by.faults files drives sink

-- What was written, and what the images stand for then.

-- All steps were done, and the end. There are bytes for each image that the machine file lists, those that are known of it where such are,
-- and the model begins with them. What was written is exactly the text of its outputs, and each image stands for what is on its drive in
-- the end, and is synced. The image of a drive that it doesn't list is as it was, unless it has the name of a listed one
pub record WritesAll (command : Command) (old new : Seen) : Type 0 where
  pub start : State
  pub begins : BeginsCommand old.host command.form command.name start
  pub text : new.printed.text ≡ old.printed.text ++ closed command.trace (carried (after command.steps start)).outputs
  pub images : StandFor new.disks new.host.images (drives_listed command.form begins.bytes) (drives_left (after command.steps start))
  pub synced : AreSyncedOf new.unsynced (drives_listed command.form begins.bytes)
  pub others : KeepsOthers old.host.images new.host.images old.disks new.disks (drives_listed command.form begins.bytes)

-- And someone saw what the machine was after the last step, before the end
pub record SeesLast (Saw : System → Type 0) (command : Command) (old new : Seen) : Type 0 where
  pub writes : WritesAll command old new
  pub saw : Saw (after command.steps writes.start).system

-- The output failed in a step: there are such bytes, and what was written is the text of the steps before it, and a first part of its own;
-- each image stands for what is on its drive after it. Or it failed so in the end, after all steps
pub record WritesPart (command : Command) (old new : Seen) (step : ℕ) : Type 0 where
  pub start : State
  pub begins : BeginsCommand old.host command.form command.name start
  pub within : step ≤ command.steps
  pub stops : StopsAt (StandFor new.disks new.host.images (drives_listed command.form begins.bytes)) command.trace start command.steps old.printed new.printed step
  pub others : KeepsOthers old.host.images new.host.images old.disks new.disks (drives_listed command.form begins.bytes)

-- A drive failed in a step, in a turn that was left to the call in service, or as it was synced. There are such bytes, and what was written
-- is the text of all before. Each image stands for what was then on its drive, and that of the call which failed for what is within a turn
pub record WritesClosed (command : Command) (old new : Seen) (step : ℕ) : Type 0 where
  pub start : State
  pub begins : BeginsCommand old.host command.form command.name start
  pub within : step ≤ command.steps
  pub stops : ClosesAt (StandFor new.disks new.host.images (drives_listed command.form begins.bytes)) command.trace start command.steps old.printed new.printed step
  pub others : KeepsOthers old.host.images new.host.images old.disks new.disks (drives_listed command.form begins.bytes)
  pub early : step ≡ 0 → new.host.images ≡ old.host.images

-- It ended before the first step: nothing was written, as the output is as it was (`Same`), and so is what is known of images; and no write
-- to a drive was asked for
pub record WritesNothing (Same : Type 0) (old new : Seen) : Type 0 where
  pub text : Same
  pub images : new.host.images ≡ old.host.images
  pub asks : AsksNoWrite old.unsynced new.unsynced

-- So by how it ended
abbrev pub Writes : Type 0 → Command → Seen → Seen → Status → Type 0
Writes Same command old new Ran = WritesAll command old new
Writes Same command old new Usage = WritesNothing Same old new
Writes Same command old new MachineFault = WritesNothing Same old new
Writes Same command old new (ScriptFault line) = WritesNothing Same old new
Writes Same command old new (ImageFault drive cause place) = WritesNothing Same old new
Writes Same command old new (TooLong what) = WritesNothing Same old new
Writes Same command old new ReadFault = WritesNothing Same old new
Writes Same command old new (DiskFault step) = ((step ≡ 0) × WritesNothing Same old new) ⊎ WritesClosed command old new step
Writes Same command old new (WriteFault step) = WritesPart command old new step
Writes Same command old new OutOfMemory = WritesNothing Same old new

-- What failed: a file's name joins the failed ones at a fault of a file alone, and a drive fails at a fault of a drive alone. The output
-- fails at its own fault, and else only as lines are closed after a drive failed
pub record Fails (old new : Seen) (status : Status) : Type 0 where
  pub files : UnlessReadFault status (new.failed.files ≡ old.failed.files)
  pub drives : UnlessDiskFault status (new.failed.drives ≡ old.failed.drives)
  pub output : UnlessWriteFault status (new.printed.faults ≡ old.printed.faults)
  pub write : (step : ℕ) → status ≡ WriteFault step → Rose old.printed.faults new.printed.faults

-- Why: each ending has its reason in what the files and images have, or in what failed (`Ends`). And where they are known, and nothing
-- failed, it is the first that has a reason, or want of memory; so it is where a file, its script or an image is missing
pub record EndsKnown (missing : List ℕ → Type 0) (command : Command) (old new : Seen) (status : Status) : Type 0 where
  pub first : (wanted : Status) → ending old.host command.form command.name ≡ Some wanted → new.failed.files ≡ old.failed.files
      → new.failed.drives.names ≡ old.failed.drives.names → (Rose old.printed.faults new.printed.faults → ⊥)
      → (Rose old.failed.drives.faults new.failed.drives.faults → ⊥) → EndsAs wanted status
  pub file : missing command.name → EndsAs ReadFault status
  pub script : (bytes script : List ℕ) → old.host.contents command.name ≡ Some bytes → length bytes ≤ room_for (input_of command.form)
      → script_name command.form bytes ≡ Some script → missing script → EndsAs ReadFault status
  pub image : ending old.host command.form command.name ≡ Some (DiskFault 0) → new.failed.files ≡ old.failed.files → EndsAs (DiskFault 0) status

-- All that a command promises
pub record Promises (Same : Type 0) (missing : List ℕ → Type 0) (command : Command) (old new : Seen) (status : Status) : Type 0 where
  pub writes : Writes Same command old new status
  pub reason : Ends new.disks old.host command.form command.name old.failed new.failed status
  pub known : EndsKnown missing command old new status
