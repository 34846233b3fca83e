-- What the parts of a command leave of files, drives and output, each as one relation between what is there before it and after it.
use Rattle.std.specs.Prelude.{◌≡◌, ◌≢◌, ℕ, ◌≤◌, List, Some, Result, MatchResult, OnOk, IfErr, length}
use Rattle.mpm_port.specs.declared.drives.Drives.{Ghosts}
use Rattle.mpm_port.specs.declared.files.Files.{Ghosts as FileGhosts}
use Rattle.mpm_drives.specs.Mounted.{NumberedDrive, AsksNoWrite, placed}
use Rattle.mpm_machine_file.specs.declared.lists.DriveSpec.{DriveSpec}
use Rattle.mpm_bdos.specs.Syncing.{AreMountedSynced}
use Rattle.mpm_system.specs.declared.system.System.{System}
use Rattle.mpm_machine.specs.declared.machine.Machine.{Machine}
use Rattle.mpm_machine.specs.declared.machine.RunFault.{RunFault}
use Rattle.mpm_machine.specs.Files.{Between, StandsForFiles}
use Rattle.mpm_machine.specs.Faults.{FailureCounts}
use Rattle.mpm_machine.specs.Booting.{failures}
use Rattle.mpm_machine.specs.Mounting.{HasDrives, untouched}
use Rattle.mpm_machine.specs.After.{after}
use Rattle.mpm_top.specs.declared.status.Status.{Status}
use Rattle.mpm_top.specs.declared.status.Status.TheVariants.{Ran, Usage, ReadFault}
use Rattle.mpm_top.specs.declared.words.Asked.{Asked}
use Rattle.mpm_top.specs.declared.words.Form.TheVariants.{Program}
use Rattle.mpm_top.specs.Words.{Command}
use Rattle.mpm_top.specs.Beginnings.{begun, input_of, room_for, script_name, IsAtStart}
use Rattle.mpm_top.specs.Endings.{IsEarly, IsRefusal, UnlessReadFault, UnlessDiskFault, Ends, EndsAs}
use Rattle.mpm_top.specs.Runs.{Printed, Causes, KeepsUnmounted, RunLeaves, RunsOut, StandFor, StopsInRun, StopsRunBy, SyncsAttached}
use Rattle.mpm_top.specs.Promises.{Seen, Writes, SeesLast, Fails}

-- a file was read, or not: it ends so as a refusal, a name joins the failed ones only where that is a fault of a file, and what files hold
-- stays
pub record LeavesFiles {F A : Type 0} (of : FileGhosts F) (old new : F) (result : Result A Status) : Type 0 where
  pub refusal : IfErr result (λ status. IsRefusal status)
  pub names : MatchResult result (λ _. of.failed_names new ≡ of.failed_names old) (λ status. UnlessReadFault status (of.failed_names new ≡ of.failed_names old))
  pub files : (other : List ℕ) → of.contents new other ≡ of.contents old other

-- a machine was booted, or not: that ends before the first step, and a name joins the failed ones or a drive fails only where the ending
-- says so. What files hold and what is known of images stays, and no write is asked for
pub record LeavesHost {F D A : Type 0} (of : FileGhosts F) (on : Ghosts D) (old_files new_files : F) (old_drives new_drives : D) (result : Result A Status) : Type 0 where
  pub early : IfErr result (λ status. IsEarly status)
  pub names : MatchResult result (λ _. of.failed_names new_files ≡ of.failed_names old_files) (λ status. UnlessReadFault status (of.failed_names new_files ≡ of.failed_names old_files))
  pub files : (other : List ℕ) → of.contents new_files other ≡ of.contents old_files other
  pub drives : MatchResult result (λ _. failures on new_drives ≡ failures on old_drives) (λ status. UnlessDiskFault status (failures on new_drives ≡ failures on old_drives))
  pub told : on.told new_drives ≡ on.told old_drives
  pub asks : AsksNoWrite (on.unsynced old_drives) (on.unsynced new_drives)

-- a machine was booted: it is at its start, its drives are synced, and others are as they were
pub record IsReadyToRun {D : Type 0} (on : Ghosts D) (old new : D) (machine : Machine) : Type 0 where
  pub begins : IsAtStart on.disks machine new
  pub beside : KeepsUnmounted (on.disks old) (on.disks new) machine.bdos.mounted
  pub fresh : AreMountedSynced (on.unsynced new) machine.bdos.mounted

-- a machine that begins was run for so many steps and to its end, and seen after its last step; or it stopped
pub record RunsToEnd {D A : Type 0} (on : Ghosts D) (Saw : System → Type 0) (asked : Asked) (machine : Machine) (old_drives new_drives : D) (old new : Printed) (result : Result A RunFault) : Type 0 where
  pub runs : (specs : List DriveSpec) (drives : List NumberedDrive) → HasDrives (on.disks old_drives) specs machine.bdos.mounted
      → StandsForFiles machine.system.kernel.disk machine.bdos (on.disks old_drives) (Between (untouched (placed drives)))
      → OnOk result (RunsOut (StandFor (on.disks new_drives) (on.told new_drives) specs) asked.trace (begun machine.system drives) asked.steps old new)
  pub stops : (specs : List DriveSpec) (drives : List NumberedDrive) → HasDrives (on.disks old_drives) specs machine.bdos.mounted
      → StandsForFiles machine.system.kernel.disk machine.bdos (on.disks old_drives) (Between (untouched (placed drives)))
      → IfErr result (λ error. StopsRunBy (StandFor (on.disks new_drives) (on.told new_drives) specs) error.fault asked.trace (begun machine.system drives) asked.steps old new error.step)
  pub looked : (drives : List NumberedDrive) → StandsForFiles machine.system.kernel.disk machine.bdos (on.disks old_drives) (Between (untouched (placed drives)))
      → OnOk result (Saw (after asked.steps (begun machine.system drives)).system)
  pub leaves : RunLeaves on.disks on.told on.failed_names machine.bdos.mounted old_drives new_drives
  pub synced : OnOk result (AreMountedSynced (on.unsynced new_drives) machine.bdos.mounted)
  pub stopped : IfErr result (λ error. StopsInRun on.told machine.bdos.mounted asked.steps old_drives new_drives error)
  pub cause :
      let before : FailureCounts = record { sink = old.faults; drives = on.faults old_drives } in
      let behind : FailureCounts = record { sink = new.faults; drives = on.faults new_drives } in
      MatchResult result (λ _. behind ≡ before) (λ error. Causes error.fault before behind)

-- a command was done, or refused, or it stopped. The output is as it was (`Same`), and drives are (`Still`), where the record says so
pub record DoesCommand (Same Still : Type 0) (Missing : List ℕ → Type 0) (Saw : System → Type 0) (command : Command) (old new : Seen) (status : Status) : Type 0 where
  pub usage : status ≢ Usage
  pub writes : Writes Same command old new status
  pub looked : status ≡ Ran → SeesLast Saw command old new
  pub program : command.form ≡ Program → Still
  pub fails : Fails old new status
  pub reason : Ends new.disks old.host command.form command.name old.failed new.failed status
  pub missing : Missing command.name → EndsAs ReadFault status
  pub missing_script : (bytes script : List ℕ) → old.host.contents command.name ≡ Some bytes → length bytes ≤ room_for (input_of command.form)
      → script_name command.form bytes ≡ Some script → Missing script → EndsAs ReadFault status
  pub nothing : IsRefusal status → Same
  pub synced : status ≡ Ran → SyncsAttached old.disks new.disks new.unsynced
  pub files : (other : List ℕ) → new.host.contents other ≡ old.host.contents other
