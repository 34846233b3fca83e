-- What each part of booting a command's machine leaves, whether the machine was booted or how the command ends without one.
use Rattle.std.specs.Prelude.{◌≡◌, ◌≤◌, ◌↔◌, ℕ, List, Option, Some, Result, Vec, Box, IsSome, IfOk, IfErr, IfSome, MatchResult, length}
use Rattle.std.specs.declared.alloc.Global.{Global}
use Rattle.mpm_port.specs.declared.drives.Drives.{Ghosts}
use Rattle.mpm_port.specs.declared.files.Files.{Ghosts as FileGhosts}
use Rattle.mpm_script.specs.declared.event.Timed.{Timed}
use Rattle.mpm_machine.specs.declared.machine.Machine.{Machine}
use Rattle.mpm_machine.specs.Booting.{IsOfProgram}
use Rattle.mpm_machine.specs.Mounting.{HasNoDrive}
use Rattle.mpm_top.specs.declared.status.Input.{Input}
use Rattle.mpm_top.specs.declared.status.Status.{Status}
use Rattle.mpm_top.specs.declared.status.Status.TheVariants.{ReadFault, OutOfMemory}
use Rattle.mpm_top.specs.declared.words.Form.{Form}
use Rattle.mpm_top.specs.declared.words.Form.TheVariants.{Program, Run}
use Rattle.mpm_top.specs.Beginnings.{host, failed, input_of, room_for, script_name, Holds, HoldsEvents, Scripted, Starts, StartsOf}
use Rattle.mpm_top.specs.Endings.{Unfetched, Unread, Ends, EndsAfter, EndsAs}
use Rattle.mpm_top.specs.Parts.{LeavesFiles, LeavesHost, IsReadyToRun}

-- a command's machine was booted: it begins as the command does, and may be run; or it wasn't, for a reason. Where the file or its script
-- is missing, that is the reason. A program is booted without a drive
pub record BootsCommand {F D : Type 0} (of : FileGhosts F) (on : Ghosts D) (form : Form) (name : List ℕ) (old_files new_files : F) (old_drives new_drives : D) (result : Result (Box Machine Global) Status) : Type 0 where
  pub starts : IfOk result (λ machine. Starts (host of.contents on.told old_files old_drives) form name machine.value.system machine.value.bdos (on.disks new_drives))
  pub ready : IfOk result (λ machine. IsReadyToRun on old_drives new_drives machine.value)
  pub leaves : LeavesHost of on old_files new_files old_drives new_drives result
  pub reason : IfErr result (λ status. Ends (on.disks new_drives) (host of.contents on.told old_files old_drives) form name
      (failed of.failed_names on.faults on.failed_names old_files old_drives) (failed of.failed_names on.faults on.failed_names new_files new_drives) status)
  pub missing : of.missing old_files name → MatchResult result (λ _. ⊥) (λ status. EndsAs ReadFault status)
  pub missing_script : (bytes script : List ℕ) → of.contents old_files name ≡ Some bytes → length bytes ≤ room_for (input_of form)
      → script_name form bytes ≡ Some script → of.missing old_files script → MatchResult result (λ _. ⊥) (λ status. EndsAs ReadFault status)
  pub program : form ≡ Program → new_drives ≡ old_drives
  pub no_drive : form ≡ Program → IfOk result (λ machine. HasNoDrive machine.value.bdos.mounted)

-- the bytes of a file that is an input were fetched, or not, for a reason. Which files are missing stays
pub record FetchesInput {F : Type 0} (of : FileGhosts F) (input : Input) (name : List ℕ) (old new : F) (result : Result (Vec ℕ Global) Status) : Type 0 where
  pub contents_are : IfOk result (λ bytes. Holds (of.contents old) input name bytes.items)
  pub leaves : LeavesFiles of old new result
  pub reason : IfErr result (λ status. Unfetched (of.contents old) input name (of.failed_names old) (of.failed_names new) status)
  pub missing : of.missing old name → MatchResult result (λ _. ⊥) (λ status. EndsAs ReadFault status)
  pub stays_missing : (other : List ℕ) → of.missing new other ↔ of.missing old other

-- the machine of a program's bytes was booted; or there was no memory
pub record BootsBytes (bytes : List ℕ) (result : Result (Box Machine Global) Status) : Type 0 where
  pub program : IfOk result (λ machine. IsOfProgram bytes machine.value)
  pub memory : IfErr result (λ status. status ≡ OutOfMemory)

-- the machine of a machine file's bytes was booted: it begins by them and by the script that they name, and may be run; or it wasn't, for a
-- reason
pub record BootsFile {F D : Type 0} (of : FileGhosts F) (on : Ghosts D) (bytes : List ℕ) (old_files new_files : F) (old_drives new_drives : D) (result : Result (Box Machine Global) Status) : Type 0 where
  pub starts : IfOk result (λ machine. StartsOf (host of.contents on.told old_files old_drives) Run (λ content. content ≡ bytes)
      machine.value.system machine.value.bdos (on.disks new_drives))
  pub ready : IfOk result (λ machine. IsReadyToRun on old_drives new_drives machine.value)
  pub leaves : LeavesHost of on old_files new_files old_drives new_drives result
  pub reason : IfErr result (λ status. EndsAfter (on.disks new_drives) (host of.contents on.told old_files old_drives) Run (λ content. content ≡ bytes)
      (failed of.failed_names on.faults on.failed_names old_files old_drives) (failed of.failed_names on.faults on.failed_names new_files new_drives) status)
  pub missing : (script : List ℕ) → script_name Run bytes ≡ Some script → of.missing old_files script
      → MatchResult result (λ _. ⊥) (λ status. EndsAs ReadFault status)

-- the script that a machine file names was read, or not, for a reason. Where none is named there are no events
pub record ReadsScript {F : Type 0} (of : FileGhosts F) (named_script : Option (List ℕ)) (old new : F) (result : Result (List Timed) Status) : Type 0 where
  pub scripted : IfOk result (λ events. Scripted (of.contents old) named_script events)
  pub leaves : LeavesFiles of old new result
  pub reason : IfErr result (λ status. IfSome named_script (λ name. Unread (of.contents old) name (of.failed_names old) (of.failed_names new) status))
  pub named : IfErr result (λ _. IsSome named_script)
  pub missing : (script : List ℕ) → named_script ≡ Some script → of.missing old script → MatchResult result (λ _. ⊥) (λ status. EndsAs ReadFault status)

-- the script of a name was read, or not, for a reason
pub record ReadsNamed {F : Type 0} (of : FileGhosts F) (name : List ℕ) (old new : F) (result : Result (List Timed) Status) : Type 0 where
  pub events : IfOk result (λ script. HoldsEvents (of.contents old) name script)
  pub leaves : LeavesFiles of old new result
  pub reason : IfErr result (λ status. Unread (of.contents old) name (of.failed_names old) (of.failed_names new) status)
  pub missing : of.missing old name → MatchResult result (λ _. ⊥) (λ status. EndsAs ReadFault status)
