-- What the parts of a run ask and leave, of a command's machine and of a seed's.
use Rattle.std.specs.Prelude.{◌≡◌, ◌≢◌, ◌≤◌, ◌<◌, ◌↔◌, ◌++◌, ℕ, true, List, Option, Some, None, Result, IfSome, OnOk, OnErr, option_map}
use Rattle.mpm_script.specs.declared.line.TheConstants.{GREATEST_STEP}
use Rattle.mpm_script.specs.declared.event.Timed.{Timed}
use Rattle.mpm_base.specs.declared.kind.Kind.TheVariants.{Hd4}
use Rattle.mpm_port.specs.Causes.{Rose, HasCause}
use Rattle.mpm_port.specs.Disks.{Disks, size_of, sector_of}
use Rattle.mpm_port.specs.MemoryDisks.{MemoryDisks, disks_of}
use Rattle.mpm_port.specs.Texts.{AppendsPart}
use Rattle.mpm_port.specs.declared.sink.Sink.{Ghosts}
use Rattle.mpm_render.specs.Outputs.{closed}
use Rattle.mpm_render.specs.Shown.{KeptLines}
use Rattle.mpm_machine_file.specs.declared.machine_file.MachineFile.{MachineFile}
use Rattle.mpm_generator.specs.Machines.{machine, script, drives_of}
use Rattle.mpm_mount.specs.Directories.{Directory, Stands}
use Rattle.mpm_mount.specs.Drives.{Drive, visible_of}
use Rattle.mpm_drives.specs.Mounted.{NumberedDrive, placed}
use Rattle.mpm_directories.specs.Places.{directory_at}
use Rattle.mpm_bdos.specs.Turns.{drive_and_kind}
use Rattle.mpm_machine.specs.declared.machine.Machine.{Machine}
use Rattle.mpm_machine.specs.declared.machine.StepFault.{StepFault}
use Rattle.mpm_machine.specs.declared.machine.StepFault.TheVariants.{WriteFault as SinkFailed}
use Rattle.mpm_machine.specs.State.{State}
use Rattle.mpm_machine.specs.Files.{Between, StandsForFiles}
use Rattle.mpm_machine.specs.Mounting.{untouched}
use Rattle.mpm_machine.specs.After.{after, ShowsBefore}
use Rattle.mpm_machine.specs.Settling.{carried}
use Rattle.mpm_top.specs.declared.status.Status.{Status}
use Rattle.mpm_top.specs.declared.status.Status.TheVariants.{Usage, WriteFault}
use Rattle.mpm_top.specs.declared.seeds.Seeded.{Seeded}
use Rattle.mpm_top.specs.declared.seeds.Found.{Found}
use Rattle.mpm_top.specs.Words.{steps_of}
use Rattle.mpm_top.specs.Beginnings.{begun, IsAtStart}
use Rattle.mpm_top.specs.Runs.{printed, drives_left, ClosesAfter}
use Rattle.mpm_top.specs.Endings.{IsRefusal, UnlessWriteFault}
use Rattle.mpm_top.specs.Data.{HasDriveA, OnlyRead, data_file, first_of, weighed}
use Rattle.mpm_top.specs.Seeds.{seed_of, seeded, seeded_of, report, EndsSeeded}

-- Of a command's machine.

-- a machine that begins may be run for so many steps, and its steps may be counted by a ledger
pub record MayRunToEnd {D Name : Type 0} (disks : D → Disks) (begun_machine : Machine) (steps : ℕ) (drives : D) (blank_name ledger_name : Name) (blank_parts ledger_parts : ℕ) : Type 0 where
  pub begins : IsAtStart disks begun_machine drives
  pub limit : steps ≤ GREATEST_STEP
  pub name : blank_name ≡ ledger_name
  pub parts : blank_parts ≡ ledger_parts
  pub some_part : 0 < ledger_parts

-- unfinished lines are closed where a drive failed, and where the sink did nothing is written
pub record ClosesUnfinished {S : Type 0} (of : Ghosts S) (fault : StepFault) (kept : KeptLines) (old new : S) : Type 0 where
  pub left : fault ≡ SinkFailed → new ≡ old
  pub closes : (s : State) (first : List ℕ) → ShowsBefore fault kept (of.written old) s first
      → ClosesAfter fault kept.trace s (record { text = first; faults = of.faults old }) (printed of.written of.faults new)

-- a number of steps is said by a word, at most the greatest
pub record SaysSteps (word : List ℕ) (result : Option ℕ) : Type 0 where
  pub number : result ≡ steps_of word
  pub limit : IfSome result (λ n. n ≤ GREATEST_STEP)

-- Of a seed's machine.

-- a seed of 31 bits is said by a word
pub record SaysSeed (word : List ℕ) (result : Option ℕ) : Type 0 where
  pub number : result ≡ seed_of word
  pub limit : IfSome result (λ seed. seed ≤ 2147483647)

-- a seed and a number of steps are said by two words
pub record SaysSeeded (seed_word steps_word : List ℕ) (result : Option Seeded) : Type 0 where
  pub is : result ≡ seeded (seed_of seed_word) (steps_of steps_word)
  pub seed : IfSome result (λ asked. asked.seed < 2147483648)
  pub steps : IfSome result (λ asked. asked.steps ≤ GREATEST_STEP)

-- a machine file, a script and drives are those that a seed makes
pub record AreMadeOf (seed : ℕ) (file : MachineFile) (events : List Timed) (images : MemoryDisks) : Type 0 where
  pub machine : file ≡ machine
  pub script : events ≡ script
  pub drives : images ≡ drives_of seed

-- the run of a seed's machine was reported, or not. The output is as it was (`Same`) where the run is refused
pub record ReportsSeeded (Same : Type 0) (asked : Seeded) (first written : List ℕ) (before now : ℕ) (status : Status) : Type 0 where
  pub usage : status ≢ Usage
  pub ends : EndsSeeded asked first written before now status
  pub write : (step : ℕ) → status ≡ WriteFault step → Rose before now
  pub count : UnlessWriteFault status (now ≡ before)
  pub nothing : IsRefusal status → Same

-- so it was of what words ask, which is no form of `gen` exactly where the usage is told
pub record AnswersSeeded (Same : Type 0) (words : List (List ℕ)) (first written : List ℕ) (before now : ℕ) (status : Status) : Type 0 where
  pub usage : (status ≡ Usage) ↔ (seeded_of words ≡ None)
  pub ends : (asked : Seeded) → seeded_of words ≡ Some asked → EndsSeeded asked first written before now status
  pub write : (step : ℕ) → status ≡ WriteFault step → Rose before now
  pub count : UnlessWriteFault status (now ≡ before)
  pub nothing : IsRefusal status → Same

-- a report is written whole, or in a part where the sink failed
pub record PutsReport {S A E : Type 0} (of : Ghosts S) (found : Found) (old new : S) (result : Result A E) : Type 0 where
  pub ok : OnOk result (of.written new ≡ of.written old ++ report found)
  pub err : OnErr result (AppendsPart (of.written old) (report found) (of.written new))
  pub cause : HasCause (of.faults old) (of.faults new) result

-- drive A is mounted, an hd4 disk of its full size
pub record HasHd4A (disks : Disks) (mounted : List (Option Directory)) : Type 0 where
  pub size : size_of disks 0 ≡ Some 4194304
  pub drive : option_map drive_and_kind (directory_at mounted 0) ≡ Some (0, Hd4)

-- a seed's machine that begins may be run for so many steps
pub record MayFindOf (begun_machine : Machine) (steps : ℕ) (drives : MemoryDisks) : Type 0 where
  pub begins : IsAtStart disks_of begun_machine drives
  pub limit : steps ≤ GREATEST_STEP
  pub size : size_of (disks_of drives) 0 ≡ Some 4194304
  pub drive : option_map drive_and_kind (directory_at begun_machine.bdos.mounted 0) ≡ Some (0, Hd4)

-- it may be run so, and its steps may be counted by a ledger
pub record MayRunCounted {Name : Type 0} (begun_machine : Machine) (steps : ℕ) (drives : MemoryDisks) (blank_name ledger_name : Name) (blank_parts ledger_parts : ℕ) : Type 0 where
  pub begins : IsAtStart disks_of begun_machine drives
  pub limit : steps ≤ GREATEST_STEP
  pub drive : option_map drive_and_kind (directory_at begun_machine.bdos.mounted 0) ≡ Some (0, Hd4)
  pub name : blank_name ≡ ledger_name
  pub parts : blank_parts ≡ ledger_parts
  pub some_part : 0 < ledger_parts

-- it was run so and to its end: its text was counted, its drive A stands for what is then there, and no size has changed
pub record RunsCounted (steps : ℕ) (old new : Machine) (old_drives new_drives : MemoryDisks) (counted now_counted : List ℕ) : Type 0 where
  pub text : (on : List NumberedDrive) → StandsForFiles old.system.kernel.disk old.bdos (disks_of old_drives) (Between (untouched (placed on)))
      → now_counted ≡ counted ++ closed true (carried (after steps (begun old.system on))).outputs
  pub files : (on : List NumberedDrive) → StandsForFiles old.system.kernel.disk old.bdos (disks_of old_drives) (Between (untouched (placed on)))
      → HasDriveA (disks_of new_drives) (directory_at new.bdos.mounted 0) (drives_left (after steps (begun old.system on)))
  pub drive : option_map drive_and_kind (directory_at new.bdos.mounted 0) ≡ Some (0, Hd4)
  pub sizes : (number : ℕ) → size_of (disks_of new_drives) number ≡ size_of (disks_of old_drives) number

-- Of the records of DATA.DAT.

-- a record's part of the sum was found, by its first byte, and drives were read alone
pub record WeighsRecord (old new : Disks) (mounted : Directory) (place result : ℕ) : Type 0 where
  pub part : (image : List ℕ) (files : Drive) → old.image 0 ≡ Some image → Stands image mounted files → result ≡ weighed files place
  pub small : result ≤ 8160
  pub read : OnlyRead old new

-- its first byte was read
pub record ReadsFirst (old new : Disks) (mounted : Directory) (place result : ℕ) : Type 0 where
  pub byte : (image : List ℕ) (files : Drive) → old.image 0 ≡ Some image → Stands image mounted files
      → result ≡ first_of (visible_of files data_file place)
  pub read : OnlyRead old new

-- a sector of drive A was read
pub record ReadsSectorOfA (old new : Disks) (sector : ℕ) (out : List ℕ) : Type 0 where
  pub bytes : (image : List ℕ) → old.image 0 ≡ Some image → out ≡ sector_of image sector
  pub read : OnlyRead old new
