-- What booting a machine leaves of its drives, and how the machine stands on them.
use Rattle.std.specs.Prelude.{◌≡◌, ℕ, Bool, List, [], Result, OnOk, IfErr, length}
use Rattle.mpm_port.specs.Disks.{Disks}
use Rattle.mpm_port.specs.declared.drives.Drives.{Ghosts}
use Rattle.mpm_machine_file.specs.declared.lists.DriveSpec.{DriveSpec}
use Rattle.mpm_drives.specs.Images.{Images}
use Rattle.mpm_drives.specs.Mounted.{SameBeside, AsksNothing, placed}
use Rattle.mpm_drives.specs.Stopping.{Failures, Stops}
use Rattle.mpm_drives.specs.declared.error.BootError.{BootError}
use Rattle.mpm_bdos.specs.Syncing.{AreMountedSynced}
use Rattle.mpm_machine.specs.declared.machine.Machine.{Machine}
use Rattle.mpm_machine.specs.Holding.{HoldsDrives}
use Rattle.mpm_machine.specs.Mounting.{HasMounted, HasDrives, OpensOn, untouched}
use Rattle.mpm_system.specs.declared.system.System.{System}
use Rattle.mpm_system.specs.Whole.{IsWhole, NoCompletions}
use Rattle.mpm_system.specs.Opening.{OnlyHas, with_residents, opening_system}
use Rattle.mpm_queues.specs.Queues.{no_queues}
use Rattle.mpm_service.specs.Disk.{no_service}
use Rattle.mpm_directories.specs.Places.{in_places}
use Rattle.mpm_bdos.specs.Serving.{nothing_kept}
use Rattle.mpm_machine.specs.Files.{Between, StandsForFiles}

-- the drives of a machine file are mounted and synced, with the images that are known of their names, and nothing is open, locked, marked,
-- sought or protected
pub record IsBootedOn {D : Type 0} (disks : D → Disks) (images : Images) (owes : ℕ → Bool) (specs : List DriveSpec) (machine : Machine) (drives : D) : Type 0 where
  pub mounted : HasMounted (disks drives) images specs machine.bdos
  pub each : HasDrives (disks drives) specs machine.bdos.mounted
  pub files : OpensOn images specs machine.system.kernel.disk machine.bdos (disks drives)
  pub holds : HoldsDrives disks machine.system.kernel machine.bdos drives
  pub fresh : AreMountedSynced owes machine.bdos.mounted

-- the failures of drives as they are seen
abbrev pub failures : {D : Type 0} → Ghosts D → D → Failures
failures of drives = record { faults = of.faults drives; names = of.failed_names drives }

-- whether the machine was booted or not, no image is known otherwise than before, and a drive that the machine file doesn't list is as it
-- was. It wasn't booted because of the first drive that couldn't be mounted, or for want of memory; else no drive failed
pub record LeavesUnlisted {D A : Type 0} (of : Ghosts D) (specs : List DriveSpec) (old new : D) (result : Result A BootError) : Type 0 where
  pub count : OnOk result (of.faults new ≡ of.faults old)
  pub names : OnOk result (of.failed_names new ≡ of.failed_names old)
  pub err : IfErr result (λ error. Stops (of.disks new) (of.told old) specs (failures of old) (failures of new) error)
  pub told : of.told new ≡ of.told old
  pub beside : SameBeside specs (of.disks old) (of.disks new)
  pub asks : AsksNothing specs (of.unsynced old) (of.unsynced new)
  pub none : specs ≡ [] → new ≡ old

-- residents may begin: so many consoles are there, no queue was made, and nobody resides yet
pub record MayBeginResidents (count : ℕ) (system : System) : Type 0 where
  pub whole : IsWhole system
  pub no_completions : NoCompletions system
  pub consoles : count ≡ length system.kernel.units.consoles
  pub queues : OnlyHas no_queues system.kernel
  pub nobody : system.residents ≡ []

-- they have begun, without a step and with nothing at the disk, and what is kept of file calls stays
pub record HasBegunResidents (consoles : ℕ) (spool sched : Bool) (old new : Machine) : Type 0 where
  pub system : new.system ≡ with_residents consoles spool sched old.system
  pub whole : IsWhole new.system
  pub no_completions : NoCompletions new.system
  pub disk : new.system.kernel.disk ≡ old.system.kernel.disk
  pub steps : new.system.steps ≡ old.system.steps
  pub bdos : new.bdos ≡ old.bdos

-- the machine of a program: its system is that with which one begins, and no drive is mounted
pub record IsOfProgram (program : List ℕ) (machine : Machine) : Type 0 where
  pub opening : machine.system ≡ opening_system program
  pub start : machine.system.steps ≡ 0
  pub whole : IsWhole machine.system
  pub no_completions : NoCompletions machine.system
  pub disk : machine.system.kernel.disk ≡ no_service 0
  pub bdos : machine.bdos ≡ nothing_kept (in_places [])
  pub files : (disks : Disks) → StandsForFiles machine.system.kernel.disk machine.bdos disks (Between (untouched (placed [])))
