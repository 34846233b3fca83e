-- What mounting the drives of a machine file leaves and answers.
use Rattle.std.specs.Prelude.{◌≡◌, ◌≢◌, ℕ, true, false, List, [], Result, IfOk, IfErr, OnOk}
use Rattle.mpm_port.specs.declared.drives.Drives.{Ghosts}
use Rattle.mpm_machine_file.specs.declared.lists.DriveSpec.{DriveSpec}
use Rattle.mpm_mount.specs.Directories.{Directory}
use Rattle.mpm_drives.specs.declared.error.BootError.{BootError}
use Rattle.mpm_drives.specs.Mounted.{number_of, IsMountedAs, AreMounted, AreSynced, OnlyDrive, SameBeside, AsksNothing}
use Rattle.mpm_drives.specs.Stopping.{Failures, StopsMounting, Stops}

-- what is seen of the failures of drives
abbrev pub failures_of : {D : Type 0} → Ghosts D → D → Failures
failures_of of drives = record { faults = of.faults drives; names = of.failed_names drives }

-- one drive of a machine file was mounted, or why not; no other drive has changed
pub record MountsDrive {D : Type 0} (of : Ghosts D) (spec : DriveSpec) (old new : D) (result : Result Directory BootError) : Type 0 where
  pub mounted : IfOk result (λ d. IsMountedAs (of.disks new) (of.told old) spec d)
  pub count : OnOk result (of.faults new ≡ of.faults old)
  pub names : OnOk result (of.failed_names new ≡ of.failed_names old)
  pub err : IfErr result (λ error. StopsMounting (of.disks new) (of.told old) spec (failures_of of old) (failures_of of new) error)
  pub fresh : OnOk result (of.unsynced new (number_of spec) ≡ false)
  pub asks : of.unsynced new (number_of spec) ≡ true → of.unsynced old (number_of spec) ≡ true
  pub unsynced : (other : ℕ) → other ≢ number_of spec → of.unsynced new other ≡ of.unsynced old other
  pub only : OnlyDrive (number_of spec) (of.disks old) (of.disks new)
  pub told : of.told new ≡ of.told old

-- the drives of a machine file were mounted, or why not; drives that it doesn't list are as they were
pub record MountsDrives {D : Type 0} (of : Ghosts D) (specs : List DriveSpec) (old new : D) (result : Result (List Directory) BootError) : Type 0 where
  pub mounted : IfOk result (λ ds. AreMounted (of.disks new) (of.told old) specs ds)
  pub count : OnOk result (of.faults new ≡ of.faults old)
  pub names : OnOk result (of.failed_names new ≡ of.failed_names old)
  pub err : IfErr result (λ error. Stops (of.disks new) (of.told old) specs (failures_of of old) (failures_of of new) error)
  pub told : of.told new ≡ of.told old
  pub beside : SameBeside specs (of.disks old) (of.disks new)
  pub fresh : IfOk result (λ ds. AreSynced (of.unsynced new) ds)
  pub asks : AsksNothing specs (of.unsynced old) (of.unsynced new)
  pub none : specs ≡ [] → new ≡ old
