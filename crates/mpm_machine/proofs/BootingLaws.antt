-- How a machine stands on the drives that were mounted for it.
use Rattle.std.proofs.Common.{◌≡◌, ℕ, Bool, List, Result, Ok, Err, IfOk, sym, subst}
use Rattle.std.specs.Prelude.{IfErr}
use Rattle.std.specs.Global.{Box}
use Rattle.mpm_port.specs.Disks.{Disks}
use Rattle.mpm_port.specs.declared.drives.Drives.{Ghosts}
use Rattle.mpm_machine_file.specs.declared.lists.DriveSpec.{DriveSpec}
use Rattle.mpm_machine_file.specs.declared.machine_file.MachineFile.{MachineFile}
use Rattle.mpm_machine_file.specs.MachineFiles.{IsMachine}
use Rattle.mpm_mount.specs.Directories.{Directory}
use Rattle.mpm_drives.specs.Images.{Images}
use Rattle.mpm_drives.specs.Mounted.{AreMounted, AreSynced, placed}
use Rattle.mpm_drives.specs.Stopping.{Stops}
use Rattle.mpm_drives.specs.declared.error.BootError.{BootError}
use Rattle.mpm_drives.specs.declared.error.BootError.TheVariants.{OutOfMemory}
use Rattle.mpm_service.specs.Disk.{no_service}
use Rattle.mpm_directories.specs.Places.{in_places}
use Rattle.mpm_bdos.specs.Serving.{nothing_kept}
use Rattle.mpm_machine.specs.declared.machine.Machine.{Machine}
use Rattle.mpm_machine.specs.Files.{Between}
use Rattle.mpm_machine.specs.Mounting.{untouched}
use Rattle.mpm_machine.specs.Booting.{IsBootedOn, failures, LeavesUnlisted}
use Rattle.mpm_machine.proofs.MountedLaws.{mounted_here, holds_mounted, fresh_here}
use Rattle.mpm_machine.proofs.DriveLaws.{mounted_drives}
use Rattle.mpm_machine.proofs.SettlingLaws.{nobody_yet}
use Rattle.mpm_machine.proofs.FirstFiles.{opens_on}

pub stands_bare : {D : Type 0} (disks : D → Disks) (images : Images) (owes : ℕ → Bool) (file : MachineFile) {read : List DriveSpec} (ds items : List Directory) (drives : D) (r : Result (Box Machine) BootError)
    → IsMachine file → read ≡ file.drives → AreMounted (disks drives) images read ds → AreSynced owes ds → items ≡ ds
    → IfOk r (λ machine. machine.value.bdos ≡ nothing_kept (in_places items)) → IfOk r (λ machine. machine.value.system.kernel.disk ≡ no_service file.disk_turn)
    → IfOk r (λ machine. IsBootedOn disks images owes file.drives machine.value drives)
stands_bare disks images owes file ds items drives (Ok boxed) is same mounted fresh items_are kept idle =
    let machine = boxed.value in
    let has = mounted_here (disks drives) images file.drives ds items machine.bdos same mounted items_are kept in
    let opens = opens_on (disks drives) images file.drives machine.system.kernel.disk machine.bdos has (nobody_yet machine.system.kernel.disk file.disk_turn idle) in
    record {
      mounted = has;
      each = mounted_drives (disks drives) images file machine.bdos is has;
      files = opens;
      holds = record {
        calls = holds_mounted disks images file.drives machine.system.kernel file.disk_turn machine.bdos drives is.images idle has;
        files = Between (untouched (placed opens.drives));
        stands = opens.stand;
      };
      fresh = fresh_here owes ds items machine.bdos fresh items_are kept;
    }
stands_bare disks images owes file ds items drives (Err error) is same mounted fresh items_are kept idle = tt

-- all drives were mounted, and what came after failed only for want of memory
pub leaves_mounted : {D A B : Type 0} {of : Ghosts D} {specs : List DriveSpec} {old new : D} (x : A) (r : Result B BootError) → LeavesUnlisted of specs old new (Ok x)
    → IfErr r (λ error. error ≡ OutOfMemory) → LeavesUnlisted of specs old new r
leaves_mounted x (Ok y) left memory =
    record { count = left.count; names = left.names; err = tt; told = left.told; beside = left.beside; asks = left.asks; none = left.none }
leaves_mounted {of = of} {specs = specs} {old = old} {new = new} x (Err error) left memory =
    let same : failures of new ≡ failures of old = λ i. record { faults = left.count i; names = left.names i } in
    record {
      count = tt;
      names = tt;
      err = subst (λ (e : BootError). Stops (of.disks new) (of.told old) specs (failures of old) (failures of new) e) (sym memory) same;
      told = left.told;
      beside = left.beside;
      asks = left.asks;
      none = left.none;
    }
