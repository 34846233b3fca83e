-- What each part of booting leaves of the machine and of its drives, whether it was booted or not.
use Rattle.std.specs.Prelude.{◌≡◌, ℕ, List, Some, Result, Box, IfOk, IfErr}
use Rattle.std.specs.declared.alloc.Global.{Global}
use Rattle.mpm_base.specs.declared.number.Name8.{Name8}
use Rattle.mpm_port.specs.declared.drives.Drives.{Ghosts}
use Rattle.mpm_script.specs.declared.event.Timed.{Timed}
use Rattle.mpm_machine_file.specs.declared.machine_file.MachineFile.{MachineFile}
use Rattle.mpm_procs.specs.Table.{lowest_free}
use Rattle.mpm_mount.specs.Directories.{Directory}
use Rattle.mpm_service.specs.Disk.{no_service}
use Rattle.mpm_drives.specs.declared.error.BootError.{BootError}
use Rattle.mpm_drives.specs.declared.error.BootError.TheVariants.{OutOfMemory}
use Rattle.mpm_directories.specs.Places.{in_places}
use Rattle.mpm_bdos.specs.Serving.{Kept, nothing_kept}
use Rattle.mpm_system.specs.declared.system.System.{System}
use Rattle.mpm_system.specs.Opening.{booted, IsBare, with_placed}
use Rattle.mpm_machine.specs.declared.machine.Machine.{Machine}
use Rattle.mpm_machine.specs.Booting.{IsBootedOn, LeavesUnlisted, IsOfProgram}

-- a machine without processes was made on the mounted drives of its file, with nothing open; its disk serves nobody
pub record BootsBare {D : Type 0} (of : Ghosts D) (file : MachineFile) (events : List Timed) (old new : D) (result : Result (Box Machine Global) BootError) : Type 0 where
  pub booted : IfOk result (λ machine. machine.value.system ≡ booted file events)
  pub bare : IfOk result (λ machine. IsBare machine.value.system)
  pub disk : IfOk result (λ machine. machine.value.system.kernel.disk ≡ no_service file.disk_turn)
  pub stands : IfOk result (λ machine. IsBootedOn of.disks (of.told old) (of.unsynced new) file.drives machine.value new)
  pub leaves : LeavesUnlisted of file.drives old new result

-- one was made with these directories of its drives, or there was no memory for it
pub record MakesBare (file : MachineFile) (events : List Timed) (mounted : List Directory) (result : Result (Box Machine Global) BootError) : Type 0 where
  pub booted : IfOk result (λ machine. machine.value.system ≡ booted file events)
  pub bare : IfOk result (λ machine. IsBare machine.value.system)
  pub disk : IfOk result (λ machine. machine.value.system.kernel.disk ≡ no_service file.disk_turn)
  pub bdos : IfOk result (λ machine. machine.value.bdos ≡ nothing_kept (in_places mounted))
  pub memory : IfErr result (λ error. error ≡ OutOfMemory)

-- one was made of a system and of what is kept of files, or there was no memory for it
pub record MakesOf (of : System) (kept : Kept) (result : Result (Box Machine Global) BootError) : Type 0 where
  pub system : IfOk result (λ machine. machine.value.system ≡ of)
  pub bdos : IfOk result (λ machine. machine.value.bdos ≡ kept)
  pub memory : IfErr result (λ error. error ≡ OutOfMemory)

-- the machine of a program was made, or there was no memory for it
pub record BootsProgram (bytes : List ℕ) (result : Result (Box Machine Global) BootError) : Type 0 where
  pub program : IfOk result (λ machine. IsOfProgram bytes machine.value)
  pub memory : IfErr result (λ error. error ≡ OutOfMemory)

-- a program was put into a segment, and its process has the lowest free slot; more programs may be put into others
pub record PutsProgram (seg : ℕ) (name : Name8) (priority console : ℕ) (program : List ℕ) (old new : Machine) (p : ℕ) : Type 0 where
  pub slot : lowest_free old.system.kernel.dispatcher.procs ≡ Some p
  pub system : new.system ≡ with_placed old.system p seg name priority console program
  pub bare : IsBare new.system
  pub disk : new.system.kernel.disk ≡ old.system.kernel.disk
  pub bdos : new.bdos ≡ old.bdos
