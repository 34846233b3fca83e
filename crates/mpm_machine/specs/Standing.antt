-- What is said of a machine whatever it stands for: files, or a state and the text that was written.
use Rattle.std.specs.Prelude.{ℕ, List}
use Rattle.mpm_port.specs.Disks.{Disks}
use Rattle.mpm_render.specs.Shown.{KeptLines}
use Rattle.mpm_machine.specs.declared.machine.Machine.{Machine}
use Rattle.mpm_machine.specs.State.{State, StandsWithDrives}
use Rattle.mpm_machine.specs.Files.{FilesInService, StandsForFiles, StandsWorked}

-- something is so of any files for which what is kept of file calls and the images stand
abbrev pub StandingFor : Machine → Disks → (FilesInService → Type 0) → Type 0
StandingFor machine disks P = (files : FilesInService) → StandsForFiles machine.system.kernel.disk machine.bdos disks files → P files

-- something is so of any files for which they stand after the disk's work
abbrev pub StandingWorked : Machine → Disks → (FilesInService → Type 0) → Type 0
StandingWorked machine disks P = (files : FilesInService) → StandsWorked machine.system.kernel.disk machine.bdos disks files → P files

-- something is so of any state for which the machine, what is kept to be written and the images stand, and of the text that was written
-- before its outputs
abbrev pub StandingAt : Machine → KeptLines → List ℕ → Disks → (State → List ℕ → Type 0) → Type 0
StandingAt machine kept written disks P = (s : State) (first : List ℕ) → StandsWithDrives machine kept written disks s first → P s first
