-- The machine as a kernel model: its state, and when a machine stands for a state.
use Rattle.std.specs.Prelude.{◌≡◌, ℕ, List}
use Rattle.mpm_render.specs.Outputs.{Output}
use Rattle.mpm_render.specs.Shown.{KeptLines, Shows}
use Rattle.mpm_port.specs.Disks.{Disks}
use Rattle.mpm_system.specs.declared.system.System.{System}
use Rattle.mpm_machine.specs.Files.{FilesInService, StandsForFiles}
use Rattle.mpm_machine.specs.declared.machine.Machine.{Machine}

-- the system, all outputs so far, newest first, and files and drives as file calls find them
pub record State : Type 0 where
  pub system : System
  pub outputs : List Output
  pub files : FilesInService

-- a system, what its renderer keeps and what its sink was given stand for a state's system and outputs, after a first text
pub record StandsFor (system : System) (kept : KeptLines) (written : List ℕ) (s : State) (first : List ℕ) : Type 0 where
  pub parts : system ≡ s.system
  pub shown : Shows kept written s.outputs first

-- a machine and its drives are at a state, whatever was written
pub record IsAt (machine : Machine) (disks : Disks) (s : State) : Type 0 where
  pub system : machine.system ≡ s.system
  pub files : StandsForFiles machine.system.kernel.disk machine.bdos disks s.files

-- a machine, its renderer, its sink and its drives stand for a state
pub record StandsWithDrives (machine : Machine) (kept : KeptLines) (written : List ℕ) (disks : Disks) (s : State) (first : List ℕ) : Type 0 where
  pub system : StandsFor machine.system kept written s first
  pub files : StandsForFiles machine.system.kernel.disk machine.bdos disks s.files
