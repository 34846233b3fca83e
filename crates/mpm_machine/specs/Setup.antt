-- A machine in its setup, as a part of a step finds it and leaves it.
use Rattle.std.specs.Prelude.{ℕ}
use Rattle.mpm_port.specs.declared.drives.Drives.{Ghosts}
use Rattle.mpm_port.specs.declared.sink.Sink.{Ghosts as SinkGhosts}
use Rattle.mpm_render.specs.Shown.{KeptLines}
use Rattle.mpm_output.specs.Outside.{Outside, seen}
use Rattle.mpm_machine.specs.declared.machine.Machine.{Machine}
use Rattle.mpm_machine.specs.Faults.{FailureCounts}

-- a machine with its drives, what is kept and written of its output, and how often drives were called
pub record Setup (D : Type 0) : Type 0 where
  pub machine : Machine
  pub drives : D
  pub outside : Outside
  pub calls : ℕ

abbrev pub set_up : {D S : Type 0} → SinkGhosts S → Machine → D → KeptLines → S → ℕ → Setup D
set_up of machine drives kept sink calls = record { machine = machine; drives = drives; outside = seen of.written of.faults kept sink; calls = calls }

-- how often its sink and its drives failed
abbrev pub counts_of : {D : Type 0} → Ghosts D → Setup D → FailureCounts
counts_of of setup = record { sink = setup.outside.faults.sink; drives = of.faults setup.drives }
