-- The end of a process.
use Rattle.std.specs.Prelude.{ℕ}
use Rattle.mpm_kernel.specs.Ending.{discharged}
use Rattle.mpm_xdos.specs.Ending.{memory_without}
use Rattle.mpm_system.specs.declared.system.System.{System}
use Rattle.mpm_system.specs.Owing.{owing}

-- the process is gone, what it had is given back, and it owes what it had open and marked
unfoldable pub ended : ℕ → System → System
ended p system = record system {
  kernel = discharged system.kernel p;
  memory = memory_without system.memory system.kernel p;
  owed = owing p system.owed;
}
