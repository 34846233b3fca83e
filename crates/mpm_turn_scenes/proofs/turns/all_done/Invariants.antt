use Rattle.mpm_port.specs.MemoryDisks.{disks_of}
use Rattle.mpm_files.specs.Standing.{SameDisk}
use Rattle.mpm_turn_scenes.specs.Standing.{IsDiskOfFiles}
use Rattle.mpm_turn_scenes.proofs.turns.all_done.Given as goal

abbrev pub invariant-loop-job : goal.invariant-loop-job
invariant-loop-job g l = IsDiskOfFiles (disks_of l.drives) l.mounted l.cache × SameDisk l.fn.mounted l.mounted
