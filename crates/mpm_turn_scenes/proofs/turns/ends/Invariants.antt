use Rattle.mpm_port.specs.MemoryDisks.{disks_of}
use Rattle.mpm_files.specs.Serving.{turns_in}
use Rattle.mpm_files.specs.Standing.{SameDisk}
use Rattle.mpm_turn_scenes.specs.Standing.{IsInTurns}
use Rattle.mpm_turn_scenes.proofs.turns.ends.Given as goal

abbrev pub invariant-loop-turn : goal.invariant-loop-turn
invariant-loop-turn g l =
    IsInTurns (disks_of l.drives) l.mounted l.cache l.work l._turn (turns_in l.fn.work) × SameDisk l.fn.mounted l.mounted
