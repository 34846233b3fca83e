use Rattle.std.specs.Prelude.{IsSome}
use Rattle.mpm_port.specs.Disks.{size_of}
use Rattle.mpm_port.specs.MemoryDisks.{disks_of}
use Rattle.mpm_turn_scenes.proofs.turns.call_up_to.Given as goal

abbrev pub invariant-loop : goal.invariant-loop
invariant-loop l = IsSome (size_of (disks_of l.drives) 0)
