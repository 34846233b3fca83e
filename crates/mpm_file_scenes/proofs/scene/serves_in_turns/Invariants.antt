use Rattle.mpm_file_scenes.specs.Standing.{IsWithinCall}
use Rattle.mpm_file_scenes.proofs.scene.serves_in_turns.Given as goal

abbrev pub invariant-loop-turn : goal.invariant-loop-turn
invariant-loop-turn g l = IsWithinCall g.D.Drives.disks l.bdos l.drives l._turn l.turns
