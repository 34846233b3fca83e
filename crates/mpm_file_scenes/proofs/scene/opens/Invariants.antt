use Rattle.mpm_file_scenes.specs.Standing.{IsBetweenCalls}
use Rattle.mpm_file_scenes.proofs.scene.opens.Given as goal

abbrev pub invariant-loop-slot : goal.invariant-loop-slot
invariant-loop-slot g l = IsBetweenCalls g.D.Drives.disks l.bdos l.drives
