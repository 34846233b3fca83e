use Rattle.mpm_file_scenes.specs.Standing.{IsBetweenCalls}
use Rattle.mpm_file_scenes.proofs.scene.first_stop.Given as goal

abbrev pub invariant-loop-place : goal.invariant-loop-place
invariant-loop-place g l = IsBetweenCalls g.D.Drives.disks l.bdos l.drives
