use Rattle.mpm_file_scenes.specs.Standing.{IsBetweenCalls}
use Rattle.mpm_file_scenes.proofs.scene.repeats.Given as goal

abbrev pub invariant-loop-call : goal.invariant-loop-call
invariant-loop-call g l = IsBetweenCalls g.D.Drives.disks l.bdos l.drives
