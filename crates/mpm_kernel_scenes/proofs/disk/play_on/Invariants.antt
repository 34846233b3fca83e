use Rattle.mpm_kernel_scenes.specs.Serving.{ServesScene}
use Rattle.mpm_kernel_scenes.proofs.disk.play_on.Given as goal

abbrev pub invariant-loop-number : goal.invariant-loop-number
invariant-loop-number l = ServesScene l.kernel
