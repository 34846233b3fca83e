use Rattle.mpm_kernel_scenes.specs.Serving.{ServesScene}
use Rattle.mpm_kernel_scenes.proofs.disk.pass.Given as goal

abbrev pub invariant-loop-step : goal.invariant-loop-step
invariant-loop-step l = ServesScene l.kernel
