-- What is so of the kernel of a scene whose disk serves in turns.
use Rattle.std.specs.Prelude.{◌<◌}
use Rattle.mpm_service.specs.Disk.{HasBegun}
use Rattle.mpm_kernel.specs.Kernel.{Kernel, IsSoundKernel}

pub record ServesScene (kernel : Kernel) : Type 0 where
  pub sound : IsSoundKernel kernel
  pub begun : HasBegun kernel.disk
  pub steps : 0 < kernel.disk.turn_steps
