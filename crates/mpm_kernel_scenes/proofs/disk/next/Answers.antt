use Rattle.std.proofs.Common.{ap}
use Rattle.mpm_kernel.specs.Kernel.{Kernel}
use Rattle.mpm_kernel_scenes.proofs.ServingLaws.{serves_same}
use Rattle.mpm_kernel_scenes.proofs.disk.next.Goals as goal

pub pick-requires : goal.pick-requires
pick-requires c = c.requires.sound

pub returns : goal.returns
returns c = serves_same c.args.kernel.now _ c.requires c.pick.ensures.sound (ap (λ (k : Kernel). k.disk) c.pick.ensures.kernel)
