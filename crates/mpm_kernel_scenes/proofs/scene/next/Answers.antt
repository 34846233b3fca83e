use Rattle.std.proofs.Common.{sym, subst}
use Rattle.mpm_kernel.specs.Kernel.{IsSoundKernel}
use Rattle.mpm_kernel.proofs.SoundLaws.{sound_picked}
use Rattle.mpm_kernel_scenes.proofs.scene.next.Goals as goal

pub returns : goal.returns
returns c = subst IsSoundKernel (sym c.pick.ensures.kernel) (sound_picked c.args.kernel.now c.args.instruction c.requires)
