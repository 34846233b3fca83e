use Rattle.std.proofs.Common.{false, sym, subst}
use Rattle.mpm_kernel.specs.Kernel.{IsSoundKernel}
use Rattle.mpm_kernel.proofs.SoundLaws.{sound_picked}
use Rattle.mpm_kernel_scenes.proofs.scene.kernel_of_one.Goals as goal

pub returns : goal.returns
returns c = subst IsSoundKernel (sym c.pick.ensures.kernel) (sound_picked c.begin-begun.new.kernel false c.begin-begun.ensures.sound)
