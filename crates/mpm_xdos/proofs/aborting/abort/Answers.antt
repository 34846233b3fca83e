use Rattle.std.proofs.Common.{sym, subst}
use Rattle.mpm_kernel.specs.Kernel.{IsSoundKernel}
use Rattle.mpm_xdos.proofs.AbortLaws.{sound_aborted}
use Rattle.mpm_xdos.proofs.aborting.abort.Goals as goal

pub returns : goal.returns
returns c = record {
  kernel = c.end_or_put_off.ensures.kernel;
  memory = c.end_or_put_off.ensures.memory;
  sound = subst IsSoundKernel (sym c.end_or_put_off.ensures.kernel) (sound_aborted c.args.kernel.now c.args.p c.requires.sound c.requires.lives);
}
