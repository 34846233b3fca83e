use Rattle.std.proofs.Common.{sym, subst}
use Rattle.mpm_kernel.specs.Kernel.{IsSoundKernel}
use Rattle.mpm_xdos.proofs.ProcedureLaws.{sound_entered}
use Rattle.mpm_xdos.proofs.procedures.enter_procedure.Goals as goal

pub returns : goal.returns
returns c = record {
  kernel = c.enter.ensures.kernel;
  reply = c.enter.ensures.reply;
  sound = λ sound. subst IsSoundKernel (sym c.enter.ensures.kernel) (sound_entered c.args.p c.args.kernel.now sound c.requires.lives);
}
