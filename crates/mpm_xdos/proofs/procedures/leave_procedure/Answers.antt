use Rattle.std.proofs.Common.{sym, subst}
use Rattle.mpm_kernel.specs.Kernel.{IsSoundKernel}
use Rattle.mpm_xdos.proofs.ProcedureLaws.{sound_left}
use Rattle.mpm_xdos.proofs.procedures.leave_procedure.Goals as goal

pub returns : goal.returns
returns c = record {
  kernel = c.leave.ensures;
  sound = subst IsSoundKernel (sym c.leave.ensures) (sound_left c.args.p c.args.kernel.now c.requires.sound c.requires.lives);
}
