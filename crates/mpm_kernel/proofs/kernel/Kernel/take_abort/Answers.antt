use Rattle.std.proofs.Common.{sym, subst, rules, arith}
use Rattle.std.proofs.lemmas.Grind.{common_steps}
use Rattle.mpm_kernel.specs.contracts.kernel.Kernel.{the_view}
use Rattle.mpm_kernel.specs.Kernel.{IsSoundKernel}
use Rattle.mpm_kernel.proofs.AbortLaws.{sound_abort_taken}
use Rattle.mpm_kernel.proofs.kernel.Kernel.take_abort.Goals as goal

pub returns : goal.returns
returns c = record {
  process = first_of (search rules, grind (arith, common_steps));
  kernel = first_of (search rules, grind (arith, common_steps));
  sound = λ sound. sound_abort_taken (the_view c.self.inside) (subst IsSoundKernel (sym c.self.view_is) sound);
}
