use Rattle.std.proofs.Common.{Some, None, sym, subst, rules, arith}
use Rattle.std.proofs.lemmas.Grind.{common_steps}
use Rattle.mpm_kernel.specs.Kernel.{IsSoundKernel}
use Rattle.mpm_kernel.specs.Consoling.{given}
use Rattle.mpm_kernel.proofs.GivingLaws.{sound_handed}
use Rattle.mpm_kernel.proofs.kernel.Kernel.give.Goals as goal

pub returns-then-eq : goal.returns-then-eq
unfolding given
returns-then-eq c = record {
  kernel = first_of (search rules, grind (arith, common_steps));
  sound = subst IsSoundKernel (sym c.hand_over.ensures) (sound_handed c.args.console (Some c.in-Some.p) c.args.to c.args.self.now c.requires.sound c.requires.console c.requires.to);
}

pub returns-then-is_none : goal.returns-then-is_none
unfolding given
returns-then-is_none c = record {
  kernel = first_of (search rules, grind (arith, common_steps));
  sound = subst IsSoundKernel (sym c.hand_over-then-is_none.ensures) (sound_handed c.args.console None c.args.to c.args.self.now c.requires.sound c.requires.console c.requires.to);
}
