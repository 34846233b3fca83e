use Rattle.std.proofs.Common.{length, refl, sym, ap, subst, arith, rules}
use Rattle.std.proofs.lemmas.Grind.{common_steps}
use Rattle.mpm_dispatcher.specs.declared.dispatcher.Dispatcher.{Dispatcher}
use Rattle.mpm_kernel.specs.contracts.kernel.Kernel.{the_view}
use Rattle.mpm_kernel.specs.Kernel.{Kernel, IsSoundKernel}
use Rattle.mpm_kernel.proofs.SoundLaws.{sound_in_slot}
use Rattle.mpm_kernel.proofs.kernel.Kernel.admit.Goals as goal

pub returns : goal.returns
returns c =
    let before = the_view c.self.inside in
    let P : Dispatcher → Type 0 = λ d. IsSoundKernel (record before { dispatcher = d }) in
    record {
      slot = first_of (search rules, grind (arith, common_steps));
      refused = first_of (search rules, grind (arith, common_steps));
      kernel = first_of (search rules, grind (arith, common_steps));
      sound = λ console. (
          subst P (sym c.admit.ensures.dispatcher)
          (sound_in_slot before c.args.new _ (subst IsSoundKernel (sym c.self.view_is) c.requires) refl (omega (arith, ap (λ (k : Kernel). length k.units.consoles) c.self.view_is, console)))
          );
    }
