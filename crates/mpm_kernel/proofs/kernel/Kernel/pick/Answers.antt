use Rattle.std.proofs.Common.{◌∙◌, ap, subst, sym}
use Rattle.mpm_kernel.specs.contracts.kernel.Kernel.{the_view}
use Rattle.mpm_dispatcher.specs.Dispatch.{picked}
use Rattle.mpm_dispatcher.specs.declared.dispatcher.Dispatcher.{Dispatcher}
use Rattle.mpm_kernel.specs.Kernel.{IsSoundKernel, dispatched}
use Rattle.mpm_kernel.proofs.SoundLaws.{runner_lives, sound_picked}
use Rattle.mpm_kernel.proofs.kernel.Kernel.pick.Goals as goal

pub pick-requires : goal.pick-requires
pick-requires c = λ p is. runner_lives (the_view c.self.inside) p (subst IsSoundKernel (sym c.self.view_is) c.requires) is

pub returns : goal.returns
returns c =
    let before = the_view c.self.inside in
    let Sound : Dispatcher → Type 0 = λ d. IsSoundKernel (record before { dispatcher = d }) in
    record {
      kernel = ap (λ (d : Dispatcher). record before { dispatcher = d }) c.pick.ensures ∙ ap (dispatched (picked c.args.instruction)) c.self.view_is;
      sound = subst Sound (sym c.pick.ensures) (sound_picked before c.args.instruction (subst IsSoundKernel (sym c.self.view_is) c.requires));
    }
