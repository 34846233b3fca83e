use Rattle.std.proofs.Common.{sym, subst, rules, arith}
use Rattle.std.proofs.lemmas.Grind.{common_steps}
use Rattle.mpm_kernel.specs.contracts.kernel.Kernel.{the_view}
use Rattle.mpm_kernel.specs.Kernel.{IsSoundKernel, CompletedLive}
use Rattle.mpm_kernel.specs.Events.{handed_out}
use Rattle.mpm_kernel.proofs.HandingLaws.{handed_first_out}
use Rattle.mpm_kernel.proofs.SoundLaws.{sound_completed, live_handed_out}
use Rattle.mpm_kernel.proofs.kernel.Kernel.completed.Goals as goal

pub returns : goal.returns
unfolding handed_out
returns c =
    let before = the_view c.self.inside in
    let is = handed_first_out c.in_ok-p.p c.hand_out.new.self before c.enter_where_held.new.self (sym c.in_ok-p.ensures.process) c.hand_out.ensures.dispatcher c.enter_where_held.ensures in
    let live = subst CompletedLive (sym c.self.view_is) c.requires in
    record {
      process = first_of (search rules, grind (arith, common_steps));
      kernel = first_of (search rules, grind (arith, common_steps));
      reply = first_of (search rules, grind (arith, common_steps));
      sound = λ sound. subst IsSoundKernel (sym is) (sound_completed before (subst IsSoundKernel (sym c.self.view_is) sound) live);
      live = λ sound. subst CompletedLive (sym is) (live_handed_out before (subst IsSoundKernel (sym c.self.view_is) sound) live);
    }
