use Rattle.std.proofs.Common.{◌∙◌, sym, ap, subst, rules, arith}
use Rattle.std.proofs.lemmas.Grind.{common_steps}
use Rattle.mpm_procs.specs.Table.{call_of, process_in}
use Rattle.mpm_kernel.specs.Kernel.{Kernel, IsSoundKernel, CompletedLive}
use Rattle.mpm_kernel.specs.Calls.{call_done}
use Rattle.mpm_kernel.proofs.SoundLaws.{stays_called}
use Rattle.mpm_kernel.proofs.kernel.Kernel.call.Goals as goal

pub returns : goal.returns
returns c =
    let p = c.args.p in
    let after : Kernel → Kernel = λ k. (call_done (call_of k.dispatcher.procs p) p (process_in k.dispatcher.procs p) k).kernel in
    let is = c.serve_begun.ensures.kernel ∙ ap after c.begin_call.ensures in
    let stays = stays_called p _ c.args.self.now c.requires.sound c.requires.lives c.requires.ready in
    record {
      yields = first_of (search rules, grind (arith, common_steps));
      sound = subst IsSoundKernel (sym is) stays.sound;
      live = subst CompletedLive (sym is) stays.completed;
    }
