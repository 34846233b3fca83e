use Rattle.std.proofs.Common.{◌∙◌, ℕ, Option, Some, sym, ap, subst, rules, arith}
use Rattle.std.proofs.lemmas.Grind.{common_steps}
use Rattle.mpm_queues.specs.Queues.{IsMade}
use Rattle.mpm_kernel.specs.Kernel.{Kernel, IsSoundKernel, LivesInKernel, CompletedLive}
use Rattle.mpm_kernel.specs.Procedures.{outside, given_back, given_back_to}
use Rattle.mpm_kernel.proofs.ProcedureLaws.{sound_outside, lives_outside, live_outside, queue_outside, stays_given_back}
use Rattle.mpm_kernel.proofs.kernel.Kernel.put_back.Goals as goal

pub write_back-requires : goal.write_back-requires
write_back-requires c =
    let left = c.leave_procedure-queue.ensures in
    record {
      process = subst (LivesInKernel c.args.p) (sym left.kernel) (record {
        sound = sound_outside c.args.p c.args.self.now c.requires.sound c.requires.lives;
        lives = lives_outside c.args.p c.args.p c.args.self.now c.requires.lives;
      });
      queue = subst (λ (k : Kernel). IsMade k.queues c.in-Some.q) (sym left.kernel)
          (queue_outside c.args.p c.in-Some.q c.args.self.now c.requires.sound c.requires.lives (sym left.queue ∙ c.in-Some.is));
      room = left.room;
    }

pub returns-in-Some : goal.returns-in-Some
unfolding given_back
returns-in-Some c =
    let p = c.args.p in
    let before = c.args.self.now in
    let left = c.leave_procedure-queue.ensures in
    let is =
    c.write_back.ensures ∙ ap (given_back_to (Some c.in-Some.q) p) left.kernel
    ∙ ap (λ (queue : Option ℕ). given_back_to queue p (outside p before)) (sym (sym left.queue ∙ c.in-Some.is)) in
    let stays = stays_given_back p before c.requires.sound c.requires.lives in
    record { kernel = is; sound = subst IsSoundKernel (sym is) stays.sound; live = subst CompletedLive (sym is) stays.completed }

pub returns-in_default : goal.returns-in_default
unfolding given_back given_back_to
returns-in_default c = record {
  kernel = first_of (search rules, grind (arith, common_steps));
  sound = subst IsSoundKernel (sym c.leave_procedure-queue.ensures.kernel) (sound_outside c.args.p c.args.self.now c.requires.sound c.requires.lives);
  live = subst CompletedLive (sym c.leave_procedure-queue.ensures.kernel) (live_outside c.args.p c.args.self.now);
}
