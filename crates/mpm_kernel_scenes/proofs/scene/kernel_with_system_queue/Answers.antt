use Rattle.std.proofs.Common.{◌≡◌, None, false, sym, subst, arith}
use Rattle.mpm_queues.specs.Queues.{make_error}
use Rattle.mpm_kernel.specs.Kernel.{Kernel, IsSoundKernel}
use Rattle.mpm_kernel.specs.Queueing.{OnlySystems}
use Rattle.mpm_kernel.proofs.SoundLaws.{sound_new, sound_picked}
use Rattle.mpm_kernel.proofs.SystemQueues.{only_systems_new, may_make_new, sound_system_queue}
use Rattle.mpm_kernel_scenes.proofs.scene.kernel_with_system_queue.Goals as goal

pub system_queue-requires : goal.system_queue-requires
system_queue-requires c = record {
  sound = c.in_ok-kernel.ensures.sound;
  boot = subst OnlySystems (sym c.in_ok-kernel.ensures.kernel) (only_systems_new _ _ _);
  room = subst (λ (kernel : Kernel). make_error kernel.queues (record { 0 = _ }) 130 15 ≡ None) (sym c.in_ok-kernel.ensures.kernel)
      (may_make_new 1 0 _ (record { 0 = _ }) 130 15 (omega arith) (omega arith));
}

pub begin-begun-requires : goal.begin-begun-requires
begin-begun-requires c =
    let P : Kernel → Type 0 = λ kernel. IsSoundKernel kernel in
    let R : Kernel → Type 0 = λ kernel. make_error kernel.queues (record { 0 = _ }) 130 15 ≡ None in
    let is = sym c.in_ok-kernel.ensures.kernel in
    subst P (sym c.system_queue.ensures.kernel)
    (sound_system_queue c.in_ok-kernel.kernel _ 130 15 (subst P is (sound_new 1 0 _ (omega arith) (omega arith) (omega arith))) (subst OnlySystems is (only_systems_new _ _ _))
    (subst R is (may_make_new 1 0 _ (record { 0 = _ }) 130 15 (omega arith) (omega arith))))

pub returns : goal.returns
returns c = subst IsSoundKernel (sym c.pick.ensures.kernel) (sound_picked c.begin-begun.new.kernel false c.begin-begun.ensures.sound)
