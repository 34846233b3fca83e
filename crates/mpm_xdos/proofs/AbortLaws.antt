-- What stays so after an abort.
use Rattle.std.proofs.Common.{refl, ℕ, true}
use Rattle.mpm_base.proofs.Choices.{either}
use Rattle.mpm_procs.specs.Table.{Lives, process_in}
use Rattle.mpm_kernel.specs.Kernel.{Kernel, IsSoundKernel, is_resident}
use Rattle.mpm_kernel.proofs.SoundLaws.{sound_process}
use Rattle.mpm_kernel.proofs.EndingLaws.{sound_discharged}
use Rattle.mpm_xdos.specs.Aborting.{waits_to_end, with_abort_due, abort_done}

sound_due : (kernel : Kernel) (p : ℕ) → IsSoundKernel kernel → Lives kernel.dispatcher.procs p → IsSoundKernel (with_abort_due kernel p)
sound_due kernel p s h = sound_process kernel p (record (process_in kernel.dispatcher.procs p) { abort_due = true }) s h refl refl refl refl

pub sound_aborted : (kernel : Kernel) (p : ℕ) → IsSoundKernel kernel → Lives kernel.dispatcher.procs p → IsSoundKernel (abort_done kernel p)
unfolding abort_done
sound_aborted kernel p s h =
    either IsSoundKernel (is_resident kernel.dispatcher.procs p) _ _ (λ _. s)
    (λ _. either IsSoundKernel (waits_to_end kernel p) _ _ (λ _. sound_due kernel p s h) (λ _. sound_discharged kernel p s h))
