-- The kernel stays sound where a process enters a resident procedure, and where it leaves one.
use Rattle.std.proofs.Common.{ℕ, refl}
use Rattle.mpm_procs.specs.Table.{Lives, process_in, call_of}
use Rattle.mpm_kernel.specs.Kernel.{Kernel, IsSoundKernel}
use Rattle.mpm_kernel.specs.Procedures.{given_back}
use Rattle.mpm_kernel.proofs.SoundLaws.{sound_process}
use Rattle.mpm_kernel.proofs.ProcedureLaws.{stays_given_back}
use Rattle.mpm_xdos.specs.Procedures.{entering, entered, leaving, returned_from_procedure}

pub sound_entered : (p : ℕ) (kernel : Kernel) → IsSoundKernel kernel → Lives kernel.dispatcher.procs p → IsSoundKernel (entered p kernel)
unfolding entered entering
sound_entered p kernel s h = sound_process kernel p (entering (call_of kernel.dispatcher.procs p) (process_in kernel.dispatcher.procs p)) s h refl refl refl refl

pub sound_left : (p : ℕ) (kernel : Kernel) → IsSoundKernel kernel → Lives kernel.dispatcher.procs p → IsSoundKernel (returned_from_procedure p kernel)
unfolding returned_from_procedure leaving
sound_left p kernel s h =
    let stays = stays_given_back p kernel s h in
    let afterwards = given_back p kernel in
    sound_process afterwards p (leaving (process_in afterwards.dispatcher.procs p)) stays.sound stays.lives refl refl refl refl
