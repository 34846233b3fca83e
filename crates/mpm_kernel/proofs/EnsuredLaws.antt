-- That the kernel stays sound, in the form in which calls ensure it.
use Rattle.std.proofs.Common.{◌≡◌, ℕ, ◌≤◌, length, sym, subst}
use Rattle.std.proofs.lemmas.List.{length-replicate}
use Rattle.mpm_consoles.specs.Console.{new_console}
use Rattle.mpm_consoles.specs.Consoles.{no_owners}
use Rattle.mpm_clock.specs.declared.moment.Moment.{Moment}
use Rattle.mpm_kernel.specs.Kernel.{Kernel, IsSoundKernel, new_kernel}
use Rattle.mpm_kernel.proofs.SoundLaws.{sound_new}

pub sound_if_new : (kernel : Kernel) (consoles printers : ℕ) (now : Moment) → 1 ≤ consoles → consoles ≤ 8 → printers ≤ 4 → kernel ≡ new_kernel consoles printers now
    → IsSoundKernel kernel
sound_if_new kernel consoles printers now some few more is = subst IsSoundKernel (sym is) (sound_new consoles printers now some few more)

-- how many consoles there are at first
pub many_new : (consoles printers : ℕ) (now : Moment) → length (new_kernel consoles printers now).units.consoles ≡ consoles
unfolding new_kernel no_owners
many_new consoles printers now = length-replicate consoles new_console
