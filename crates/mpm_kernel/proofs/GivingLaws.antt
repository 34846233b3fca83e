-- A console that is given: the kernel stays sound, and no process changes.
use Rattle.std.proofs.Common.{◌≡◌, ℕ, ◌<◌, Option, Some, None, refl, length}
use Rattle.mpm_base.proofs.Choices.{either}
use Rattle.mpm_consoles.specs.Consoles.{owner_of}
use Rattle.mpm_base.specs.declared.unit.Unit.TheVariants.{Console as ConsoleUnit}
use Rattle.mpm_kernel.specs.Kernel.{Kernel, IsSoundKernel}
use Rattle.mpm_kernel.specs.Consoling.{unit_left, IfLives, owner_made, is_from, handed_over, given}
use Rattle.mpm_kernel.proofs.Staying.{SameProcesses}
use Rattle.mpm_kernel.proofs.Passing.{sound_unit_left}
use Rattle.mpm_kernel.proofs.UnitCalls.{sound_owner_made}
use Rattle.mpm_kernel.proofs.UnitCounts.{many_detached, many_assigned}

pub sound_handed : (console : ℕ) (from to : Option ℕ) (kernel : Kernel) → IsSoundKernel kernel → console < length kernel.units.consoles → IfLives kernel.dispatcher.procs to
    → IsSoundKernel (handed_over console from to kernel)
sound_handed console None None kernel s below lives = s
sound_handed console (Some p) None kernel s below lives = sound_unit_left kernel p (ConsoleUnit console) s below
sound_handed console from (Some to) kernel s below lives = sound_owner_made console to kernel s lives below

pub sound_gave : (console : ℕ) (from to : Option ℕ) (kernel : Kernel) → IsSoundKernel kernel → console < length kernel.units.consoles → IfLives kernel.dispatcher.procs to
    → IsSoundKernel (given console from to kernel)
unfolding given
sound_gave console from to kernel s below lives =
    either IsSoundKernel (is_from (owner_of kernel.units (ConsoleUnit console)) from) _ _ (λ _. sound_handed console from to kernel s below lives) (λ _. s)

-- no process changes, and nobody's call is completed
keeps_handed : (console : ℕ) (from to : Option ℕ) (kernel : Kernel) → SameProcesses kernel (handed_over console from to kernel)
unfolding unit_left owner_made
keeps_handed console None None kernel = record { procs = refl; completed = refl }
keeps_handed console (Some p) None kernel = record { procs = refl; completed = refl }
keeps_handed console from (Some to) kernel = record { procs = refl; completed = refl }

keeps_given : (console : ℕ) (from to : Option ℕ) (kernel : Kernel) → SameProcesses kernel (given console from to kernel)
unfolding given
keeps_given console from to kernel =
    either (SameProcesses kernel) (is_from (owner_of kernel.units (ConsoleUnit console)) from) _ _ (λ _. keeps_handed console from to kernel) (λ _. record { procs = refl; completed = refl })

pub procs_gave : (console : ℕ) (from to : Option ℕ) (kernel : Kernel) → (given console from to kernel).dispatcher.procs ≡ kernel.dispatcher.procs
procs_gave console from to kernel = (keeps_given console from to kernel).procs

pub completed_gave : (console : ℕ) (from to : Option ℕ) (kernel : Kernel) → (given console from to kernel).dispatcher.completed ≡ kernel.dispatcher.completed
completed_gave console from to kernel = (keeps_given console from to kernel).completed

-- a console that is given is one of as many as before

consoles_handed : (console : ℕ) (from to : Option ℕ) (kernel : Kernel) → length (handed_over console from to kernel).units.consoles ≡ length kernel.units.consoles
unfolding unit_left owner_made
consoles_handed console None None kernel = refl
consoles_handed console (Some p) None kernel = (many_detached kernel.units p (ConsoleUnit console)).consoles
consoles_handed console from (Some to) kernel = (many_assigned kernel.units console to).consoles

pub consoles_gave : (console : ℕ) (from to : Option ℕ) (kernel : Kernel) → length (given console from to kernel).units.consoles ≡ length kernel.units.consoles
unfolding given
consoles_gave console from to kernel =
    either (λ (k : Kernel). length k.units.consoles ≡ length kernel.units.consoles) (is_from (owner_of kernel.units (ConsoleUnit console)) from) _ _ (λ _. consoles_handed console from to kernel) (λ _. refl)
