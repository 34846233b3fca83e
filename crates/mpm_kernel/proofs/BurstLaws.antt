-- What a burst leaves of a kernel: all but the registers of its process and the devices.
use Rattle.std.proofs.Common.{◌≡◌, ◌∙◌, ℕ, ap, subst, refl, arith}
use Rattle.z80_regs.specs.declared.regs.Regs.{Regs}
use Rattle.mpm_base.specs.declared.devices.Devices.{Devices}
use Rattle.mpm_procs.specs.Table.{Lives, process_in, with_process}
use Rattle.mpm_procs.specs.declared.process.Process.{Process}
use Rattle.mpm_procs.proofs.MapLaws.{lives_below, process_changed}
use Rattle.mpm_kernel.specs.Kernel.{Kernel, IsSoundKernel, with_changed}
use Rattle.mpm_kernel.proofs.SoundLaws.{sound_process, sound_devices}

-- a process that lives is the one that was put there
pub process_put : (kernel : Kernel) (p : ℕ) (process : Process) → IsSoundKernel kernel → Lives kernel.dispatcher.procs p
    → process_in (with_process kernel.dispatcher.procs p process) p ≡ process
process_put kernel p process s h =
    process_changed kernel.dispatcher.procs p process (omega (arith, s.slots.processes, lives_below kernel.dispatcher.procs p s.slots h))

-- what relates registers and devices to registers later does so at equal ones
pub at_equal : (ran : Regs → Devices → Regs → Type 0) (regs old : Regs) (now devices : Devices) (left new : Regs)
    → regs ≡ old → now ≡ devices → left ≡ new → ran regs now left → ran old devices new
at_equal ran regs old now devices left new same_regs same_devices same_new is =
    subst (ran old devices) same_new (subst (λ d. ran old d left) same_devices (subst (λ r. ran r now left) same_regs is))

-- registers that were put there, and devices
pub burst_left : (kernel : Kernel) (p : ℕ) (process : Process) (devices : Devices) (regs left : Regs) → process ≡ process_in kernel.dispatcher.procs p → regs ≡ left
    → with_changed (record kernel { devices = devices }) p (record process { regs = regs })
    ≡ with_changed (record kernel { devices = devices }) p (record (process_in kernel.dispatcher.procs p) { regs = left })
burst_left kernel p process devices regs left same_process same_regs =
    ap (λ (x : Process). with_changed (record kernel { devices = devices }) p (record x { regs = regs })) same_process
    ∙ ap (λ (r : Regs). with_changed (record kernel { devices = devices }) p (record (process_in kernel.dispatcher.procs p) { regs = r })) same_regs

-- it stays sound
pub sound_burst : (kernel : Kernel) (devices : Devices) (p : ℕ) (regs : Regs) → IsSoundKernel kernel → Lives kernel.dispatcher.procs p
    → IsSoundKernel (with_changed (record kernel { devices = devices }) p (record (process_in kernel.dispatcher.procs p) { regs = regs }))
sound_burst kernel devices p regs s h =
    sound_process (record kernel { devices = devices }) p (record (process_in kernel.dispatcher.procs p) { regs = regs }) (sound_devices kernel devices s) h refl refl refl refl
