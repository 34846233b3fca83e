-- What the kernel lends.
use Rattle.std.specs.Prelude.{ℕ}
use Rattle.std.specs.Borrow.{Lends, MutBor, Fml}
use Rattle.z80_regs.specs.declared.regs.Regs.{Regs}
use Rattle.z80_regs.specs.contracts.regs.Regs.{the_row as regs_row}
use Rattle.mpm_base.specs.Calls.{Taken}
use Rattle.mpm_base.specs.contracts.call.Call.{the_row as call_row}
use Rattle.mpm_base.specs.declared.devices.Devices.{Devices}
use Rattle.mpm_base.specs.contracts.devices.Devices.{the_row as devices_row}
use Rattle.mpm_procs.specs.Table.{with_call, process_in}
use Rattle.mpm_procs.specs.declared.process.Process.{Process}
use Rattle.mpm_procs.specs.contracts.process.Process.{the_row as process_row}
use Rattle.mpm_dispatcher.specs.Dispatch.{with_procs}
use Rattle.mpm_kernel.specs.Kernel.{Kernel, with_changed, dispatched}
use Rattle.mpm_kernel.specs.contracts.kernel.Kernel.{the_row}

-- a process, to be changed
abbrev pub KernelLendsProcess : MutBor Kernel → ℕ → MutBor Process → Fml
KernelLendsProcess kernel p lent = Lends the_row process_row kernel lent (with_changed kernel.now p)

-- the registers of a process
abbrev pub LendsRegs : MutBor Kernel → ℕ → MutBor Regs → Fml
LendsRegs kernel p lent =
    Lends the_row regs_row kernel lent
    (λ regs. with_changed kernel.now p (record (process_in kernel.now.dispatcher.procs p) { regs = regs }))

-- the call that a process keeps
abbrev pub KernelLendsCall : MutBor Kernel → ℕ → MutBor Taken → Fml
KernelLendsCall kernel p lent =
    Lends the_row call_row kernel lent (λ call. dispatched (with_procs (with_call kernel.now.dispatcher.procs p call)) kernel.now)

-- the devices
abbrev pub LendsDevices : MutBor Kernel → MutBor Devices → Fml
LendsDevices kernel lent = Lends the_row devices_row kernel lent (λ devices. record kernel.now { devices = devices })
