-- A command as it is sent: its process keeps another call, which the kernel does, and the system stays whole.
use Rattle.std.proofs.Common.{◌≡◌, ℕ, sym, subst}
use Rattle.mpm_base.specs.Calls.{Taken}
use Rattle.mpm_procs.specs.Table.{Lives}
use Rattle.mpm_dispatcher.specs.Dispatch.{IsReady}
use Rattle.mpm_kernel.specs.Kernel.{Kernel}
use Rattle.mpm_kernel.specs.Calls.{called}
use Rattle.mpm_system.specs.declared.system.System.{System}
use Rattle.mpm_system.specs.Whole.{IsWhole}
use Rattle.mpm_system.specs.Calling.{asking}
use Rattle.mpm_system.proofs.WholeLaws.{StaysWhole, Keeps, keeps_asked, whole_calling}

-- a process keeps another call
pub keeps_other : (p : ℕ) (call : Taken) (old now : System) → IsWhole old → Lives old.kernel.dispatcher.procs p → now ≡ asking p call old → Keeps p call old now
keeps_other p call old now w h is = subst (λ s. Keeps p call old s) (sym is) (keeps_asked p call old w h)

-- it is done
pub called_whole : (p : ℕ) (asked : System) (kernel : Kernel) → IsWhole asked → Lives asked.kernel.dispatcher.procs p → IsReady asked.kernel.dispatcher p
    → kernel ≡ (called p asked.kernel).kernel → StaysWhole p asked (record asked { kernel = kernel })
called_whole p asked kernel w h ready is =
    subst (λ k. StaysWhole p asked (record asked { kernel = k })) (sym is) (whole_calling p asked w h ready)
