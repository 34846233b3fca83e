-- What a text at a console leaves of the kernel: who lives, and the calls that processes keep.
use Rattle.std.proofs.Common.{◌≡◌, ◌∙◌, ℕ, List, ap}
use Rattle.mpm_procs.specs.Table.{lives, Lives, call_of}
use Rattle.mpm_kernel.specs.Kernel.{Kernel}
use Rattle.mpm_kernel.specs.Columns.{spoke}
use Rattle.mpm_kernel.proofs.HomeLaws.{procs_spoke}

pub lives_after_text : (old kernel : Kernel) (console p : ℕ) (bytes : List ℕ) → Lives old.dispatcher.procs p → kernel ≡ spoke old console bytes → Lives kernel.dispatcher.procs p
lives_after_text old kernel console p bytes h is =
    ap (λ (k : Kernel). lives k.dispatcher.procs p) is ∙ ap (λ procs. lives procs p) (procs_spoke old console bytes) ∙ h

pub call_after_text : (old kernel : Kernel) (console p : ℕ) (bytes : List ℕ) → kernel ≡ spoke old console bytes
    → call_of kernel.dispatcher.procs p ≡ call_of old.dispatcher.procs p
call_after_text old kernel console p bytes is =
    ap (λ (k : Kernel). call_of k.dispatcher.procs p) is ∙ ap (λ procs. call_of procs p) (procs_spoke old console bytes)
