use Rattle.std.proofs.Common.{◌≡◌, List, ℕ, Some, sym, subst}
use Rattle.std.specs.List.{AllByRecursion}
use Rattle.mpm_procs.specs.Table.{Lives}
use Rattle.mpm_dispatcher.specs.declared.dispatcher.Dispatcher.{Dispatcher}
use Rattle.mpm_kernel.specs.contracts.kernel.Kernel.{the_view}
use Rattle.mpm_kernel.specs.Kernel.{IsSoundKernel}
use Rattle.mpm_kernel.proofs.SoundLaws.{live_by_tick, runner_lives}
use Rattle.mpm_kernel.proofs.kernel.Kernel.tick.Goals as goal

pub wake-requires : goal.wake-requires
wake-requires c =
    let kernel = the_view c.self.inside in
    let P : List ℕ → Type 0 = λ ps. AllByRecursion (λ p. Lives kernel.dispatcher.procs p) ps in
    subst P (sym c.tick-woken.ensures.woken) (live_by_tick kernel (subst IsSoundKernel (sym c.self.view_is) c.requires))

pub runner_behind-requires : goal.runner_behind-requires
runner_behind-requires c =
    let kernel = the_view c.self.inside in
    let P : Dispatcher → Type 0 = λ d. (p : ℕ) → d.running ≡ Some p → Lives d.procs p in
    subst P (sym c.wake.ensures) (λ p is. runner_lives kernel p (subst IsSoundKernel (sym c.self.view_is) c.requires) is)
