-- How many held calls a call completes: one at most. So a process that ends by its call forgets nobody else's.
use Rattle.std.proofs.Common.{◌≡◌, ℕ, ◌≤◌, Bool, true, false, cond, not, ◌==◌, List, [], ◌∷◌, length, if◌then◌else◌, refl, arith}
use Rattle.std.specs.Prelude.{filter}
use Rattle.std.specs.List.{AllByRecursion}
use Rattle.mpm_procs.specs.Table.{Table, lives, Lives}
use Rattle.mpm_dispatcher.specs.Dispatch.{first_completed}
use Rattle.mpm_kernel.specs.Kernel.{Kernel, CompletedLive, MayCall}
use Rattle.mpm_kernel.specs.Calls.{called}
use Rattle.mpm_kernel.specs.Procedures.{still_completed, outside}
use Rattle.mpm_kernel.specs.Ending.{dropped_out}
use Rattle.mpm_kernel.proofs.CallLeavings.{one_called}
use Rattle.mpm_kernel.proofs.SoundLaws.{live_called}

-- a call completes one held call at most
pub completes_one : (p : ℕ) (kernel : Kernel) → length (called p kernel).kernel.dispatcher.completed ≤ 1
completes_one p kernel = (one_called p kernel).few

-- of one at most, who is still to be answered is each but the process itself

all_but_own : (own living : Bool) (q : ℕ) → living ≡ true → (if own then [] else (if living then q ∷ [] else [])) ≡ (cond (not own) (q ∷ []) [])
all_but_own true living q is = refl
all_but_own false true q is = refl
all_but_own false false q is = absurd (cc)

all_but : (p : ℕ) (completed : List ℕ) (procs : Table) → length completed ≤ 1 → AllByRecursion (λ q. Lives procs q) completed
    → still_completed (first_completed completed) p procs ≡ filter (λ q. not (q == p)) completed
all_but p [] procs few live = refl
all_but p (q ∷ []) procs few live = all_but_own (q == p) (lives procs q) q live.0
all_but p (q ∷ r ∷ rest) procs few live = absurd (omega (arith, few))

-- a process that ends, or leaves its procedure, forgets none that was completed before but its own, where there was one at most
pub keeps_others : (p : ℕ) (kernel : Kernel) → CompletedLive kernel → length kernel.dispatcher.completed ≤ 1
    → (outside p kernel).dispatcher.completed ≡ filter (λ q. not (q == p)) kernel.dispatcher.completed
unfolding outside
keeps_others p kernel live few = all_but p kernel.dispatcher.completed kernel.dispatcher.procs few live

-- and an end does it once the process stands nowhere
pub end_keeps_others : (p : ℕ) (kernel : Kernel) → CompletedLive kernel → length kernel.dispatcher.completed ≤ 1
    → (outside p (dropped_out p kernel)).dispatcher.completed ≡ filter (λ q. not (q == p)) kernel.dispatcher.completed
unfolding dropped_out
end_keeps_others p kernel live few = keeps_others p (dropped_out p kernel) live few

-- so one that ends by its call forgets nobody else's that this completed
pub forgets_none : (p : ℕ) (kernel : Kernel) → MayCall p kernel → let done = (called p kernel).kernel in
    (outside p (dropped_out p done)).dispatcher.completed ≡ filter (λ q. not (q == p)) done.dispatcher.completed
forgets_none p kernel may =
    end_keeps_others p (called p kernel).kernel (live_called p kernel may.sound may.lives may.ready) (completes_one p kernel)
