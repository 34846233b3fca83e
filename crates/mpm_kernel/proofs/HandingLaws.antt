-- What stays so where a process whose held call was completed is handed out.
use Rattle.std.proofs.Common.{◌≡◌, ◌∙◌, ℕ, List, [], ◌∷◌, ◌==◌, drop, Option, Some, None, refl, sym, ap}
use Rattle.std.specs.List.{AllByRecursion}
use Rattle.mpm_queues.specs.Queue.{block_size}
use Rattle.mpm_procs.specs.Table.{Table, Lives, call_of}
use Rattle.mpm_dispatcher.specs.declared.dispatcher.Dispatcher.{Dispatcher}
use Rattle.mpm_dispatcher.specs.Dispatch.{with_completed, first_completed}
use Rattle.mpm_kernel.specs.Kernel.{Kernel, IsOfTwo, IsSoundKernel, CompletedLive, dispatched}
use Rattle.mpm_kernel.specs.Called.{valued}
use Rattle.mpm_base.specs.Calls.{word_at}
use Rattle.mpm_base.specs.declared.functions.TheConstants.{CALL_RESIDENT_SYSTEM_PROCEDURE}
use Rattle.mpm_kernel.specs.Procedures.{procedure_queue}
use Rattle.mpm_kernel.specs.Events.{inside_of, with_procedure, with_first, handed_out}
use Rattle.mpm_dispatcher.proofs.CompletedLaws.{first_lives}
use Rattle.mpm_kernel.proofs.Soundness.{sound_with_completed}
use Rattle.mpm_kernel.proofs.Staying.{StaysSound, kernel_if}
use Rattle.mpm_kernel.proofs.QueueCalls.{procedure_of_two, stays_inside}

-- those who are left once one was handed out live, and so did that one
dropped_live : (procs : Table) (ps : List ℕ) → AllByRecursion (λ p. Lives procs p) ps → AllByRecursion (λ p. Lives procs p) (drop 1 ps)
dropped_live procs [] live = tt
dropped_live procs (p ∷ ps) live = live.1

pub completed_lives : (kernel : Kernel) (p : ℕ) → CompletedLive kernel → first_completed kernel.dispatcher.completed ≡ Some p → Lives kernel.dispatcher.procs p
completed_lives kernel p live e = first_lives kernel.dispatcher.procs kernel.dispatcher.completed p live e

-- and may be in a procedure now
stays_inside_of : (slot : Option ℕ) (p message : ℕ) (kernel : Kernel) → ((q : ℕ) → slot ≡ Some q → IsOfTwo kernel.queues q) → StaysSound p (valued 0 kernel)
    → StaysSound p (valued 0 (inside_of slot p message kernel))
stays_inside_of None p message kernel two s = s
stays_inside_of (Some q) p message kernel two s = stays_inside p q message 0 kernel (two q refl) s

stays_with_procedure : (p : ℕ) (kernel : Kernel) → StaysSound p (valued 0 kernel) → StaysSound p (valued 0 (with_procedure p kernel))
unfolding with_procedure
stays_with_procedure p kernel s =
    let call = call_of kernel.dispatcher.procs p in
    kernel_if p (call.function == CALL_RESIDENT_SYSTEM_PROCEDURE) _ _ 0 (λ _. stays_inside_of (procedure_queue kernel.queues call) p (word_at call block_size) kernel
    (λ q is. procedure_of_two kernel.queues call q is) s)
    (λ _. s)

record IsHanded (kernel : Kernel) : Type 0 where
  pub sound : IsSoundKernel kernel
  pub live : CompletedLive kernel

handed_first : (first : Option ℕ) (kernel : Kernel) → IsSoundKernel kernel → CompletedLive kernel → ((p : ℕ) → first ≡ Some p → Lives kernel.dispatcher.procs p)
    → IsHanded (with_first first kernel)
handed_first None kernel s live living = record { sound = s; live = live }
handed_first (Some p) kernel s live living =
    let stays = stays_with_procedure p kernel (record { sound = s; lives = living p refl; completed = live }) in
    record { sound = stays.sound; live = stays.completed }

is_handed : (kernel : Kernel) → IsSoundKernel kernel → CompletedLive kernel → IsHanded (handed_out kernel)
unfolding handed_out
is_handed kernel s live =
    handed_first (first_completed kernel.dispatcher.completed) (dispatched (with_completed (drop 1 kernel.dispatcher.completed)) kernel) (sound_with_completed kernel _ s)
    (dropped_live kernel.dispatcher.procs kernel.dispatcher.completed live) (λ p first. completed_lives kernel p live first)

pub sound_completed : (kernel : Kernel) → IsSoundKernel kernel → CompletedLive kernel → IsSoundKernel (handed_out kernel)
sound_completed kernel s live = (is_handed kernel s live).sound

pub live_handed_out : (kernel : Kernel) → IsSoundKernel kernel → CompletedLive kernel → CompletedLive (handed_out kernel)
live_handed_out kernel s live = (is_handed kernel s live).live

-- who is handed out first
pub handed_first_out : (p : ℕ) (d : Dispatcher) (kernel new : Kernel) → first_completed kernel.dispatcher.completed ≡ Some p
    → d ≡ with_completed (drop 1 kernel.dispatcher.completed) kernel.dispatcher → new ≡ with_procedure p (record kernel { dispatcher = d }) → new ≡ handed_out kernel
unfolding handed_out
handed_first_out p d kernel new first left is =
    is ∙ ap (λ d. with_procedure p (record kernel { dispatcher = d })) left
    ∙ ap (λ o. with_first o (dispatched (with_completed (drop 1 kernel.dispatcher.completed)) kernel)) (sym first)
