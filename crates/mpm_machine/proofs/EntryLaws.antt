-- A process that enters a resident procedure lives on, and keeps its call.
use Rattle.std.proofs.Common.{◌≡◌, ◌∙◌, ℕ, length, arith, refl, ap}
use Rattle.mpm_base.proofs.Choices.{either}
use Rattle.mpm_base.specs.Calls.{Taken, Answer}
use Rattle.mpm_procs.specs.Table.{lives, Lives, call_of}
use Rattle.mpm_procs.proofs.MapLaws.{lives_changed, call_after}
use Rattle.mpm_kernel.specs.Kernel.{Kernel}
use Rattle.mpm_xdos.specs.Procedures.{entered}
use Rattle.mpm_system.specs.declared.system.System.{System}
use Rattle.mpm_system.specs.Whole.{HasRoom}
use Rattle.mpm_system.specs.Answering.{answering_call}
use Rattle.mpm_machine.specs.Serving.{is_entry, with_entry, reply_at_entry, fulfilling}

pub lives_entered : (p q : ℕ) (kernel : Kernel) → lives (entered p kernel).dispatcher.procs q ≡ lives kernel.dispatcher.procs q
unfolding entered
lives_entered p q kernel = lives_changed kernel.dispatcher.procs p q _

pub call_entered : (p q : ℕ) (kernel : Kernel) → call_of (entered p kernel).dispatcher.procs q ≡ call_of kernel.dispatcher.procs q
unfolding entered
call_entered p q kernel = call_after kernel.dispatcher.procs p q _

pub completed_entered : (p : ℕ) (kernel : Kernel) → (entered p kernel).dispatcher.completed ≡ kernel.dispatcher.completed
unfolding entered
completed_entered p kernel = refl

pub lives_entry : (reply : Answer) (call : Taken) (p q : ℕ) (system : System) → lives (with_entry reply call p system).kernel.dispatcher.procs q ≡ lives system.kernel.dispatcher.procs q
unfolding with_entry
lives_entry reply call p q system =
    either (λ (k : Kernel). lives k.dispatcher.procs q ≡ lives system.kernel.dispatcher.procs q) (is_entry call reply) _ _ (λ _. lives_entered p q system.kernel) (λ _. refl)

pub call_entry : (reply : Answer) (call : Taken) (p q : ℕ) (system : System) → call_of (with_entry reply call p system).kernel.dispatcher.procs q ≡ call_of system.kernel.dispatcher.procs q
unfolding with_entry
call_entry reply call p q system =
    either (λ (k : Kernel). call_of k.dispatcher.procs q ≡ call_of system.kernel.dispatcher.procs q) (is_entry call reply) _ _ (λ _. call_entered p q system.kernel) (λ _. refl)

pub room_inside : (reply : Answer) (p : ℕ) (old afterwards : System) → HasRoom old → afterwards ≡ with_entry reply (call_of old.kernel.dispatcher.procs p) p old → HasRoom afterwards
unfolding with_entry
room_inside reply p old afterwards room is = omega (arith, room, ap (λ (s : System). length s.records) is)

-- after that its call is answered, and so fulfilled

pub lives_inside : (reply : Answer) (p : ℕ) (old afterwards : System) → Lives old.kernel.dispatcher.procs p → afterwards ≡ with_entry reply (call_of old.kernel.dispatcher.procs p) p old
    → Lives afterwards.kernel.dispatcher.procs p
lives_inside reply p old afterwards h is = ap (λ (s : System). lives s.kernel.dispatcher.procs p) is ∙ lives_entry reply (call_of old.kernel.dispatcher.procs p) p p old ∙ h

pub answers_inside : (reply last : Answer) (p seg : ℕ) (old afterwards : System) → afterwards ≡ with_entry reply (call_of old.kernel.dispatcher.procs p) p old
    → last ≡ reply_at_entry reply (call_of old.kernel.dispatcher.procs p) p old
    → answering_call last (call_of afterwards.kernel.dispatcher.procs p) p seg afterwards ≡ fulfilling reply (call_of old.kernel.dispatcher.procs p) p seg old
unfolding fulfilling
answers_inside reply last p seg old afterwards is was =
    let call = call_of old.kernel.dispatcher.procs p in
    let inside = with_entry reply call p old in
    ap (λ (s : System). answering_call last (call_of s.kernel.dispatcher.procs p) p seg s) is
    ∙ ap (λ c. answering_call last c p seg inside) (call_entry reply call p p old)
    ∙ ap (λ r. answering_call r call p seg inside) was
