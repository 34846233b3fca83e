-- A whole system stays whole through each part of a step: the event, the answers, the ends that are due, and the step.
use Rattle.std.proofs.Common.{◌≡◌, ◌∙◌, ℕ, ◌+◌, Bool, true, false, List, [], ◌∷◌, Option, Some, None, inl, inr, refl, sym, ap, subst, IfSome, All, arith}
use Rattle.std.proofs.lemmas.Bool.{and_parts, and_cases}
use Rattle.std.proofs.lemmas.Bool.Decides.{nat_tests}
use Rattle.std.specs.List.{range_with_len}
use Rattle.std.specs.Prelude.{nat_lt}
use Rattle.mpm_base.proofs.Choices.{either}
use Rattle.mpm_base.proofs.Options.{none_there}
use Rattle.mpm_procs.specs.Table.{lives, Lives, process_in}
use Rattle.mpm_procs.proofs.MapLaws.{lives_below}
use Rattle.mpm_queues.specs.Queues.{lowest}
use Rattle.mpm_queues.proofs.Finding.{lowest_none}
use Rattle.mpm_kernel.specs.Kernel.{Kernel, IsSoundKernel, is_aborted, dispatched, is_resident}
use Rattle.mpm_script.specs.declared.event.Event.{Event}
use Rattle.mpm_script.specs.Events.{IsTimed}
use Rattle.mpm_dispatcher.specs.Dispatch.{picked, first_completed}
use Rattle.mpm_kernel.specs.Events.{MayCome, happened}
use Rattle.mpm_kernel.proofs.SoundLaws.{sound_picked, sound_happened, live_happened, sound_completed, live_handed_out, completed_lives, runner_lives}
use Rattle.mpm_kernel.proofs.HomeLaws.{homes_stay, homes_happened, homes_handed_out, lives_handed_out}
use Rattle.mpm_xdos.specs.Aborting.{waits_to_end}
use Rattle.mpm_kernel.specs.Consoling.{abort_taken}
use Rattle.mpm_kernel.proofs.AbortLaws.{abort_lives, sound_abort_taken}
use Rattle.mpm_interrupts.specs.Interrupts.{due, due_taken}
use Rattle.mpm_interrupts.specs.declared.interrupts.Interrupts.{Interrupts}
use Rattle.mpm_interrupts.proofs.InterruptLaws.{script_after_due}
use Rattle.mpm_system.specs.declared.system.System.{System}
use Rattle.mpm_system.specs.Whole.{IsWhole, NobodyAborted}
use Rattle.mpm_system.specs.Sending.{chains}
use Rattle.mpm_system.specs.Deferring.{is_any_aborted, noted}
use Rattle.mpm_system.specs.Coming.{counted, lets_in, coming, unhalted}
use Rattle.mpm_system.proofs.InterruptLaws.{due_may}
use Rattle.mpm_system.proofs.WholeLaws.{whole_kernel, whole_regs, whole_residents}
use Rattle.mpm_machine.specs.Ending.{ended}
use Rattle.mpm_machine.specs.Finishing.{finished, completion_dequeued, finishing, all_finished, command_let_in, finished_or_ended, answered_from, all_answered}
use Rattle.mpm_machine.specs.Due.{is_due, ended_if_due, due_terminated, with_ends}
use Rattle.mpm_machine.specs.Step.{key_aborted, happened_to, event_come, interrupted, begun_by}
use Rattle.mpm_machine.proofs.FinishLaws.{first_finished, left_completed}
use Rattle.mpm_machine.proofs.WholeLaws.{whole_steps, whole_ended, aborted_by, aborted_is, ends_at_once, abort_deferred_is, whole_abort_deferred, whole_resident, whole_fulfilling}
use Rattle.mpm_machine.proofs.SendingLaws.{LetsIn, lets_in as lets_command_in, lives_let_in}
use Rattle.mpm_machine.proofs.ActedLaws.{whole_acted}

-- an event comes
pub whole_unhalted : (running : Option ℕ) (system : System) → IsWhole system → system.kernel.dispatcher.running ≡ running
    → IsWhole (record system { kernel = unhalted running system.kernel })
whole_unhalted None system w e = w
whole_unhalted (Some p) system w e =
    (whole_regs p (record (process_in system.kernel.dispatcher.procs p).regs { halted = false }) system w (runner_lives system.kernel p w.sound e)).whole

whole_interrupts : (system : System) (interrupts : Interrupts) → IsWhole system → All IsTimed interrupts.script
    → IsWhole (record system { interrupts = interrupts })
whole_interrupts system interrupts w script = record { sound = w.sound; live = w.live; homes = w.homes; lived = w.lived; memory = w.memory; script = script; settled = w.settled }

pub whole_due : (system : System) (interrupts : Interrupts) → IsWhole system → interrupts ≡ due_taken system.steps system.interrupts
    → IsWhole (record system { interrupts = interrupts })
whole_due system interrupts w is =
    let P : Interrupts → Type 0 = λ i. All IsTimed i.script in
    whole_interrupts system interrupts w (subst P (sym is) (script_after_due system.steps system.interrupts w.script))

pub sound_unhalted : (system afterwards : System) → IsWhole system → afterwards ≡ record system { kernel = unhalted system.kernel.dispatcher.running system.kernel }
    → IsSoundKernel afterwards.kernel
sound_unhalted system afterwards w is =
    let P : System → Type 0 = λ s. IsSoundKernel s.kernel in
    subst P (sym is) (whole_unhalted system.kernel.dispatcher.running system w refl).sound

-- an event, after which the process that it aborts lives
pub whole_happened : (event : Event) (system afterwards : System) (kernel : Kernel) → MayCome event → IsWhole system
    → afterwards ≡ record system { kernel = unhalted system.kernel.dispatcher.running system.kernel } → kernel ≡ happened event afterwards.kernel
    → IsWhole (record afterwards { kernel = kernel })
whole_happened event system afterwards kernel may w is was =
    let before : IsWhole afterwards = subst IsWhole (sym is) (whole_unhalted system.kernel.dispatcher.running system w refl) in
    let P : Kernel → Type 0 = λ k. IsWhole (record afterwards { kernel = k }) in
    subst P (sym was)
    (whole_kernel afterwards (happened event afterwards.kernel) before (sound_happened event afterwards.kernel may before.sound)
    (live_happened event afterwards.kernel may before.sound) (homes_happened event afterwards.kernel))

pub aborted_lives : (event : Event) (system afterwards : System) (kernel : Kernel) → IsWhole system
    → afterwards ≡ record system { kernel = unhalted system.kernel.dispatcher.running system.kernel } → kernel ≡ happened event afterwards.kernel
    → IfSome kernel.aborted (λ p. Lives kernel.dispatcher.procs p)
aborted_lives event system afterwards kernel w is was =
    let before : IsWhole afterwards = subst IsWhole (sym is) (whole_unhalted system.kernel.dispatcher.running system w refl) in
    let P : Kernel → Type 0 = λ k. IfSome k.aborted (λ p. Lives k.dispatcher.procs p) in
    subst P (sym was) (abort_lives event afterwards.kernel before.sound)

whole_aborted_by : (stays waits : Bool) (p : ℕ) (system : System) → IsWhole system → Lives system.kernel.dispatcher.procs p
    → IsWhole (aborted_by stays waits p system)
whole_aborted_by true waits p system w h = whole_resident waits p system w
whole_aborted_by false true p system w h = subst IsWhole (sym (abort_deferred_is p system)) (whole_abort_deferred p system w h)
whole_aborted_by false false p system w h = subst IsWhole (sym (ends_at_once p system)) (whole_ended p system w h)

pub whole_abort_taken : (system : System) → IsWhole system → IsWhole (record system { kernel = abort_taken system.kernel })
whole_abort_taken system w =
    whole_kernel system _ w (sound_abort_taken system.kernel w.sound) w.live (homes_stay system.kernel _ refl)

pub whole_taken : (system : System) (kernel : Kernel) → IsWhole system → kernel ≡ abort_taken system.kernel → IsWhole (record system { kernel = kernel })
whole_taken system kernel w is =
    let P : Kernel → Type 0 = λ k. IsWhole (record system { kernel = k }) in subst P (sym is) (whole_abort_taken system w)

whole_key_aborted : (aborts : Option ℕ) (system : System) → IsWhole system → IfSome aborts (λ p. Lives system.kernel.dispatcher.procs p)
    → IsWhole (key_aborted aborts system)
whole_key_aborted None system w lives = w
whole_key_aborted (Some p) system w lives =
    let taken = record system { kernel = abort_taken system.kernel } in
    let stays = is_resident taken.kernel.dispatcher.procs p in
    let waits = waits_to_end taken.kernel p in
    subst IsWhole (sym (aborted_is stays waits p taken refl refl)) (whole_aborted_by stays waits p taken (whole_abort_taken system w) lives)

whole_event_come : (event : Event) (system : System) → MayCome event → IsWhole system → IsWhole (event_come event system).system
unfolding event_come
whole_event_come event system may w =
    let unhalted_system = record system { kernel = unhalted system.kernel.dispatcher.running system.kernel } in
    whole_key_aborted (happened_to event system).kernel.aborted (happened_to event system)
    (whole_happened event system unhalted_system (happened event unhalted_system.kernel) may w refl refl)
    (aborted_lives event system unhalted_system (happened event unhalted_system.kernel) w refl refl)

whole_interrupted : (event : Event) (system : System) → MayCome event → IsWhole system → IsWhole (interrupted event system).system
unfolding interrupted
whole_interrupted event system may w =
    whole_event_come event (record system { interrupts = due_taken system.steps system.interrupts }) may
    (whole_interrupts system (due_taken system.steps system.interrupts) w (script_after_due system.steps system.interrupts w.script))

pub whole_begun : (event : Option Event) (system : System) → IfSome event MayCome → IsWhole system → IsWhole (begun_by event system).system
whole_begun None system may w = whole_acted system w
whole_begun (Some event) system may w = whole_interrupted event system may w

-- the held calls that were completed are answered

whole_finished : (seg : Option ℕ) (p : ℕ) (system : System) → IsWhole system → Lives system.kernel.dispatcher.procs p → IsWhole (finished seg p system)
whole_finished None p system w h = whole_residents system _ w
whole_finished (Some seg) p system w h = whole_fulfilling _ _ p seg system w h

pub whole_dequeued : (system : System) → IsWhole system → IsWhole (completion_dequeued system)
whole_dequeued system w =
    whole_kernel system _ w (sound_completed system.kernel w.sound w.live) (live_handed_out system.kernel w.sound w.live)
    (homes_handed_out system.kernel w.sound w.live)

-- the first of them is answered
pub whole_first : (p : ℕ) (system : System) → IsWhole system → first_completed system.kernel.dispatcher.completed ≡ Some p → IsWhole (first_finished p system)
whole_first p system w first =
    let same = lives_handed_out system.kernel p ∙ completed_lives system.kernel p w.live first in
    whole_finished (process_in system.kernel.dispatcher.procs p).seg p (completion_dequeued system) (whole_dequeued system w) same

pub whole_left : (now new : System) (p : ℕ) → IsWhole now → first_completed now.kernel.dispatcher.completed ≡ Some p → new ≡ first_finished p now → IsWhole new
whole_left now new p w first is = subst IsWhole (sym is) (whole_first p now w first)

whole_finishing : (ps : List ℕ) (system : System) → IsWhole system → system.kernel.dispatcher.completed ≡ ps → IsWhole (finishing ps system)
unfolding finishing
whole_finishing [] system w e = w
whole_finishing (p ∷ ps) system w e =
    whole_finishing ps (first_finished p system) (whole_first p system w (ap first_completed e)) (left_completed p ps system e)

-- where they all were
pub whole_answered : (system afterwards : System) → IsWhole system → afterwards ≡ all_finished system → IsWhole afterwards
whole_answered system afterwards w is = subst IsWhole (sym is) (whole_finishing system.kernel.dispatcher.completed system w refl)

-- the first of those that a step completed, and then the others

whole_finished_or_ended : (p : ℕ) (system : System) → IsWhole system → Lives system.kernel.dispatcher.procs p → IsWhole (finished_or_ended p system)
whole_finished_or_ended p system w h =
    either IsWhole (chains p system.kernel) _ _ (λ _. whole_ended p system w h)
    (λ _. whole_finished (process_in system.kernel.dispatcher.procs p).seg p system w h)

pub lives_dequeued : (p : ℕ) (system : System) → IsWhole system → first_completed system.kernel.dispatcher.completed ≡ Some p
    → Lives (completion_dequeued system).kernel.dispatcher.procs p
lives_dequeued p system w first = lives_handed_out system.kernel p ∙ completed_lives system.kernel p w.live first

-- the command that its process sent goes in, and it lives
command_in : (p : ℕ) (system : System) → IsWhole system → LetsIn (completion_dequeued system) (command_let_in p (completion_dequeued system))
command_in p system w = lets_command_in p (completion_dequeued system) (whole_dequeued system w)

pub lives_in_time : (p : ℕ) (system : System) → IsWhole system → first_completed system.kernel.dispatcher.completed ≡ Some p
    → Lives (command_let_in p (completion_dequeued system)).kernel.dispatcher.procs p
lives_in_time p system w first =
    lives_let_in p (completion_dequeued system) (command_let_in p (completion_dequeued system)) (command_in p system w) (lives_dequeued p system w first)

pub whole_first_answered : (p : ℕ) (system : System) → IsWhole system → first_completed system.kernel.dispatcher.completed ≡ Some p
    → IsWhole (finished_or_ended p (command_let_in p (completion_dequeued system)))
whole_first_answered p system w first =
    whole_finished_or_ended p (command_let_in p (completion_dequeued system)) (command_in p system w).whole (lives_in_time p system w first)

pub whole_first_so : (p : ℕ) (old handed first : System) → IsWhole old → first_completed old.kernel.dispatcher.completed ≡ Some p → handed ≡ completion_dequeued old
    → first ≡ finished_or_ended p (command_let_in p handed) → IsWhole first
whole_first_so p old handed first w is out done =
    subst IsWhole (sym (done ∙ ap (λ (s : System). finished_or_ended p (command_let_in p s)) out)) (whole_first_answered p old w is)

whole_from : (first : Option ℕ) (system : System) → IsWhole system → first_completed system.kernel.dispatcher.completed ≡ first
    → IsWhole (answered_from first system)
unfolding answered_from
whole_from None system w first = w
whole_from (Some p) system w first = whole_answered (finished_or_ended p (command_let_in p (completion_dequeued system))) _ (whole_first_answered p system w first) refl

pub whole_all_answered : (system afterwards : System) → IsWhole system → afterwards ≡ all_answered system → IsWhole afterwards
whole_all_answered system afterwards w is =
    subst IsWhole (sym is) (whole_from (first_completed system.kernel.dispatcher.completed) system w refl)

-- the ends that are due come

pub whole_if_due : (p : ℕ) (system : System) → IsWhole system → IsWhole (ended_if_due p system)
unfolding ended_if_due
whole_if_due p system w =
    either IsWhole (is_due system.kernel p) _ _
    (λ due.
    let aborted = (and_parts (is_aborted system.kernel.dispatcher.procs p) _ due).0 in
    whole_finishing _ (ended p system) (whole_ended p system w (and_parts (lives system.kernel.dispatcher.procs p) _ aborted).0) refl)
    (λ _. w)

pub whole_due_terminated : (ps : List ℕ) (system : System) → IsWhole system → IsWhole (due_terminated ps system)
unfolding due_terminated
whole_due_terminated [] system w = w
whole_due_terminated (p ∷ ps) system w = whole_due_terminated ps (ended_if_due p system) (whole_if_due p system w)

-- a process whose end is due lives, and all is whole after its end
pub due_lives : (kernel : Kernel) (p : ℕ) → is_due kernel p ≡ true → Lives kernel.dispatcher.procs p
due_lives kernel p due = (and_parts (lives kernel.dispatcher.procs p) _ (and_parts (is_aborted kernel.dispatcher.procs p) _ due).0).0

pub whole_due_end : (system afterwards : System) (p : ℕ) → IsWhole system → is_due system.kernel p ≡ true → afterwards ≡ ended p system → IsWhole afterwards
whole_due_end system afterwards p w due is = subst IsWhole (sym is) (whole_ended p system w (due_lives system.kernel p due))

-- nobody is aborted where none of the slots has one who is

no_slot : (b below : Bool) → (b ≡ true → below ≡ true) → (below ≡ true → b ≡ false) → b ≡ false
no_slot true below there none = none (there refl)
no_slot false below there none = refl

none_aborted : (system : System) → IsWhole system → is_any_aborted system.kernel.dispatcher.procs ≡ false → NobodyAborted system.kernel
none_aborted system w none = λ p.
    let each = lowest_none (is_aborted system.kernel.dispatcher.procs) (none_there (lowest (is_aborted system.kernel.dispatcher.procs)) none) in
    no_slot (is_aborted system.kernel.dispatcher.procs p) (nat_lt p 32)
    (λ due. below p system w (and_parts (lives system.kernel.dispatcher.procs p) _ due).0)
    (λ less. each p (grind (arith, nat_tests, less)))
  where
    below : (p : ℕ) (system : System) → IsWhole system → Lives system.kernel.dispatcher.procs p → nat_lt p 32 ≡ true
    below p system w living = grind (arith, nat_tests, lives_below system.kernel.dispatcher.procs p w.sound.slots living)

whole_noted : (system : System) → IsWhole system → IsWhole (noted system)
whole_noted system w = record {
  sound = w.sound;
  live = w.live;
  homes = w.homes;
  lived = w.lived;
  memory = w.memory;
  script = w.script;
  settled = λ off. elim (and_cases system.abort_deferred _ off) [
    | inl was ↦ w.settled was
    | inr none ↦ none_aborted system w none
  ];
}

pub whole_with_ends : (system : System) → IsWhole system → IsWhole (with_ends system)
unfolding with_ends
whole_with_ends system w = whole_noted _ (whole_due_terminated (range_with_len 0 32) system w)

-- it is picked who runs
pub whole_when_picked : (instruction : Bool) (system : System) → IsWhole system
    → IsWhole (record system { kernel = dispatched (picked instruction) system.kernel })
whole_when_picked instruction system w =
    whole_kernel system _ w (sound_picked _ instruction w.sound) w.live (homes_stay _ _ refl)

-- a step
pub whole_counted : (system : System) → IsWhole system → IsWhole (counted system)
whole_counted system w = whole_steps system (system.steps + 1) w

-- the event that comes may come

pub coming_may : (system : System) → IsWhole system → IfSome (coming system) MayCome
unfolding coming
coming_may system w =
    either (λ (event : Option Event). IfSome event MayCome) (lets_in system.kernel.dispatcher.running system.kernel) _ _ (λ _. due_may system.steps system.interrupts w.script) (λ _. tt)

-- after the beginning of a step, and after its answers

pub whole_after_begun : (system afterwards : System) → IsWhole system → afterwards ≡ (begun_by (coming system) system).system → IsWhole afterwards
whole_after_begun system afterwards w is = subst IsWhole (sym is) (whole_begun (coming system) system (coming_may system w) w)
