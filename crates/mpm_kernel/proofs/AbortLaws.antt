-- Whom an event aborts: a process that lives.
use Rattle.std.proofs.Common.{◌≡◌, ◌∙◌, ℕ, Bool, List, [], ◌∷◌, Option, None, refl, sym, subst, arith, length}
use Rattle.std.proofs.lemmas.Bool.Decides.{nat_tests}
use Rattle.std.specs.Prelude.{nat_lt}
use Rattle.mpm_base.proofs.Choices.{either}
use Rattle.mpm_clock.specs.Delays.{woken_by_tick}
use Rattle.mpm_flags.specs.States.{flag_at, set_answer}
use Rattle.mpm_flags.specs.declared.flags.FlagSet.{FlagSet}
use Rattle.mpm_flags.specs.declared.flags.FlagSet.TheVariants.{Set, Woke, Overrun}
use Rattle.mpm_consoles.specs.Consoles.{owner_of}
use Rattle.mpm_consoles.specs.Handling.{key_answer}
use Rattle.mpm_base.specs.declared.unit.Unit.TheVariants.{Console as ConsoleUnit}
use Rattle.mpm_consoles.specs.declared.keys.KeyDone.{KeyDone}
use Rattle.mpm_consoles.specs.declared.keys.KeyDone.TheVariants.{Stored, Dropped, Wakes, Aborts, Passes, Nothing}
use Rattle.mpm_script.specs.declared.event.Event.{Event}
use Rattle.mpm_script.specs.declared.event.Event.TheVariants.{Tick, Key, Ready, Int}
use Rattle.mpm_kernel.specs.Kernel.{Kernel, IsSoundKernel, afresh, dispatched}
use Rattle.mpm_kernel.specs.Columns.{spoke}
use Rattle.mpm_dispatcher.specs.Dispatch.{moved, all_ready, all_woken, runner_behind}
use Rattle.mpm_kernel.specs.Waiting.{with_woken, signalled, is_flag}
use Rattle.mpm_kernel.specs.Consoling.{KeyNames, AbortLives, echoed, key_done, is_of_resident, key_came, abort_taken}
use Rattle.mpm_kernel.specs.Events.{with_tick, clock_ticked, pollers, with_ready, device_ready, happens, happened, flag_came}
use Rattle.mpm_kernel.proofs.Soundness.{sound_afresh, sound_noted}
use Rattle.mpm_kernel.proofs.UnitLaws.{key_names}

-- where nobody is aborted
lives_if_none : (kernel : Kernel) → kernel.aborted ≡ None → AbortLives kernel
lives_if_none kernel none =
    let P : Option ℕ → Type 0 = λ o. AbortLives (record kernel { aborted = o }) in subst P (sym none) tt

aborted_all_ready : (ps : List ℕ) (kernel : Kernel) → (dispatched (all_ready ps) kernel).aborted ≡ kernel.aborted
aborted_all_ready [] kernel = refl
aborted_all_ready (p ∷ ps) kernel = aborted_all_ready ps (dispatched (moved 0 p) kernel)

aborted_woken : (answer : FlagSet) (kernel : Kernel) → (with_woken answer kernel).aborted ≡ kernel.aborted
unfolding with_woken
aborted_woken Set kernel = refl
aborted_woken Overrun kernel = refl
aborted_woken (Woke p) kernel = aborted_all_ready (p ∷ []) kernel

aborted_signalled : (flag : ℕ) (kernel : Kernel) → (signalled flag kernel).aborted ≡ kernel.aborted
unfolding signalled
aborted_signalled flag kernel = aborted_woken (set_answer (flag_at kernel.flags flag)) _

aborted_flag_came : (flag : ℕ) (kernel : Kernel) → (flag_came flag kernel).aborted ≡ kernel.aborted
unfolding flag_came
aborted_flag_came flag kernel = either (λ (k : Kernel). k.aborted ≡ kernel.aborted) (is_flag flag) _ _ (λ _. aborted_signalled flag kernel) (λ _. refl)

-- a key aborts the owner of its console
aborts_named : (key : KeyDone) (console : ℕ) (waited : Bool) (kernel : Kernel) → KeyNames kernel.dispatcher.procs key → AbortLives kernel → AbortLives (key_done key console waited kernel)
unfolding key_done echoed spoke
aborts_named Stored console waited kernel names lives = lives
aborts_named Dropped console waited kernel names lives = lives
aborts_named Nothing console waited kernel names lives = lives
aborts_named (Wakes p) console waited kernel names lives = lives
aborts_named (Aborts p) console waited kernel names lives = names
aborts_named (Passes from to) console waited kernel names lives = lives

aborts_by_key : (console byte : ℕ) (kernel : Kernel) → IsSoundKernel kernel → AbortLives kernel → AbortLives (key_came console byte kernel)
unfolding key_came
aborts_by_key console byte kernel s lives =
    let resident = is_of_resident kernel.dispatcher.procs (owner_of kernel.units (ConsoleUnit console)) in
    let key = key_answer kernel.units console byte resident in
    either AbortLives (nat_lt console (length kernel.units.consoles)) _ _
    (λ fits. aborts_named key console _ _ (key_names kernel console byte resident key s (grind (arith, nat_tests, fits)) refl) lives)
    (λ _. lives)

aborts_by : (event : Event) (kernel : Kernel) → IsSoundKernel kernel → kernel.aborted ≡ None → AbortLives (happens event kernel)
unfolding happens clock_ticked device_ready
aborts_by Tick kernel s none =
    let woken = woken_by_tick kernel.clock.delays in
    let afterwards = dispatched (all_woken woken) (with_tick kernel) in
    lives_if_none (dispatched runner_behind afterwards) (aborted_all_ready woken (with_tick kernel) ∙ none)
aborts_by (Key console byte) kernel s none = aborts_by_key console byte kernel s (lives_if_none kernel none)
aborts_by (Ready device byte) kernel s none =
    lives_if_none (dispatched (all_woken (pollers kernel device)) (with_ready kernel device byte)) (aborted_all_ready (pollers kernel device) (with_ready kernel device byte) ∙ none)
aborts_by (Int flag) kernel s none = lives_if_none (flag_came flag kernel) (aborted_flag_came flag kernel ∙ none)

pub abort_lives : (event : Event) (kernel : Kernel) → IsSoundKernel kernel → AbortLives (happened event kernel)
abort_lives event kernel s = aborts_by event (afresh kernel) (sound_afresh kernel s) refl

-- it is handed out
pub sound_abort_taken : (kernel : Kernel) → IsSoundKernel kernel → IsSoundKernel (abort_taken kernel)
sound_abort_taken kernel s = sound_noted kernel kernel.echo None s
