-- When interrupts are due, and what is left after one.
use Rattle.std.proofs.Common.{◌≡◌, ℕ, ◌+◌, ◌*◌, ◌<◌, ◌≤◌, Bool, true, false, List, [], ◌∷◌, Option, Some, None, All, IfSome, drop, is_some, if◌then◌else◌, refl, subst, arith}
use Rattle.std.specs.Prelude.{nat_le}
use Rattle.std.proofs.lemmas.Bool.Decides.{nat_tests}
use Rattle.std.proofs.lemmas.Nat.{div_below}
use Rattle.std.proofs.lemmas.List.Elements.{All-drop}
use Rattle.mpm_base.proofs.Choices.{either}
use Rattle.mpm_script.specs.declared.event.Event.{Event}
use Rattle.mpm_script.specs.declared.event.Event.TheVariants.{Tick}
use Rattle.mpm_script.specs.declared.event.Timed.{Timed}
use Rattle.mpm_script.specs.Events.{IsTimed, IsEvent}
use Rattle.mpm_interrupts.specs.Interrupts.{is_tick_due, script_due, due, script_after, due_taken}
use Rattle.mpm_interrupts.specs.declared.interrupts.Interrupts.{Interrupts}

-- before the end of one more interval no more of them have passed
pub no_tick_before : (step next : ℕ) (interrupts : Interrupts) → 0 < interrupts.tick_every
    → next ≤ (interrupts.ticks + 1) * interrupts.tick_every → step < next → is_tick_due step interrupts ≡ false
no_tick_before step next interrupts some end before =
    let few = div_below step interrupts.tick_every (interrupts.ticks + 1) some (omega (arith, end, before)) in
    grind (arith, nat_tests, few)

-- an event that is due is one that there may be

from_is : (b : Bool) (event : Event) → IsEvent event → IfSome (if b then Some event else None) IsEvent
from_is true event is = is
from_is false event is = tt

script_is : (step : ℕ) (script : List Timed) → All IsTimed script → IfSome (script_due step script) IsEvent
script_is step [] are = tt
script_is step (timed ∷ rest) are = from_is (nat_le timed.step step) timed.event (are 0 timed (omega arith)).event

pub due_is : (step : ℕ) (interrupts : Interrupts) → All IsTimed interrupts.script → IfSome (due step interrupts) IsEvent
unfolding due
due_is step interrupts are =
    either (λ (o : Option Event). IfSome o IsEvent) (is_tick_due step interrupts) (Some Tick) (script_due step interrupts.script) (λ _. tt)
    (λ _. script_is step interrupts.script are)

-- those that are left are of the script

pub script_after_due : (step : ℕ) (interrupts : Interrupts) → All IsTimed interrupts.script → All IsTimed (due_taken step interrupts).script
unfolding due_taken
script_after_due step interrupts are =
    either (λ (i : Interrupts). All IsTimed i.script) (is_tick_due step interrupts) (record interrupts { ticks = interrupts.ticks + 1 })
    (record interrupts { script = script_after step interrupts.script }) (λ _. are)
    (λ _. either (All IsTimed) (is_some (script_due step interrupts.script)) (drop 1 interrupts.script) interrupts.script
    (λ _. All-drop IsTimed 1 interrupts.script are) (λ _. are))

-- where nothing is due, all is still to come

tick_not : (b : Bool) (other : Option Event) → (if b then Some Tick else other) ≡ None → b ≡ false
tick_not true other none = absurd cc
tick_not false other none = refl

script_stays : (step : ℕ) (script : List Timed) → script_due step script ≡ None → script_after step script ≡ script
script_stays step script none = rw none refl

pub none_taken : (step : ℕ) (interrupts : Interrupts) → due step interrupts ≡ None → due_taken step interrupts ≡ interrupts
unfolding due due_taken
none_taken step interrupts none =
    let no_tick = tick_not (is_tick_due step interrupts) (script_due step interrupts.script) none in
    let no_event : script_due step interrupts.script ≡ None = subst (λ (b : Bool). (if b then Some Tick else script_due step interrupts.script) ≡ None) no_tick none in
    rw (no_tick, script_stays step interrupts.script no_event) refl
