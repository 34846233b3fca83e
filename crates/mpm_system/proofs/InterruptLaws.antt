-- Which interrupts there may be, and which may come.
use Rattle.std.proofs.Common.{◌≡◌, ℕ, Bool, true, false, Option, Some, None, All, IfSome, if◌then◌else◌, refl}
use Rattle.std.specs.Bool.{OnTrue, OnFalse}
use Rattle.mpm_script.specs.declared.event.Event.{Event}
use Rattle.mpm_script.specs.Events.{IsTimed, IsEvent}
use Rattle.mpm_interrupts.specs.Interrupts.{due}
use Rattle.mpm_interrupts.specs.declared.interrupts.Interrupts.{Interrupts}
use Rattle.mpm_interrupts.proofs.InterruptLaws.{due_is}
use Rattle.mpm_kernel.specs.Events.{MayCome}
use Rattle.mpm_kernel.proofs.SoundLaws.{may_come}

-- an event that there may be may come
some_may : (event : Option Event) → IfSome event IsEvent → IfSome event MayCome
some_may None is = tt
some_may (Some event) is = may_come event is

-- and so may each that is due
pub due_may : (step : ℕ) (interrupts : Interrupts) → All IsTimed interrupts.script → IfSome (due step interrupts) MayCome
due_may step interrupts are = some_may (due step interrupts) (due_is step interrupts are)

-- what comes: none where none is due, or where the answer is that none may come, and else what is due

pub none_due : (lets : Bool) (event : Option Event) → event ≡ None → (if lets then event else None) ≡ None
none_due true event none = none
none_due false event none = refl

pub none_let_in : (lets is : Bool) (event : Option Event) → is ≡ lets → OnFalse is ((if lets then event else None) ≡ None)
none_let_in true true event same = tt
none_let_in true false event same = absurd cc
none_let_in false true event same = absurd cc
none_let_in false false event same = refl

pub let_in : (lets is : Bool) (event : Option Event) → is ≡ lets → OnTrue is ((if lets then event else None) ≡ event)
let_in true true event same = refl
let_in true false event same = absurd cc
let_in false true event same = absurd cc
let_in false false event same = tt
