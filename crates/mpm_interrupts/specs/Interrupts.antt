-- The interrupts that are to come: periodic ticks of the clock, and the events of a script. (MP/M II System Guide, "Interrupt
-- Service Routines", "Time Base Management".)
use Rattle.std.specs.Prelude.{◌≡◌, ℕ, ◌+◌, ◌/◌, Bool, ◌&&◌, nat_le, nat_lt, List, drop, slice_get, Option, Some, None, is_some, IfSome, IfNone, if◌then◌else◌}
use Rattle.mpm_script.specs.declared.event.Event.{Event}
use Rattle.mpm_script.specs.declared.event.Event.TheVariants.{Tick}
use Rattle.mpm_script.specs.declared.event.Timed.{Timed}
use Rattle.mpm_script.specs.Events.{IsEvent}
use Rattle.mpm_interrupts.specs.declared.interrupts.Interrupts.{Interrupts}

-- a periodic tick is due at a step: fewer were accepted than whole intervals have passed
abbrev pub is_tick_due : ℕ → Interrupts → Bool
is_tick_due step interrupts = nat_lt 0 interrupts.tick_every && nat_lt interrupts.ticks (step / interrupts.tick_every)

-- an event of a script is due from its step on
abbrev pub due_from : ℕ → Option Timed → Option Event
due_from step None = None
due_from step (Some timed) = if nat_le timed.step step then Some timed.event else None

-- the first event of a script, where it is due
abbrev pub script_due : ℕ → List Timed → Option Event
script_due step script = due_from step (slice_get script 0)

-- the event that is due at a step, a periodic tick before those of the script
unfoldable pub due : ℕ → Interrupts → Option Event
due step interrupts = if is_tick_due step interrupts then Some Tick else script_due step interrupts.script

-- the script without its first event, where that is due
abbrev pub script_after : ℕ → List Timed → List Timed
script_after step script = if is_some (script_due step script) then drop 1 script else script

-- what is to come after the event that is due at a step
unfoldable pub due_taken : ℕ → Interrupts → Interrupts
due_taken step interrupts =
    if is_tick_due step interrupts then record interrupts { ticks = interrupts.ticks + 1 }
    else (record interrupts { script = script_after step interrupts.script })

-- what is due is taken and these are left; where nothing is due nothing changes
pub record TakesDue {A : Type 0} (due : Option Event) (left old new : A) (result : Option Event) : Type 0 where
  pub event : result ≡ due
  pub is : IfSome result (λ event. IsEvent event)
  pub rest : new ≡ left
  pub nothing : IfNone result (new ≡ old)
