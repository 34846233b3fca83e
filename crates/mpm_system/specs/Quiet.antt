-- Steps to come in which no interrupt is due and the disk's only pass, and what a test of a step says.
use Rattle.std.specs.Prelude.{◌≡◌, ◌≤◌, ◌<◌, ◌+◌, ◌-◌, ℕ, Bool, false, Some, None}
use Rattle.std.specs.Bool.{OnTrue, OnFalse}
use Rattle.mpm_ready.specs.Order.{first_of}
use Rattle.mpm_ready.specs.Tables.{list_at}
use Rattle.mpm_dispatcher.specs.Dispatch.{ready}
use Rattle.mpm_interrupts.specs.Interrupts.{due}
use Rattle.mpm_system.specs.Coming.{coming}
use Rattle.mpm_system.specs.Idling.{CanPass, IsIdle}
use Rattle.mpm_system.specs.declared.system.System.{System}

-- those up to a last one are such
pub record IsQuietUntil (last : ℕ) (system : System) : Type 0 where
  pub quiet : (step : ℕ) → step ≤ last → system.steps < step → due step system.interrupts ≡ None
  pub passing : CanPass (last - system.steps) system.kernel.disk

-- so many of them are, at most as many as were asked for
pub record IsQuietFor (most count : ℕ) (system : System) : Type 0 where
  pub few : count ≤ most
  pub quiet : (step : ℕ) → step ≤ system.steps + count → system.steps < step → due step system.interrupts ≡ None
  pub passing : CanPass count system.kernel.disk

-- the process runs, and is the first of the ready list
pub record RunsFirst (p : ℕ) (system : System) : Type 0 where
  pub running : system.kernel.dispatcher.running ≡ Some p
  pub first : first_of (list_at system.kernel.dispatcher.lists ready) ≡ Some p

-- a test says so where nobody runs, nobody is ready and no end by an abort is put off
pub record TellsIdle (answer : Bool) (system : System) : Type 0 where
  pub idle : OnTrue answer (IsIdle system)
  pub none_deferred : OnTrue answer (system.abort_deferred ≡ false)

-- a test says whether an event that is due may come
pub record TellsOpen (answer : Bool) (system : System) : Type 0 where
  pub none : OnFalse answer (coming system ≡ None)
  pub due : OnTrue answer (coming system ≡ due system.steps system.interrupts)
