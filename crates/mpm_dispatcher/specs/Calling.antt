-- What calls of the dispatcher ask, and what they leave and answer.
use Rattle.std.specs.Prelude.{◌≡◌, ◌↔◌, ℕ, ◌<◌, ◌≤◌, Bool, false, List, [], Option, None, Some, Result, IfOk, OnErr, IfSome, drop, length}
use Rattle.mpm_base.specs.Calls.{Answer, answering}
use Rattle.mpm_base.specs.declared.call.Outcome.{Outcome}
use Rattle.mpm_base.specs.declared.call.Outcome.TheVariants.{Done}
use Rattle.mpm_procs.specs.Table.{Lives, lowest_free}
use Rattle.mpm_procs.specs.declared.process.NewProcess.{NewProcess}
use Rattle.mpm_procs.specs.declared.procs.NoSlot.{NoSlot}
use Rattle.mpm_ready.specs.Tables.{list_of, IsTable}
use Rattle.mpm_dispatcher.specs.Dispatch.{IsReady, in_slot, all_ready, slots_in, with_completed, first_completed}
use Rattle.mpm_dispatcher.specs.declared.dispatcher.Dispatcher.{Dispatcher}

-- some processes are left whose held calls were completed, at most 64
pub record TellsWhetherSome (pids : List ℕ) (result : Bool) : Type 0 where
  pub some : (result ≡ false) ↔ (pids ≡ [])
  pub few : length pids ≤ 64

-- the first of them is taken
pub record TakesFirstCompleted (old new : List ℕ) (result : Option ℕ) : Type 0 where
  pub first : result ≡ first_completed old
  pub rest : new ≡ drop 1 old

-- and is handed out
pub record HandsOutFirst (old new : Dispatcher) (result : Option ℕ) : Type 0 where
  pub process : result ≡ first_completed old.completed
  pub dispatcher : new ≡ with_completed (drop 1 old.completed) old

-- a process is added in the lowest free slot, or none is free
pub record AdmitsProcess (newcomer : NewProcess) (old new : Dispatcher) (result : Result ℕ NoSlot) : Type 0 where
  pub slot : IfOk result (λ p. lowest_free old.procs ≡ Some p)
  pub refused : OnErr result (lowest_free old.procs ≡ None)
  pub dispatcher : new ≡ in_slot newcomer (lowest_free old.procs) old

-- a process lives, and is ready
pub record LivesReady (p : ℕ) (dispatcher : Dispatcher) : Type 0 where
  pub lives : Lives dispatcher.procs p
  pub ready : IsReady dispatcher p

-- a call ends otherwise than done: it leaves this dispatcher, and answers 0
pub record PutsOff (value : Dispatcher) (kind : Outcome) (new : Dispatcher) (result : Outcome) (answer : Answer) : Type 0 where
  pub dispatcher : new ≡ value
  pub outcome : result ≡ kind
  pub reply : answer ≡ answering 0

-- a living process may be moved to a list that there is
pub record MayMove (p number : ℕ) (dispatcher : Dispatcher) : Type 0 where
  pub lives : Lives dispatcher.procs p
  pub list : number < 96

-- a list other than the ready list may be emptied: those in it live
pub record MayEmpty (list : ℕ) (dispatcher : Dispatcher) : Type 0 where
  pub below : list < 96
  pub other : 0 < list
  pub table : IsTable dispatcher.lists
  pub live : (p : ℕ) → list_of dispatcher.lists p ≡ Some list → Lives dispatcher.procs p

-- and those in it become ready
pub record EmptiesList (list : ℕ) (old new : Dispatcher) (result : List ℕ) : Type 0 where
  pub dispatcher : new ≡ all_ready (slots_in old.lists list) old
  pub woken : result ≡ slots_in old.lists list

-- the held call of a living process, if there is one, may be completed, for which there is room
pub record MayWakeOther (other : Option ℕ) (dispatcher : Dispatcher) : Type 0 where
  pub lives : IfSome other (λ p. Lives dispatcher.procs p)
  pub room : length dispatcher.completed < 64

-- a call is done, and answers a value
pub record IsDoneCall (value : ℕ) (result : Outcome) (answer : Answer) : Type 0 where
  pub outcome : result ≡ Done
  pub reply : answer ≡ answering value
