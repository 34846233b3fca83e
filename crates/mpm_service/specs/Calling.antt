-- What calls on the service of the disk ask, and what they leave and answer.
use Rattle.std.specs.Prelude.{◌≡◌, ℕ, ◌+◌, ◌<◌, ◌≤◌, Bool, true, None, List, Option, IfSome, unwrap_or}
use Rattle.mpm_ready.specs.Order.{Member, without_slot, in_list, first_of}
use Rattle.mpm_service.specs.declared.service.Served.{Served}
use Rattle.mpm_service.specs.declared.service.Turn.{Turn}
use Rattle.mpm_service.specs.declared.service.Turn.TheVariants.{Work}
use Rattle.mpm_service.specs.Waiting.{IsWaitList}
use Rattle.mpm_service.specs.Disk.{DiskService, no_service, entered, turned, turn_answer, begun as begun_with, served_process, HasBegun, HasEntered, IsAfter, IsSoundService}
use Rattle.mpm_service.specs.Turns.{TakesTurns}
use Rattle.mpm_service.specs.Ahead.{turned_by, quiet_steps, passed_by, turns_left, unserved}

-- the first that waits
pub record TellsFirst (waiting : List Member) (result : Option ℕ) : Type 0 where
  pub first : result ≡ first_of waiting
  pub proper : IsWaitList waiting

-- a process is taken out, and the answer says whether it waited
pub record RemovesWaiter (p : ℕ) (old new : List Member) (result : Bool) : Type 0 where
  pub list : new ≡ without_slot p old
  pub answer : result ≡ in_list p old

-- a call is within a turn, and has turns left
pub record HasTurnsLeft (turn_steps : ℕ) (call : Served) : Type 0 where
  pub within : call.passed < turn_steps
  pub begun : 0 < call.left

-- a service with turns of so many steps, in which nobody waits or is served
pub record MakesService (turn_steps : ℕ) (result : DiskService) : Type 0 where
  pub service : result ≡ no_service turn_steps
  pub steps : result.turn_steps ≡ turn_steps
  pub begun : HasBegun result

-- one more call waits, and who is served stays
pub record EntersService (p priority : ℕ) (old new : DiskService) : Type 0 where
  pub service : new ≡ entered old p priority
  pub steps : new.turn_steps ≡ old.turn_steps
  pub begun : HasBegun old → HasBegun new
  pub same : new.served ≡ old.served

-- a step of the disk is made, and answers what it is; after the last turn of a call nobody is served
pub record TurnsService (old new : DiskService) (result : Turn) : Type 0 where
  pub service : new ≡ turned old
  pub answer : result ≡ turn_answer old
  pub after : IsAfter result new
  pub steps : new.turn_steps ≡ old.turn_steps
  pub last : (p : ℕ) → result ≡ Work p true → new.served ≡ None

-- a call has just entered service, and takes one turn or more
pub record MayBeginTurns (count : ℕ) (service : DiskService) : Type 0 where
  pub entered : HasEntered service
  pub some : 0 < count

-- and has so many turns then
pub record BeginsTurns (count : ℕ) (old new : DiskService) : Type 0 where
  pub service : new ≡ begun_with old count
  pub begun : HasBegun new
  pub turns : IfSome new.served (TakesTurns new.turn_steps count)
  pub steps : new.turn_steps ≡ old.turn_steps

-- how many steps only pass, all of them within the turn of the call in service
pub record TellsQuiet (service : DiskService) (result : Option ℕ) : Type 0 where
  pub steps : result ≡ quiet_steps service
  pub few : (n : ℕ) → n ≤ unwrap_or result n → IfSome service.served (λ call. call.passed + n < service.turn_steps)

-- so many steps only pass
pub record PassesQuietly (count : ℕ) (old new : DiskService) : Type 0 where
  pub service : new ≡ passed_by count old
  pub steps : new.turn_steps ≡ old.turn_steps
  pub begun : HasBegun old → HasBegun new
  pub turned : IfSome old.served (λ _. new ≡ turned_by count old)

-- nobody is served any more, and the answer says how many turns were left
pub record FinishesService (old new : DiskService) (result : ℕ) : Type 0 where
  pub service : new ≡ unserved old
  pub turns : result ≡ turns_left old
  pub steps : new.turn_steps ≡ old.turn_steps
  pub begun : HasBegun new

-- whose call is in service, of a service that is sound
pub record TellsServed (service : DiskService) (result : Option ℕ) : Type 0 where
  pub served : result ≡ served_process service
  pub sound : IsSoundService service
  pub waiting : IsWaitList service.waiting
