-- Disk service: the file calls that wait for the disk, in ready order, and the one that is served, in turns of so many steps.
-- The turns are this project's own; the order is that of the dispatcher (MP/M II Programmer's Guide, "Dispatcher").
use Rattle.std.specs.Prelude.{◌≡◌, ◌≢◌, ℕ, ◌+◌, ◌-◌, ◌<◌, ◌==◌, Bool, false, List, [], Option, Some, None, IfSome, IsSomeAnd, option_map, if◌then◌else◌}
use Rattle.std.specs.List.{AllByRecursion}
use Rattle.mpm_ready.specs.Order.{Member, put_in, without_slot, in_list, first_of}
use Rattle.mpm_service.specs.declared.service.Served.{Served}
use Rattle.mpm_service.specs.declared.service.Turn.{Turn}
use Rattle.mpm_service.specs.declared.service.Turn.TheVariants.{Idle, Passing, Work, Starts}

-- how many steps a turn has, who waits, and the call in service
pub record DiskService : Type 0 where
  pub turn_steps : ℕ
  pub waiting : List Member
  pub served : Option Served

-- nobody waits or is served
unfoldable pub no_service : ℕ → DiskService
no_service turn_steps = record { turn_steps = turn_steps; waiting = []; served = None }

-- one more call waits, after all of equal or better priority
unfoldable pub entered : DiskService → ℕ → ℕ → DiskService
entered service p priority = record service { waiting = put_in service.waiting (record { slot = p; priority = priority }) }

-- a process waits no more
unfoldable pub left_by : DiskService → ℕ → DiskService
left_by service p = record service { waiting = without_slot p service.waiting }

-- whose call is in service
unfoldable pub served_process : DiskService → Option ℕ
served_process service = option_map (λ call. call.p) service.served

-- one step of a call's turn: it is the turn's last where no more are left of it
abbrev pub is_last_step : ℕ → Served → Bool
is_last_step turn_steps call = call.passed + 1 == turn_steps

-- the call after a turn, none where that was its last, and after a step of one
abbrev pub after_turn : Served → Option Served
after_turn call = if call.left == 1 then None else (Some (record call { left = call.left - 1; passed = 0 }))

unfoldable pub after_step : ℕ → Served → Option Served
after_step turn_steps call = if is_last_step turn_steps call then after_turn call else (Some (record call { passed = call.passed + 1 }))

-- what a step answers: in its last step a turn's work is done
unfoldable pub step_answer : ℕ → Served → Turn
step_answer turn_steps call = if is_last_step turn_steps call then Work call.p (call.left == 1) else Passing

-- the call that enters service has no turns yet
abbrev pub starting : ℕ → Served
starting p = record { p = p; left = 0; passed = 0 }

-- a step of the disk: of the call in service, where there is one, else the first that waits enters service
abbrev pub waiting_after : Option Served → Option ℕ → List Member → List Member
waiting_after (Some call) first waiting = waiting
waiting_after None None waiting = waiting
waiting_after None (Some p) waiting = without_slot p waiting

abbrev pub served_after : ℕ → Option Served → Option ℕ → Option Served
served_after turn_steps (Some call) first = after_step turn_steps call
served_after turn_steps None first = option_map starting first

unfoldable pub turned : DiskService → DiskService
turned service = record service {
  waiting = waiting_after service.served (first_of service.waiting) service.waiting;
  served = served_after service.turn_steps service.served (first_of service.waiting);
}

abbrev pub answer_by : ℕ → Option Served → Option ℕ → Turn
answer_by turn_steps (Some call) first = step_answer turn_steps call
answer_by turn_steps None (Some p) = Starts p
answer_by turn_steps None None = Idle

unfoldable pub turn_answer : DiskService → Turn
turn_answer service = answer_by service.turn_steps service.served (first_of service.waiting)

-- the call that has entered service takes so many turns
abbrev pub with_turns : ℕ → Served → Served
with_turns turns call = record { p = call.p; left = turns; passed = 0 }

unfoldable pub begun : DiskService → ℕ → DiskService
begun service turns = record service { served = option_map (with_turns turns) service.served }

-- the call in service, if there is one, has turns left; or it has just entered service, and has none yet
abbrev pub HasBegun : DiskService → Type 0
HasBegun service = IfSome service.served (λ call. 0 < call.left)

abbrev pub HasEntered : DiskService → Type 0
HasEntered service = IsSomeAnd service.served (λ call. call.left ≡ 0)

-- what is so after a step that answers so
abbrev pub IsAfter : Turn → DiskService → Type 0
IsAfter Idle service = HasBegun service
IsAfter Passing service = HasBegun service
IsAfter (Work p last) service = HasBegun service
IsAfter (Starts p) service = HasEntered service

-- what is so at any time: who is served doesn't wait, its turn isn't over, and where turns have no steps nobody waits
pub record IsSoundService (service : DiskService) : Type 0 where
  pub apart : IfSome service.served (λ call. in_list call.p service.waiting ≡ false)
  pub within : IfSome service.served (λ call. call.passed < service.turn_steps)
  pub steps : AllByRecursion (λ m. 0 < service.turn_steps) service.waiting

-- a call of a process may wait: turns have steps, and no call of it waits or is in service
pub record MayEnter (p : ℕ) (service : DiskService) : Type 0 where
  pub steps : 0 < service.turn_steps
  pub absent : in_list p service.waiting ≡ false
  pub other : IfSome service.served (λ call. call.p ≢ p)

-- the service becomes another one, whose turns are as long; a call in service that has turns left still has some
pub record Becomes (value old new : DiskService) : Type 0 where
  pub service : new ≡ value
  pub steps : new.turn_steps ≡ old.turn_steps
  pub begun : HasBegun old → HasBegun new

-- a step of the disk is made, and answers what it is
pub record Turns (old new : DiskService) (result : Turn) : Type 0 where
  pub service : new ≡ turned old
  pub answer : result ≡ turn_answer old
  pub after : IsAfter result new
  pub steps : new.turn_steps ≡ old.turn_steps

-- the call of a process waits no more; where none of it waits, as where it is in service, nothing changes
pub record LeavesDisk (p : ℕ) (old new : DiskService) (result : Bool) : Type 0 where
  pub service : new ≡ left_by old p
  pub answer : result ≡ in_list p old.waiting
  pub gone : in_list p new.waiting ≡ false
  pub nothing : result ≡ false → new ≡ old
  pub served : IfSome old.served (λ call. call.p ≡ p → result ≡ false)
  pub same : new.served ≡ old.served
  pub steps : new.turn_steps ≡ old.turn_steps
  pub begun : HasBegun old → HasBegun new
