-- The steps of the disk that only pass, and the end of a service without them.
use Rattle.std.specs.Prelude.{ℕ, zero, suc, ◌+◌, ◌-◌, Option, Some, None, option_map}
use Rattle.mpm_ready.specs.Order.{first_of}
use Rattle.mpm_service.specs.declared.service.Served.{Served}
use Rattle.mpm_service.specs.Disk.{DiskService, turned}

-- so many steps of the disk
unfoldable pub turned_by : ℕ → DiskService → DiskService
turned_by zero service = service
turned_by (suc n) service = turned (turned_by n service)

-- how many steps only pass before one that is more: of a call in service those of its turn but the last; none where one waits that may
-- enter; and any number where the disk has no call
abbrev pub steps_passing : ℕ → Served → ℕ
steps_passing turn_steps call = turn_steps - 1 - call.passed

abbrev pub steps_idle : Option ℕ → Option ℕ
steps_idle None = None
steps_idle (Some p) = Some 0

abbrev pub quiet_by : ℕ → Option Served → Option ℕ → Option ℕ
quiet_by turn_steps (Some call) first = Some (steps_passing turn_steps call)
quiet_by turn_steps None first = steps_idle first

unfoldable pub quiet_steps : DiskService → Option ℕ
quiet_steps service = quiet_by service.turn_steps service.served (first_of service.waiting)

-- so many of them passed
abbrev pub passed_on : ℕ → Served → Served
passed_on n call = record call { passed = call.passed + n }

unfoldable pub passed_by : ℕ → DiskService → DiskService
passed_by n service = record service { served = option_map (passed_on n) service.served }

-- the turns that are left to the call in service; and the service as that is over without further steps
abbrev pub left_to : Option Served → ℕ
left_to None = 0
left_to (Some call) = call.left

unfoldable pub turns_left : DiskService → ℕ
turns_left service = left_to service.served

unfoldable pub unserved : DiskService → DiskService
unserved service = record service { served = None }
