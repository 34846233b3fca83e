-- At how many places of the disk a process stands, and the service without its call.
use Rattle.std.specs.Prelude.{ℕ, ◌+◌, ◌==◌, Bool, false, Option, Some, None, if◌then◌else◌}
use Rattle.mpm_ready.specs.Order.{in_list, without_slot}
use Rattle.mpm_service.specs.declared.service.Served.{Served}
use Rattle.mpm_service.specs.Disk.{DiskService}

-- the call in service is a process's
abbrev pub is_call_of : ℕ → Option Served → Bool
is_call_of p None = false
is_call_of p (Some call) = call.p == p

-- 1 where its call waits, and 1 where it is in service
unfoldable pub at_disk : DiskService → ℕ → ℕ
at_disk service p = (if in_list p service.waiting then 1 else 0) + (if is_call_of p service.served then 1 else 0)

-- its call waits no more, and where it is in service that ends
abbrev pub served_without : ℕ → Option Served → Option Served
served_without p None = None
served_without p (Some call) = if call.p == p then None else (Some call)

unfoldable pub without_call : DiskService → ℕ → DiskService
without_call service p =
    record service { waiting = without_slot p service.waiting; served = served_without p service.served }
