-- Steps in which no process runs, and steps of the disk that only pass.
use Rattle.std.specs.Prelude.{◌≡◌, ℕ, ◌+◌, ◌<◌, None, IfSome, Bool, false}
use Rattle.std.specs.Bool.{OnTrue}
use Rattle.mpm_ready.specs.Order.{first_of}
use Rattle.mpm_ready.specs.Tables.{list_at}
use Rattle.mpm_dispatcher.specs.Dispatch.{ready}
use Rattle.mpm_service.specs.Disk.{DiskService}
use Rattle.mpm_service.specs.Ahead.{passed_by}
use Rattle.mpm_kernel.specs.Disk.{with_disk}
use Rattle.mpm_system.specs.declared.system.System.{System}

-- and so many of the disk's are such, one after another
pub record CanPass (n : ℕ) (disk : DiskService) : Type 0 where
  pub within : IfSome disk.served (λ call. call.passed + n < disk.turn_steps)
  pub nobody : 0 < n → disk.served ≡ None → first_of disk.waiting ≡ None

-- no process runs, and none is ready
pub record IsIdle (system : System) : Type 0 where
  pub running : system.kernel.dispatcher.running ≡ None
  pub nobody : first_of (list_at system.kernel.dispatcher.lists ready) ≡ None

-- where a test says so, no call is at the disk and none waits for it, and no records are written
pub record TellsAlone (traced : Bool) (system : System) (alone : Bool) : Type 0 where
  pub served : OnTrue alone (system.kernel.disk.served ≡ None)
  pub nobody : OnTrue alone (first_of system.kernel.disk.waiting ≡ None)
  pub untraced : OnTrue alone (traced ≡ false)

-- the system so many steps later, in which nothing else changed
abbrev pub later : System → ℕ → System
later system n = record system { steps = system.steps + n; kernel = with_disk (passed_by n) system.kernel }
