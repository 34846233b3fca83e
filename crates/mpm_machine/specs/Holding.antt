-- What holds between steps of drives, of what is kept of file calls, and of those at the disk.
use Rattle.std.specs.Prelude.{◌≡◌, ℕ, ◌<◌, true, false, Option, Some, None, IfSome, is_some}
use Rattle.mpm_port.specs.Disks.{Disks}
use Rattle.mpm_procs.specs.Table.{Table, process_in, call_of}
use Rattle.mpm_service.specs.Disk.{HasBegun}
use Rattle.mpm_service.specs.Places.{at_disk}
use Rattle.mpm_kernel.specs.Kernel.{Kernel}
use Rattle.mpm_refusals.specs.declared.caller.Caller.{Caller}
use Rattle.mpm_file_functions.specs.declared.functions.FileFunction.{FileFunction}
use Rattle.mpm_file_functions.specs.Functions.{function_of}
use Rattle.mpm_bdos.specs.Starting.{HasBegunService}
use Rattle.mpm_bdos.specs.Serving.{Kept, InService}
use Rattle.mpm_directories.specs.Places.{directory_at}
use Rattle.mpm_bdos.specs.Turns.{FitsDrives, has_work}
use Rattle.mpm_machine.specs.Files.{FilesInService, StandsForFiles}

-- the call in service is that which its process keeps, with the multi-sector count with which it entered: neither changes while it is
-- at the disk
pub record IsOwnCall (procs : Table) (p : ℕ) (service : Option InService) : Type 0 where
  pub function : FileFunction
  pub its : function_of (call_of procs p).function ≡ Some function
  pub caller : Caller
  pub multi : caller.multi ≡ (process_in procs p).multi
  pub entered : HasBegunService caller function (call_of procs p) service

-- so it is of the one that the disk serves, if it serves one
abbrev pub OwnsService : Kernel → Option InService → Type 0
OwnsService kernel service = IfSome kernel.disk.served (λ call. IsOwnCall kernel.dispatcher.procs call.p service)

-- who waits for the disk, or is served, keeps a call that the disk serves
abbrev pub AreFiled : Kernel → Type 0
AreFiled kernel = (p : ℕ) → 0 < at_disk kernel.disk p → is_some (function_of (call_of kernel.dispatcher.procs p).function) ≡ true

-- what holds at each moment of a step. Who waits for the disk, or is served, keeps a call that the disk serves. The one in service has
-- turns left. Each mounted drive has an image of its kind's size, and what is cached is what the images have. Where no drive is mounted no
-- call in service has work
pub record HoldsKept {D : Type 0} (disks : D → Disks) (kernel : Kernel) (kept : Kept) (drives : D) : Type 0 where
  pub filed : AreFiled kernel
  pub own : OwnsService kernel kept.service
  pub begun : HasBegun kernel.disk
  pub fits : FitsDrives disks kept.mounted kept.cached drives
  pub workless : ((number : ℕ) → directory_at kept.mounted number ≡ None) → has_work kept.service ≡ false

-- between steps, what is kept and the images stand for some files too
pub record HoldsDrives {D : Type 0} (disks : D → Disks) (kernel : Kernel) (kept : Kept) (drives : D) : Type 0 where
  pub calls : HoldsKept disks kernel kept drives
  pub files : FilesInService
  pub stands : StandsForFiles kernel.disk kept (disks drives) files

-- each process keeps the same call, and its multi-sector count
pub record CallsAlike (old new : Table) : Type 0 where
  pub calls : (p : ℕ) → call_of new p ≡ call_of old p
  pub multi : (p : ℕ) → (process_in new p).multi ≡ (process_in old p).multi
