-- What parts of the kernel's work ask of it, and what they leave.
use Rattle.std.specs.Prelude.{◌≡◌, ℕ, false, Option, IfSome}
use Rattle.mpm_base.specs.Calls.{Answer, answering}
use Rattle.mpm_procs.specs.Table.{Lives, call_of}
use Rattle.mpm_queues.specs.Queues.{holds}
use Rattle.mpm_service.specs.Disk.{HasBegun, begun as begun_with}
use Rattle.mpm_service.specs.Turns.{TakesTurns}
use Rattle.mpm_service.specs.Ahead.{turned_by, passed_by}
use Rattle.mpm_kernel.specs.Kernel.{Kernel, IsSoundKernel, IsConsole, MayComplete, CompletedLive}
use Rattle.mpm_kernel.specs.Disk.{with_disk}
use Rattle.mpm_kernel.specs.Ending.{discharged}

-- a call of a ready process has begun, with its function and its parameter
pub record BeginsCall (p number parameter : ℕ) (answer : Answer) (kernel : Kernel) : Type 0 where
  pub caller : MayComplete p kernel
  pub function : number ≡ (call_of kernel.dispatcher.procs p).function
  pub word : parameter ≡ (call_of kernel.dispatcher.procs p).word
  pub reply : answer ≡ answering 0

-- a console may come to a living process, or pass on where none is named
pub record MayHandOver (console : ℕ) (to : Option ℕ) (kernel : Kernel) : Type 0 where
  pub sound : IsSoundKernel kernel
  pub there : IsConsole kernel console
  pub lives : IfSome to (λ p. Lives kernel.dispatcher.procs p)

-- a process has ended, and holds nothing
pub record Discharges (p : ℕ) (old new : Kernel) : Type 0 where
  pub kernel : new ≡ discharged old p
  pub sound : IsSoundKernel new
  pub live : CompletedLive new
  pub nothing : (q : ℕ) → holds new.queues p q ≡ false

-- the call that has just entered service takes so many turns
pub record BeginsService (count : ℕ) (old new : Kernel) : Type 0 where
  pub kernel : new ≡ with_disk (λ disk. begun_with disk count) old
  pub sound : IsSoundKernel new
  pub begun : HasBegun new.disk
  pub turns : IfSome new.disk.served (TakesTurns new.disk.turn_steps count)

-- so many steps of the disk only pass
pub record PassesSteps (count : ℕ) (old new : Kernel) : Type 0 where
  pub kernel : new ≡ with_disk (passed_by count) old
  pub turned : IfSome old.disk.served (λ _. new.disk ≡ turned_by count old.disk)
  pub sound : IsSoundKernel new
  pub begun : HasBegun old.disk → HasBegun new.disk
