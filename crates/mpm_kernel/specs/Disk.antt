-- File calls at the disk, which serves one after the other in turns: what becomes of the kernel as one waits, in each step of the
-- disk, and as one is over. (The service in turns is this project's own; the order in which calls wait is that of the dispatcher:
-- MP/M II Programmer's Guide, "Dispatcher".)
use Rattle.std.specs.Prelude.{◌≡◌, ℕ, Bool, true, Some, None}
use Rattle.mpm_service.specs.declared.service.Turn.{Turn}
use Rattle.mpm_service.specs.declared.service.Turn.TheVariants.{Work}
use Rattle.mpm_service.specs.Disk.{DiskService, no_service, entered, turned, turn_answer, served_process, HasBegun, IsAfter}
use Rattle.mpm_service.specs.Ahead.{turns_left, unserved}
use Rattle.mpm_service.specs.Places.{is_call_of}
use Rattle.mpm_procs.specs.Table.{Lives, process_in}
use Rattle.mpm_dispatcher.specs.Dispatch.{descheduled, made_ready}
use Rattle.mpm_kernel.specs.Kernel.{Kernel, IsSoundKernel, places, dispatched}

-- the kernel with another service of the disk, by what becomes of it
abbrev pub with_disk : (DiskService → DiskService) → Kernel → Kernel
with_disk f kernel = record kernel { disk = f kernel.disk }

-- the call of a process is in service
abbrev pub is_served : Kernel → ℕ → Bool
is_served kernel p = is_call_of p kernel.disk.served

-- the disk serves in turns of so many steps, and serves nobody yet
abbrev pub in_turns : ℕ → Kernel → Kernel
in_turns turn_steps kernel = with_disk (λ _. no_service turn_steps) kernel

-- a process runs no more, stands in no list of the dispatcher, and its call waits after all of equal or better priority
unfoldable pub waiting_for_disk : ℕ → Kernel → Kernel
waiting_for_disk p kernel = record kernel {
  dispatcher = descheduled p kernel.dispatcher;
  disk = entered kernel.disk p (process_in kernel.dispatcher.procs p).priority;
}

-- the process whose call is over is ready again
abbrev pub ready_again : ℕ → Kernel → Kernel
ready_again p kernel = dispatched (made_ready (Some p)) kernel

-- the call of a process is over: it lives, and stands nowhere
pub record IsOver (p : ℕ) (kernel : Kernel) : Type 0 where
  pub lives : Lives kernel.dispatcher.procs p
  pub nowhere : places kernel p ≡ 0

-- a step of the disk is made, and answers what it is; the call whose last turn it was is over
pub record TurnsDisk (old new : Kernel) (result : Turn) : Type 0 where
  pub kernel : new ≡ with_disk turned old
  pub answer : result ≡ turn_answer old.disk
  pub sound : IsSoundKernel new
  pub after : IsAfter result new.disk
  pub over : (p : ℕ) → result ≡ Work p true → IsOver p new
  pub last : (p : ℕ) → result ≡ Work p true → new.disk.served ≡ None

-- the call in service is over without further steps, of which so many turns were left
pub record FinishesCall (old new : Kernel) (result : ℕ) : Type 0 where
  pub kernel : new ≡ with_disk unserved old
  pub turns : result ≡ turns_left old.disk
  pub sound : IsSoundKernel new
  pub begun : HasBegun new.disk
  pub over : (p : ℕ) → served_process old.disk ≡ Some p → IsOver p new
