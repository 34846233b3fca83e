-- A call that a process keeps, as the kernel does it.
use Rattle.std.specs.Prelude.{◌≡◌, ℕ}
use Rattle.mpm_base.specs.Calls.{Taken, Answer}
use Rattle.mpm_base.specs.declared.call.Outcome.{Outcome}
use Rattle.mpm_procs.specs.Table.{with_call}
use Rattle.mpm_dispatcher.specs.Dispatch.{with_procs}
use Rattle.mpm_kernel.specs.Kernel.{Kernel, dispatched}
use Rattle.mpm_kernel.specs.Called.{Called}
use Rattle.mpm_kernel.specs.Calls.{called}
use Rattle.mpm_system.specs.declared.system.System.{System}

-- a process keeps a call
abbrev pub with_kept : ℕ → Taken → Kernel → Kernel
with_kept p call kernel = dispatched (with_procs (with_call kernel.dispatcher.procs p call)) kernel

abbrev pub asking : ℕ → Taken → System → System
asking p call system = record system { kernel = with_kept p call system.kernel }

-- what becomes of the system and of the call, and the reply
pub record Served : Type 0 where
  pub system : System
  pub outcome : Outcome
  pub reply : Answer

-- a call gives the system as it is then, the outcome, and the answer
pub record CallGives (served : Served) (after : System) (result : Outcome) (answer : Answer) : Type 0 where
  pub system : after ≡ served.system
  pub outcome : result ≡ served.outcome
  pub reply : answer ≡ served.reply

-- the same of a call that concerns the kernel alone
abbrev pub served_by : Called → System → Served
served_by done system = record { system = record system { kernel = done.kernel }; outcome = done.outcome; reply = done.reply }

abbrev pub calling : ℕ → System → Served
calling p system = served_by (called p system.kernel) system
