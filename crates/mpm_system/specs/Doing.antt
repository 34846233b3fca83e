-- What a resident does next, and what a call makes that concerns its caller alone.
use Rattle.std.specs.Prelude.{◌≡◌, ℕ, IfSome}
use Rattle.mpm_base.specs.Calls.{answering}
use Rattle.mpm_procs.specs.Table.{process_in, call_of}
use Rattle.mpm_kernel.specs.Calls.{call_done}
use Rattle.mpm_residents.specs.Natives.{native_in, native_act}
use Rattle.mpm_residents.specs.declared.cli.act.Act.{Act}
use Rattle.mpm_system.specs.Residents.{asked_by}
use Rattle.mpm_system.specs.declared.system.System.{System}

-- its process keeps the call that it fills in, and the act is its own
pub record AsksNext (p : ℕ) (before after : System) (done : Act) : Type 0 where
  pub system : after ≡ asked_by (native_in before.residents p) p before
  pub act : IfSome (native_in before.residents p) (λ native. done ≡ native_act native)

-- the kernel is as the kept call leaves it, and the reply is a value alone
pub record DoesOwnCall (p : ℕ) (before after : System) (value : ℕ) : Type 0 where
  pub system : after ≡ record before { kernel = (call_done (call_of before.kernel.dispatcher.procs p) p (process_in before.kernel.dispatcher.procs p) before.kernel).kernel }
  pub reply : answering value ≡ (call_done (call_of before.kernel.dispatcher.procs p) p (process_in before.kernel.dispatcher.procs p) before.kernel).reply
