-- A process that is made for a console, and what is so as one begins for another.
use Rattle.std.specs.Prelude.{◌≡◌, ℕ, Bool, false, List, Some, None, is_some}
use Rattle.std.specs.Bool.{OnFalse}
use Rattle.mpm_procs.specs.Table.{lowest_free}
use Rattle.mpm_procs.specs.declared.process.NewProcess.{NewProcess}
use Rattle.mpm_base.specs.declared.number.Name8.{Name8}
use Rattle.mpm_dispatcher.specs.Dispatch.{admitted, picked}
use Rattle.mpm_kernel.specs.Kernel.{Kernel, dispatched}
use Rattle.mpm_kernel.specs.Consoling.{given}
use Rattle.mpm_system.specs.Loading.{is_slot, begun_for}
use Rattle.mpm_system.specs.Opening.{with_begun, with_placed, IsBare}
use Rattle.mpm_system.specs.declared.system.System.{System}

pub record IsProcessAt (known : NewProcess) (n : ℕ) (new : NewProcess) : Type 0 where
  pub process : new ≡ known
  pub console : new.console ≡ n

-- it begins where a slot is free, which is answered; else all stays
pub record BeginsFor (p : ℕ) (new : NewProcess) (before after : Kernel) (begins : Bool) : Type 0 where
  pub answer : begins ≡ is_slot (lowest_free before.dispatcher.procs)
  pub kernel : after ≡ begun_for p new (lowest_free before.dispatcher.procs) before
  pub same : OnFalse begins (after ≡ before)

-- a resident's process begins where a slot is free, which is answered
pub record BeginsWhereFree (new : NewProcess) (before after : Kernel) (begins : Bool) : Type 0 where
  pub kernel : after ≡ with_begun (lowest_free before.dispatcher.procs) new before
  pub begun : begins ≡ is_some (lowest_free before.dispatcher.procs)

-- a process begins in the lowest free slot: it owns its console where nobody does, and the first of the ready list runs
pub record BeginsInSlot (new : NewProcess) (before after : Kernel) (p : ℕ) : Type 0 where
  pub slot : lowest_free before.dispatcher.procs ≡ Some p
  pub kernel : after ≡ dispatched (picked false) (given new.console None (Some p) (dispatched (admitted p new) before))

-- so does that of a program, which is placed into a segment of a machine that is bare yet
pub record PlacesProgram (seg : ℕ) (name : Name8) (priority console : ℕ) (program : List ℕ) (before after : System) (p : ℕ) : Type 0 where
  pub slot : lowest_free before.kernel.dispatcher.procs ≡ Some p
  pub system : after ≡ with_placed before p seg name priority console program
  pub bare : IsBare after
  pub disk : after.kernel.disk ≡ before.kernel.disk
