-- Steps of a machine in which one process runs on alone: each is a listed instruction of its own that reads no port, and completes no
-- call.
use Rattle.std.specs.Prelude.{◌≡◌, ℕ, ◌+◌, ◌<◌, false, None}
use Rattle.mpm_system.specs.declared.system.System.{System}
use Rattle.mpm_system.specs.Whole.{IsWhole, NoCompletions}
use Rattle.mpm_machine.specs.Due.{NobodyDue}
use Rattle.mpm_machine.specs.DiskStep.{process_over}
use Rattle.mpm_machine.specs.Moving.{view_of}
use Rattle.mpm_machine.specs.Stepping.{Telling, step_with}
use Rattle.mpm_machine.specs.Contained.{Instructs}
use Rattle.mpm_replay.specs.Agreeing.{reads_in}

-- the next step is such a one. The only calls that an instruction's step can complete are that of the call in service, whose last turn
-- ends in it, and those that its end completes
pub record IsAlone (p seg : ℕ) (system : System) : Type 0 where
  pub instructs : Instructs system p seg
  pub portless : reads_in seg (view_of system p) ≡ false
  pub nobody : process_over system ≡ None

-- one step, whatever its file calls come to
pub record StepsAlone (p seg : ℕ) (old new : System) : Type 0 where
  pub telling : Telling
  pub is : new ≡ (step_with telling old).system
  pub alone : IsAlone p seg old

-- so many of them in a row, from a system that a machine has between two steps
pub record RunsAlone (count p seg : ℕ) (systems : ℕ → System) : Type 0 where
  pub whole : IsWhole (systems 0)
  pub no_completions : NoCompletions (systems 0)
  pub due : NobodyDue (systems 0).kernel
  pub each : (k : ℕ) → k < count → StepsAlone p seg (systems k) (systems (k + 1))
