-- A replay of a core, and the machine that it was taken of. (This project's own.)
use Rattle.std.specs.Prelude.{◌≡◌, ℕ}
use Rattle.mpm_core_file.specs.CoreFiles.{CoreContents}
use Rattle.mpm_replay.specs.declared.replaying.Replayed.{Replayed}
use Rattle.mpm_replay.specs.declared.stopping.Why.TheVariants.{Steps}
use Rattle.mpm_system.specs.declared.system.System.{System}
use Rattle.mpm_core.specs.Alone.{RunsAlone}
use Rattle.mpm_core.specs.Taking.{core_in}

-- a core as of another step
abbrev pub with_step : ℕ → CoreContents → CoreContents
with_step step core = record core { head = record core.head { step = step } }

-- the core is that of a process, and the next steps of its machine, so many, are instructions of that process alone: then all of them are
-- done. They leave the core that the process has after them, but the number of steps stays
pub record AgreesWith (most p seg : ℕ) (systems : ℕ → System) (old new : CoreContents) (replayed : Replayed) : Type 0 where
  pub all : replayed ≡ record { done = most; why = Steps }
  pub core : new ≡ with_step old.head.step (core_in p seg (systems most))

abbrev pub Agree : ℕ → CoreContents → CoreContents → Replayed → Type 0
Agree most old new replayed = (p seg : ℕ) (systems : ℕ → System) → old ≡ core_in p seg (systems 0) → RunsAlone most p seg systems
    → AgreesWith most p seg systems old new replayed
