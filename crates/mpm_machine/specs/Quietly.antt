-- Steps in a row in which nothing is written and no drive is called.
use Rattle.std.specs.Prelude.{◌≡◌, ℕ, ◌+◌, ◌<◌, List, ◌≤◌}
use Rattle.mpm_port.specs.Disks.{Disks}
use Rattle.mpm_service.specs.Ahead.{passed_by}
use Rattle.mpm_output.specs.Outside.{Outside}
use Rattle.mpm_system.specs.declared.system.System.{System}
use Rattle.mpm_system.specs.Whole.{IsWhole, NoCompletions}
use Rattle.mpm_machine.specs.declared.machine.Machine.{Machine}
use Rattle.mpm_machine.specs.State.{State, IsAt, StandsWithDrives}
use Rattle.mpm_machine.specs.Due.{NobodyDue}
use Rattle.mpm_machine.specs.Interpreting.{Interprets}
use Rattle.mpm_machine.specs.Files.{AreWithin}
use Rattle.mpm_machine.specs.Holding.{HoldsDrives, CallsAlike}
use Rattle.mpm_machine.specs.After.{after}
use Rattle.mpm_machine.specs.declared.ahead.Ahead.{Ahead}
use Rattle.mpm_machine.specs.Moving.{RunsAhead}

-- a system did so many steps, which have no output: files and what is kept of file calls stay as they are, whatever they are, and the
-- disk's steps only pass
pub record WentSilently (n : ℕ) (old new : System) : Type 0 where
  pub states : (s : State) → s.system ≡ old → AreWithin old.kernel.disk.served s.files → after n s ≡ record s { system = new }
  pub disk : new.kernel.disk ≡ passed_by n old.kernel.disk
  pub calls : CallsAlike old.kernel.dispatcher.procs new.kernel.dispatcher.procs
  pub due : 0 < n → NobodyDue new.kernel
  pub whole : IsWhole new
  pub no_completions : NoCompletions new
  pub done : new.steps ≡ old.steps + n

-- at most so many
pub record GoesSilently (most n : ℕ) (old new : System) : Type 0 where
  pub count : n ≤ most
  pub went : WentSilently n old new

-- so do instructions of the process that runs ahead, which runs ahead still
pub record RunsBurst (ahead : Ahead) (most n : ℕ) (old new : System) : Type 0 where
  pub count : n ≤ most
  pub went : WentSilently n old new
  pub still : RunsAhead ahead new

-- a machine did so many steps, while all that is outside of it stayed as it is: its drives, and what the renderer has and the sink got
pub record WentOn {D : Type 0} (disks : D → Disks) (drives : D) (outside : Outside) (n : ℕ) (old new : Machine) : Type 0 where
  pub ok : (s : State) (first : List ℕ) → StandsWithDrives old outside.kept outside.written (disks drives) s first
      → StandsWithDrives new outside.kept outside.written (disks drives) (after n s) first
  pub model : (s : State) → IsAt old (disks drives) s → IsAt new (disks drives) (after n s)
  pub still : n ≡ 0 → new.system ≡ old.system
  pub due : 0 < n → NobodyDue new.system.kernel
  pub interprets : Interprets old.system → Interprets new.system
  pub whole : IsWhole new.system
  pub no_completions : NoCompletions new.system
  pub done : new.system.steps ≡ old.system.steps + n
  pub holds : HoldsDrives disks new.system.kernel new.bdos drives
  pub turn_steps : new.system.kernel.disk.turn_steps ≡ old.system.kernel.disk.turn_steps
  pub bdos : new.bdos ≡ old.bdos
