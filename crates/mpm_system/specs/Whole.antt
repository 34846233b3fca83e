-- What a machine keeps from step to step, what a part of a step makes of it, and what is so of it within a step and after it.
use Rattle.std.specs.Prelude.{◌≡◌, ◌<◌, ◌≤◌, ◌+◌, ℕ, false, List, [], All, Some, None, length, Result, OnOk}
use Rattle.mpm_banks.specs.Memory.{Memory, IsMemory, segment_of}
use Rattle.mpm_banks.specs.declared.segment.Allocation.TheVariants.{Occupied}
use Rattle.mpm_procs.specs.Table.{Lives, process_in}
use Rattle.mpm_gate.specs.Gates.{IsHome}
use Rattle.mpm_script.specs.Events.{IsTimed}
use Rattle.mpm_kernel.specs.Kernel.{Kernel, IsSoundKernel, CompletedLive, is_aborted}
use Rattle.mpm_kernel.specs.Columns.{spoke}
use Rattle.mpm_port.specs.declared.Failed.{Failed}
use Rattle.mpm_render.specs.Outputs.{Output}
use Rattle.mpm_render.specs.Shown.{KeptLines}
use Rattle.mpm_output.specs.Writing.{spoken, WritesAlone}
use Rattle.mpm_system.specs.declared.system.System.{System}
use Rattle.mpm_system.specs.Owing.{nobody_owes}

-- what a part of a step makes of the system, and the outputs that it adds, newest first
pub record SystemChange : Type 0 where
  pub system : System
  pub emitted : List Output

-- a call makes a change: after a success the system is what the change says, and its outputs came out; after an error the sink failed
-- as they did
pub record Makes {S A : Type 0} (written : S → List ℕ) (faults : S → ℕ) (change : SystemChange) (after : System) (kept : KeptLines) (sink : S) (kept' : KeptLines) (sink' : S) (result : Result A Failed) : Type 0 where
  pub system : OnOk result (after ≡ change.system)
  pub wrote : WritesAlone written faults kept sink kept' sink' change.emitted result

-- nothing is said
abbrev pub silent : System → SystemChange
silent system = record { system = system; emitted = [] }

-- bytes come to a console as they are
unfoldable pub speaking : ℕ → List ℕ → System → SystemChange
speaking console bytes system =
    record { system = record system { kernel = spoke system.kernel console bytes }; emitted = spoken console bytes }

-- those who owed something have given it back
abbrev pub paid : System → System
paid system = record system { owed = nobody_owes }

-- between steps nothing is left to be done: no held call that was completed is to be answered, no record to be written, and, where no
-- call is in service, nothing to be given back
pub record NoCompletions (system : System) : Type 0 where
  pub answered : system.kernel.dispatcher.completed ≡ []
  pub written : system.records ≡ []
  pub paid : system.kernel.disk.served ≡ None → system.owed ≡ nobody_owes

-- so many records there may be at once: one of what a step begins with, 65 of those whose held calls it completes, one of the call
-- whose last turn is over, and 64 of those whose held calls an end completes
abbrev pub most_records : ℕ
most_records = 131

-- there is room for one more, and, where there are so many, for those of 64 held calls
abbrev pub HasRoom : System → Type 0
HasRoom system = length system.records < most_records

abbrev pub HasRoomForAll : ℕ → Type 0
HasRoomForAll count = count + 64 ≤ most_records

-- processes live in the segment
abbrev pub IsOccupied : Memory → ℕ → Type 0
IsOccupied memory seg = (segment_of memory seg).allocation ≡ Occupied

-- no end by an abort is put off
abbrev pub NobodyAborted : Kernel → Type 0
NobodyAborted kernel = (p : ℕ) → is_aborted kernel.dispatcher.procs p ≡ false

-- what is so of the system within a step and after it. The kernel is sound, and whose held calls were completed lives. Each process's
-- segment exists and is nobody's to reserve. Memory has its segments, each with as many bytes as its pages have. The script has events that
-- there may be, and it is known where no end by an abort is put off
pub record IsWhole (system : System) : Type 0 where
  pub sound : IsSoundKernel system.kernel
  pub live : CompletedLive system.kernel
  pub homes : (p seg : ℕ) → Lives system.kernel.dispatcher.procs p → (process_in system.kernel.dispatcher.procs p).seg ≡ Some seg → IsHome system.memory seg
  pub lived : (p seg : ℕ) → Lives system.kernel.dispatcher.procs p → (process_in system.kernel.dispatcher.procs p).seg ≡ Some seg → IsOccupied system.memory seg
  pub memory : IsMemory system.memory
  pub script : All IsTimed system.interrupts.script
  pub settled : system.abort_deferred ≡ false → NobodyAborted system.kernel

-- a process lives in a whole system
pub record LivesInSystem (p : ℕ) (system : System) : Type 0 where
  pub whole : IsWhole system
  pub lives : Lives system.kernel.dispatcher.procs p

-- a process lives, whose call may be recorded
pub record MayRecord (p : ℕ) (system : System) : Type 0 where
  pub lives : Lives system.kernel.dispatcher.procs p
  pub room : HasRoom system
