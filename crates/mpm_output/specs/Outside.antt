-- The outside as it is seen while something is written to it, and its devices, each of which may fail.
use Rattle.std.specs.Prelude.{ℕ, List}
use Rattle.mpm_port.specs.declared.Failed.{Failed}
use Rattle.mpm_render.specs.Shown.{KeptLines}

-- the count of faults of each device
pub record DeviceFaults : Type 0 where
  pub sink : ℕ

-- what the renderer keeps, what the sink was given, and the counts of faults
pub record Outside : Type 0 where
  pub kept : KeptLines
  pub written : List ℕ
  pub faults : DeviceFaults

-- the device that failed
pub data Device : Type 0 where
  TheSink : Device

-- an error of a call that writes to the sink alone
abbrev pub by_sink : Failed → Device
by_sink failed = TheSink

-- what is seen of a renderer and a sink, by what the sink tells of itself
abbrev pub seen : {S : Type 0} → (S → List ℕ) → (S → ℕ) → KeptLines → S → Outside
seen written faults kept sink = record { kept = kept; written = written sink; faults = record { sink = faults sink } }
