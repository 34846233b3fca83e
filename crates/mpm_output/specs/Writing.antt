-- What writing brings about, whatever outputs came before.
use Rattle.std.specs.Prelude.{◌≡◌, ℕ, List, [], ◌++◌, Result, OnOk, IfErr}
use Rattle.mpm_port.specs.Causes.{Rose}
use Rattle.mpm_port.specs.declared.Failed.{Failed}
use Rattle.mpm_base.specs.declared.unit.Unit.TheVariants.{Console}
use Rattle.mpm_render.specs.Outputs.{Output, said, rendered}
use Rattle.mpm_render.specs.Shown.{KeptLines, Shows, EndsBetween}
use Rattle.mpm_output.specs.Outside.{Outside, Device, TheSink, by_sink, seen}

-- bytes to a console as outputs, newest first
unfoldable pub spoken : ℕ → List ℕ → List Output
spoken console bytes = said (Console console) bytes []

-- the outputs came out, and nothing failed: what stood for some outputs stands for these before them; whether records are asked
-- for stays
pub record CameOut (before after : Outside) (emitted : List Output) : Type 0 where
  pub shown : (outputs : List Output) (first : List ℕ) → Shows before.kept before.written outputs first
      → Shows after.kept after.written (emitted ++ outputs) first
  pub faults : after.faults ≡ before.faults
  pub trace : after.kept.trace ≡ before.kept.trace

-- the sink failed, whose count rose: writing stopped at a line that these outputs end, and a part of the text that they add was
-- written
pub record Stopped (before after : Outside) (emitted : List Output) : Type 0 where
  pub part : (outputs : List Output) (first : List ℕ) → Shows before.kept before.written outputs first
      → EndsBetween after.written first (rendered before.kept.trace outputs) (rendered before.kept.trace (emitted ++ outputs))
  pub rose : Rose before.faults.sink after.faults.sink
  pub trace : after.kept.trace ≡ before.kept.trace

-- what is so where that device failed
abbrev pub DeviceFails : Device → Outside → Outside → List Output → Type 0
DeviceFails TheSink before after emitted = Stopped before after emitted

-- what a call leaves that brings about these outputs: after a success they came out; after an error the device failed of which
-- the error tells
pub record Emits {A E : Type 0} (device : E → Device) (before after : Outside) (emitted : List Output) (result : Result A E) : Type 0 where
  pub ok : OnOk result (CameOut before after emitted)
  pub err : IfErr result (λ error. DeviceFails (device error) before after emitted)

-- the same of a call that writes by a renderer to a sink alone
abbrev pub WritesAlone : {S A : Type 0} → (S → List ℕ) → (S → ℕ) → KeptLines → S → KeptLines → S → List Output → Result A Failed → Type 0
WritesAlone written faults kept sink kept' sink' emitted result =
    Emits by_sink (seen written faults kept sink) (seen written faults kept' sink') emitted result
