-- A string that comes to a console with tabs expanded, byte after byte.
use Rattle.std.specs.Prelude.{◌≡◌, ℕ, List, Result, OnOk}
use Rattle.mpm_kernel.specs.Kernel.{Kernel}
use Rattle.mpm_kernel.specs.Columns.{column_of, expanded, spoke}
use Rattle.mpm_port.specs.declared.Failed.{Failed}
use Rattle.mpm_render.specs.Shown.{KeptLines}
use Rattle.mpm_output.specs.Writing.{spoken, WritesAlone}

-- after a success its column has moved past all of it; after an error the sink failed as it came out
pub record ShowsString {S A : Type 0} (written : S → List ℕ) (faults : S → ℕ) (console : ℕ) (string : List ℕ) (old new : Kernel) (kept : KeptLines) (sink : S) (kept' : KeptLines) (sink' : S) (result : Result A Failed) : Type 0 where
  pub kernel : OnOk result (new ≡ spoke old console (expanded (column_of old console) string))
  pub wrote : WritesAlone written faults kept sink kept' sink' (spoken console (expanded (column_of old console) string)) result
