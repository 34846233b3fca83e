-- Drives over memory of which no call is to fail.
use Rattle.std.specs.Prelude.{◌≡◌, []}
use Rattle.mpm_port.specs.MemoryDisks.{MemoryDisks}

abbrev pub IsSteady : MemoryDisks → Type 0
IsSteady table = table.calls.failing ≡ []
