-- Consoles and printers by number. (MP/M II Programmer's Guide, "Function 146: Attach Console", "Function 158: Attach List".)
use Rattle.std.specs.Prelude.{ℕ, ◌+◌, ◌<◌}
use Rattle.mpm_base.specs.declared.unit.Unit.{Unit}
use Rattle.mpm_base.specs.declared.unit.Unit.TheVariants.{Console, Printer}

-- which numbers a unit may have
abbrev pub IsUnit : Unit → Type 0
IsUnit (Console n) = n < 8
IsUnit (Printer n) = n < 4

-- the places of units: eight consoles, then four printers
abbrev pub place_of : Unit → ℕ
place_of (Console n) = n
place_of (Printer n) = 8 + n
