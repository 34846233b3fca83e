-- The bytes that came to a printer. (MP/M II Programmer's Guide, "Function 5: List Output".)
use Rattle.std.specs.Prelude.{ℕ, Bool, false, ◌==◌, if◌then◌else◌, List, [], ◌∷◌}
use Rattle.mpm_render.specs.Outputs.{Output, Said, Completed}
use Rattle.mpm_base.specs.declared.unit.Unit.{Unit}
use Rattle.mpm_base.specs.declared.unit.Unit.TheVariants.{Console, Printer}

-- the bytes that came to a printer, newest first
abbrev pub is_printer : ℕ → Unit → Bool
is_printer n (Console console) = false
is_printer n (Printer printer) = printer == n

unfoldable pub bytes_to : ℕ → List Output → List ℕ
bytes_to n [] = []
bytes_to n (Said unit byte ∷ earlier) = if is_printer n unit then byte ∷ bytes_to n earlier else (bytes_to n earlier)
bytes_to n (Completed call ∷ earlier) = bytes_to n earlier
