-- Bytes that come to a console one after another.
use Rattle.std.proofs.Common.{◌≡◌, ℕ, ◌<◌, ◌≤◌, true, false, List, [], ◌∷◌, ◌++◌, take, ap, arith}
use Rattle.std.proofs.lemmas.List.{length-set}
use Rattle.mpm_consoles.specs.Console.{spoken}
use Rattle.mpm_consoles.specs.Consoles.{Consoles, console_at}
use Rattle.mpm_consoles.specs.Handling.{spoke as spoke_units, output_spaces}
use Rattle.mpm_consoles.proofs.ColumnLaws.{spaces_most as most_there, tab_is_spaces as spaces_there, tab_is_itself as itself_there}
use Rattle.mpm_consoles.proofs.SpokeLaws.{column_spoke as column_in_units, spoke_none as none_in_units, spoke_both as both_in_units, output_itself, output_tabbed}
use Rattle.mpm_base.specs.declared.unit.Unit.TheVariants.{Console as ConsoleUnit}
use Rattle.mpm_kernel.specs.Kernel.{Kernel, IsConsole}
use Rattle.mpm_kernel.specs.Columns.{columns_after, tab_text, column_of, spoke, wrote, spaces_for}

with_units : Kernel → Consoles → Kernel
with_units kernel units = record kernel { units = units }

-- the column after some bytes
pub column_spoke : (kernel : Kernel) (console : ℕ) (bytes : List ℕ) → IsConsole kernel console
    → column_of (spoke kernel console bytes) console ≡ columns_after (column_of kernel console) bytes
unfolding spoke
column_spoke kernel console bytes has = column_in_units kernel.units console bytes has

pub has_spoke : (kernel : Kernel) (console : ℕ) (bytes : List ℕ) → IsConsole kernel console → IsConsole (spoke kernel console bytes) console
unfolding spoke spoke_units
has_spoke kernel console bytes has = omega (arith, length-set kernel.units.consoles console (spoken bytes (console_at kernel.units console)), has)

pub spoke_none : (kernel : Kernel) (console : ℕ) → spoke kernel console [] ≡ kernel
unfolding spoke with_units
spoke_none kernel console = ap (with_units kernel) (none_in_units kernel.units console)

pub spoke_both : (kernel : Kernel) (console : ℕ) (a b : List ℕ) → IsConsole kernel console
    → spoke (spoke kernel console a) console b ≡ spoke kernel console (a ++ b)
unfolding spoke with_units
spoke_both kernel console a b has = ap (with_units kernel) (both_in_units kernel.units console a b has)

-- a byte that is written as itself
pub wrote_itself : (kernel : Kernel) (console byte : ℕ) → wrote kernel (ConsoleUnit console) byte false ≡ spoke kernel console (byte ∷ [])
unfolding wrote spoke with_units
wrote_itself kernel console byte = ap (with_units kernel) (output_itself kernel.units console byte)

-- a byte that is written with a tab expanded
pub wrote_tabbed : (kernel : Kernel) (console byte : ℕ)
    → wrote kernel (ConsoleUnit console) byte true ≡ spoke kernel console (tab_text (column_of kernel console) byte)
unfolding wrote spoke with_units
wrote_tabbed kernel console byte = ap (with_units kernel) (output_tabbed kernel.units console byte)

-- how many spaces stand for a byte, and what it is written as then

pub spaces_most : (kernel : Kernel) (console byte spaces : ℕ) → spaces ≡ spaces_for kernel (ConsoleUnit console) byte true → spaces ≤ 8
unfolding output_spaces
spaces_most kernel console byte spaces e = omega (arith, most_there (column_of kernel console) byte true)

pub tab_is_spaces : (kernel : Kernel) (console byte spaces : ℕ) → spaces ≡ spaces_for kernel (ConsoleUnit console) byte true → 0 < spaces
    → take {A = ℕ} spaces (32 ∷ 32 ∷ 32 ∷ 32 ∷ 32 ∷ 32 ∷ 32 ∷ 32 ∷ []) ≡ tab_text (column_of kernel console) byte
unfolding output_spaces
tab_is_spaces kernel console byte spaces e some = spaces_there (column_of kernel console) byte spaces e some

pub tab_is_itself : (kernel : Kernel) (console byte spaces : ℕ) → spaces ≡ spaces_for kernel (ConsoleUnit console) byte true → spaces ≡ 0
    → byte ∷ [] ≡ tab_text (column_of kernel console) byte
unfolding output_spaces
tab_is_itself kernel console byte spaces e none = itself_there (column_of kernel console) byte spaces e none
