-- Bytes that come to a console or a printer, and the column of a console. (MP/M II Programmer's Guide, "Function 2: Console
-- Output".)
use Rattle.std.specs.Prelude.{ℕ, Bool, List}
use Rattle.mpm_consoles.specs.Consoles.{console_at}
use Rattle.mpm_consoles.specs.Handling.{spoke as spoke_units, put_out, output_spaces}
use Rattle.mpm_base.specs.declared.unit.Unit.{Unit}
use Rattle.mpm_kernel.specs.Kernel.{Kernel}
unfoldable pub use Rattle.mpm_consoles.specs.Columns.{column_after, columns_after, tab_text, expanded}

-- the column of a console
abbrev pub column_of : Kernel → ℕ → ℕ
column_of kernel console = (console_at kernel.units console).column

-- bytes come to a console as they are
unfoldable pub spoke : Kernel → ℕ → List ℕ → Kernel
spoke kernel console bytes = record kernel { units = spoke_units kernel.units console bytes }

-- a byte comes to a unit, as itself or with a tab expanded
unfoldable pub wrote : Kernel → Unit → ℕ → Bool → Kernel
wrote kernel unit byte tabs = record kernel { units = put_out kernel.units unit byte tabs }

-- how many spaces stand for it, 0 where it stands for itself
abbrev pub spaces_for : Kernel → Unit → ℕ → Bool → ℕ
spaces_for kernel unit byte tabs = output_spaces kernel.units unit byte tabs
