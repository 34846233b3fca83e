-- The column of a console, and tabs, which are written as spaces.
-- (MP/M II Programmer's Guide, "Function 2: Console Output".)
use Rattle.std.specs.Prelude.{ℕ, ◌+◌, ◌-◌, Bool, List, [], ◌∷◌, ◌++◌, ◌==◌, ◌&&◌, nat_le, min, replicate, if◌then◌else◌}
use Rattle.mpm_base.specs.Tabs.{tab_width}

-- a printable byte goes one column on, CR to the first column, BS one back; other bytes keep it
unfoldable pub column_after : ℕ → ℕ → ℕ
column_after column byte =
    if nat_le 32 byte && nat_le byte 126 then min (column + 1) 65535
    else (if byte == 13 then 0 else (if byte == 8 then column - 1 else column))

-- the column after bytes in order
unfoldable pub columns_after : ℕ → List ℕ → ℕ
columns_after column [] = column
columns_after column (byte ∷ rest) = columns_after (column_after column byte) rest

-- how many spaces stand for a byte, with tabs expanded or not: 0 where it stands for itself
unfoldable pub spaces_for : ℕ → ℕ → Bool → ℕ
spaces_for column byte tabs = if tabs && byte == 9 then tab_width column else 0

-- what a byte is written as, with tabs expanded
unfoldable pub tab_text : ℕ → ℕ → List ℕ
tab_text column byte = if byte == 9 then replicate (tab_width column) 32 else (byte ∷ [])

-- what a byte is written as
abbrev pub text_of : ℕ → ℕ → Bool → List ℕ
text_of column byte tabs = if tabs then tab_text column byte else (byte ∷ [])

-- a text with its tabs expanded, from a column on
unfoldable pub expanded : ℕ → List ℕ → List ℕ
expanded column [] = []
expanded column (byte ∷ rest) =
    tab_text column byte ++ expanded (columns_after column (tab_text column byte)) rest
