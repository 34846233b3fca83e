-- Tabs: one goes to the next column that eight divides. (MP/M II Programmer's Guide, "Function 2: Console Output".)
use Rattle.std.specs.Prelude.{ℕ, ◌-◌, ◌%◌}

-- how many columns a tab at a column goes on
abbrev pub tab_width : ℕ → ℕ
tab_width column = 8 - column % 8
