-- What each key does to a line that is read from a console. (MP/M II Programmer's Guide, "Function 10: Read Console
-- Buffer".)
use Rattle.std.specs.Prelude.{ℕ, ◌-◌, ◌==◌, ◌||◌, if◌then◌else◌, List, [], ◌∷◌, ◌++◌, length, take}
use Rattle.mpm_line_input.specs.declared.line.LineKey.{LineKey}
use Rattle.mpm_line_input.specs.declared.line.LineKey.TheVariants.{End, Rubout, Cancel, Join}

-- CR and LF end the line, BS and 7Fh take its last byte back, ^U and ^X empty it, and every other key joins it
unfoldable pub key_of : ℕ → LineKey
key_of key =
    if key == 13 || key == 10 then End
    else if key == 8 || key == 127 then Rubout
    else if key == 21 || key == 24 then Cancel
    else Join

-- the line after a key of a meaning
abbrev pub line_by : LineKey → List ℕ → ℕ → List ℕ
line_by End line key = line
line_by Rubout line key = take (length line - 1) line
line_by Cancel line key = []
line_by Join line key = line ++ key ∷ []

-- the line after a key
unfoldable pub line_after : List ℕ → ℕ → List ℕ
line_after line key = line_by (key_of key) line key
