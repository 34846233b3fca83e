-- The text of a command. (MP/M II Programmer's Guide, "Function 150: Send CLI Command".)
use Rattle.std.specs.Prelude.{ℕ, Bool, ◌==◌, ◌||◌}

-- 00h or CR ends it
abbrev pub ends_text : ℕ → Bool
ends_text byte = byte == 0 || byte == 13
