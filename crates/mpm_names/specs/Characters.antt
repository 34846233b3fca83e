-- The characters of file names. (MP/M II Programmer's Guide, "Function 152: Parse Filename".)
use Rattle.std.specs.Prelude.{ℕ, ◌-◌, Bool, ◌==◌, ◌&&◌, ◌||◌, not, nat_le, if◌then◌else◌}

-- a space or a tab
abbrev pub is_blank : ℕ → Bool
is_blank byte = byte == 32 || byte == 9

-- what ends a name: 00h, a tab, CR, a space and , . : ; < = > [ ] |
unfoldable pub is_delimiter : ℕ → Bool
is_delimiter byte =
    byte == 0 || byte == 9 || byte == 13 || byte == 32 || byte == 44 || byte == 46 || byte == 58 || byte == 59
    || byte == 60 || byte == 61 || byte == 62 || byte == 91 || byte == 93 || byte == 124

-- what a name is made of: the printed characters that are no delimiters
unfoldable pub is_character : ℕ → Bool
is_character byte = nat_le 33 byte && nat_le byte 126 && not (is_delimiter byte)

-- a letter in upper case; every other byte is itself
abbrev pub upper : ℕ → ℕ
upper byte = if nat_le 97 byte && nat_le byte 122 then byte - 32 else byte
