-- The names of entries: bit 7 of a byte of a name or a type is an attribute, the seven low bits are its character. (MP/M II
-- Programmer's Guide, "File Attributes".)
use Rattle.std.specs.Prelude.{ℕ, ◌%◌, List, map}

-- a name without bit 7
abbrev pub plain : List ℕ → List ℕ
plain name = map (λ c. c % 128) name
