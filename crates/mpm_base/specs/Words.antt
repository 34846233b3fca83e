-- A word as its bytes in memory and on a disk. (Z80 CPU User Manual, "Addressing Modes", extended immediate addressing.)
use Rattle.std.specs.Prelude.{ℕ, ◌/◌, ◌%◌, List, [], ◌∷◌}

-- the two bytes of a word, the low one first
abbrev pub word_bytes : ℕ → List ℕ
word_bytes word = word % 256 ∷ word / 256 ∷ []
