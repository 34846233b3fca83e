-- Texts that the kernel itself writes to a console.
use Rattle.std.specs.Prelude.{ℕ, ◌+◌, List, [], ◌∷◌, ◌++◌, codes, decimal, nat_lt, if◌then◌else◌}
use Rattle.mpm_render.specs.Lines.{hex_word}

-- what it writes where a process comes to an unlisted opcode
unfoldable pub illegal_text : ℕ → List ℕ
illegal_text address = codes "Illegal instruction at " ++ (hex_word address ++ (13 ∷ 10 ∷ []))

-- the letter of a drive, and for one that no drive can be a question mark
abbrev pub drive_letter : ℕ → ℕ
drive_letter drive = if nat_lt drive 16 then 65 + drive else 63

-- what it writes of an extended error. (MP/M II Programmer's Guide, "BDOS Error Handling".)
unfoldable pub error_text : ℕ → ℕ → List ℕ
error_text code drive = codes "Bdos error " ++ (decimal code ++ (codes " on " ++ (drive_letter drive ∷ 58 ∷ 13 ∷ 10 ∷ [])))
