-- The lines of the output text: a label, the bytes as they are written, and how the line ends.
use Rattle.std.specs.Prelude.{◌≡◌, ◌≤◌, ℕ, ◌+◌, ◌-◌, ◌/◌, ◌%◌, List, [], ◌∷◌, ◌++◌, ◌==◌, ◌&&◌, nat_lt, nat_le, length, flat_map, codes, if◌then◌else◌}

-- all the places, in the order in which unfinished lines are closed
abbrev pub places : List ℕ
places = 0 ∷ 1 ∷ 2 ∷ 3 ∷ 4 ∷ 5 ∷ 6 ∷ 7 ∷ 8 ∷ 9 ∷ 10 ∷ 11 ∷ []

-- an upper-case hexadecimal digit
abbrev pub hex_digit : ℕ → ℕ
hex_digit n = if nat_lt n 10 then 48 + n else (55 + n)

-- a byte in two hexadecimal digits, and a word of 16 bits in four
unfoldable pub hex_byte : ℕ → List ℕ
hex_byte n = hex_digit (n / 16) ∷ hex_digit (n % 16) ∷ []

unfoldable pub hex_word : ℕ → List ℕ
hex_word n = hex_byte (n / 256) ++ hex_byte (n % 256)

-- how a byte stands in a line
unfoldable pub escaped : ℕ → List ℕ
escaped byte =
    if byte == 92 then codes "\\\\"
    else (if byte == 13 then codes "\\r"
    else (if byte == 9 then codes "\\t"
    else (if nat_le 32 byte && nat_le byte 126 then byte ∷ []
    else (codes "\\x" ++ hex_byte byte))))

-- the words before a line: the kind of its unit, the unit's number, a space
abbrev pub label : ℕ → List ℕ
label place = if nat_lt place 8 then 99 ∷ (48 + place) ∷ 32 ∷ [] else (108 ∷ (48 + (place - 8)) ∷ 32 ∷ [])

-- a line that an LF ended
unfoldable pub ended_line : ℕ → List ℕ → List ℕ
ended_line place bytes = label place ++ (flat_map escaped bytes ++ (10 ∷ []))

-- a line that was cut because it was full, or closed at the end of the run
unfoldable pub cut_line : ℕ → List ℕ → List ℕ
cut_line place bytes = label place ++ (flat_map escaped bytes ++ (92 ∷ 10 ∷ []))

-- what a byte after an unfinished line writes: an LF that line, a 200th byte that line with itself, cut
unfoldable pub text_with : ℕ → ℕ → List ℕ → List ℕ
text_with place byte kept =
    if byte == 10 then ended_line place kept
    else (if length kept == 199 then cut_line place (kept ++ (byte ∷ [])) else [])

-- the unfinished line after that byte
unfoldable pub line_with : ℕ → List ℕ → List ℕ
line_with byte kept =
    if byte == 10 then []
    else (if length kept == 199 then [] else (kept ++ (byte ∷ [])))

-- a text has another one after it, of so many bytes at most
pub record AppendsBytes (more : List ℕ) (most : ℕ) (old new : List ℕ) : Type 0 where
  pub text : new ≡ old ++ more
  pub size : length new ≤ length old + most
