-- Typed keys, as a script writes them. After a text's end stands 00h, which is no key.
use Rattle.std.specs.Prelude.{ℕ, zero, suc, ◌==◌, ◌&&◌, nat_le, if◌then◌else◌, List, [], ◌∷◌, drop, length, slice_index, Option, Some, None, option_map}
use Rattle.mpm_script.specs.Numbers.{◌>>=◌, hex_byte}

-- the key of a letter after a backslash: CR, LF, a tab, the backslash
abbrev pub escape_of : ℕ → Option ℕ
escape_of letter =
    if letter == 114 then Some 13
    else if letter == 110 then Some 10
    else if letter == 116 then Some 9
    else if letter == 92 then Some 92
    else None

-- the key that a text begins with after a backslash, and what follows it: a letter, or x and two hexadecimal digits
unfoldable pub escaped : List ℕ → Option (ℕ × List ℕ)
escaped text =
    if slice_index text 0 == 120
    then option_map (λ byte. (byte, drop 3 text)) (hex_byte (slice_index text 1) (slice_index text 2))
    else option_map (λ byte. (byte, drop 1 text)) (escape_of (slice_index text 0))

-- the key that a text begins with, and what follows it: a printed byte that is no backslash, or one after a backslash
unfoldable pub key_of : List ℕ → Option (ℕ × List ℕ)
key_of text =
    if slice_index text 0 == 92 then escaped (drop 1 text)
    else if nat_le 32 (slice_index text 0) && nat_le (slice_index text 0) 126 then Some (slice_index text 0, drop 1 text)
    else None

-- the keys that a text is, at most so many
unfoldable pub keys_of : ℕ → List ℕ → Option (List ℕ)
keys_of most [] = Some []
keys_of zero (byte ∷ rest) = None
keys_of (suc most) (byte ∷ rest) = do
  key ← key_of (byte ∷ rest)
  keys ← keys_of most key.1
  Some (key.0 ∷ keys)

-- 1 to 128 keys
unfoldable pub typed_of : List ℕ → Option (List ℕ)
typed_of text = if length text == 0 then None else keys_of 128 text
