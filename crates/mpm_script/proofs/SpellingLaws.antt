-- Keys that are written as a script writes them are read again.
use Rattle.std.proofs.Common.{◌≡◌, ℕ, zero, suc, ◌+◌, ◌*◌, ◌/◌, ◌%◌, ◌<◌, ◌≤◌, true, false, ◌&&◌, ◌==◌, if◌then◌else◌, List, [], ◌∷◌, ◌++◌, length, Some, option_map, inl, inr, refl, ap, arith}
use Rattle.std.specs.Prelude.{nat_le, nat_lt}
use Rattle.std.specs.List.{AllByRecursion}
use Rattle.std.proofs.lemmas.Bool.{cases_Bool}
use Rattle.std.proofs.lemmas.Bool.Decides.{nat_tests}
use Rattle.mpm_script.specs.Numbers.{hex_digit, hex_byte}
use Rattle.mpm_script.specs.Keys.{escaped, key_of, keys_of}

-- an upper-case hexadecimal digit
abbrev pub digit : ℕ → ℕ
digit n = if nat_lt n 10 then 48 + n else 55 + n

-- a key: a printed byte as it stands, a backslash twice, any other by two digits
abbrev pub spelled : ℕ → List ℕ
spelled key =
    if key == 92 then 92 ∷ 92 ∷ []
    else if nat_le 32 key && nat_le key 126 then key ∷ []
    else 92 ∷ 120 ∷ digit (key / 16) ∷ digit (key % 16) ∷ []

hex_digit_again : (n : ℕ) → n < 16 → hex_digit (digit n) ≡ Some n
unfolding hex_digit
hex_digit_again n h = grind (arith, nat_tests)

hex_byte_again : (key : ℕ) → key < 256 → hex_byte (digit (key / 16)) (digit (key % 16)) ≡ Some key
hex_byte_again key h =
    let high : key / 16 < 16 = omega arith in
    let low : key % 16 < 16 = omega arith in
    let whole : 16 * (key / 16) + key % 16 ≡ key = omega arith in
    rw (hex_digit_again (key / 16) high, hex_digit_again (key % 16) low) (ap Some whole)

slash_again : (rest : List ℕ) → key_of (92 ∷ 92 ∷ rest) ≡ Some (92, rest)
unfolding key_of escaped
slash_again rest = refl

printed_again : (key : ℕ) (rest : List ℕ) → (key == 92) ≡ false → (nat_le 32 key && nat_le key 126) ≡ true → key_of (key ∷ rest) ≡ Some (key, rest)
unfolding key_of
printed_again key rest other printed = rw (other, printed)

digits_again : (key : ℕ) (rest : List ℕ) → key < 256 → key_of (92 ∷ 120 ∷ digit (key / 16) ∷ digit (key % 16) ∷ rest) ≡ Some (key, rest)
unfolding key_of escaped
digits_again key rest h = ap (option_map (λ byte. (byte, rest))) (hex_byte_again key h)

key_again : (key : ℕ) (rest : List ℕ) → key < 256 → key_of (spelled key ++ rest) ≡ Some (key, rest)
key_again key rest h = elim (cases_Bool (key == 92)) [
  | inl slash ↦ let same : key ≡ 92 = grind (arith, nat_tests) in rw (slash, same) (slash_again rest)
  | inr other ↦ elim (cases_Bool (nat_le 32 key && nat_le key 126)) [
    | inl printed ↦ rw (other, printed) (printed_again key rest other printed)
    | inr byte ↦ rw (other, byte) (digits_again key rest h)
  ]
]

keys_step : (most : ℕ) (text : List ℕ) (key : ℕ) (rest keys : List ℕ) → key_of text ≡ Some (key, rest) → keys_of most rest ≡ Some keys → keys_of (suc most) text ≡ Some (key ∷ keys)
unfolding key_of keys_of
keys_step most [] key rest keys first others = absurd cc
keys_step most (byte ∷ more) key rest keys first others = rw (first, others)

-- some keys, one after the other
abbrev pub all_spelled : List ℕ → List ℕ
all_spelled [] = []
all_spelled (key ∷ keys) = spelled key ++ all_spelled keys

no_keys : (most : ℕ) → keys_of most [] ≡ Some []
unfolding keys_of
no_keys zero = refl
no_keys (suc most) = refl

-- each list of bytes can be typed
pub keys_again : (most : ℕ) (keys : List ℕ) → length keys ≤ most → AllByRecursion (λ key. key < 256) keys → keys_of most (all_spelled keys) ≡ Some keys
keys_again most [] few bytes = no_keys most
keys_again zero (key ∷ keys) few bytes = absurd (omega arith)
keys_again (suc most) (key ∷ keys) few bytes =
    keys_step most (spelled key ++ all_spelled keys) key (all_spelled keys) keys (key_again key (all_spelled keys) bytes.0) (keys_again most keys (omega arith) bytes.1)
