-- Numbers of a script: decimal ones without needless zeros, and bytes of two hexadecimal digits.
use Rattle.std.specs.Prelude.{◌≡◌, ◌≤◌, IfSome, ℕ, ◌+◌, ◌-◌, ◌*◌, Bool, true, false, not, ◌&&◌, ◌==◌, nat_le, if◌then◌else◌, List, [], ◌∷◌, Option, Some, None, option_and_then}
use Rattle.std.specs.List.{list_all}
use Rattle.std.specs.Char.{is_ascii_digit}

infixl 10 ◌>>=◌
abbrev pub ◌>>=◌ : {A B : Type 0} → Option A → (A → Option B) → Option B
found >>= more = option_and_then more found

-- the number that digits stand for, after the number of those before them
unfoldable pub value_from : ℕ → List ℕ → ℕ
value_from before [] = before
value_from before (digit ∷ rest) = value_from (10 * before + (digit - 48)) rest

-- there are digits, and the first isn't a needless zero
unfoldable pub is_plain : List ℕ → Bool
is_plain [] = false
is_plain (first ∷ []) = true
is_plain (first ∷ second ∷ rest) = not (first == 48)

-- the number that digits stand for, where all are digits and it is no greater than the greatest
unfoldable pub decimal_of : ℕ → ℕ → List ℕ → Option ℕ
decimal_of greatest before text =
    if list_all is_ascii_digit text && nat_le (value_from before text) greatest then Some (value_from before text) else None

-- a decimal number without needless zeros, no greater than the greatest
unfoldable pub number_of : ℕ → List ℕ → Option ℕ
number_of greatest text = if is_plain text then decimal_of greatest 0 text else None

-- the number of a hexadecimal digit of either case
unfoldable pub hex_digit : ℕ → Option ℕ
hex_digit digit =
    if nat_le 48 digit && nat_le digit 57 then Some (digit - 48)
    else if nat_le 65 digit && nat_le digit 70 then Some (digit - 55)
    else if nat_le 97 digit && nat_le digit 102 then Some (digit - 87)
    else None

-- the byte of two digits
abbrev pub hex_byte : ℕ → ℕ → Option ℕ
hex_byte high low = do
  first ← hex_digit high
  second ← hex_digit low
  Some (16 * first + second)

-- what a reader answers: the number that is known, if there is one, which is no greater than that
pub record IsNumeral (known : Option ℕ) (greatest : ℕ) (read : Option ℕ) : Type 0 where
  pub number : read ≡ known
  pub limit : IfSome read (λ n. n ≤ greatest)
