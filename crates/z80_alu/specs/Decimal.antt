-- DAA: A made decimal after a sum or a difference of two decimal bytes. (UM0080, "DAA".)
use Rattle.std.specs.Prelude.{◌≡◌, ℕ, ◌+◌, ◌-◌, ◌*◌, ◌/◌, ◌%◌, ◌<◌, Bool, ◌||◌, ◌&&◌, nat_lt, if◌then◌else◌}
use Rattle.z80_alu.specs.declared.flags.Flags.{Flags}
use Rattle.z80_alu.specs.Flags.{bit, flags_of, byte_of, with_byte}

-- 06h is used where H is set or the low nibble exceeds 9
abbrev pub corrects_low : ℕ → Flags → Bool
corrects_low a flags = flags.half_carry || nat_lt 9 (a % 16)

-- 60h is used where C is set or A exceeds 99h
abbrev pub corrects_high : ℕ → Flags → Bool
corrects_high a flags = flags.carry || nat_lt 153 a

abbrev pub correction : ℕ → Flags → ℕ
correction a flags = (if corrects_low a flags then 6 else 0) + (if corrects_high a flags then 96 else 0)

-- the correction is subtracted where N is 1, added where N is 0
abbrev pub adjusted : ℕ → Flags → ℕ
adjusted a flags =
    if flags.subtract then (a + 256 - correction a flags) % 256 else (a + correction a flags) % 256

abbrev pub adjusted_half_carry : ℕ → Flags → Bool
adjusted_half_carry a flags =
    if flags.subtract then flags.half_carry && nat_lt (a % 16) 6 else nat_lt 9 (a % 16)

unfoldable pub decimal_of : ℕ → ℕ → ℕ
decimal_of a f = adjusted a (flags_of f)

-- N is kept
unfoldable pub decimal_flags : ℕ → ℕ → ℕ
decimal_flags a f = byte_of (record (with_byte (adjusted a (flags_of f)) (flags_of f)) {
  half_carry = adjusted_half_carry a (flags_of f);
  carry = corrects_high a (flags_of f);
})

-- a byte of two decimal digits
pub record IsDecimal (byte : ℕ) : Type 0 where
  pub tens : byte / 16 < 10
  pub ones : byte % 16 < 10

-- the number that it stands for
abbrev pub decimal_value : ℕ → ℕ
decimal_value byte = 10 * (byte / 16) + byte % 16

-- what a decimal sum leaves: a decimal byte, and the carry is worth 100
pub record IsDecimalSum (a b : ℕ) (carry : Bool) (value : ℕ) (over : Bool) : Type 0 where
  pub is_decimal : IsDecimal value
  pub sum : decimal_value value + 100 * bit over ≡ decimal_value a + decimal_value b + bit carry

-- what a decimal difference leaves: a decimal byte, and the borrow is worth 100
pub record IsDecimalDifference (a b : ℕ) (carry : Bool) (value : ℕ) (over : Bool) : Type 0 where
  pub is_decimal : IsDecimal value
  pub sum : decimal_value value + decimal_value b + bit carry ≡ decimal_value a + 100 * bit over
