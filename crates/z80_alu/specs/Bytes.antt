-- Sums and differences of bytes, and their flags. (UM0080, "8-Bit Arithmetic Group".)
use Rattle.std.specs.Prelude.{ℕ, ◌+◌, ◌-◌, ◌%◌, Bool, true, false, ◌==◌, ◌||◌, nat_lt}
use Rattle.z80_alu.specs.Flags.{bit, flags_of, byte_of, with_sign_zero}

-- a byte's signed value and 128, so that none is below 0
abbrev pub raised : ℕ → ℕ
raised byte = (byte + 128) % 256

-- whether a signed number, 256 having been added to it, is outside -128 to 127
abbrev pub is_outside : ℕ → Bool
is_outside total = nat_lt total 128 || nat_lt 383 total

-- a + b + carry
abbrev pub sum_of : ℕ → ℕ → Bool → ℕ
sum_of a b carry = (a + b + bit carry) % 256

abbrev pub sum_carries : ℕ → ℕ → Bool → Bool
sum_carries a b carry = nat_lt 255 (a + b + bit carry)

abbrev pub sum_half_carries : ℕ → ℕ → Bool → Bool
sum_half_carries a b carry = nat_lt 15 (a % 16 + b % 16 + bit carry)

abbrev pub sum_overflows : ℕ → ℕ → Bool → Bool
sum_overflows a b carry = is_outside (raised a + raised b + bit carry)

-- ADD, ADC
unfoldable pub sum_flags : ℕ → ℕ → Bool → ℕ → ℕ
sum_flags a b carry f = byte_of (record (with_sign_zero (sum_of a b carry) (flags_of f)) {
  half_carry = sum_half_carries a b carry;
  parity_overflow = sum_overflows a b carry;
  subtract = false;
  carry = sum_carries a b carry;
})

-- a - b - carry
abbrev pub difference_of : ℕ → ℕ → Bool → ℕ
difference_of a b carry = (a + 256 - (b + bit carry)) % 256

abbrev pub difference_borrows : ℕ → ℕ → Bool → Bool
difference_borrows a b carry = nat_lt a (b + bit carry)

abbrev pub difference_half_borrows : ℕ → ℕ → Bool → Bool
difference_half_borrows a b carry = nat_lt (a % 16) (b % 16 + bit carry)

abbrev pub difference_overflows : ℕ → ℕ → Bool → Bool
difference_overflows a b carry = is_outside (raised a + 256 - (raised b + bit carry))

-- SUB, SBC, CP, NEG
unfoldable pub difference_flags : ℕ → ℕ → Bool → ℕ → ℕ
difference_flags a b carry f = byte_of (record (with_sign_zero (difference_of a b carry) (flags_of f)) {
  half_carry = difference_half_borrows a b carry;
  parity_overflow = difference_overflows a b carry;
  subtract = true;
  carry = difference_borrows a b carry;
})

-- INC: 1 is added, and C is kept
unfoldable pub increment_flags : ℕ → ℕ → ℕ
increment_flags a f = byte_of (record (with_sign_zero (sum_of a 1 false) (flags_of f)) {
  half_carry = sum_half_carries a 1 false;
  parity_overflow = a == 127;
  subtract = false;
})

-- DEC: 1 is subtracted, and C is kept
unfoldable pub decrement_flags : ℕ → ℕ → ℕ
decrement_flags a f = byte_of (record (with_sign_zero (difference_of a 1 false) (flags_of f)) {
  half_carry = difference_half_borrows a 1 false;
  parity_overflow = a == 128;
  subtract = true;
})
