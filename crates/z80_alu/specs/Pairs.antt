-- Sums and differences of words, and their flags. (UM0080, "16-Bit Arithmetic Group".)
use Rattle.std.specs.Prelude.{ℕ, ◌+◌, ◌-◌, ◌%◌, Bool, true, false, ◌==◌, ◌||◌, nat_lt, nat_le}
use Rattle.z80_alu.specs.declared.flags.Flags.{Flags}
use Rattle.z80_alu.specs.Flags.{bit, flags_of, byte_of}
use Rattle.z80_alu.specs.Bytes.{difference_borrows}

-- a word's signed value and 32,768, so that none is below 0
abbrev pub raised_word : ℕ → ℕ
raised_word word = (word + 32768) % 65536

-- whether a signed number, 65,536 having been added to it, is outside -32,768 to 32,767
abbrev pub is_outside_word : ℕ → Bool
is_outside_word total = nat_lt total 32768 || nat_lt 98303 total

-- the flags with S and Z of a word
abbrev pub with_word : ℕ → Flags → Flags
with_word word flags = record flags { sign = nat_le 32768 word; zero = word == 0 }

-- a + b + carry
abbrev pub word_sum_of : ℕ → ℕ → Bool → ℕ
word_sum_of a b carry = (a + b + bit carry) % 65536

abbrev pub word_sum_carries : ℕ → ℕ → Bool → Bool
word_sum_carries a b carry = nat_lt 65535 (a + b + bit carry)

-- the carry from bit 11
abbrev pub word_sum_half_carries : ℕ → ℕ → Bool → Bool
word_sum_half_carries a b carry = nat_lt 4095 (a % 4096 + b % 4096 + bit carry)

abbrev pub word_sum_overflows : ℕ → ℕ → Bool → Bool
word_sum_overflows a b carry = is_outside_word (raised_word a + raised_word b + bit carry)

-- ADD HL, ADD IX, ADD IY: S, Z and P/V are kept
unfoldable pub word_add_flags : ℕ → ℕ → ℕ → ℕ
word_add_flags a b f = byte_of (record (flags_of f) {
  half_carry = word_sum_half_carries a b false;
  subtract = false;
  carry = word_sum_carries a b false;
})

-- ADC HL
unfoldable pub word_sum_flags : ℕ → ℕ → Bool → ℕ → ℕ
word_sum_flags a b carry f = byte_of (record (with_word (word_sum_of a b carry) (flags_of f)) {
  half_carry = word_sum_half_carries a b carry;
  parity_overflow = word_sum_overflows a b carry;
  subtract = false;
  carry = word_sum_carries a b carry;
})

-- a - b - carry
abbrev pub word_difference_of : ℕ → ℕ → Bool → ℕ
word_difference_of a b carry = (a + 65536 - (b + bit carry)) % 65536

-- the borrow at bit 11
abbrev pub word_difference_half_borrows : ℕ → ℕ → Bool → Bool
word_difference_half_borrows a b carry = nat_lt (a % 4096) (b % 4096 + bit carry)

abbrev pub word_difference_overflows : ℕ → ℕ → Bool → Bool
word_difference_overflows a b carry = is_outside_word (raised_word a + 65536 - (raised_word b + bit carry))

-- SBC HL
unfoldable pub word_difference_flags : ℕ → ℕ → Bool → ℕ → ℕ
word_difference_flags a b carry f = byte_of (record (with_word (word_difference_of a b carry) (flags_of f)) {
  half_carry = word_difference_half_borrows a b carry;
  parity_overflow = word_difference_overflows a b carry;
  subtract = true;
  carry = difference_borrows a b carry;
})
