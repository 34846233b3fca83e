-- The flags, and their byte F: S Z 5 H 3 P/V N C from bit 7 down. (UM0080, "CPU Registers".) Bits 5 and 3 have no
-- meaning, and every instruction that computes flags keeps them.
use Rattle.std.specs.Prelude.{◌≡◌, ℕ, ◌+◌, ◌*◌, ◌/◌, ◌%◌, Bool, ◌==◌, nat_le, count_ones, if◌then◌else◌}
use Rattle.z80_alu.specs.declared.flags.Flags.{Flags}

-- a fact as a bit
abbrev pub bit : Bool → ℕ
bit fact = if fact then 1 else 0

-- whether the bit of a weight is set: the bit of weight 64 is bit 6
abbrev pub has : ℕ → ℕ → Bool
has value weight = value / weight % 2 == 1

-- the flags of a byte
abbrev pub flags_of : ℕ → Flags
flags_of f = record {
  sign = has f 128;
  zero = has f 64;
  five = has f 32;
  half_carry = has f 16;
  three = has f 8;
  parity_overflow = has f 4;
  subtract = has f 2;
  carry = has f 1;
}

-- the byte of flags
unfoldable pub byte_of : Flags → ℕ
byte_of flags =
    128 * bit flags.sign + 64 * bit flags.zero + 32 * bit flags.five + 16 * bit flags.half_carry
    + 8 * bit flags.three + 4 * bit flags.parity_overflow + 2 * bit flags.subtract + bit flags.carry

-- whether a byte is negative as a signed one
abbrev pub is_negative : ℕ → Bool
is_negative byte = nat_le 128 byte

-- whether the number of a byte's ones is even
abbrev pub has_even_parity : ℕ → Bool
has_even_parity byte = count_ones byte % 2 == 0

-- the flags with S and Z of a byte
abbrev pub with_sign_zero : ℕ → Flags → Flags
with_sign_zero byte flags = record flags { sign = is_negative byte; zero = byte == 0 }

-- the flags with S, Z and parity of a byte
abbrev pub with_byte : ℕ → Flags → Flags
with_byte byte flags =
    record (with_sign_zero byte flags) { parity_overflow = has_even_parity byte }

-- bits 5 and 3 of a new F are those of the old one
pub record KeepsUnused (f new : ℕ) : Type 0 where
  pub five : has new 32 ≡ has f 32
  pub three : has new 8 ≡ has f 8

-- a result, and F after it
pub record Computes (value f : ℕ) (result : ℕ × ℕ) : Type 0 where
  pub value_is : result.0 ≡ value
  pub f_is : result.1 ≡ f
