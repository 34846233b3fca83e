-- The flags and their byte: each is read back from the other.
use Rattle.std.proofs.Common.{◌≡◌, ℕ, ◌<◌, ◌+◌, ◌*◌, ◌/◌, ◌%◌, Bool, true, false, arith}
use Rattle.std.proofs.lemmas.Bool.Decides.{nat_tests}
use Rattle.z80_alu.specs.declared.flags.Flags.{Flags}
use Rattle.z80_alu.specs.Flags.{bit, has, flags_of, byte_of}

-- a bit is below 2
pub bit_below_2 : (fact : Bool) → bit fact < 2
bit_below_2 true = omega arith
bit_below_2 false = omega arith

-- a byte of flags is a byte
pub byte_of_fits : (flags : Flags) → byte_of flags < 256
unfolding byte_of
byte_of_fits flags = omega (
  arith,
  bit_below_2 flags.sign,
  bit_below_2 flags.zero,
  bit_below_2 flags.five,
  bit_below_2 flags.half_carry,
  bit_below_2 flags.three,
  bit_below_2 flags.parity_overflow,
  bit_below_2 flags.subtract,
  bit_below_2 flags.carry,
)

-- a bit that is read, as a bit
bit_of_has : (value weight : ℕ) → bit (has value weight) ≡ value / weight % 2
bit_of_has value weight = grind (arith, nat_tests)

-- the byte of a byte's flags is that byte
pub byte_of_flags_of : (f : ℕ) → f < 256 → byte_of (flags_of f) ≡ f
unfolding byte_of
byte_of_flags_of f fits = rw (
  bit_of_has f 128,
  bit_of_has f 64,
  bit_of_has f 32,
  bit_of_has f 16,
  bit_of_has f 8,
  bit_of_has f 4,
  bit_of_has f 2,
  bit_of_has f 1,
) (omega arith)

-- the bits of a sum of bits
bits_of_sum : (s z v h t p n c : ℕ) → s < 2 → z < 2 → v < 2 → h < 2 → t < 2 → p < 2 → n < 2 → c < 2 →
    let f = 128 * s + 64 * z + 32 * v + 16 * h + 8 * t + 4 * p + 2 * n + c in
    (f / 128 % 2 ≡ s) × (f / 64 % 2 ≡ z) × (f / 32 % 2 ≡ v) × (f / 16 % 2 ≡ h)
    × (f / 8 % 2 ≡ t) × (f / 4 % 2 ≡ p) × (f / 2 % 2 ≡ n) × (f / 1 % 2 ≡ c)
bits_of_sum s z v h t p n c _s _z _v _h _t _p _n _c =
    (omega arith, omega arith, omega arith, omega arith, omega arith, omega arith, omega arith, omega arith)

-- a fact is read where its bit is
read : (value weight : ℕ) (fact : Bool) → value / weight % 2 ≡ bit fact → has value weight ≡ fact
read value weight true is = grind (arith, nat_tests)
read value weight false is = grind (arith, nat_tests)

-- the flags of the byte of flags are those flags
pub flags_of_byte_of : (flags : Flags) → flags_of (byte_of flags) ≡ flags
unfolding byte_of
flags_of_byte_of flags =
    let bits = bits_of_sum (bit flags.sign) (bit flags.zero) (bit flags.five) (bit flags.half_carry) (bit flags.three)
    (bit flags.parity_overflow) (bit flags.subtract) (bit flags.carry)
    (bit_below_2 flags.sign) (bit_below_2 flags.zero) (bit_below_2 flags.five) (bit_below_2 flags.half_carry)
    (bit_below_2 flags.three) (bit_below_2 flags.parity_overflow) (bit_below_2 flags.subtract)
    (bit_below_2 flags.carry) in
    rw (
      read (byte_of flags) 128 flags.sign bits.0,
      read (byte_of flags) 64 flags.zero bits.1,
      read (byte_of flags) 32 flags.five bits.2,
      read (byte_of flags) 16 flags.half_carry bits.3,
      read (byte_of flags) 8 flags.three bits.4,
      read (byte_of flags) 4 flags.parity_overflow bits.5,
      read (byte_of flags) 2 flags.subtract bits.6,
      read (byte_of flags) 1 flags.carry bits.7,
    )
