-- The flags of the instructions that set them without a sum: CPL, SCF, CCF, and those of the other groups. (UM0080,
-- "General-Purpose Arithmetic and CPU Control Groups", "Bit Set, Reset, and Test Group", "8-Bit Load Group", "Input and
-- Output Group", "Exchange, Block Transfer, and Search Group".) A flag that it calls unknown is kept.
use Rattle.std.specs.Prelude.{ℕ, Bool, true, false, not}
use Rattle.z80_alu.specs.Flags.{flags_of, byte_of, with_sign_zero, with_byte}
use Rattle.z80_alu.specs.Bytes.{difference_of, difference_half_borrows}

-- CPL
unfoldable pub complement_flags_of : ℕ → ℕ
complement_flags_of f = byte_of (record (flags_of f) { half_carry = true; subtract = true })

-- SCF
unfoldable pub carry_set_flags : ℕ → ℕ
carry_set_flags f = byte_of (record (flags_of f) { half_carry = false; subtract = false; carry = true })

-- CCF: H is the C before
unfoldable pub carry_complemented_flags : ℕ → ℕ
carry_complemented_flags f = byte_of (record (flags_of f) {
  half_carry = (flags_of f).carry;
  subtract = false;
  carry = not (flags_of f).carry;
})

-- BIT
unfoldable pub bit_test_flags : Bool → ℕ → ℕ
bit_test_flags bit_is_zero f = byte_of (record (flags_of f) {
  zero = bit_is_zero;
  half_carry = true;
  subtract = false;
})

-- LD A,I and LD A,R: P/V is IFF2
unfoldable pub interrupt_load_flags : ℕ → Bool → ℕ → ℕ
interrupt_load_flags value iff2 f = byte_of (record (with_sign_zero value (flags_of f)) {
  half_carry = false;
  parity_overflow = iff2;
  subtract = false;
})

-- IN r,(C), of the value; RLD and RRD, of the new A
unfoldable pub byte_flags : ℕ → ℕ → ℕ
byte_flags value f = byte_of (record (with_byte value (flags_of f)) {
  half_carry = false;
  subtract = false;
})

-- LDI, LDD, LDIR, LDDR: P/V is whether the new BC isn't 0
unfoldable pub block_load_flags_of : Bool → ℕ → ℕ
block_load_flags_of more f = byte_of (record (flags_of f) {
  half_carry = false;
  parity_overflow = more;
  subtract = false;
})

-- CPI, CPD, CPIR, CPDR: S, Z and H as CP, P/V is whether the new BC isn't 0
unfoldable pub block_compare_flags_of : ℕ → ℕ → Bool → ℕ → ℕ
block_compare_flags_of a b more f = byte_of (record (with_sign_zero (difference_of a b false) (flags_of f)) {
  half_carry = difference_half_borrows a b false;
  parity_overflow = more;
  subtract = true;
})

-- INI, IND, OUTI, OUTD and their repeats: Z is whether the new B is 0
unfoldable pub block_port_flags_of : Bool → ℕ → ℕ
block_port_flags_of is_done f = byte_of (record (flags_of f) { zero = is_done; subtract = true })
