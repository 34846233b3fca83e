-- DAA after ADD and ADC, or after SUB and SBC, of two decimal bytes gives the decimal sum or difference.
use Rattle.std.proofs.Common.{◌≡◌, ℕ, ap, Bool, true, false, arith}
use Rattle.std.proofs.lemmas.Bool.Decides.{nat_tests}
use Rattle.z80_alu.specs.declared.flags.Flags.{Flags}
use Rattle.z80_alu.specs.Flags.{has, flags_of}
use Rattle.z80_alu.specs.Bytes.{sum_of, sum_carries, sum_half_carries, sum_flags, difference_of, difference_borrows, difference_half_borrows, difference_flags}
use Rattle.z80_alu.specs.Decimal.{IsDecimal, IsDecimalSum, IsDecimalDifference, corrects_high, adjusted, decimal_of, decimal_flags}
use Rattle.z80_alu.proofs.FlagLaws.{flags_of_byte_of}

-- after a sum, whose H, N and C alone matter
adjusted_sum : (a b : ℕ) (carry : Bool) (flags : Flags) → IsDecimal a → IsDecimal b →
    flags.half_carry ≡ sum_half_carries a b carry → flags.subtract ≡ false → flags.carry ≡ sum_carries a b carry →
    IsDecimalSum a b carry (adjusted (sum_of a b carry) flags) (corrects_high (sum_of a b carry) flags)
adjusted_sum a b carry flags first second half subtract over = record {
  is_decimal = record { tens = grind (arith, nat_tests); ones = grind (arith, nat_tests) };
  sum = grind (arith, nat_tests);
}

-- after a difference
adjusted_difference : (a b : ℕ) (carry : Bool) (flags : Flags) → IsDecimal a → IsDecimal b →
    flags.half_carry ≡ difference_half_borrows a b carry → flags.subtract ≡ true →
    flags.carry ≡ difference_borrows a b carry →
    IsDecimalDifference a b carry (adjusted (difference_of a b carry) flags)
    (corrects_high (difference_of a b carry) flags)
adjusted_difference a b carry flags first second half subtract over = record {
  is_decimal = record { tens = grind (arith, nat_tests); ones = grind (arith, nat_tests) };
  sum = grind (arith, nat_tests);
}

-- the C of DAA
carry_of_decimal : (a f : ℕ) → has (decimal_flags a f) 1 ≡ corrects_high a (flags_of f)
unfolding decimal_flags
carry_of_decimal a f = ap (λ (flags : Flags). flags.carry) (flags_of_byte_of _)

-- ADD or ADC, then DAA
pub decimal_sum : (a b : ℕ) (carry : Bool) (f : ℕ) → IsDecimal a → IsDecimal b →
    IsDecimalSum a b carry (decimal_of (sum_of a b carry) (sum_flags a b carry f))
    (has (decimal_flags (sum_of a b carry) (sum_flags a b carry f)) 1)
unfolding decimal_of sum_flags
decimal_sum a b carry f first second =
    rw (carry_of_decimal (sum_of a b carry) (sum_flags a b carry f))
    (adjusted_sum a b carry (flags_of (sum_flags a b carry f)) first second
    (ap (λ (flags : Flags). flags.half_carry) (flags_of_byte_of _))
    (ap (λ (flags : Flags). flags.subtract) (flags_of_byte_of _))
    (ap (λ (flags : Flags). flags.carry) (flags_of_byte_of _)))

-- SUB or SBC, then DAA
pub decimal_difference : (a b : ℕ) (carry : Bool) (f : ℕ) → IsDecimal a → IsDecimal b →
    IsDecimalDifference a b carry (decimal_of (difference_of a b carry) (difference_flags a b carry f))
    (has (decimal_flags (difference_of a b carry) (difference_flags a b carry f)) 1)
unfolding decimal_of difference_flags
decimal_difference a b carry f first second =
    rw (carry_of_decimal (difference_of a b carry) (difference_flags a b carry f))
    (adjusted_difference a b carry (flags_of (difference_flags a b carry f)) first second
    (ap (λ (flags : Flags). flags.half_carry) (flags_of_byte_of _))
    (ap (λ (flags : Flags). flags.subtract) (flags_of_byte_of _))
    (ap (λ (flags : Flags). flags.carry) (flags_of_byte_of _)))
