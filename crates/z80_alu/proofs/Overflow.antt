-- Overflow is a signed result outside its range.
use Rattle.std.proofs.Common.{◌≡◌, ℕ, ◌<◌, ◌+◌, ◌-◌, ◌≤◌, Bool, arith}
use Rattle.std.specs.Prelude.{◌↔◌, ℤ, pos, ◌+ℤ◌, ◌-ℤ◌, IsTrue}
use Rattle.std.proofs.lemmas.Int.{ints}
use Rattle.std.proofs.lemmas.Bool.Decides.{nat_tests}
use Rattle.z80_alu.specs.Flags.{bit}
use Rattle.z80_alu.specs.Bytes.{raised, is_outside, sum_overflows, difference_overflows}
use Rattle.z80_alu.specs.Pairs.{raised_word, is_outside_word, word_sum_overflows, word_difference_overflows}
use Rattle.z80_alu.specs.Signed.{signed, signed_word, IsOutsideByte, IsOutsideWord}
use Rattle.z80_alu.proofs.FlagLaws.{bit_below_2}

raised_is : (a : ℕ) → a < 256 → pos (raised a) ≡ signed a +ℤ pos 128
raised_is a fits = grind (arith, nat_tests, ints)

outside_is : (total : ℕ) (number : ℤ) → pos total ≡ number +ℤ pos 256 →
    IsTrue (is_outside total) ↔ IsOutsideByte number
outside_is total number is = grind (arith, nat_tests, ints)

raised_word_is : (a : ℕ) → a < 65536 → pos (raised_word a) ≡ signed_word a +ℤ pos 32768
raised_word_is a fits = grind (arith, nat_tests, ints)

outside_word_is : (total : ℕ) (number : ℤ) → pos total ≡ number +ℤ pos 65536 →
    IsTrue (is_outside_word total) ↔ IsOutsideWord number
outside_word_is total number is = grind (arith, nat_tests, ints)

-- the sum of m and n, which are the signed x and y raised by a number
raised_sum : (by m n c : ℕ) (x y : ℤ) → pos m ≡ x +ℤ pos by → pos n ≡ y +ℤ pos by →
    pos (m + n + c) ≡ ((x +ℤ y) +ℤ pos c) +ℤ pos (by + by)
raised_sum by m n c x y first second = omega (arith, ints)

-- their difference
raised_difference : (by m n c : ℕ) (x y : ℤ) → n + c ≤ by + by → pos m ≡ x +ℤ pos by → pos n ≡ y +ℤ pos by →
    pos (m + (by + by) - (n + c)) ≡ ((x -ℤ y) -ℤ pos c) +ℤ pos (by + by)
raised_difference by m n c x y fits first second = omega (arith, ints)

-- ADD, ADC
pub sum_overflow : (a b : ℕ) (carry : Bool) → a < 256 → b < 256 →
    IsTrue (sum_overflows a b carry) ↔ IsOutsideByte ((signed a +ℤ signed b) +ℤ pos (bit carry))
sum_overflow a b carry first second =
    outside_is _ _ (raised_sum 128 (raised a) (raised b) (bit carry) (signed a) (signed b)
    (raised_is a first) (raised_is b second))

-- SUB, SBC
pub difference_overflow : (a b : ℕ) (carry : Bool) → a < 256 → b < 256 →
    IsTrue (difference_overflows a b carry) ↔ IsOutsideByte ((signed a -ℤ signed b) -ℤ pos (bit carry))
difference_overflow a b carry first second =
    outside_is _ _ (raised_difference 128 (raised a) (raised b) (bit carry) (signed a) (signed b)
    (omega (arith, bit_below_2 carry)) (raised_is a first) (raised_is b second))

-- ADC HL
pub word_sum_overflow : (a b : ℕ) (carry : Bool) → a < 65536 → b < 65536 →
    IsTrue (word_sum_overflows a b carry) ↔ IsOutsideWord ((signed_word a +ℤ signed_word b) +ℤ pos (bit carry))
word_sum_overflow a b carry first second =
    outside_word_is _ _ (raised_sum 32768 (raised_word a) (raised_word b) (bit carry) (signed_word a) (signed_word b)
    (raised_word_is a first) (raised_word_is b second))

-- SBC HL
pub word_difference_overflow : (a b : ℕ) (carry : Bool) → a < 65536 → b < 65536 →
    IsTrue (word_difference_overflows a b carry) ↔ IsOutsideWord ((signed_word a -ℤ signed_word b) -ℤ pos (bit carry))
word_difference_overflow a b carry first second =
    outside_word_is _ _ (raised_difference 32768 (raised_word a) (raised_word b) (bit carry) (signed_word a)
    (signed_word b) (omega (arith, bit_below_2 carry)) (raised_word_is a first) (raised_word_is b second))
