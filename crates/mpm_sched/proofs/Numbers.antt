-- Two digits of a text and their number.
use Rattle.std.proofs.Common.{◌≡◌, ℕ, ◌+◌, ◌-◌, ◌*◌, ◌/◌, ◌%◌, ◌<◌, ◌≤◌, ◌&&◌, true, arith}
use Rattle.std.specs.Prelude.{nat_le}
use Rattle.std.proofs.lemmas.Bool.{and_parts, and_from}
use Rattle.std.proofs.lemmas.Bool.Decides.{nat_tests}
use Rattle.mpm_sched.specs.Entries.{is_digit}

-- a digit lies from 48 on, up to 57
digit_from : (byte : ℕ) → is_digit byte ≡ true → 48 ≤ byte
digit_from byte is = from (and_parts (nat_le 48 byte) (nat_le byte 57) is).0 where
  from : nat_le 48 byte ≡ true → 48 ≤ byte
  from h = grind (arith, nat_tests, h)

digit_to : (byte : ℕ) → is_digit byte ≡ true → byte ≤ 57
digit_to byte is = to (and_parts (nat_le 48 byte) (nat_le byte 57) is).1 where
  to : nat_le byte 57 ≡ true → byte ≤ 57
  to h = grind (arith, nat_tests, h)

pub is_digit_of : (byte : ℕ) → 48 ≤ byte → byte ≤ 57 → is_digit byte ≡ true
is_digit_of byte low high = and_from (nat_le 48 byte) (nat_le byte 57) (grind (arith, nat_tests, low)) (grind (arith, nat_tests, high))

-- of two digits: their number is below 100, and gives them back
module _ (tens ones : ℕ) (are : (is_digit tens && is_digit ones) ≡ true) where
  first : is_digit tens ≡ true
  first = (and_parts (is_digit tens) (is_digit ones) are).0

  second : is_digit ones ≡ true
  second = (and_parts (is_digit tens) (is_digit ones) are).1

  pub number_below : 10 * (tens - 48) + (ones - 48) < 100
  number_below = omega (arith, digit_from tens first, digit_to tens first, digit_from ones second, digit_to ones second)

  pub tens_of : 48 + (10 * (tens - 48) + (ones - 48)) / 10 ≡ tens
  tens_of = omega (arith, digit_from tens first, digit_to tens first, digit_from ones second, digit_to ones second)

  pub ones_of : 48 + (10 * (tens - 48) + (ones - 48)) % 10 ≡ ones
  ones_of = omega (arith, digit_from tens first, digit_to tens first, digit_from ones second, digit_to ones second)

-- of a number below 100: its digits are two, and are its number
pub are_digits : (n : ℕ) → n < 100 → (is_digit (48 + n / 10) && is_digit (48 + n % 10)) ≡ true
are_digits n h =
    and_from (is_digit (48 + n / 10)) (is_digit (48 + n % 10)) (is_digit_of (48 + n / 10) (omega arith) (omega (arith, h))) (is_digit_of (48 + n % 10) (omega arith) (omega arith))

pub number_of_digits : (n : ℕ) → n < 100 → 10 * (48 + n / 10 - 48) + (48 + n % 10 - 48) ≡ n
number_of_digits n h = omega (arith, h)
