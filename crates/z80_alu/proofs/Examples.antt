-- Worked examples, by computation.
use Rattle.std.proofs.Common.{◌≡◌, true, false, refl}
use Rattle.std.specs.Int.Count.{ones}
use Rattle.z80_alu.specs.declared.kinds.Rotate.TheVariants.{Rl, Rrc, Sra}
use Rattle.z80_alu.specs.declared.kinds.Logic.TheVariants.{And}
use Rattle.z80_alu.specs.Flags.{byte_of}
use Rattle.z80_alu.specs.Bytes.{sum_flags, difference_flags, increment_flags, decrement_flags}
use Rattle.z80_alu.specs.Bits.{logic_flags, rotated, rotated_flags, rotated_a_flags}
use Rattle.z80_alu.specs.Decimal.{decimal_of, decimal_flags}
use Rattle.z80_alu.specs.Pairs.{word_add_flags, word_sum_flags, word_difference_of, word_difference_flags}
use Rattle.z80_alu.specs.Single.{carry_complemented_flags}

-- 7Fh + 01h is 80h: S, H and overflow
pub add_over_127 : sum_flags 0x7f 1 false 0 ≡ 0x94
unfolding sum_flags byte_of
add_over_127 = refl

-- 00h - 01h is FFh: S, H, N and C, and no overflow
pub subtract_below_0 : difference_flags 0 1 false 0 ≡ 0x93
unfolding difference_flags byte_of
subtract_below_0 = refl

-- 80h - 01h is 7Fh: overflow, H and N
pub subtract_below_minus_128 : difference_flags 0x80 1 false 0 ≡ 0x16
unfolding difference_flags byte_of
subtract_below_minus_128 = refl

-- bits 5 and 3 of F stay
pub add_keeps_bits_5_and_3 : sum_flags 1 1 false 0x28 ≡ 0x28
unfolding sum_flags byte_of
add_keeps_bits_5_and_3 = refl

-- INC of 7Fh keeps C
pub increment_of_127 : increment_flags 0x7f 1 ≡ 0x95
unfolding increment_flags byte_of
increment_of_127 = refl

-- DEC of 80h keeps C
pub decrement_of_minus_128 : decrement_flags 0x80 1 ≡ 0x17
unfolding decrement_flags byte_of
decrement_of_minus_128 = refl

-- 06h after a subtraction that borrowed into bit 3
pub adjust_after_subtraction : decimal_of 6 0x12 ≡ 0
unfolding decimal_of
adjust_after_subtraction = refl

pub adjust_after_subtraction_flags : decimal_flags 6 0x12 ≡ 0x46
unfolding decimal_flags byte_of ones
adjust_after_subtraction_flags = refl

-- 9Ah after an addition is 100 in decimal
pub adjust_to_100 : decimal_of 0x9a 0 ≡ 0
unfolding decimal_of
adjust_to_100 = refl

pub adjust_to_100_flags : decimal_flags 0x9a 0 ≡ 0x55
unfolding decimal_flags byte_of ones
adjust_to_100_flags = refl

-- AND sets H
pub and_of_nothing : logic_flags And 0xf0 0x0f 0x03 ≡ 0x54
unfolding logic_flags byte_of ones
and_of_nothing = refl

-- SRA of 81h is C0h: bit 7 stays, bit 0 moves out
pub shift_keeps_sign : rotated Sra 0x81 false ≡ 0xc0
shift_keeps_sign = refl

pub shift_keeps_sign_flags : rotated_flags Sra 0x81 0 ≡ 0x85
unfolding rotated_flags byte_of ones
shift_keeps_sign_flags = refl

-- RL takes C in
pub rotate_through_carry : rotated_flags Rl 0x80 1 ≡ 0x01
unfolding rotated_flags byte_of ones
rotate_through_carry = refl

-- RRCA keeps S, Z and P/V
pub rotate_a_keeps : rotated_a_flags Rrc 0x01 0xc4 ≡ 0xc5
unfolding rotated_a_flags byte_of
rotate_a_keeps = refl

-- ADD HL keeps S, Z and P/V
pub add_words_keeps : word_add_flags 0x0fff 1 0xc4 ≡ 0xd4
unfolding word_add_flags byte_of
add_words_keeps = refl

-- 7FFFh + 0000h + C is 8000h
pub add_words_over_32767 : word_sum_flags 0x7fff 0 true 1 ≡ 0x94
unfolding word_sum_flags byte_of
add_words_over_32767 = refl

-- 0000h - 0001h is FFFFh
pub subtract_words_below_0 : word_difference_of 0 1 false ≡ 0xffff
subtract_words_below_0 = refl

pub subtract_words_below_0_flags : word_difference_flags 0 1 false 0 ≡ 0x93
unfolding word_difference_flags byte_of
subtract_words_below_0_flags = refl

-- CCF moves C to H
pub complement_moves_carry : carry_complemented_flags 0x03 ≡ 0x10
unfolding carry_complemented_flags byte_of
complement_moves_carry = refl
