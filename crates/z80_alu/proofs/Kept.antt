-- Every instruction that computes flags keeps bits 5 and 3 of F.
use Rattle.std.proofs.Common.{◌≡◌, ℕ, Bool, ◌∙◌, ap, refl}
use Rattle.z80_alu.specs.declared.kinds.Logic.{Logic}
use Rattle.z80_alu.specs.declared.kinds.Rotate.{Rotate}
use Rattle.z80_alu.specs.declared.flags.Flags.{Flags}
use Rattle.z80_alu.specs.Flags.{has, byte_of, KeepsUnused}
use Rattle.z80_alu.specs.Bytes.{sum_flags, difference_flags, increment_flags, decrement_flags}
use Rattle.z80_alu.specs.Bits.{logic_flags, rotated_flags, rotated_a_flags}
use Rattle.z80_alu.specs.Decimal.{decimal_flags}
use Rattle.z80_alu.specs.Pairs.{word_add_flags, word_sum_flags, word_difference_flags}
use Rattle.z80_alu.specs.Single.{complement_flags_of, carry_set_flags, carry_complemented_flags, bit_test_flags, interrupt_load_flags, byte_flags, block_load_flags_of, block_compare_flags_of, block_port_flags_of}
use Rattle.z80_alu.proofs.FlagLaws.{flags_of_byte_of}

-- the byte of flags that have the old bits 5 and 3
kept : (f : ℕ) (flags : Flags) → flags.five ≡ has f 32 → flags.three ≡ has f 8 → KeepsUnused f (byte_of flags)
kept f flags same_five same_three = record {
  five = ap (λ (read : Flags). read.five) (flags_of_byte_of flags) ∙ same_five;
  three = ap (λ (read : Flags). read.three) (flags_of_byte_of flags) ∙ same_three;
}

pub sum_flags_keep : (a b : ℕ) (carry : Bool) (f : ℕ) → KeepsUnused f (sum_flags a b carry f)
unfolding sum_flags
sum_flags_keep a b carry f = kept f _ refl refl

pub difference_flags_keep : (a b : ℕ) (carry : Bool) (f : ℕ) → KeepsUnused f (difference_flags a b carry f)
unfolding difference_flags
difference_flags_keep a b carry f = kept f _ refl refl

pub increment_flags_keep : (a f : ℕ) → KeepsUnused f (increment_flags a f)
unfolding increment_flags
increment_flags_keep a f = kept f _ refl refl

pub decrement_flags_keep : (a f : ℕ) → KeepsUnused f (decrement_flags a f)
unfolding decrement_flags
decrement_flags_keep a f = kept f _ refl refl

pub logic_flags_keep : (kind : Logic) (a b f : ℕ) → KeepsUnused f (logic_flags kind a b f)
unfolding logic_flags
logic_flags_keep kind a b f = kept f _ refl refl

pub rotated_flags_keep : (kind : Rotate) (value f : ℕ) → KeepsUnused f (rotated_flags kind value f)
unfolding rotated_flags
rotated_flags_keep kind value f = kept f _ refl refl

pub rotated_a_flags_keep : (kind : Rotate) (a f : ℕ) → KeepsUnused f (rotated_a_flags kind a f)
unfolding rotated_a_flags
rotated_a_flags_keep kind a f = kept f _ refl refl

pub decimal_flags_keep : (a f : ℕ) → KeepsUnused f (decimal_flags a f)
unfolding decimal_flags
decimal_flags_keep a f = kept f _ refl refl

pub word_add_flags_keep : (a b f : ℕ) → KeepsUnused f (word_add_flags a b f)
unfolding word_add_flags
word_add_flags_keep a b f = kept f _ refl refl

pub word_sum_flags_keep : (a b : ℕ) (carry : Bool) (f : ℕ) → KeepsUnused f (word_sum_flags a b carry f)
unfolding word_sum_flags
word_sum_flags_keep a b carry f = kept f _ refl refl

pub word_difference_flags_keep : (a b : ℕ) (carry : Bool) (f : ℕ) → KeepsUnused f (word_difference_flags a b carry f)
unfolding word_difference_flags
word_difference_flags_keep a b carry f = kept f _ refl refl

pub complement_flags_keep : (f : ℕ) → KeepsUnused f (complement_flags_of f)
unfolding complement_flags_of
complement_flags_keep f = kept f _ refl refl

pub carry_set_flags_keep : (f : ℕ) → KeepsUnused f (carry_set_flags f)
unfolding carry_set_flags
carry_set_flags_keep f = kept f _ refl refl

pub carry_complemented_flags_keep : (f : ℕ) → KeepsUnused f (carry_complemented_flags f)
unfolding carry_complemented_flags
carry_complemented_flags_keep f = kept f _ refl refl

pub bit_test_flags_keep : (bit_is_zero : Bool) (f : ℕ) → KeepsUnused f (bit_test_flags bit_is_zero f)
unfolding bit_test_flags
bit_test_flags_keep bit_is_zero f = kept f _ refl refl

pub interrupt_load_flags_keep : (value : ℕ) (iff2 : Bool) (f : ℕ) → KeepsUnused f (interrupt_load_flags value iff2 f)
unfolding interrupt_load_flags
interrupt_load_flags_keep value iff2 f = kept f _ refl refl

pub byte_flags_keep : (value f : ℕ) → KeepsUnused f (byte_flags value f)
unfolding byte_flags
byte_flags_keep value f = kept f _ refl refl

pub block_load_flags_keep : (more : Bool) (f : ℕ) → KeepsUnused f (block_load_flags_of more f)
unfolding block_load_flags_of
block_load_flags_keep more f = kept f _ refl refl

pub block_compare_flags_keep : (a b : ℕ) (more : Bool) (f : ℕ) → KeepsUnused f (block_compare_flags_of a b more f)
unfolding block_compare_flags_of
block_compare_flags_keep a b more f = kept f _ refl refl

pub block_port_flags_keep : (is_done : Bool) (f : ℕ) → KeepsUnused f (block_port_flags_of is_done f)
unfolding block_port_flags_of
block_port_flags_keep is_done f = kept f _ refl refl
