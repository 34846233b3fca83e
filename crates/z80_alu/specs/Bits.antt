-- AND, OR, XOR, rotations and shifts. (UM0080, "8-Bit Arithmetic Group", "Rotate and Shift Group"; for SLL "The
-- Undocumented Z80 Documented".)
use Rattle.std.specs.Prelude.{ℕ, ◌+◌, ◌*◌, ◌/◌, ◌%◌, Bool, true, false, bit_and, bit_or, bit_xor}
use Rattle.z80_alu.specs.declared.flags.Flags.{Flags}
use Rattle.z80_alu.specs.declared.kinds.Logic.{Logic}
use Rattle.z80_alu.specs.declared.kinds.Logic.TheVariants.{And, Or, Xor}
use Rattle.z80_alu.specs.declared.kinds.Rotate.{Rotate}
use Rattle.z80_alu.specs.declared.kinds.Rotate.TheVariants.{Rlc, Rrc, Rl, Rr, Sla, Sra, Srl, Sll}
use Rattle.z80_alu.specs.Flags.{bit, has, flags_of, byte_of, with_byte}

abbrev pub combined : Logic → ℕ → ℕ → ℕ
combined And a b = bit_and a b
combined Or a b = bit_or a b
combined Xor a b = bit_xor a b

-- AND sets H
abbrev pub is_and : Logic → Bool
is_and And = true
is_and Or = false
is_and Xor = false

unfoldable pub logic_flags : Logic → ℕ → ℕ → ℕ → ℕ
logic_flags kind a b f = byte_of (record (with_byte (combined kind a b) (flags_of f)) {
  half_carry = is_and kind;
  subtract = false;
  carry = false;
})

-- one to the left, with the bit that comes in as bit 0
abbrev pub left_with : Bool → ℕ → ℕ
left_with incoming value = value % 128 * 2 + bit incoming

-- one to the right, with the bit that comes in as bit 7
abbrev pub right_with : Bool → ℕ → ℕ
right_with incoming value = value / 2 + 128 * bit incoming

-- the value rotated or shifted by one, with the carry before
abbrev pub rotated : Rotate → ℕ → Bool → ℕ
rotated Rlc value carry = left_with (has value 128) value
rotated Rrc value carry = right_with (has value 1) value
rotated Rl value carry = left_with carry value
rotated Rr value carry = right_with carry value
rotated Sla value carry = left_with false value
rotated Sra value carry = right_with (has value 128) value
rotated Srl value carry = right_with false value
rotated Sll value carry = left_with true value

-- the bit that moves out: bit 7 to the left, bit 0 to the right
abbrev pub moved_out : Rotate → ℕ → Bool
moved_out Rlc value = has value 128
moved_out Rrc value = has value 1
moved_out Rl value = has value 128
moved_out Rr value = has value 1
moved_out Sla value = has value 128
moved_out Sra value = has value 1
moved_out Srl value = has value 1
moved_out Sll value = has value 128

-- the flags with the bit that a rotation or shift moves out
abbrev pub with_moved_out : Rotate → ℕ → Flags → Flags
with_moved_out kind value flags = record flags {
  half_carry = false;
  subtract = false;
  carry = moved_out kind value;
}

-- RLC, RRC, RL, RR, SLA, SRA, SRL, SLL
unfoldable pub rotated_flags : Rotate → ℕ → ℕ → ℕ
rotated_flags kind value f =
    byte_of (with_moved_out kind value (with_byte (rotated kind value (has f 1)) (flags_of f)))

-- RLCA, RRCA, RLA, RRA: S, Z and P/V are kept
unfoldable pub rotated_a_flags : Rotate → ℕ → ℕ → ℕ
rotated_a_flags kind a f = byte_of (with_moved_out kind a (flags_of f))
