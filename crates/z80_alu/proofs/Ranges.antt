-- A byte that is rotated or shifted is a byte.
use Rattle.std.proofs.Common.{ℕ, ◌<◌, Bool, true, false, arith}
use Rattle.z80_alu.specs.declared.kinds.Rotate.{Rotate}
use Rattle.z80_alu.specs.declared.kinds.Rotate.TheVariants.{Rlc, Rrc, Rl, Rr, Sla, Sra, Srl, Sll}
use Rattle.z80_alu.specs.Flags.{has}
use Rattle.z80_alu.specs.Bits.{left_with, right_with, rotated}
use Rattle.z80_alu.proofs.FlagLaws.{bit_below_2}

left_fits : (incoming : Bool) (value : ℕ) → left_with incoming value < 256
left_fits incoming value = omega (arith, bit_below_2 incoming)

right_fits : (incoming : Bool) (value : ℕ) → value < 256 → right_with incoming value < 256
right_fits incoming value fits = omega (arith, bit_below_2 incoming)

pub rotated_fits : (kind : Rotate) (value : ℕ) (carry : Bool) → value < 256 → rotated kind value carry < 256
rotated_fits Rlc value carry fits = left_fits (has value 128) value
rotated_fits Rrc value carry fits = right_fits (has value 1) value fits
rotated_fits Rl value carry fits = left_fits carry value
rotated_fits Rr value carry fits = right_fits carry value fits
rotated_fits Sla value carry fits = left_fits false value
rotated_fits Sra value carry fits = right_fits (has value 128) value fits
rotated_fits Srl value carry fits = right_fits false value fits
rotated_fits Sll value carry fits = left_fits true value
