-- What two or three bits of an opcode name. (UM0080, "Z80 Instruction Description".)
use Rattle.std.specs.Prelude.{ℕ, ◌==◌, if◌then◌else◌}
use Rattle.z80_decode.specs.declared.forms.Pair.{Pair}
use Rattle.z80_decode.specs.declared.forms.Pair.TheVariants.{BC, DE, HL, SP}
use Rattle.z80_decode.specs.declared.forms.Operand.{Operand}
use Rattle.z80_decode.specs.declared.forms.Operand.TheVariants.{B, C, D, E, H, L, Memory, A}
use Rattle.z80_decode.specs.declared.forms.Condition.{Condition}
use Rattle.z80_decode.specs.declared.forms.Condition.TheVariants.{NotZero, Zero, NoCarry, Carry, ParityOdd, ParityEven, Plus, Minus}
use Rattle.z80_decode.specs.declared.forms.Math.{Math}
use Rattle.z80_decode.specs.declared.forms.Math.TheVariants.{Add, AddCarry, Subtract, SubtractCarry, And, Xor, Or, Compare}
use Rattle.z80_decode.specs.declared.forms.Rotation.{Rotation}
use Rattle.z80_decode.specs.declared.forms.Rotation.TheVariants.{LeftCircular, RightCircular, Left, Right}

-- dd and ss
unfoldable pub pair_of : ℕ → Pair
pair_of p = if p == 0 then BC else (if p == 1 then DE else (if p == 2 then HL else SP))

-- r and (HL)
unfoldable pub operand_of : ℕ → Operand
operand_of y =
    if y == 0 then B
    else (if y == 1 then C
    else (if y == 2 then D
    else (if y == 3 then E
    else (if y == 4 then H
    else (if y == 5 then L
    else (if y == 6 then Memory
    else A))))))

-- cc
unfoldable pub condition_of : ℕ → Condition
condition_of y =
    if y == 0 then NotZero
    else (if y == 1 then Zero
    else (if y == 2 then NoCarry
    else (if y == 3 then Carry
    else (if y == 4 then ParityOdd
    else (if y == 5 then ParityEven
    else (if y == 6 then Plus
    else Minus))))))

-- ADD, ADC, SUB, SBC, AND, XOR, OR, CP
unfoldable pub math_of : ℕ → Math
math_of y =
    if y == 0 then Add
    else (if y == 1 then AddCarry
    else (if y == 2 then Subtract
    else (if y == 3 then SubtractCarry
    else (if y == 4 then And
    else (if y == 5 then Xor
    else (if y == 6 then Or
    else Compare))))))

-- RLCA, RRCA, RLA, RRA
unfoldable pub rotation_of : ℕ → Rotation
rotation_of y =
    if y == 0 then LeftCircular else (if y == 1 then RightCircular else (if y == 2 then Left else Right))
