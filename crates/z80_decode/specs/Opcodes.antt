-- Which form an opcode is, by its fields x = bits 7-6, y = bits 5-3 and z = bits 2-0. (UM0080, "Z80 Instruction
-- Description".)
use Rattle.std.specs.Prelude.{ℕ, ◌-◌, ◌*◌, ◌/◌, ◌%◌, ◌==◌, nat_lt, Option, None, Some, if◌then◌else◌}
use Rattle.z80_decode.specs.declared.forms.Pair.TheVariants.{BC, DE}
use Rattle.z80_decode.specs.declared.forms.Form.{Form}
use Rattle.z80_decode.specs.declared.forms.Form.TheVariants.{Nop, ExchangeAf, DecrementJump, JumpRelative, JumpRelativeIf, LoadPair, AddPair, StoreAAt, LoadAFrom, StoreHl, LoadHl, StoreA, LoadA, IncrementPair, DecrementPair, Increment, Decrement, LoadNumber, Rotate, DecimalAdjust, Complement, SetCarry, ComplementCarry, Load, Halt, Calculate, CalculateNumber, ReturnIf, Pop, Return, Exchange, JumpHl, LoadSpHl, JumpIf, Jump, Output, Input, ExchangeStack, ExchangeDe, DisableInterrupts, EnableInterrupts, CallIf, Push, Call, Restart}
use Rattle.z80_decode.specs.Fields.{pair_of, operand_of, condition_of, math_of, rotation_of}
use Rattle.z80_decode.specs.StackPairs.{stack_pair_of}

-- x = 0: columns z = 0, 2 and 7
abbrev pub jumps_near : ℕ → Form
jumps_near y =
    if y == 0 then Nop
    else (if y == 1 then ExchangeAf
    else (if y == 2 then DecrementJump
    else (if y == 3 then JumpRelative
    else (JumpRelativeIf (condition_of (y - 4))))))

abbrev pub loads_through : ℕ → Form
loads_through y =
    if y == 0 then StoreAAt BC
    else (if y == 1 then LoadAFrom BC
    else (if y == 2 then StoreAAt DE
    else (if y == 3 then LoadAFrom DE
    else (if y == 4 then StoreHl
    else (if y == 5 then LoadHl
    else (if y == 6 then StoreA
    else LoadA))))))

abbrev pub changes_of_a : ℕ → Form
changes_of_a y =
    if nat_lt y 4 then Rotate (rotation_of y)
    else (if y == 4 then DecimalAdjust
    else (if y == 5 then Complement
    else (if y == 6 then SetCarry
    else ComplementCarry)))

-- x = 0
unfoldable pub low_quarter : ℕ → ℕ → Form
low_quarter y z =
    if z == 0 then jumps_near y
    else (if z == 1 then (if y % 2 == 0 then LoadPair (pair_of (y / 2)) else (AddPair (pair_of (y / 2))))
    else (if z == 2 then loads_through y
    else (if z == 3 then (if y % 2 == 0 then IncrementPair (pair_of (y / 2)) else (DecrementPair (pair_of (y / 2))))
    else (if z == 4 then Increment (operand_of y)
    else (if z == 5 then Decrement (operand_of y)
    else (if z == 6 then LoadNumber (operand_of y)
    else (changes_of_a y)))))))

-- x = 3: columns z = 1, 3 and 5
abbrev pub pops : ℕ → Form
pops y =
    if y % 2 == 0 then Pop (stack_pair_of (y / 2))
    else (if y == 1 then Return
    else (if y == 3 then Exchange
    else (if y == 5 then JumpHl
    else LoadSpHl)))

abbrev pub others : ℕ → Option Form
others y =
    if y == 0 then Some Jump
    else (if y == 1 then None
    else (if y == 2 then Some Output
    else (if y == 3 then Some Input
    else (if y == 4 then Some ExchangeStack
    else (if y == 5 then Some ExchangeDe
    else (if y == 6 then Some DisableInterrupts
    else (Some EnableInterrupts)))))))

abbrev pub pushes : ℕ → Option Form
pushes y =
    if y % 2 == 0 then Some (Push (stack_pair_of (y / 2))) else (if y == 1 then Some Call else None)

-- x = 3
unfoldable pub high_quarter : ℕ → ℕ → Option Form
high_quarter y z =
    if z == 0 then Some (ReturnIf (condition_of y))
    else (if z == 1 then Some (pops y)
    else (if z == 2 then Some (JumpIf (condition_of y))
    else (if z == 3 then others y
    else (if z == 4 then Some (CallIf (condition_of y))
    else (if z == 5 then pushes y
    else (if z == 6 then Some (CalculateNumber (math_of y))
    else (Some (Restart (8 * y)))))))))

-- the form of an opcode without prefix; CBh, DDh, EDh and FDh are prefixes
unfoldable pub form_of : ℕ → Option Form
form_of opcode =
    let x = opcode / 64 in
    let y = opcode / 8 % 8 in
    let z = opcode % 8 in
    if x == 0 then Some (low_quarter y z)
    else (if x == 1 then (if opcode == 118 then Some Halt else (Some (Load (operand_of y) (operand_of z))))
    else (if x == 2 then Some (Calculate (math_of y) (operand_of z))
    else (high_quarter y z)))
