-- Which form an opcode after a prefix is, by its fields x = bits 7-6, y = bits 5-3 and z = bits 2-0. (UM0080, "Z80
-- Instruction Description"; for SLL and the halves of IX and IY "The Undocumented Z80 Documented".)
use Rattle.std.specs.Prelude.{ℕ, ◌^◌, ◌/◌, ◌%◌, ◌==◌, nat_lt, nat_le, Bool, true, false, not, ◌&&◌, ◌||◌, Option, None, Some, if◌then◌else◌}
use Rattle.z80_decode.specs.declared.forms.Pair.TheVariants as pair
use Rattle.z80_decode.specs.declared.forms.StackPair.TheVariants as stack
use Rattle.z80_decode.specs.declared.forms.Operand.{Operand}
use Rattle.z80_decode.specs.declared.forms.Operand.TheVariants.{H, L, Memory}
use Rattle.z80_decode.specs.declared.forms.Form.{Form}
use Rattle.z80_decode.specs.declared.forms.Form.TheVariants as main
use Rattle.z80_decode.specs.declared.page_forms.Shift.{Shift}
use Rattle.z80_decode.specs.declared.page_forms.Shift.TheVariants.{LeftCircular, RightCircular, Left, Right, LeftArithmetic, RightArithmetic, LeftLogical, RightLogical}
use Rattle.z80_decode.specs.declared.page_forms.BitChange.TheVariants.{Rotate, Reset, Set}
use Rattle.z80_decode.specs.declared.page_forms.BitForm.{BitForm}
use Rattle.z80_decode.specs.declared.page_forms.BitForm.TheVariants.{Test, Change}
use Rattle.z80_decode.specs.declared.page_forms.Transfer.{Transfer}
use Rattle.z80_decode.specs.declared.page_forms.Transfer.TheVariants as transfer
use Rattle.z80_decode.specs.declared.page_forms.Direction.TheVariants.{Up, Down}
use Rattle.z80_decode.specs.declared.page_forms.ExtendedForm.{ExtendedForm}
use Rattle.z80_decode.specs.declared.page_forms.ExtendedForm.TheVariants as extended
use Rattle.z80_decode.specs.declared.page_forms.IndexForm.{IndexForm}
use Rattle.z80_decode.specs.declared.page_forms.IndexForm.TheVariants as index
use Rattle.z80_decode.specs.Fields.{pair_of, operand_of}
use Rattle.z80_decode.specs.Opcodes.{form_of}

-- RLC, RRC, RL, RR, SLA, SRA, SLL, SRL
unfoldable pub shift_of : ℕ → Shift
shift_of y =
    if y == 0 then LeftCircular
    else (if y == 1 then RightCircular
    else (if y == 2 then Left
    else (if y == 3 then Right
    else (if y == 4 then LeftArithmetic
    else (if y == 5 then RightArithmetic
    else (if y == 6 then LeftLogical
    else RightLogical))))))

-- the form of an opcode after CBh
unfoldable pub bit_form_of : ℕ → BitForm
bit_form_of opcode =
    let x = opcode / 64 in
    let y = opcode / 8 % 8 in
    if x == 0 then Change (Rotate (shift_of y))
    else (if x == 1 then Test (2 ^ y)
    else (if x == 2 then Change (Reset (2 ^ y))
    else (Change (Set (2 ^ y)))))

-- the form of an opcode after DDh CBh or FDh CBh: of those that name (HL) all but SLL
unfoldable pub indexed_bit_form_of : ℕ → Option BitForm
indexed_bit_form_of opcode = if opcode % 8 == 6 && not (opcode == 0x36) then Some (bit_form_of opcode) else None

-- after EDh, x = 1: columns z = 5, 6 and 7
abbrev pub interrupt_returns : ℕ → Option ExtendedForm
interrupt_returns y =
    if y == 0 then Some extended.ReturnNonmaskable else (if y == 1 then Some extended.ReturnInterrupt else None)

abbrev pub interrupt_modes : ℕ → Option ExtendedForm
interrupt_modes y =
    if y == 0 then Some (extended.Mode 0)
    else (if y == 2 then Some (extended.Mode 1)
    else (if y == 3 then Some (extended.Mode 2) else None))

abbrev pub loads_and_digits : ℕ → Option ExtendedForm
loads_and_digits y =
    if y == 0 then Some extended.StoreI
    else (if y == 1 then Some extended.StoreR
    else (if y == 2 then Some extended.LoadI
    else (if y == 3 then Some extended.LoadR
    else (if y == 4 then Some extended.RotateRight
    else (if y == 5 then Some extended.RotateLeft else None)))))

-- after EDh, x = 1; there is no IN (HL),(C) and no OUT (C),(HL)
unfoldable pub second_quarter : ℕ → ℕ → Option ExtendedForm
second_quarter y z =
    if z == 0 then (if y == 6 then None else (Some (extended.Input (operand_of y))))
    else (if z == 1 then (if y == 6 then None else (Some (extended.Output (operand_of y))))
    else (if z == 2 then
    (if y % 2 == 0 then Some (extended.SubtractPair (pair_of (y / 2))) else (Some (extended.AddPair (pair_of (y / 2)))))
    else (if z == 3 then
    (if y % 2 == 0 then Some (extended.StorePair (pair_of (y / 2))) else (Some (extended.LoadPair (pair_of (y / 2)))))
    else (if z == 4 then (if y == 0 then Some extended.Negate else None)
    else (if z == 5 then interrupt_returns y
    else (if z == 6 then interrupt_modes y
    else (loads_and_digits y)))))))

-- LD, CP, IN, OUT
unfoldable pub transfer_of : ℕ → Transfer
transfer_of z =
    if z == 0 then transfer.Load
    else (if z == 1 then transfer.Compare
    else (if z == 2 then transfer.Input
    else transfer.Output))

-- after EDh, x = 2: y = 4, 5, 6, 7 are a step up, a step down, a repeat up, a repeat down
unfoldable pub third_quarter : ℕ → ℕ → Option ExtendedForm
third_quarter y z =
    if nat_lt y 4 then None
    else (if nat_lt 3 z then None
    else (Some (extended.Block (transfer_of z) (if y % 2 == 0 then Up else Down) (nat_le 6 y))))

-- the form of an opcode after EDh
unfoldable pub extended_form_of : ℕ → Option ExtendedForm
extended_form_of opcode =
    let x = opcode / 64 in
    let y = opcode / 8 % 8 in
    let z = opcode % 8 in
    if x == 1 then second_quarter y z else (if x == 2 then third_quarter y z else None)

-- whether an operand is another one where IX or IY stands for HL: H and L are its halves, and (HL) is (IX+d) or (IY+d)
abbrev pub is_index_operand : Operand → Bool
is_index_operand H = true
is_index_operand L = true
is_index_operand Memory = true
is_index_operand other = false

-- what a form becomes where IX or IY stands for HL; None where nothing of HL is named, and at EX DE,HL
abbrev pub indexed : Form → Option IndexForm
indexed (main.AddPair pair) = Some (index.AddPair pair)
indexed (main.LoadPair pair.HL) = Some index.LoadNumber
indexed main.StoreHl = Some index.Store
indexed main.LoadHl = Some index.Load
indexed (main.IncrementPair pair.HL) = Some index.Increment
indexed (main.DecrementPair pair.HL) = Some index.Decrement
indexed (main.Increment at) = if is_index_operand at then Some (index.IncrementByte at) else None
indexed (main.Decrement at) = if is_index_operand at then Some (index.DecrementByte at) else None
indexed (main.LoadNumber to) = if is_index_operand to then Some (index.LoadByte to) else None
indexed (main.Load to Memory) = Some (index.LoadFrom to)
indexed (main.Load Memory from) = Some (index.StoreTo from)
indexed (main.Load to from) =
    if is_index_operand to || is_index_operand from then Some (index.LoadHalf to from) else None
indexed (main.Calculate math from) = if is_index_operand from then Some (index.Calculate math from) else None
indexed (main.Pop stack.HL) = Some index.Pop
indexed main.ExchangeStack = Some index.ExchangeStack
indexed (main.Push stack.HL) = Some index.Push
indexed main.JumpHl = Some index.Jump
indexed main.LoadSpHl = Some index.LoadSp
indexed other = None

abbrev pub indexed_where : Option Form → Option IndexForm
indexed_where None = None
indexed_where (Some form) = indexed form

-- the form of an opcode after DDh or FDh
unfoldable pub index_form_of : ℕ → Option IndexForm
index_form_of opcode = indexed_where (form_of opcode)
