-- The instruction that some bytes begin with. (UM0080, "Z80 Instruction Description".)
use Rattle.std.specs.Prelude.{ℕ, ◌+◌, ◌==◌, List, slice_index, Option, None, Some, if◌then◌else◌}
use Rattle.z80_regs.specs.Words.{word_of}
use Rattle.z80_decode.specs.declared.instr.Page.{Page}
use Rattle.z80_decode.specs.declared.instr.Page.TheVariants.{Main, Cb, Ed, Ix, Iy, IxCb, IyCb}
use Rattle.z80_decode.specs.declared.instr.Instr.{Instr}
use Rattle.z80_decode.specs.declared.forms.Form.{Form}
use Rattle.z80_decode.specs.declared.forms.Form.TheVariants.{DecrementJump, JumpRelative, JumpRelativeIf, LoadPair, StoreHl, LoadHl, StoreA, LoadA, LoadNumber, CalculateNumber, JumpIf, Jump, Output, Input, CallIf, Call}
use Rattle.z80_decode.specs.declared.forms.Operand.TheVariants.{Memory}
use Rattle.z80_decode.specs.declared.forms.Tail.{Tail}
use Rattle.z80_decode.specs.declared.forms.Tail.TheVariants.{Nothing, Byte, Word, Displacement, DisplacementByte}
use Rattle.z80_decode.specs.declared.page_forms.BitForm.{BitForm}
use Rattle.z80_decode.specs.declared.page_forms.ExtendedForm.{ExtendedForm}
use Rattle.z80_decode.specs.declared.page_forms.ExtendedForm.TheVariants as extended
use Rattle.z80_decode.specs.declared.page_forms.IndexForm.{IndexForm}
use Rattle.z80_decode.specs.declared.page_forms.IndexForm.TheVariants as index
use Rattle.z80_decode.specs.Opcodes.{form_of}
use Rattle.z80_decode.specs.PageOpcodes.{indexed_bit_form_of, extended_form_of, index_form_of}

-- what follows the opcode in each form
abbrev pub tail_of : Form → Tail
tail_of (LoadNumber operand) = Byte
tail_of (CalculateNumber math) = Byte
tail_of Output = Byte
tail_of Input = Byte
tail_of (LoadPair pair) = Word
tail_of StoreHl = Word
tail_of LoadHl = Word
tail_of StoreA = Word
tail_of LoadA = Word
tail_of Jump = Word
tail_of (JumpIf condition) = Word
tail_of Call = Word
tail_of (CallIf condition) = Word
tail_of DecrementJump = Displacement
tail_of JumpRelative = Displacement
tail_of (JumpRelativeIf condition) = Displacement
tail_of other = Nothing

abbrev pub extended_tail_of : ExtendedForm → Tail
extended_tail_of (extended.StorePair pair) = Word
extended_tail_of (extended.LoadPair pair) = Word
extended_tail_of other = Nothing

abbrev pub index_tail_of : IndexForm → Tail
index_tail_of index.LoadNumber = Word
index_tail_of index.Store = Word
index_tail_of index.Load = Word
index_tail_of (index.IncrementByte Memory) = Displacement
index_tail_of (index.DecrementByte Memory) = Displacement
index_tail_of (index.LoadByte Memory) = DisplacementByte
index_tail_of (index.LoadByte half) = Byte
index_tail_of (index.LoadFrom operand) = Displacement
index_tail_of (index.StoreTo operand) = Displacement
index_tail_of (index.Calculate math Memory) = Displacement
index_tail_of other = Nothing

-- the instruction of a page whose opcode is its byte of that number, from 1, and of the two bytes after the opcode
abbrev pub instr_with : Tail → Page → ℕ → ℕ → ℕ → ℕ → Instr
instr_with Nothing page place opcode first second =
    record { length = place; page = page; opcode = opcode; displacement = 0; operand = 0 }
instr_with Byte page place opcode first second =
    record { length = place + 1; page = page; opcode = opcode; displacement = 0; operand = first }
instr_with Word page place opcode first second =
    record { length = place + 2; page = page; opcode = opcode; displacement = 0; operand = word_of first second }
instr_with Displacement page place opcode first second =
    record { length = place + 1; page = page; opcode = opcode; displacement = first; operand = 0 }
instr_with DisplacementByte page place opcode first second =
    record { length = place + 2; page = page; opcode = opcode; displacement = first; operand = second }

-- after CBh
abbrev pub bit_instr_of : ℕ → Instr
bit_instr_of opcode = instr_with Nothing Cb 2 opcode 0 0

-- the other pages by the opcode's form, where it has one
abbrev pub extended_instr_by : Option ExtendedForm → ℕ → ℕ → ℕ → Option Instr
extended_instr_by None opcode first second = None
extended_instr_by (Some form) opcode first second =
    Some (instr_with (extended_tail_of form) Ed 2 opcode first second)

abbrev pub index_instr_by : Option IndexForm → Page → ℕ → ℕ → ℕ → Option Instr
index_instr_by None page opcode first second = None
index_instr_by (Some form) page opcode first second =
    Some (instr_with (index_tail_of form) page 2 opcode first second)

-- after DDh CBh and FDh CBh: the displacement, then the opcode
abbrev pub index_bit_instr_by : Option BitForm → Page → ℕ → ℕ → Option Instr
index_bit_instr_by None page displacement opcode = None
index_bit_instr_by (Some form) page displacement opcode =
    Some (record { length = 4; page = page; opcode = opcode; displacement = displacement; operand = 0 })

-- after DDh and FDh, by their page and the page that a CBh opens
unfoldable pub index_instr_of : Page → Page → ℕ → ℕ → ℕ → Option Instr
index_instr_of page bits second third fourth =
    if second == 203 then index_bit_instr_by (indexed_bit_form_of fourth) bits third fourth
    else (index_instr_by (index_form_of second) page second third fourth)

-- after the prefixes CBh, EDh, DDh and FDh
unfoldable pub prefixed_instr_of : List ℕ → Option Instr
prefixed_instr_of bytes =
    let first = slice_index bytes 0 in
    let second = slice_index bytes 1 in
    let third = slice_index bytes 2 in
    let fourth = slice_index bytes 3 in
    if first == 203 then Some (bit_instr_of second)
    else (if first == 237 then extended_instr_by (extended_form_of second) second third fourth
    else (if first == 221 then index_instr_of Ix IxCb second third fourth
    else (index_instr_of Iy IyCb second third fourth)))

-- an instruction without prefix, by its opcode's form
abbrev pub main_instr_by : Option Form → ℕ → ℕ → ℕ → Option Instr
main_instr_by None opcode first second = None
main_instr_by (Some form) opcode first second = Some (instr_with (tail_of form) Main 1 opcode first second)

-- the same; None where the first byte is a prefix
unfoldable pub main_instr_of : List ℕ → Option Instr
main_instr_of bytes =
    let opcode = slice_index bytes 0 in
    main_instr_by (form_of opcode) opcode (slice_index bytes 1) (slice_index bytes 2)

-- the one without prefix, where there is one
abbrev pub main_or_prefixed : Option Instr → List ℕ → Option Instr
main_or_prefixed None bytes = prefixed_instr_of bytes
main_or_prefixed (Some instr) bytes = Some instr

-- the instruction that the bytes begin with; None where they begin with no listed one
unfoldable pub instr_of : List ℕ → Option Instr
instr_of bytes = main_or_prefixed (main_instr_of bytes) bytes
