-- Worked examples of what a step does.
use Rattle.std.proofs.Common.{◌≡◌, ℕ, [], ◌∷◌, Some, None, true, false, rules, refl}
use Rattle.std.specs.Prelude.{◌==◌, if◌then◌else◌}
use Rattle.std.proofs.lemmas.Grind.{common_steps}
use Rattle.z80_regs.specs.Words.{onward}
use Rattle.z80_regs.specs.Outcome.{Write}
use Rattle.z80_regs.specs.declared.regs.Regs.{Regs}
use Rattle.z80_alu.specs.Single.{block_load_flags_of, bit_test_flags}
use Rattle.z80_decode.specs.Fields.{operand_of}
use Rattle.z80_decode.specs.Opcodes.{form_of, low_quarter, high_quarter}
use Rattle.z80_decode.specs.PageOpcodes.{bit_form_of, indexed_bit_form_of, third_quarter, transfer_of, extended_form_of, index_form_of}
use Rattle.z80_decode.specs.Decoding.{index_instr_of, prefixed_instr_of, main_instr_of, instr_of}
use Rattle.z80_exec.specs.Performing.{performed, main_outcome}
use Rattle.z80_ext.specs.Extended.{extended_outcome, extended_performed}
use Rattle.z80_ext.specs.Index.{index_bits_outcome, index_outcome, index_performed}
use Rattle.z80_ext.specs.Instruction.{risen, begun, instruction}

-- CALL 0005h at 0100h, with SP at BEFEh: 01h goes to BEFDh, then 03h to BEFCh
pub call_at_0100h : (regs : Regs) (memory ports : ℕ → ℕ) → regs.halted ≡ false → regs.pc ≡ 256 → regs.sp ≡ 48894 →
    memory 256 ≡ 205 → memory 257 ≡ 5 → memory 258 ≡ 0 →
    instruction regs memory ports ≡ Some (record {
      registers = record (begun regs) { pc = 5; sp = 48892 };
      actions = Write 48893 1 ∷ Write 48892 3 ∷ [];
    })
unfolding instruction instr_of main_instr_of form_of high_quarter main_outcome performed
call_at_0100h regs memory ports runs at stack opcode low high = search (rules, common_steps)

-- JR -2 goes to itself
pub jump_to_itself : (regs : Regs) (memory ports : ℕ → ℕ) → regs.halted ≡ false → regs.pc ≡ 256 →
    memory 256 ≡ 24 → memory 257 ≡ 254 →
    instruction regs memory ports ≡ Some (record { registers = begun regs; actions = [] })
unfolding instruction instr_of main_instr_of form_of low_quarter main_outcome performed
jump_to_itself regs memory ports runs at opcode displacement = search (rules, common_steps)

-- RET with SP at FFFFh: the low byte is at FFFFh, the high byte at 0000h
pub return_around_the_end : (regs : Regs) (memory ports : ℕ → ℕ) → regs.halted ≡ false → regs.sp ≡ 65535 →
    memory regs.pc ≡ 201 → memory 65535 ≡ 52 → memory 0 ≡ 18 →
    instruction regs memory ports ≡ Some (record {
      registers = record (begun regs) { pc = 4660; sp = 1 };
      actions = [];
    })
unfolding instruction instr_of main_instr_of form_of high_quarter main_outcome performed
return_around_the_end regs memory ports runs stack opcode low high = search (rules, common_steps)

-- EX (SP),HL with SP at 8000h: the word there goes to HL, and HL there, high byte first
pub exchange_with_the_stack : (regs : Regs) (memory ports : ℕ → ℕ) → regs.halted ≡ false → regs.pc ≡ 256 →
    regs.sp ≡ 32768 → regs.h ≡ 18 → regs.l ≡ 52 → memory 256 ≡ 227 → memory 32768 ≡ 120 → memory 32769 ≡ 86 →
    instruction regs memory ports ≡ Some (record {
      registers = record (begun regs) { pc = 257; h = 86; l = 120 };
      actions = Write 32769 18 ∷ Write 32768 52 ∷ [];
    })
unfolding instruction instr_of main_instr_of form_of high_quarter main_outcome performed
exchange_with_the_stack regs memory ports runs at stack left right opcode low high = search (rules, common_steps)

-- in a HALT R alone changes, also where no listed instruction is at PC
pub halted_rests : (regs : Regs) (memory ports : ℕ → ℕ) → regs.halted ≡ true →
    instruction regs memory ports ≡ Some (record { registers = risen regs; actions = [] })
unfolding instruction
halted_rests regs memory ports halted = search (rules, common_steps)

-- EDh 24h begins no listed instruction
pub unlisted : (regs : Regs) (memory ports : ℕ → ℕ) → regs.halted ≡ false → memory regs.pc ≡ 237 →
    memory (onward regs.pc 1) ≡ 36 → instruction regs memory ports ≡ None
unfolding instruction instr_of main_instr_of form_of high_quarter prefixed_instr_of extended_form_of
unlisted regs memory ports runs prefix opcode = search (rules, common_steps)

-- LDIR at 0100h with 0002h in BC: the byte at HL goes to DE, HL and DE go up, and PC stays
pub load_repeated : (regs : Regs) (memory ports : ℕ → ℕ) → regs.halted ≡ false → regs.pc ≡ 256 →
    regs.b ≡ 0 → regs.c ≡ 2 → regs.d ≡ 2 → regs.e ≡ 0 → regs.h ≡ 3 → regs.l ≡ 255 →
    memory 256 ≡ 237 → memory 257 ≡ 176 → memory 1023 ≡ 17 →
    instruction regs memory ports ≡ Some (record {
      registers = record (begun regs) { c = 1; e = 1; h = 4; l = 0; f = block_load_flags_of true regs.f };
      actions = Write 512 17 ∷ [];
    })
unfolding instruction instr_of main_instr_of form_of high_quarter prefixed_instr_of extended_form_of third_quarter transfer_of
    extended_outcome extended_performed
load_repeated regs memory ports runs at b c d e h l prefix opcode byte = search (rules, common_steps)

-- BIT 7,(IY+1) of a byte that has it clear: Z and H are set, N is 0, the rest of F is kept
pub bit_tested_indexed : (regs : Regs) (memory ports : ℕ → ℕ) → regs.halted ≡ false → regs.pc ≡ 256 → regs.iy ≡ 4096 →
    memory 256 ≡ 253 → memory 257 ≡ 203 → memory 258 ≡ 1 → memory 259 ≡ 126 → memory 4097 ≡ 127 →
    instruction regs memory ports ≡ Some (record {
      registers = record (begun regs) { pc = 260; f = bit_test_flags true regs.f };
      actions = [];
    })
unfolding instruction instr_of main_instr_of form_of high_quarter prefixed_instr_of index_instr_of bit_form_of indexed_bit_form_of index_bits_outcome
bit_tested_indexed regs memory ports runs at iy prefix bits displacement opcode byte = search (rules, common_steps)

-- LDIR at 0100h with 0001h in BC is the last step: PC goes past it
pub load_ended : (regs : Regs) (memory ports : ℕ → ℕ) → regs.halted ≡ false → regs.pc ≡ 256 →
    regs.b ≡ 0 → regs.c ≡ 1 → regs.d ≡ 2 → regs.e ≡ 0 → regs.h ≡ 3 → regs.l ≡ 255 →
    memory 256 ≡ 237 → memory 257 ≡ 176 → memory 1023 ≡ 17 →
    instruction regs memory ports ≡ Some (record {
      registers = record (begun regs) { pc = 258; c = 0; e = 1; h = 4; l = 0; f = block_load_flags_of false regs.f };
      actions = Write 512 17 ∷ [];
    })
unfolding instruction instr_of main_instr_of form_of high_quarter prefixed_instr_of extended_form_of third_quarter transfer_of
    extended_outcome extended_performed
load_ended regs memory ports runs at b c d e h l prefix opcode byte = search (rules, common_steps)

-- EI sets both flip-flops and casts its shadow
pub interrupts_enabled : (regs : Regs) (memory ports : ℕ → ℕ) → regs.halted ≡ false → memory regs.pc ≡ 251 →
    instruction regs memory ports ≡ Some (record {
      registers = record (begun regs) { pc = onward regs.pc 1; iff1 = true; iff2 = true; shadow = true };
      actions = [];
    })
unfolding instruction instr_of main_instr_of form_of high_quarter main_outcome performed
interrupts_enabled regs memory ports runs opcode = search (rules, common_steps)

-- HALT ends the shadow, and PC stands after it
pub halt_begins : (regs : Regs) (memory ports : ℕ → ℕ) → regs.halted ≡ false → memory regs.pc ≡ 118 →
    instruction regs memory ports ≡ Some (record {
      registers = record (begun regs) { pc = onward regs.pc 1; halted = true };
      actions = [];
    })
unfolding instruction instr_of main_instr_of form_of main_outcome performed
halt_begins regs memory ports runs opcode = search (rules, common_steps)

-- all registers 0 but PC, and three bytes at 0100h
abbrev at_0100h : Regs
at_0100h = record { a = 0; f = 0; b = 0; c = 0; d = 0; e = 0; h = 0; l = 0; a2 = 0; f2 = 0; b2 = 0; c2 = 0; d2 = 0; e2 = 0; h2 = 0; l2 = 0; ix = 0; iy = 0; sp = 0; pc = 256; i = 0; r = 0; iff1 = false; iff2 = false; mode = 0; halted = false; shadow = false }

abbrev code : ℕ → ℕ
code address = if address == 256 then 221 else (if address == 257 then 126 else (if address == 258 then 254 else (if address == 65534 then 90 else 0)))

-- LD A,(IX-2) with IX at 0000h reads FFFEh
pub indexed_load : (ports : ℕ → ℕ) → instruction at_0100h code ports ≡ Some (record { registers = record at_0100h { pc = 259; a = 90; r = 1 }; actions = [] })
unfolding instruction instr_of main_instr_of form_of high_quarter prefixed_instr_of index_instr_of index_form_of operand_of index_outcome index_performed
indexed_load ports = refl

-- a shift of a byte at IX + 1 that isn't listed
pub unlisted_shift : instr_of (221 ∷ 203 ∷ 1 ∷ 54 ∷ []) ≡ None
unfolding instr_of main_instr_of form_of high_quarter prefixed_instr_of index_instr_of indexed_bit_form_of
unlisted_shift = refl
