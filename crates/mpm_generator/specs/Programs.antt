-- Programs of drawn blocks: each opens DATA.DAT in unlocked mode, does four hundred blocks, and ends. (UM0080, "Z80
-- Instruction Description"; MP/M II Programmer's Guide, functions 2, 15, 33, 34, 42, 43 and 141.)
use Rattle.std.specs.Prelude.{ℕ, zero, suc, ◌+◌, ◌*◌, ◌%◌, ◌==◌, if◌then◌else◌, List, [], ◌∷◌, ◌++◌}
use Rattle.mpm_generator.specs.Draws.{nth_behind, drawn}
use Rattle.mpm_generator.specs.Sizes.{filled_to, in_records}
use Rattle.mpm_generator.specs.declared.block.Block.{Block}
use Rattle.mpm_generator.specs.declared.block.Block.TheVariants.{Write, Show, Lock, Unlock, Delay, NewLine}

-- the block of three drawn numbers: which of six it is, a record, and a letter or a time
abbrev pub block_of : ℕ → ℕ → ℕ → Block
block_of kind place value =
    if kind == 0 then Write place (65 + value)
    else (if kind == 1 then Show place
    else (if kind == 2 then Lock place
    else (if kind == 3 then Unlock place
    else (if kind == 4 then Delay (value % 3 + 1)
    else NewLine))))

-- LD HL,record; LD (0124h),HL: the number of a record comes into the file control block
abbrev pub at_record : ℕ → List ℕ
at_record place = 0x21 ∷ place ∷ 0x00 ∷ 0x22 ∷ 0x24 ∷ 0x01 ∷ []

-- LD C,function; LD DE,0103h; CALL 0005h: a call on the file
abbrev pub file_call : ℕ → List ℕ
file_call function = 0x0e ∷ function ∷ 0x11 ∷ 0x03 ∷ 0x01 ∷ 0xcd ∷ 0x05 ∷ 0x00 ∷ []

-- LD HL,(0130h); LD (0080h),HL: the file's number comes to the DMA address
abbrev pub file_number : List ℕ
file_number = 0x2a ∷ 0x30 ∷ 0x01 ∷ 0x22 ∷ 0x80 ∷ 0x00 ∷ []

-- a record is locked or unlocked
abbrev pub lock_code : ℕ → ℕ → List ℕ
lock_code function place = file_number ++ (at_record place ++ file_call function)

-- the code of a block: LD A,letter and LD (0080h),A before a record is written; LD A,(0080h), LD E,A and a call of function 2
-- once it was read; LD DE,ticks and a call of function 141; CR and LF by function 2
abbrev pub code_of : Block → List ℕ
code_of (Write place letter) = 0x3e ∷ letter ∷ 0x32 ∷ 0x80 ∷ 0x00 ∷ (at_record place ++ file_call 34)
code_of (Show place) = at_record place ++ (file_call 33 ++ (0x3a ∷ 0x80 ∷ 0x00 ∷ 0x5f ∷ 0x0e ∷ 0x02 ∷ 0xcd ∷ 0x05 ∷ 0x00 ∷ []))
code_of (Lock place) = lock_code 42 place
code_of (Unlock place) = lock_code 43 place
code_of (Delay ticks) = 0x11 ∷ ticks ∷ 0x00 ∷ 0x0e ∷ 0x8d ∷ 0xcd ∷ 0x05 ∷ 0x00 ∷ []
code_of NewLine = 0x1e ∷ 0x0d ∷ 0x0e ∷ 0x02 ∷ 0xcd ∷ 0x05 ∷ 0x00 ∷ 0x1e ∷ 0x0a ∷ 0x0e ∷ 0x02 ∷ 0xcd ∷ 0x05 ∷ 0x00 ∷ []

-- the block that the next three numbers give
abbrev pub block_behind : ℕ → Block
block_behind x = block_of (drawn 6 (nth_behind 1 x)) (drawn 32 (nth_behind 2 x)) (drawn 26 (nth_behind 3 x))

-- the code of so many blocks, each of three of the numbers after a number
unfoldable pub blocks_behind : ℕ → ℕ → List ℕ
blocks_behind zero x = []
blocks_behind (suc n) x = blocks_behind n x ++ code_of (block_behind (nth_behind (3 * n) x))

-- JP 0140h; the file control block of DATA.DAT with the attribute F5', zeros up to 0140h; then the file is opened, and LD
-- HL,(0124h) and LD (0130h),HL keep its number
abbrev pub start : List ℕ
start =
    filled_to 64 0 (0xc3 ∷ 0x40 ∷ 0x01 ∷ 0x00 ∷ 0x44 ∷ 0x41 ∷ 0x54 ∷ 0x41 ∷ 0xa0 ∷ 0x20 ∷ 0x20 ∷ 0x20 ∷ 0x44 ∷ 0x41 ∷ 0x54 ∷ [])
    ++ (file_call 15 ++ (0x2a ∷ 0x24 ∷ 0x01 ∷ 0x22 ∷ 0x30 ∷ 0x01 ∷ []))

-- LD C,0; CALL 0005h: the end
abbrev pub ending : List ℕ
ending = 0x0e ∷ 0x00 ∷ 0xcd ∷ 0x05 ∷ 0x00 ∷ []

-- the code of a program, of the numbers after a number; and the program, in whole records
unfoldable pub code_behind : ℕ → List ℕ
code_behind x = start ++ (blocks_behind 400 x ++ ending)

unfoldable pub program_behind : ℕ → List ℕ
program_behind x = in_records (code_behind x)
