-- The table of what calls read: each function stands in it once, and how many bytes each call reads.
use Rattle.std.proofs.Common.{◌≡◌, ℕ, ◌*◌, ◌≤◌, ◌==◌, ◌&&◌, nat_le, Bool, true, List, [], ◌∷◌, length, refl, arith}
use Rattle.std.specs.List.{flat_map, list_all, count_by}
use Rattle.std.proofs.Math.Nat.{mul-le-mul_right}
use Rattle.std.proofs.lemmas.List.{length-append}
use Rattle.std.proofs.lemmas.Bool.Decides.{nat_tests}
use Rattle.mpm_base.proofs.Choices.{either}
use Rattle.z80_regs.specs.Words.{onward, word_of, word_from}
use Rattle.z80_regs.specs.declared.regs.Regs.{Regs}
use Rattle.mpm_gate.specs.Bytes.{bytes_from}
use Rattle.mpm_gate.specs.Texts.{text_from}
use Rattle.mpm_base.specs.Lists.{is_among}
use Rattle.mpm_gate.specs.Reads.{ReadsRow, table, reads_by, reads_of, most_read}
use Rattle.mpm_gate.specs.Calls.{bytes_read, taken_call}
use Rattle.mpm_gate.specs.declared.take.TextEnd.TheVariants.{Dollar, NullOrReturn}
use Rattle.mpm_gate.specs.declared.reads.Reads.{Reads}
use Rattle.mpm_gate.specs.declared.reads.Reads.TheVariants.{Registers, Block, Pointing, Descriptors, DollarString, TextAtDma, Command, File, Records}
use Rattle.mpm_gate.proofs.BytesLaws.{length_bytes}
use Rattle.mpm_gate.proofs.TextLaws.{length_text}
use Rattle.mpm_gate.proofs.DescriptorLaws.{length_chain}

-- the functions that stand in the table
abbrev pub listed : List ℕ
listed = flat_map (λ (row : ReadsRow). row.functions) table

-- each of them once
pub each_once : list_all (λ function. count_by (λ other. other == function) listed == 1) listed ≡ true
each_once = refl

rows_fit : List ReadsRow → Bool
rows_fit [] = true
rows_fit (row ∷ rows) = nat_le (most_read row.reads 16) 4096 && rows_fit rows

each_fits : (rows : List ReadsRow) (function : ℕ) → rows_fit rows ≡ true → most_read (reads_by rows function) 16 ≤ 4096
unfolding rows_fit
each_fits [] function fit = omega arith
each_fits (row ∷ rows) function fit =
    let one : most_read row.reads 16 ≤ 4096 = grind (arith, nat_tests) in
    let rest : rows_fit rows ≡ true = grind (arith, nat_tests) in
    either (λ (reads : Reads). most_read reads 16 ≤ 4096) (is_among function row.functions) _ _ (λ _. one) (λ _. each_fits rows function rest)

-- a call of 16 records reads at most 4,096 bytes, whatever its function
pub table_fits : (function : ℕ) → most_read (reads_of function) 16 ≤ 4096
unfolding reads_of rows_fit
table_fits function = each_fits table function refl

-- and so does one of fewer
pub more_records : (reads : Reads) (multi : ℕ) → multi ≤ 16 → most_read reads multi ≤ most_read reads 16
more_records Registers multi few = omega arith
more_records (Block size) multi few = omega arith
more_records (Pointing size offset count) multi few = omega arith
more_records Descriptors multi few = omega arith
more_records DollarString multi few = omega arith
more_records TextAtDma multi few = omega arith
more_records Command multi few = omega arith
more_records (File size) multi few = omega arith
more_records (Records size) multi few = mul-le-mul_right size few

-- how many bytes a call reads at most
pub length_read : (reads : Reads) (word dma multi : ℕ) (memory : ℕ → ℕ) → length (bytes_read reads word dma multi memory) ≤ most_read reads multi
unfolding bytes_read
length_read Registers word dma multi memory = omega arith
length_read (Block size) word dma multi memory = omega (arith, length_bytes memory word size)
length_read (Pointing size offset count) word dma multi memory =
    let address : ℕ = word_from memory (onward word offset) in
    omega (arith, length-append (bytes_from memory word size) (bytes_from memory address count), length_bytes memory word size, length_bytes memory address count)
length_read Descriptors word dma multi memory = omega (arith, length_chain memory word 32)
length_read DollarString word dma multi memory = length_text Dollar memory word 4096
length_read TextAtDma word dma multi memory = length_text NullOrReturn memory dma 128
length_read Command word dma multi memory =
    omega (arith, length-append (bytes_from memory word 2) (text_from NullOrReturn memory (onward word 2) 128), length_bytes memory word 2, length_text NullOrReturn memory (onward word 2) 128)
length_read (File size) word dma multi memory = omega (arith, length_bytes memory dma size)
length_read (Records size) word dma multi memory = omega (arith, length_bytes memory dma (multi * size))

-- a call has room for all that it reads
pub length_taken_call : (regs : Regs) (memory : ℕ → ℕ) (dma multi : ℕ) → multi ≤ 16 → length (taken_call regs memory dma multi).bytes ≤ 4096
unfolding taken_call
length_taken_call regs memory dma multi few =
    omega (arith, length_read (reads_of regs.c) (word_of regs.e regs.d) dma multi memory, more_records (reads_of regs.c) multi few, table_fits regs.c)
