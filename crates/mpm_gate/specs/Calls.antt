-- A kernel call as it is taken in its gate step. (MP/M II Programmer's Guide, "BDOS Calling Conventions", "XDOS Function
-- Calls"; MP/M II System Guide, "Process Descriptor".)
use Rattle.std.specs.Prelude.{ℕ, zero, suc, ◌*◌, List, [], ◌++◌, ◌==◌, if◌then◌else◌}
use Rattle.z80_regs.specs.Words.{onward, word_of, word_from}
use Rattle.z80_regs.specs.declared.regs.Regs.{Regs}
use Rattle.mpm_base.specs.Lists.{zeros}
use Rattle.mpm_base.specs.Calls.{Taken}
use Rattle.mpm_gate.specs.Bytes.{bytes_from}
use Rattle.mpm_gate.specs.Texts.{text_from}
use Rattle.mpm_gate.specs.Reads.{reads_of}
use Rattle.mpm_gate.specs.declared.take.TextEnd.TheVariants.{Dollar, NullOrReturn}
use Rattle.mpm_gate.specs.declared.reads.Reads.{Reads}
use Rattle.mpm_gate.specs.declared.reads.Reads.TheVariants.{Registers, Block, Pointing, Descriptors, DollarString, TextAtDma, Command, File, Records}

-- a call that has taken some more bytes
abbrev pub with_more : Taken → List ℕ → Taken
with_more call more = record call { bytes = call.bytes ++ more }

-- the 16 bytes of a process descriptor, and the word at its stack pointer, which is its third word
abbrev pub descriptor_from : (ℕ → ℕ) → ℕ → List ℕ
descriptor_from memory address =
    bytes_from memory address 16 ++ bytes_from memory (word_from memory (onward address 4)) 2

-- the descriptor at an address, and those chained to it by their links, which are their first words, up to a link 0; at
-- most so many
unfoldable pub descriptors_from : (ℕ → ℕ) → ℕ → ℕ → List ℕ
descriptors_from memory address zero = []
descriptors_from memory address (suc n) =
    descriptor_from memory address
    ++ (if word_from memory address == 0 then [] else (descriptors_from memory (word_from memory address) n))

-- the bytes that a call reads besides its file control block, in order; its parameter, DMA address and multi-sector count
-- are given
unfoldable pub bytes_read : Reads → ℕ → ℕ → ℕ → (ℕ → ℕ) → List ℕ
bytes_read Registers word dma multi memory = []
bytes_read (Block size) word dma multi memory = bytes_from memory word size
bytes_read (Pointing size offset count) word dma multi memory =
    bytes_from memory word size ++ bytes_from memory (word_from memory (onward word offset)) count
bytes_read Descriptors word dma multi memory = descriptors_from memory word 32
bytes_read DollarString word dma multi memory = text_from Dollar memory word 4096
bytes_read TextAtDma word dma multi memory = text_from NullOrReturn memory dma 128
bytes_read Command word dma multi memory =
    bytes_from memory word 2 ++ text_from NullOrReturn memory (onward word 2) 128
bytes_read (File size) word dma multi memory = bytes_from memory dma size
bytes_read (Records size) word dma multi memory = bytes_from memory dma (multi * size)

-- the file control block that it reads; zeros where it reads none
unfoldable pub block_read : Reads → ℕ → (ℕ → ℕ) → List ℕ
block_read (File size) word memory = bytes_from memory word 36
block_read (Records size) word memory = bytes_from memory word 36
block_read _ word memory = zeros 36

-- the call of some registers: its function in C, its parameter in DE, and all that it reads
unfoldable pub taken_call : Regs → (ℕ → ℕ) → ℕ → ℕ → Taken
taken_call regs memory dma multi = record {
  function = regs.c;
  word = word_of regs.e regs.d;
  dma = dma;
  fcb = block_read (reads_of regs.c) (word_of regs.e regs.d) memory;
  bytes = bytes_read (reads_of regs.c) (word_of regs.e regs.d) dma multi memory;
}
