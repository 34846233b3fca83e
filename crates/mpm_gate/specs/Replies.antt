-- The reply of a kernel call as it is placed, and the return address as it is taken. (MP/M II Programmer's Guide, "BDOS
-- Calling Conventions".)
use Rattle.std.specs.Prelude.{ℕ, List, Option, Some, None, false, length, ◌⊎◌}
use Rattle.z80_regs.specs.Words.{onward, low, high, word_from}
use Rattle.z80_regs.specs.declared.regs.Regs.{Regs}
use Rattle.mpm_base.specs.Calls.{Answer}
use Rattle.mpm_banks.specs.Memory.{Memory, with_bytes}
use Rattle.mpm_gate.specs.Bytes.{IsNamed}

-- the registers with an answer: HL, and the same in A and B
unfoldable pub answered : ℕ → Regs → Regs
answered hl regs = record regs { h = high hl; l = low hl; a = low hl; b = high hl }

-- the registers as a call is taken: the return address comes from the stack, and an EI shadow ends
unfoldable pub returned : (ℕ → ℕ) → Regs → Regs
returned memory regs = record regs { pc = word_from memory regs.sp; sp = onward regs.sp 2; shadow = false }

-- memory with a file control block at an address, where there is one to place
abbrev pub with_block : Memory → ℕ → ℕ → Option (List ℕ) → Memory
with_block memory seg address None = memory
with_block memory seg address (Some block) = with_bytes memory seg address block

-- memory after a reply: first the file control block stands at the call's parameter, then the bytes at their address
unfoldable pub placed : Answer → ℕ → ℕ → Memory → Memory
placed answer word seg memory = with_bytes (with_block memory seg word answer.fcb) seg answer.at answer.bytes

-- how many bytes a file control block has that is placed, if any
abbrev pub block_size : Option (List ℕ) → ℕ
block_size None = 0
block_size (Some block) = length block

-- an address is one where a reply to a call with a parameter places a byte
abbrev pub IsPlacedAt : Answer → ℕ → ℕ → Type 0
IsPlacedAt answer word at = IsNamed word (block_size answer.fcb) at ⊎ IsNamed answer.at (length answer.bytes) at
