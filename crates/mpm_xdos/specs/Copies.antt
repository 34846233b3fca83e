-- What the kernel tells by copies in common memory: the system data page, and the descriptor of the process that asks. (MP/M II
-- Programmer's Guide, "Function 154: Return Address of System Data Page" and "Function 156: Return Process Descriptor
-- Address"; System Guide, "System Data Page".)
use Rattle.std.specs.Prelude.{ℕ, List, ◌∷◌, ◌++◌, length, drop, Option, Some, None}
use Rattle.std.specs.List.{flat_map, range_with_len}
use Rattle.z80_regs.specs.Words.{low, high}
use Rattle.mpm_base.specs.Lists.{zeros}
use Rattle.mpm_base.specs.Calls.{Answer, answering}
use Rattle.mpm_banks.specs.Memory.{Memory}
use Rattle.mpm_gate.specs.Descriptors.{segment_descriptor}
use Rattle.mpm_procs.specs.declared.process.Process.{Process}
use Rattle.mpm_xdos.specs.Aborting.{copy_address}

-- the descriptors of the segments below a number
unfoldable pub segment_descriptors : ℕ → Memory → List ℕ
segment_descriptors n memory = flat_map (λ segment. segment_descriptor memory segment) (range_with_len 0 n)

-- some bytes in 240, the others zeros
abbrev pub with_zeros : List ℕ → List ℕ
with_zeros bytes = bytes ++ drop (length bytes) (zeros 240)

-- the system data page: FFh, the number of consoles, and from byte 15 on the number of segments and their descriptors
unfoldable pub system_page : ℕ → Memory → List ℕ
system_page consoles memory =
    255 ∷ consoles ∷ (zeros 13 ++ (length memory.segments ∷ with_zeros (segment_descriptors (length memory.segments) memory)))

-- its copy in common memory, the last page, and the answer, its address
abbrev pub system_answer : ℕ → Memory → Answer
system_answer consoles memory = record (answering 65280) { at = 65280; bytes = system_page consoles memory }

-- the number of a segment in a descriptor, FFh for none
abbrev pub segment_number : Option ℕ → ℕ
segment_number None = 255
segment_number (Some seg) = seg

-- a process descriptor: link and status, which are zeros, priority, stack pointer, name, console, segment, zeros
unfoldable pub process_descriptor : Process → List ℕ
process_descriptor process =
    0 ∷ 0 ∷ 0 ∷ process.priority ∷ low process.regs.sp ∷ high process.regs.sp
    ∷ (process.name.0 ++ (process.console ∷ segment_number process.seg ∷ zeros 36))

-- its copy in common memory, where that of the process's slot stands, and the answer, its address
abbrev pub descriptor_answer : ℕ → Process → Answer
descriptor_answer p process = record (answering (copy_address p)) { at = copy_address p; bytes = process_descriptor process }
