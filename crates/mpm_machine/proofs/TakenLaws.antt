-- A call that was taken at the gate has at most the bytes that its function reads.
use Rattle.std.proofs.Common.{◌≡◌, ℕ, ◌≤◌, length, subst, le_trans}
use Rattle.z80_regs.specs.declared.regs.Regs.{Regs}
use Rattle.z80_regs.specs.Words.{word_of}
use Rattle.mpm_base.specs.Calls.{Taken}
use Rattle.mpm_base.specs.declared.functions.TheConstants.{CREATE_PROCESS, PARSE_FILENAME}
use Rattle.mpm_gate.specs.Calls.{taken_call}
use Rattle.mpm_gate.specs.Reads.{reads_of, most_read}
use Rattle.mpm_gate.proofs.ReadsLaws.{length_read, more_records}
use Rattle.mpm_system.specs.Taking.{IsTaken}

pub call_is_taken : (regs : Regs) (memory : ℕ → ℕ) (dma multi : ℕ) → multi ≤ 16 → IsTaken (taken_call regs memory dma multi)
unfolding taken_call
call_is_taken regs memory dma multi h =
    let reads = reads_of regs.c in
    le_trans (length_read reads (word_of regs.e regs.d) dma multi memory) (more_records reads multi h)

-- function 144 reads at most 32 descriptors
pub few_descriptors : (call : Taken) → IsTaken call → call.function ≡ CREATE_PROCESS → length call.bytes ≤ 576
unfolding reads_of
few_descriptors call taken is =
    let P : ℕ → Type 0 = λ function. length call.bytes ≤ most_read (reads_of function) 16 in
    subst P is taken

-- and function 152 two words, and a text of 128 bytes
pub short_text : (call : Taken) → IsTaken call → call.function ≡ PARSE_FILENAME → length call.bytes ≤ 132
unfolding reads_of
short_text call taken is =
    let P : ℕ → Type 0 = λ function. length call.bytes ≤ most_read (reads_of function) 16 in
    subst P is taken
