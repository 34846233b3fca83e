-- What a return and a reply leave: the reply's bytes stand at their addresses, and every other byte and register stays.
use Rattle.std.proofs.Common.{◌≡◌, ◌≢◌, ℕ, ◌<◌, ◌≤◌, List, Option, Some, None, length, get_or, refl, ap, sym, subst, ◌∙◌, inl, inr}
use Rattle.z80_regs.specs.Words.{onward}
use Rattle.z80_regs.specs.declared.regs.Regs.{Regs}
use Rattle.mpm_base.specs.Calls.{Answer}
use Rattle.mpm_banks.specs.Memory.{Memory, IsPlace, place_of, byte_at, with_bytes, IsWritable, SameSegments}
use Rattle.mpm_banks.specs.MemoryLaws.{byte_at_common, same_segments_both}
use Rattle.mpm_banks.proofs.WrittenBytes.{place_of_with_bytes, with_bytes_unwritten, with_bytes_written, with_bytes_other_segment, same_segments_with_bytes}
use Rattle.mpm_gate.specs.Bytes.{IsNamed}
use Rattle.mpm_gate.specs.Replies.{answered, returned, with_block, placed, block_size, IsPlacedAt}

-- a return changes PC, SP and the shadow alone
pub return_keeps : (memory : ℕ → ℕ) (regs : Regs) → record (returned memory regs) { pc = regs.pc; sp = regs.sp; shadow = regs.shadow } ≡ regs
unfolding returned
return_keeps memory regs = refl

-- the answer changes H, L, A and B alone
pub answer_keeps : (hl : ℕ) (regs : Regs) → record (answered hl regs) { h = regs.h; l = regs.l; a = regs.a; b = regs.b } ≡ regs
unfolding answered
answer_keeps hl regs = refl

block_places : (block : Option (List ℕ)) (memory : Memory) (seg word other at : ℕ) → place_of (with_block memory seg word block) other at ≡ place_of memory other at
block_places None memory seg word other at = refl
block_places (Some block) memory seg word other at = place_of_with_bytes block memory seg word other at

-- a reply moves no place
pub place_of_placed : (answer : Answer) (word seg : ℕ) (memory : Memory) (other at : ℕ) → place_of (placed answer word seg memory) other at ≡ place_of memory other at
unfolding placed
place_of_placed answer word seg memory other at =
    place_of_with_bytes answer.bytes (with_block memory seg word answer.fcb) seg answer.at other at
    ∙ block_places answer.fcb memory seg word other at

block_segments : (block : Option (List ℕ)) (memory : Memory) (seg word : ℕ) → SameSegments memory (with_block memory seg word block)
block_segments None memory seg word = record { count = refl; base = λ s. refl; pages = λ s. refl; allocation = λ s. refl }
block_segments (Some block) memory seg word = same_segments_with_bytes block memory seg word

-- it changes nothing of the segments but bytes
pub placed_segments : (answer : Answer) (word seg : ℕ) (memory : Memory) → SameSegments memory (placed answer word seg memory)
unfolding placed
placed_segments answer word seg memory =
    let first : Memory = with_block memory seg word answer.fcb in
    same_segments_both memory first (with_bytes first seg answer.at answer.bytes)
    (block_segments answer.fcb memory seg word) (same_segments_with_bytes answer.bytes first seg answer.at)

block_writable : (block : Option (List ℕ)) (memory : Memory) (seg word other at : ℕ) → IsWritable memory other at → IsWritable (with_block memory seg word block) other at
unfolding IsWritable
block_writable block memory seg word other at is = subst IsPlace (sym (block_places block memory seg word other at)) is

-- each of its bytes is read back at its address
pub bytes_placed : (answer : Answer) (word seg : ℕ) (memory : Memory) (k : ℕ) → answer.at < 65536 → length answer.bytes ≤ 65536 → k < length answer.bytes
    → IsWritable memory seg (onward answer.at k) → byte_at (placed answer word seg memory) seg (onward answer.at k) ≡ get_or answer.bytes k 0
unfolding placed
bytes_placed answer word seg memory k low few below writable =
    with_bytes_written answer.bytes (with_block memory seg word answer.fcb) seg answer.at k low few below
    (block_writable answer.fcb memory seg word seg (onward answer.at k) writable)

unnamed : (memory : Memory) (seg address : ℕ) (bytes : List ℕ) (at : ℕ) → (IsNamed address (length bytes) at → ⊥) → byte_at (with_bytes memory seg address bytes) seg at ≡ byte_at memory seg at
unnamed memory seg address bytes at apart =
    with_bytes_unwritten bytes memory seg address at (λ k below is. apart (record { index = k; below = below; is = is }))

-- so is each byte of its file control block, where none of its other bytes comes to stand
pub block_placed : (answer : Answer) (word seg : ℕ) (memory : Memory) (block : List ℕ) (k : ℕ) → answer.fcb ≡ Some block → word < 65536 → length block ≤ 65536 → k < length block
    → (IsNamed answer.at (length answer.bytes) (onward word k) → ⊥) → IsWritable memory seg (onward word k)
    → byte_at (placed answer word seg memory) seg (onward word k) ≡ get_or block k 0
unfolding placed
block_placed answer word seg memory block k is low few below apart writable =
    unnamed (with_block memory seg word answer.fcb) seg answer.at answer.bytes (onward word k) apart
    ∙ ap (λ b. byte_at (with_block memory seg word b) seg (onward word k)) is
    ∙ with_bytes_written block memory seg word k low few below writable

block_unnamed : (block : Option (List ℕ)) (memory : Memory) (seg word at : ℕ) → (IsNamed word (block_size block) at → ⊥) → byte_at (with_block memory seg word block) seg at ≡ byte_at memory seg at
block_unnamed None memory seg word at apart = refl
block_unnamed (Some block) memory seg word at apart = unnamed memory seg word block at apart

-- every other address of the process keeps its byte
pub others_keep : (answer : Answer) (word seg : ℕ) (memory : Memory) (at : ℕ) → (IsPlacedAt answer word at → ⊥)
    → byte_at (placed answer word seg memory) seg at ≡ byte_at memory seg at
unfolding placed
others_keep answer word seg memory at apart =
    unnamed (with_block memory seg word answer.fcb) seg answer.at answer.bytes at (λ named. apart (inr named))
    ∙ block_unnamed answer.fcb memory seg word at (λ named. apart (inl named))

block_other_segment : (block : Option (List ℕ)) (memory : Memory) (seg word other at : ℕ) → other ≢ seg → at < 49152 → byte_at (with_block memory seg word block) other at ≡ byte_at memory other at
block_other_segment None memory seg word other at apart below = refl
block_other_segment (Some block) memory seg word other at apart below = with_bytes_other_segment block memory seg word other at apart below

-- every other segment keeps its bytes
pub segments_keep : (answer : Answer) (word seg : ℕ) (memory : Memory) (other at : ℕ) → other ≢ seg → at < 49152
    → byte_at (placed answer word seg memory) other at ≡ byte_at memory other at
unfolding placed
segments_keep answer word seg memory other at apart below =
    with_bytes_other_segment answer.bytes (with_block memory seg word answer.fcb) seg answer.at other at apart below
    ∙ block_other_segment answer.fcb memory seg word other at apart below

-- and common memory, whoever reads it, keeps them where none of the reply comes to stand
pub common_keeps : (answer : Answer) (word seg : ℕ) (memory : Memory) (other at : ℕ) → 49152 ≤ at → (IsPlacedAt answer word at → ⊥)
    → byte_at (placed answer word seg memory) other at ≡ byte_at memory other at
common_keeps answer word seg memory other at above apart =
    byte_at_common (placed answer word seg memory) other seg at above
    ∙ others_keep answer word seg memory at apart
    ∙ byte_at_common memory seg other at above
