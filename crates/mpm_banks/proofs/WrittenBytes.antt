-- Bytes that are written one by one from an address on: they are read back, and all else stays.
use Rattle.std.proofs.Common.{◌≡◌, ◌≢◌, ℕ, zero, suc, ◌+◌, ◌%◌, ◌<◌, ◌≤◌, List, [], ◌∷◌, length, get_or, inl, inr, refl, ap, le_trans, subst, ◌∙◌, arith}
use Rattle.std.proofs.lemmas.Bool.{cases_lt}
use Rattle.z80_regs.specs.Words.{onward}
use Rattle.std.proofs.Math.Nat.{min-le_right}
use Rattle.mpm_banks.specs.declared.range.Space.{Space}
use Rattle.mpm_banks.specs.declared.range.Space.TheVariants.{Common, InSegment}
use Rattle.mpm_banks.specs.Memory.{Memory, end_of, NamedByte, At, Nowhere, put_to, byte_at, with_byte, with_bytes, place_of, IsWritable, SameSegments}
use Rattle.mpm_banks.specs.MemoryLaws.{byte_at_with_byte, place_is_at, byte_at_other_address, byte_at_other_segment, writable_with_byte, place_of_with_byte, same_segments_with_byte, same_segments_both}

-- a write of bytes moves no place
pub place_of_with_bytes : (bytes : List ℕ) (memory : Memory) (seg address other at : ℕ) → place_of (with_bytes memory seg address bytes) other at ≡ place_of memory other at
unfolding with_bytes
place_of_with_bytes [] memory seg address other at = refl
place_of_with_bytes (byte ∷ bytes) memory seg address other at =
    place_of_with_bytes bytes (with_byte memory seg address byte) seg (onward address 1) other at ∙ place_of_with_byte memory seg address byte other at

-- no space reaches past FFFFh
ends_within : (memory : Memory) (space : Space) → end_of memory space ≤ 65536
ends_within memory Common = min-le_right _ 65536
ends_within memory (InSegment seg) = le_trans (min-le_right _ 49152) (omega arith)

nowhere_beyond : (memory : Memory) (seg address : ℕ) (place : NamedByte) → place_of memory seg address ≡ place → 65536 ≤ address → place ≡ Nowhere
nowhere_beyond memory seg address Nowhere is beyond = refl
nowhere_beyond memory seg address (At space index) is beyond =
    absurd (omega (arith, (place_is_at memory seg address space index is).before, ends_within memory space, beyond))

-- so what is written there is lost
byte_at_beyond : (memory : Memory) (seg address byte at : ℕ) → 65536 ≤ address → byte_at (with_byte memory seg address byte) seg at ≡ byte_at memory seg at
unfolding with_byte
byte_at_beyond memory seg address byte at beyond =
    ap (λ place. byte_at (put_to memory place byte) seg at) (nowhere_beyond memory seg address _ refl beyond)

-- the first of them leaves every other address
first_unwritten : (memory : Memory) (seg address byte at : ℕ) → at ≢ (address + 0) % 65536
    → byte_at (with_byte memory seg address byte) seg at ≡ byte_at memory seg at
first_unwritten memory seg address byte at apart = elim (cases_lt address 65536) [
  | inl low ↦ byte_at_other_address memory seg address byte at (λ e. apart (omega (arith, e, low)))
  | inr high ↦ byte_at_beyond memory seg address byte at high
]

-- an address that none of them is written to reads as before
pub with_bytes_unwritten : (bytes : List ℕ) (memory : Memory) (seg address at : ℕ)
    → ((k : ℕ) → k < length bytes → at ≢ (address + k) % 65536) → byte_at (with_bytes memory seg address bytes) seg at ≡ byte_at memory seg at
unfolding with_bytes
with_bytes_unwritten [] memory seg address at apart = refl
with_bytes_unwritten (byte ∷ bytes) memory seg address at apart =
    with_bytes_unwritten bytes (with_byte memory seg address byte) seg (onward address 1) at
    (λ k below e. apart (suc k) (omega arith) (omega arith))
    ∙ first_unwritten memory seg address byte at (apart 0 (omega arith))

-- where its address is writable, each of them is read back
pub with_bytes_written : (bytes : List ℕ) (memory : Memory) (seg address k : ℕ) → address < 65536 → length bytes ≤ 65536 → k < length bytes
    → IsWritable memory seg ((address + k) % 65536) → byte_at (with_bytes memory seg address bytes) seg ((address + k) % 65536) ≡ get_or bytes k 0
unfolding with_bytes
with_bytes_written [] memory seg address k low few below is = absurd (omega arith)
with_bytes_written (byte ∷ bytes) memory seg address zero low few below is =
    let here : (address + 0) % 65536 ≡ address = omega arith in
    let one = with_byte memory seg address byte in
    ap (byte_at (with_bytes one seg (onward address 1) bytes) seg) here
    ∙ with_bytes_unwritten bytes one seg (onward address 1) address (λ k inside e. omega arith)
    ∙ byte_at_with_byte memory seg address byte (subst (IsWritable memory seg) here is)
with_bytes_written (byte ∷ bytes) memory seg address (suc k) low few below is =
    let next : (address + suc k) % 65536 ≡ (onward address 1 + k) % 65536 = omega arith in
    let one = with_byte memory seg address byte in
    ap (byte_at (with_bytes one seg (onward address 1) bytes) seg) next
    ∙ with_bytes_written bytes one seg (onward address 1) k (omega arith) (omega arith) (omega arith)
    ((writable_with_byte memory seg address byte seg _).1 (subst (IsWritable memory seg) next is))

-- whatever bytes a process writes, the segment of another stays
pub with_bytes_other_segment : (bytes : List ℕ) (memory : Memory) (seg address other at : ℕ) → other ≢ seg → at < 49152
    → byte_at (with_bytes memory seg address bytes) other at ≡ byte_at memory other at
unfolding with_bytes
with_bytes_other_segment [] memory seg address other at apart below = refl
with_bytes_other_segment (byte ∷ bytes) memory seg address other at apart below =
    with_bytes_other_segment bytes (with_byte memory seg address byte) seg (onward address 1) other at apart below
    ∙ byte_at_other_segment memory seg address byte other at apart below

-- they change nothing of the segments but bytes
pub same_segments_with_bytes : (bytes : List ℕ) (memory : Memory) (seg address : ℕ) → SameSegments memory (with_bytes memory seg address bytes)
unfolding with_bytes
same_segments_with_bytes [] memory seg address = record { count = refl; base = λ s. refl; pages = λ s. refl; allocation = λ s. refl }
same_segments_with_bytes (byte ∷ bytes) memory seg address =
    same_segments_both _ _ _ (same_segments_with_byte memory seg address byte)
    (same_segments_with_bytes bytes (with_byte memory seg address byte) seg (onward address 1))
