-- The bytes of a range: they are those that its addresses read, and what is written to them is what the addresses were
-- written one by one.
use Rattle.std.proofs.Common.{◌≡◌, ℕ, zero, suc, ◌+◌, ◌<◌, ◌≤◌, List, [], ◌∷◌, ◌++◌, Some, length, take, drop, map, get_or, set, refl, ap, sym, ◌∙◌, arith, append_assoc, length-append, length-take, length-drop, add-zero, add-one}
use Rattle.std.specs.List.{range_with_len}
use Rattle.std.proofs.lemmas.List.{drop-drop, set-get_or, length-set, length-take-le, get_or-take, get_or-drop, take_all}
use Rattle.std.proofs.lemmas.List.FromFn.{fill_by_all}
use Rattle.std.proofs.lemmas.List.Edits.{sets, sets-eq}
use Rattle.z80_regs.specs.Words.{onward}
use Rattle.mpm_banks.specs.declared.segment.Segment.{Segment}
use Rattle.mpm_banks.specs.declared.range.Space.{Space}
use Rattle.mpm_banks.specs.declared.range.Space.TheVariants.{Common, InSegment}
use Rattle.mpm_banks.specs.declared.range.Range.{Range}
use Rattle.mpm_banks.specs.Memory.{Memory, no_segment, bytes_of, with_bytes_of, limit_of, At, place_of, byte_of, put_to, byte_at, with_byte, with_bytes}
use Rattle.mpm_banks.specs.Stretches.{with_range}
use Rattle.mpm_banks.specs.Ranges.{range_of, range_bytes, put_range}
use Rattle.mpm_banks.specs.MemoryLaws.{place_is_at, place_of_put, bytes_back, space_is}
use Rattle.mpm_banks.proofs.RangeLaws.{found, found_inside, place_in_range}

-- so many addresses from one on name the bytes of a space from an index on, one after the other
abbrev pub NamesFrom : Memory → ℕ → ℕ → Space → ℕ → ℕ → Type 0
NamesFrom memory seg address space from size = (k : ℕ) → k < size → place_of memory seg (address + k) ≡ At space (from + k)

pub limit_low : (space : Space) → limit_of space ≤ 65536
limit_low Common = omega arith
limit_low (InSegment seg) = omega arith

-- the addresses after the first name the bytes after the first
names_rest : (memory : Memory) (seg address : ℕ) (space : Space) (from size : ℕ) → NamesFrom memory seg address space from (suc size)
    → NamesFrom memory seg (onward address 1) space (from + 1) size
names_rest memory seg address space from size names k below =
    let next = names (suc k) (omega arith) in
    let before = (place_is_at memory seg (address + suc k) space (from + suc k) next).before in
    let low = limit_low space in
    ap (place_of memory seg) (omega arith) ∙ next ∙ ap (At space) (omega arith)

-- the first names the first
names_first : (memory : Memory) (seg address : ℕ) (space : Space) (from size : ℕ) → NamesFrom memory seg address space from (suc size)
    → place_of memory seg address ≡ At space from
names_first memory seg address space from size names =
    ap (place_of memory seg) (sym (add-zero address)) ∙ names 0 (omega arith) ∙ ap (At space) (add-zero from)

byte_there : (memory : Memory) (seg address : ℕ) (space : Space) (from size k : ℕ) → NamesFrom memory seg address space from size → k < size
    → get_or (take size (drop from (bytes_of memory space))) k 0 ≡ byte_at memory seg (onward address k)
unfolding byte_at
byte_there memory seg address space from size k names below =
    let place = names k below in
    let before = (place_is_at memory seg (address + k) space (from + k) place).before in
    let low = limit_low space in
    let here : onward address k ≡ address + k = omega arith in
    get_or-take size (drop from (bytes_of memory space)) k 0 below
    ∙ get_or-drop from (bytes_of memory space) k 0
    ∙ ap (byte_of memory) (sym place)
    ∙ ap (λ a. byte_of memory (place_of memory seg a)) (sym here)

bytes_there : (memory : Memory) (seg address : ℕ) (space : Space) (from size : ℕ) → NamesFrom memory seg address space from size
    → from + size ≤ length (bytes_of memory space)
    → take size (drop from (bytes_of memory space)) ≡ map (λ k. byte_at memory seg (onward address k)) (range_with_len 0 size)
bytes_there memory seg address space from size names inside =
    let rest = drop from (bytes_of memory space) in
    fill_by_all (λ k. byte_at memory seg (onward address k)) (take size rest) size 0
    (length-take-le size rest (omega (arith, length-drop from (bytes_of memory space), inside)))
    (λ k below. byte_there memory seg address space from size k names below)

-- the bytes of a range are those that its addresses read
pub range_bytes_is : (memory : Memory) (seg address size : ℕ) (range : Range) → range_of memory seg address size ≡ Some range
    → range_bytes memory range ≡ map (λ k. byte_at memory seg (onward address k)) (range_with_len 0 size)
unfolding range_bytes
range_bytes_is memory seg address size range is =
    let facts = found memory seg address size range is in
    let inside = found_inside memory seg address size range is in
    ap (λ n. take n (drop range.from (bytes_of memory range.space))) (omega arith)
    ∙ bytes_there memory seg address range.space range.from size (λ k below. place_in_range memory seg address size range k is below) (omega arith)

-- nothing but what stood there is put into a space
put_nothing : (memory : Memory) (space : Space) → with_bytes_of memory space (bytes_of memory space) ≡ memory
put_nothing memory Common = refl
put_nothing memory (InSegment seg) = ap (λ segments. record memory { segments = segments }) (set-get_or memory.segments seg no_segment)

segment_twice : (segments : List Segment) (seg : ℕ) (first second : List ℕ)
    → set (set segments seg (record (get_or segments seg no_segment) { bytes = first })) seg
    (record (get_or (set segments seg (record (get_or segments seg no_segment) { bytes = first })) seg no_segment) { bytes = second })
    ≡ set segments seg (record (get_or segments seg no_segment) { bytes = second })
segment_twice [] seg first second = refl
segment_twice (s ∷ ss) zero first second = refl
segment_twice (s ∷ ss) (suc seg) first second = ap (λ rest. s ∷ rest) (segment_twice ss seg first second)

-- of two lists of bytes that are put into a space one after the other the second stays
put_twice : (memory : Memory) (space : Space) (first second : List ℕ) → with_bytes_of (with_bytes_of memory space first) space second ≡ with_bytes_of memory space second
put_twice memory Common first second = refl
put_twice memory (InSegment seg) first second = ap (λ segments. record memory { segments = segments }) (segment_twice memory.segments seg first second)

-- bytes that are written one by one stand in their space one after the other
bytes_to : (bytes : List ℕ) (memory : Memory) (seg address : ℕ) (space : Space) (from : ℕ) → NamesFrom memory seg address space from (length bytes)
    → with_bytes_of memory space (sets (bytes_of memory space) from bytes) ≡ with_bytes memory seg address bytes
unfolding with_bytes with_byte
bytes_to [] memory seg address space from names = put_nothing memory space
bytes_to (byte ∷ bytes) memory seg address space from names =
    let one = set (bytes_of memory space) from byte in
    let after = with_bytes_of memory space one in
    let place = names_first memory seg address space from (length bytes) names in
    let there = space_is memory space from (place_is_at memory seg address space from place).below in
    let same = length-set (bytes_of memory space) from byte in
    let rest = bytes_to bytes after seg (onward address 1) space (from + 1)
    (λ k below. place_of_put memory space one seg (onward address 1 + k) same ∙ names_rest memory seg address space from (length bytes) names k below) in
    sym (put_twice memory space one (sets one (suc from) bytes))
    ∙ ap (λ n. with_bytes_of after space (sets one n bytes)) (sym (add-one from))
    ∙ ap (λ xs. with_bytes_of after space (sets xs (from + 1) bytes)) (sym (bytes_back memory space one there))
    ∙ rest
    ∙ ap (λ m. with_bytes m seg (onward address 1) bytes) (ap (λ p. put_to memory p byte) (sym place))

with_range_sets : (bytes : List ℕ) (from : ℕ) (new : List ℕ) → from + length new ≤ length bytes → with_range bytes from new ≡ sets bytes from new
with_range_sets bytes from new inside =
    let front = take from bytes in
    let back = drop (length new) (drop from bytes) in
    take_all (length bytes) (front ++ (new ++ back))
    (omega (arith, length-append front (new ++ back), length-append new back, length-take from bytes, length-drop (length new) (drop from bytes), length-drop from bytes))
    ∙ ap (λ rest. front ++ (new ++ rest)) (drop-drop (length new) from bytes)
    ∙ sym (append_assoc front new (drop (from + length new) bytes))
    ∙ sym (sets-eq new bytes from inside)

-- what is written to a range is what its addresses were written one by one
pub put_range_is : (memory : Memory) (seg address size : ℕ) (range : Range) (bytes : List ℕ) → range_of memory seg address size ≡ Some range
    → length bytes ≡ size → put_range memory range bytes ≡ with_bytes memory seg address bytes
unfolding put_range
put_range_is memory seg address size range bytes is same =
    let facts = found memory seg address size range is in
    let inside = found_inside memory seg address size range is in
    ap (with_bytes_of memory range.space) (with_range_sets (bytes_of memory range.space) range.from bytes (omega arith))
    ∙ bytes_to bytes memory seg address range.space range.from (λ k below. place_in_range memory seg address size range k is (omega arith))
