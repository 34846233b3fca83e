-- Process descriptors that are chained, as they are taken one by one.
use Rattle.std.proofs.Common.{◌≡◌, ◌≢◌, ℕ, zero, suc, ◌+◌, ◌*◌, ◌%◌, ◌<◌, ◌≤◌, ◌==◌, Bool, true, false, cond, List, [], ◌++◌, length, refl, ap, sym, ◌∙◌, arith, eq-eqb, ne_eqb}
use Rattle.std.proofs.lemmas.List.{append-nil, append_assoc, length-append}
use Rattle.z80_regs.specs.Words.{onward, word_from}
use Rattle.mpm_base.specs.Calls.{Taken}
use Rattle.mpm_gate.specs.Bytes.{bytes_from}
use Rattle.mpm_gate.specs.Calls.{with_more, descriptor_from, descriptors_from}
use Rattle.mpm_gate.proofs.BytesLaws.{length_bytes}

pub length_descriptor : (memory : ℕ → ℕ) (address : ℕ) → length (descriptor_from memory address) ≡ 18
length_descriptor memory address =
    length-append (bytes_from memory address 16) (bytes_from memory (word_from memory (onward address 4)) 2)
    ∙ ap (λ n. n + length (bytes_from memory (word_from memory (onward address 4)) 2)) (length_bytes memory address 16)
    ∙ ap (λ n. 16 + n) (length_bytes memory (word_from memory (onward address 4)) 2)

-- the chain ends with a descriptor whose link is 0
pub chain_ends : (memory : ℕ → ℕ) (address left link : ℕ) (before now : Taken) → 0 < left → now ≡ with_more before (descriptor_from memory address) → link ≡ word_from memory address → link ≡ 0 → now ≡ with_more before (descriptors_from memory address left)
unfolding descriptors_from
chain_ends memory address zero link before now some one is last = absurd (omega arith)
chain_ends memory address (suc n) link before now some one is last =
    let chained : List ℕ = descriptors_from memory (word_from memory address) n in
    let is_last : (word_from memory address == 0) ≡ true = eq-eqb (word_from memory address) 0 (sym is ∙ last) in
    one
    ∙ ap (with_more before)
    (sym (append-nil (descriptor_from memory address))
    ∙ ap (λ b. descriptor_from memory address ++ cond b [] chained) (sym is_last))

-- else it goes on there
pub chain_goes_on : (memory : ℕ → ℕ) (address left n link : ℕ) (before now : Taken) → left ≡ n + 1 → now ≡ with_more before (descriptor_from memory address) → link ≡ word_from memory address → link ≢ 0 → with_more now (descriptors_from memory link n) ≡ with_more before (descriptors_from memory address left)
unfolding descriptors_from
chain_goes_on memory address left n link before now one_left one is more =
    let chained : ℕ → List ℕ = λ a. descriptors_from memory a n in
    let is_more : (word_from memory address == 0) ≡ false =
    ne_eqb (word_from memory address) 0 (λ last. more (is ∙ last)) in
    let count : suc n ≡ left = omega arith in
    ap (λ call. with_more call (chained link)) one
    ∙ ap (λ bytes. record before { bytes = bytes })
    (append_assoc before.bytes (descriptor_from memory address) (chained link)
    ∙ ap (λ more. before.bytes ++ (descriptor_from memory address ++ more))
    (ap chained is ∙ ap (λ b. cond b [] (chained (word_from memory address))) (sym is_more)))
    ∙ ap (λ k. with_more before (descriptors_from memory address k)) count

-- and it ends where no more descriptors are taken
pub chain_stops : (memory : ℕ → ℕ) (address left : ℕ) (call : Taken) → left ≡ 0 → call ≡ with_more call (descriptors_from memory address left)
unfolding descriptors_from
chain_stops memory address left call none =
    ap (λ bytes. record call { bytes = bytes }) (sym (append-nil call.bytes))
    ∙ ap (λ k. with_more call (descriptors_from memory address k)) (sym none)

either_length : (last : Bool) (more : List ℕ) (n : ℕ) → length more ≤ n → length (cond last [] more) ≤ n
either_length true more n short = omega arith
either_length false more n short = short

-- a chain of at most so many descriptors has 18 bytes for each
pub length_chain : (memory : ℕ → ℕ) (address n : ℕ) → length (descriptors_from memory address n) ≤ 18 * n
unfolding descriptors_from
length_chain memory address zero = omega arith
length_chain memory address (suc n) =
    let link : ℕ = word_from memory address in
    let first = length_descriptor memory address in
    let behind = either_length (link == 0) (descriptors_from memory link n) (18 * n) (length_chain memory link n) in
    let both = length-append (descriptor_from memory address) (cond (link == 0) [] (descriptors_from memory link n)) in
    omega arith

either_whole : (last : Bool) (more : List ℕ) → length more % 18 ≡ 0 → length (cond last [] more) % 18 ≡ 0
either_whole true more whole = refl
either_whole false more whole = whole

-- all of them whole
pub whole_descriptors : (memory : ℕ → ℕ) (address n : ℕ) → length (descriptors_from memory address n) % 18 ≡ 0
unfolding descriptors_from
whole_descriptors memory address zero = refl
whole_descriptors memory address (suc n) =
    let link : ℕ = word_from memory address in
    let first = length_descriptor memory address in
    let behind = either_whole (link == 0) (descriptors_from memory link n) (whole_descriptors memory link n) in
    let both = length-append (descriptor_from memory address) (cond (link == 0) [] (descriptors_from memory link n)) in
    omega arith
