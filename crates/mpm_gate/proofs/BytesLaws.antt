-- Bytes from an address on: how many there are, which they are, one more, and two parts.
use Rattle.std.proofs.Common.{◌≡◌, ℕ, zero, suc, ◌+◌, ◌<◌, ◌≤◌, List, [], ◌∷◌, ◌++◌, length, get_or, refl, ap, sym, ◌∙◌, arith}
use Rattle.std.proofs.lemmas.List.{append-nil, append_assoc}
use Rattle.std.proofs.lemmas.List.FromFn.{length-map-range_with_len, get_or-map-range_with_len, map-range_with_len_more, fill_by_all}
use Rattle.z80_regs.specs.Words.{onward}
use Rattle.mpm_gate.specs.Bytes.{bytes_from}

-- an address is reached in two strides as in one
pub onward_twice : (address k n : ℕ) → onward (onward address k) n ≡ onward address (k + n)
onward_twice address k n = omega arith

pub length_bytes : (memory : ℕ → ℕ) (address n : ℕ) → length (bytes_from memory address n) ≡ n
unfolding bytes_from
length_bytes memory address n = length-map-range_with_len (λ k. memory (onward address k)) 0 n

-- byte k is that of the address k further on
pub byte_of_bytes : (memory : ℕ → ℕ) (address n k d : ℕ) → k < n → get_or (bytes_from memory address n) k d ≡ memory (onward address k)
unfolding bytes_from
byte_of_bytes memory address n k d h = get_or-map-range_with_len (λ i. memory (onward address i)) 0 n k k d h (omega arith)

pub bytes_none : (memory : ℕ → ℕ) (address : ℕ) → bytes_from memory address 0 ≡ []
unfolding bytes_from
bytes_none memory address = refl

pub bytes_more : (memory : ℕ → ℕ) (address n : ℕ) → bytes_from memory address (n + 1) ≡ bytes_from memory address n ++ memory (onward address n) ∷ []
unfolding bytes_from
bytes_more memory address n = map-range_with_len_more (λ k. memory (onward address k)) 0 n n (omega arith)

-- in two parts
pub bytes_split : (memory : ℕ → ℕ) (address k n : ℕ) → bytes_from memory address (k + n) ≡ bytes_from memory address k ++ bytes_from memory (onward address k) n
bytes_split memory address k zero =
    let same : k + 0 ≡ k = omega arith in
    ap (λ m. bytes_from memory address m) same ∙ sym (append-nil (bytes_from memory address k))
    ∙ ap (λ xs. bytes_from memory address k ++ xs) (sym (bytes_none memory (onward address k)))
bytes_split memory address k (suc n) =
    let rest : k + suc n ≡ (k + n) + 1 = omega arith in
    let place : onward address (k + n) ≡ onward (onward address k) n = sym (onward_twice address k n) in
    let one : suc n ≡ n + 1 = omega arith in
    ap (λ m. bytes_from memory address m) rest
    ∙ bytes_more memory address (k + n)
    ∙ ap (λ xs. xs ++ memory (onward address (k + n)) ∷ []) (bytes_split memory address k n)
    ∙ ap (λ a. (bytes_from memory address k ++ bytes_from memory (onward address k) n) ++ memory a ∷ []) place
    ∙ append_assoc (bytes_from memory address k) (bytes_from memory (onward address k) n) (memory (onward (onward address k) n) ∷ [])
    ∙ ap (λ xs. bytes_from memory address k ++ xs) (sym (bytes_more memory (onward address k) n))
    ∙ ap (λ m. bytes_from memory address k ++ bytes_from memory (onward address k) m) (sym one)

-- a list that has each of the bytes in its place
pub bytes_are : (memory : ℕ → ℕ) (address n k : ℕ) (bytes : List ℕ) → length bytes ≡ n → n ≤ k → ((j : ℕ) → j < k → get_or bytes j 0 ≡ memory (onward address j)) → bytes ≡ bytes_from memory address n
unfolding bytes_from
bytes_are memory address n k bytes size all each =
    fill_by_all (λ j. memory (onward address j)) bytes n 0 size (λ j h. each j (omega arith))
