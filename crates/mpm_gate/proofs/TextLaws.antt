-- Texts: as a walk through memory finds them, and that one goes on after another.
use Rattle.std.proofs.Common.{◌≡◌, ℕ, suc, ◌+◌, ◌-◌, ◌<◌, ◌≤◌, Bool, true, false, not, cond, List, [], ◌∷◌, ◌++◌, length, get_or, take, map, refl, ap, sym, ◌∙◌, arith}
use Rattle.std.specs.Prelude.{take_while}
use Rattle.std.proofs.lemmas.Bool.{not-true}
use Rattle.std.specs.List.{range_with_len, prefix_len}
use Rattle.std.proofs.lemmas.List.{append-nil, length-take, take_all, get_or-take}
use Rattle.std.proofs.lemmas.List.Sums.{take_while-cons, prefix_len_passes}
use Rattle.z80_regs.specs.Words.{onward}
use Rattle.mpm_gate.specs.Bytes.{bytes_from}
use Rattle.mpm_gate.specs.Texts.{ends, text_from}
use Rattle.mpm_gate.specs.declared.take.TextEnd.{TextEnd}
use Rattle.mpm_gate.proofs.BytesLaws.{bytes_more, bytes_split, length_bytes}

one_passes : (passes : Bool) (x : ℕ) (front xs all ys : List ℕ) → cond passes (x ∷ front) [] ≡ x ∷ xs → (front ≡ xs → all ≡ xs ++ ys) → cond passes (x ∷ all) [] ≡ x ∷ (xs ++ ys)
one_passes true x front xs all ys whole rest = let same : front ≡ xs = cc in ap (λ tail. x ∷ tail) (rest same)
one_passes false x front xs all ys whole rest = cc

-- the front of two lists, the first of which passes whole
front_of_two : (p : ℕ → Bool) (xs ys : List ℕ) → take_while p xs ≡ xs → take_while p (xs ++ ys) ≡ xs ++ take_while p ys
front_of_two p [] ys whole = refl
front_of_two p (x ∷ xs) ys whole =
    take_while-cons p x (xs ++ ys)
    ∙ one_passes (p x) x (take_while p xs) xs (take_while p (xs ++ ys)) (take_while p ys) (sym (take_while-cons p x xs) ∙ whole) (front_of_two p xs ys)

one_stops : (passes : Bool) (x : ℕ) (front xs all : List ℕ) → length (cond passes (x ∷ front) []) < suc (length xs) → (length front < length xs → all ≡ front) → cond passes (x ∷ all) [] ≡ cond passes (x ∷ front) []
one_stops true x front xs all short rest = ap (λ tail. x ∷ tail) (rest (omega arith))
one_stops false x front xs all short rest = refl

-- the front of two lists, in the first of which something doesn't pass
front_of_first : (p : ℕ → Bool) (xs ys : List ℕ) → length (take_while p xs) < length xs → take_while p (xs ++ ys) ≡ take_while p xs
front_of_first p [] ys short = absurd (omega arith)
front_of_first p (x ∷ xs) ys short =
    let shorter : length (cond (p x) (x ∷ take_while p xs) []) < suc (length xs) =
    omega (arith, ap (λ (list : List ℕ). length list) (take_while-cons p x xs)) in
    take_while-cons p x (xs ++ ys)
    ∙ one_stops (p x) x (take_while p xs) xs (take_while p (xs ++ ys)) shorter (front_of_first p xs ys)
    ∙ sym (take_while-cons p x xs)

pub text_none : (end : TextEnd) (memory : ℕ → ℕ) (address : ℕ) → text_from end memory address 0 ≡ bytes_from memory address 0
unfolding text_from bytes_from
text_none end memory address = refl

-- one byte more of a text
pub text_more : (end : TextEnd) (memory : ℕ → ℕ) (address k byte : ℕ) → text_from end memory address k ≡ bytes_from memory address k → byte ≡ memory (onward address k) → ends end byte ≡ false → text_from end memory address (k + 1) ≡ bytes_from memory address (k + 1)
unfolding text_from
text_more end memory address k byte whole here goes_on =
    let p : ℕ → Bool = λ byte. not (ends end byte) in
    let one_more : bytes_from memory address (k + 1) ≡ bytes_from memory address k ++ byte ∷ [] =
    bytes_more memory address k ∙ ap (λ b. bytes_from memory address k ++ b ∷ []) (sym here) in
    let last : take_while p (byte ∷ []) ≡ byte ∷ [] =
    take_while-cons p byte [] ∙ ap (λ b. cond (not b) (byte ∷ []) []) goes_on in
    ap (take_while p) one_more
    ∙ front_of_two p (bytes_from memory address k) (byte ∷ []) whole
    ∙ ap (λ xs. bytes_from memory address k ++ xs) last
    ∙ sym one_more

-- a text that ends at once
ends_at_once : (end : TextEnd) (memory : ℕ → ℕ) (address n : ℕ) → ends end (memory (onward address 0)) ≡ true → text_from end memory address (suc n) ≡ []
unfolding text_from bytes_from
ends_at_once end memory address n stops =
    let p : ℕ → Bool = λ byte. not (ends end byte) in
    let rest : List ℕ = map (λ k. memory (onward address k)) (range_with_len 1 n) in
    take_while-cons p (memory (onward address 0)) rest
    ∙ ap (λ b. cond (not b) (memory (onward address 0) ∷ take_while p rest) []) stops

-- a text of at most so many bytes, after a part of it
text_behind : (end : TextEnd) (memory : ℕ → ℕ) (address k n : ℕ) → text_from end memory address k ≡ bytes_from memory address k → text_from end memory address (k + n) ≡ bytes_from memory address k ++ text_from end memory (onward address k) n
unfolding text_from
text_behind end memory address k n whole =
    let p : ℕ → Bool = λ byte. not (ends end byte) in
    ap (take_while p) (bytes_split memory address k n)
    ∙ front_of_two p (bytes_from memory address k) (bytes_from memory (onward address k) n) whole

-- the end of a text
pub text_stops : (end : TextEnd) (memory : ℕ → ℕ) (address k n byte : ℕ) → text_from end memory address k ≡ bytes_from memory address k → k < n → byte ≡ memory (onward address k) → ends end byte ≡ true → text_from end memory address n ≡ bytes_from memory address k
text_stops end memory address k n byte whole inside here stops =
    let left : ℕ = n - k - 1 in
    let all : n ≡ k + suc left = omega arith in
    let place : onward (onward address k) 0 ≡ onward address k = omega arith in
    let behind : ends end (memory (onward (onward address k) 0)) ≡ true =
    ap (λ a. ends end (memory a)) place ∙ ap (ends end) (sym here) ∙ stops in
    ap (text_from end memory address) all
    ∙ text_behind end memory address k (suc left) whole
    ∙ ap (λ more. bytes_from memory address k ++ more) (ends_at_once end memory (onward address k) left behind)
    ∙ append-nil (bytes_from memory address k)

-- a text is at most as long as its place
pub length_text : (end : TextEnd) (memory : ℕ → ℕ) (address most : ℕ) → length (text_from end memory address most) ≤ most
unfolding text_from
length_text end memory address most =
    let bytes : List ℕ = bytes_from memory address most in
    let count : length bytes ≡ most = length_bytes memory address most in
    let taken = length-take (prefix_len (λ byte. not (ends end byte)) bytes) bytes in
    omega arith

-- a text that ends among the first of its bytes is the same, however many may follow
pub text_ended : (end : TextEnd) (memory : ℕ → ℕ) (address k n : ℕ) → length (text_from end memory address k) < k → text_from end memory address (k + n) ≡ text_from end memory address k
unfolding text_from
text_ended end memory address k n short =
    let p : ℕ → Bool = λ byte. not (ends end byte) in
    let shorter : length (take_while p (bytes_from memory address k)) < length (bytes_from memory address k) =
    omega (arith, length_bytes memory address k) in
    ap (take_while p) (bytes_split memory address k n)
    ∙ front_of_first p (bytes_from memory address k) (bytes_from memory (onward address k) n) shorter

-- one that doesn't goes on after them
pub text_goes_on : (end : TextEnd) (memory : ℕ → ℕ) (address k n : ℕ) → length (text_from end memory address k) ≡ k → text_from end memory address (k + n) ≡ text_from end memory address k ++ text_from end memory (onward address k) n
unfolding text_from
text_goes_on end memory address k n full =
    let bytes : List ℕ = bytes_from memory address k in
    let passed : ℕ = prefix_len (λ byte. not (ends end byte)) bytes in
    let count : length bytes ≡ k = length_bytes memory address k in
    let taken = length-take passed bytes in
    let all : length bytes ≤ passed = omega arith in
    let whole : text_from end memory address k ≡ bytes = take_all passed bytes all in
    text_behind end memory address k n whole
    ∙ ap (λ front. front ++ text_from end memory (onward address k) n) (sym whole)

-- no byte of a text ends it
pub text_passes : (end : TextEnd) (memory : ℕ → ℕ) (address most k : ℕ) → k < length (text_from end memory address most) → ends end (get_or (text_from end memory address most) k 0) ≡ false
unfolding text_from
text_passes end memory address most k below =
    let p : ℕ → Bool = λ byte. not (ends end byte) in
    let bytes : List ℕ = bytes_from memory address most in
    let inside : k < prefix_len p bytes = omega (arith, length-take (prefix_len p bytes) bytes) in
    not-true (ends end (get_or (take (prefix_len p bytes) bytes) k 0))
    (ap (λ byte. not (ends end byte)) (get_or-take (prefix_len p bytes) bytes k 0 inside) ∙ prefix_len_passes p bytes k 0 inside)
