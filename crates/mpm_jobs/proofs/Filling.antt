-- A job's bytes, as they are filled in: from one part, from two, and how many they are.
use Rattle.std.proofs.Common.{◌≡◌, ◌∙◌, refl, sym, ℕ, ◌+◌, ◌≤◌, List, ◌++◌, length, take, drop, ap, arith}
use Rattle.std.specs.Prelude.{replicate}
use Rattle.std.proofs.lemmas.List.{append_assoc, length-append, length-take, length-drop, length-replicate, drop-drop, take_all}
use Rattle.mpm_jobs.specs.Jobs.{filled}

-- bytes that were copied to the front
pub filled_by_one : (one bytes : List ℕ) → one ≡ bytes → length bytes ≤ 4096 → one ++ drop (length bytes) (replicate 4096 0) ≡ filled bytes
unfolding filled
filled_by_one one bytes e few = ap (λ front. front ++ drop (length bytes) (replicate 4096 0)) (e ∙ sym (take_all 4096 bytes few))

-- the first part was copied to the front, and the second to what is after it
pub filled_by_two : (one two first second back : List ℕ) → one ≡ first → two ≡ second → back ≡ drop (length first) (replicate 4096 0)
    → length first + length second ≤ 4096 → one ++ (two ++ drop (length second) back) ≡ filled (first ++ second)
filled_by_two one two first second back e f g few =
    let zeros : List ℕ = replicate 4096 0 in
    let both : length (first ++ second) ≡ length first + length second = length-append first second in
    ap (λ front. front ++ (two ++ drop (length second) back)) e
    ∙ ap (λ part. first ++ (part ++ drop (length second) back)) f
    ∙ ap (λ rest. first ++ (second ++ drop (length second) rest)) g
    ∙ ap (λ rest. first ++ (second ++ rest)) (drop-drop (length second) (length first) zeros)
    ∙ sym (append_assoc first second (drop (length first + length second) zeros))
    ∙ ap (λ n. (first ++ second) ++ drop n zeros) (sym both)
    ∙ filled_by_one (first ++ second) (first ++ second) refl (omega (arith, both, few))

-- there are as many as there is room for, whatever counts
all_room : (n : ℕ) (bytes zeros : List ℕ) → length zeros ≡ n → length (take n bytes ++ drop (length bytes) zeros) ≡ n
all_room n bytes zeros size =
    let front = length-take n bytes in
    let back = length-drop (length bytes) zeros in
    let both = length-append (take n bytes) (drop (length bytes) zeros) in
    omega (arith, front, back, both, size)

pub filled_room : (bytes : List ℕ) → length (filled bytes) ≡ 4096
unfolding filled
filled_room bytes = all_room 4096 bytes (replicate 4096 0) (length-replicate {A = ℕ} 4096 0)
