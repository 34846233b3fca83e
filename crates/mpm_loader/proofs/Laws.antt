-- What pieces of a file have of its code: of two pieces in a row as much as of both at once, and of the whole file the code.
use Rattle.std.proofs.Common.{◌≡◌, ℕ, zero, suc, ◌+◌, ◌-◌, ◌≤◌, List, [], ◌∷◌, ◌++◌, length, take, drop, refl, ap, sym, ◌∙◌, arith, length-take}
use Rattle.std.proofs.Math.Seq.{take-append-add, take-append_seam, drop-append_seam}
use Rattle.mpm_loader.specs.Pieces.{part}

take_two : (n : ℕ) (xs ys : List ℕ) → take n (xs ++ ys) ≡ take n xs ++ take (n - length xs) ys
take_two zero [] ys = refl
take_two zero (x ∷ xs) ys = let e : 0 - length (x ∷ xs) ≡ 0 = omega arith in ap (λ (k : ℕ). take k ys) (sym e)
take_two (suc n) [] ys = let e : suc n - length {A = ℕ} [] ≡ suc n = omega arith in ap (λ (k : ℕ). take k ys) (sym e)
take_two (suc n) (x ∷ xs) ys =
    let e : suc n - length (x ∷ xs) ≡ n - length xs = omega arith in
    ap (λ (zs : List ℕ). x ∷ zs) (take_two n xs ys) ∙ ap (λ (k : ℕ). x ∷ (take n xs ++ take k ys)) (sym e)

drop_two : (n : ℕ) (xs ys : List ℕ) → drop n (xs ++ ys) ≡ drop n xs ++ drop (n - length xs) ys
drop_two zero [] ys = refl
drop_two zero (x ∷ xs) ys = let e : 0 - length (x ∷ xs) ≡ 0 = omega arith in ap (λ (k : ℕ). x ∷ (xs ++ drop k ys)) (sym e)
drop_two (suc n) [] ys = let e : suc n - length {A = ℕ} [] ≡ suc n = omega arith in ap (λ (k : ℕ). drop k ys) (sym e)
drop_two (suc n) (x ∷ xs) ys =
    let e : suc n - length (x ∷ xs) ≡ n - length xs = omega arith in
    drop_two n xs ys ∙ ap (λ (k : ℕ). drop n xs ++ drop k ys) (sym e)

-- two pieces in a row have of a part of the file what both have as one
pub part_of_two : (before low high : ℕ) (one next : List ℕ) → low ≤ high → part before low high (one ++ next) ≡ part before low high one ++ part (before + length one) low high next
unfolding part
part_of_two before low high one next ordered =
    let from : (low - before) - length (take (high - before) one) ≡ low - (before + length one) = omega (arith, length-take (high - before) one) in
    let to : high - before - length one ≡ high - (before + length one) = omega arith in
    ap (λ (zs : List ℕ). drop (low - before) zs) (take_two (high - before) one next)
    ∙ drop_two (low - before) (take (high - before) one) (take (high - before - length one) next)
    ∙ ap (λ (k : ℕ). drop (low - before) (take (high - before) one) ++ drop k (take (high - before - length one) next)) from
    ∙ ap (λ (k : ℕ). drop (low - before) (take (high - before) one) ++ drop (low - (before + length one)) (take k next)) to

-- the whole file has its code, after what stands before it and before what follows it
pub code_of_file : (header code rest : List ℕ) → part 0 (length header) (length header + length code) (header ++ (code ++ rest)) ≡ code
unfolding part
code_of_file header code rest =
    let to : length header + length code - 0 ≡ length header + length code = omega arith in
    let from : length header - 0 ≡ length header = omega arith in
    ap (λ (k : ℕ). drop (length header - 0) (take k (header ++ (code ++ rest)))) to
    ∙ ap (λ (k : ℕ). drop k (take (length header + length code) (header ++ (code ++ rest)))) from
    ∙ ap (λ (zs : List ℕ). drop (length header) zs) (take-append-add header (code ++ rest) (length code))
    ∙ drop-append_seam header (take (length code) (code ++ rest))
    ∙ take-append_seam code rest
