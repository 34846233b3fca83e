-- Lists that are the same throughout, filters of one element, parts in a row, and tests over the numbers below a bound.
use Rattle.std.proofs.Common.{◌≡◌, ◌∙◌, ℕ, ◌≤◌, ◌<◌, Bool, true, false, inl, inr, List, [], ◌∷◌, ◌++◌, length, get_or, replicate, sym, ap, subst, arith, zero-add}
use Rattle.std.specs.List.{filter, range_with_len, list_any}
use Rattle.std.proofs.lemmas.Bool.{cases_lt}
use Rattle.std.proofs.lemmas.List.{append_assoc, get_or_past, get_or-replicate, length-replicate}
use Rattle.std.proofs.lemmas.List.Folds.{list_any_at}
use Rattle.std.proofs.lemmas.List.FromFn.{length-range_with_len, get_or-range_with_len}
use Rattle.mpm_base.specs.Lists.{zeros}

-- each element of such a list is the same, also after its end
pub all_at : {X : Type 0} (n k : ℕ) (x : X) → get_or (replicate n x) k x ≡ x
all_at n k x = elim (cases_lt k n) [
  | inl within ↦ get_or-replicate n k x x within
  | inr past ↦ get_or_past (replicate n x) k x (subst (λ (j : ℕ). j ≤ k) (sym (length-replicate n x)) past)
]

pub length_zeros : (n : ℕ) → length (zeros n) ≡ n
unfolding zeros
length_zeros n = length-replicate n 0

pub kept_one : {X : Type 0} (test : X → Bool) (x : X) → test x ≡ true → filter test (x ∷ []) ≡ x ∷ []
kept_one test x h = grind (arith, h)

pub dropped_one : {X : Type 0} (test : X → Bool) (x : X) → test x ≡ false → filter test (x ∷ []) ≡ []
dropped_one test x h = grind (arith, h)

-- what came out of two stretches in a row, and what is left after them, is what was there, and what went in
pub joined : {X : Type 0} (given rest now before into more middle : List X) → given ++ middle ≡ before ++ into → rest ++ now ≡ middle ++ more → (given ++ rest) ++ now ≡ before ++ (into ++ more)
joined given rest now before into more middle one all =
    append_assoc given rest now ∙ ap (λ xs. given ++ xs) all ∙ sym (append_assoc given middle more)
    ∙ ap (λ xs. xs ++ more) one ∙ append_assoc before into more

-- a number below the bound passes
pub any_at : (test : ℕ → Bool) (n k : ℕ) → k < n → test k ≡ true → list_any test (range_with_len 0 n) ≡ true
any_at test n k h here =
    list_any_at test (range_with_len 0 n) k 0 (omega (arith, length-range_with_len 0 n)) (ap test (get_or-range_with_len 0 n k 0 h ∙ zero-add k) ∙ here)
