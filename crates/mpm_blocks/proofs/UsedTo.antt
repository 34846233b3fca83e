-- The blocks below a bound, as they are written one by one.
use Rattle.std.proofs.Common.{◌≡◌, ℕ, ◌+◌, Bool, ltb, List, [], ◌∷◌, ◌++◌, ap, ◌∙◌, sym, refl, arith}
use Rattle.std.proofs.lemmas.List.FromFn.{map-range_with_len_more}
use Rattle.mpm_blocks.specs.Maps.{used_to}

pub used_none : (bound : ℕ) → [] ≡ used_to bound 0
unfolding used_to
used_none bound = refl

pub used_more : (now before : List Bool) (bound block : ℕ) → before ≡ used_to bound block → now ≡ before ++ (ltb block bound ∷ []) → now ≡ used_to bound (block + 1)
unfolding used_to
used_more now before bound block was added =
    added ∙ ap (λ (xs : List Bool). xs ++ (ltb block bound ∷ [])) was ∙ sym (map-range_with_len_more (λ b. ltb b bound) 0 block block (omega arith))
