-- A pattern that fits at each place, and one that does not fit at some.
use Rattle.std.proofs.Common.{◌≡◌, ℕ, ◌+◌, ◌<◌, List, get_or, true, false, ap, ◌∙◌, arith}
use Rattle.std.specs.List.{range_with_len}
use Rattle.std.proofs.lemmas.List.FromFn.{length-range_with_len, get_or-range_with_len}
use Rattle.std.proofs.lemmas.List.Folds.{list_all_at}
use Rattle.std.proofs.lemmas.List.Sums.{list_all-from_AllPass}
use Rattle.mpm_names.specs.Matching.{fits_at, does_match}

place_at : (place d : ℕ) → place < 11 → get_or (range_with_len 0 11) place d ≡ place
place_at place d h =
    let same : 0 + place ≡ place = omega arith in
    get_or-range_with_len 0 11 place d h ∙ same

pub misfit : (pattern name : List ℕ) (place : ℕ) → place < 11 → fits_at pattern name place ≡ false → does_match pattern name ≡ false
unfolding does_match
misfit pattern name place h off =
    list_all_at (fits_at pattern name) (range_with_len 0 11) place 0 (omega (arith, length-range_with_len 0 11)) (ap (fits_at pattern name) (place_at place 0 h) ∙ off)

pub fits_everywhere : (pattern name : List ℕ) → ((place : ℕ) → place < 11 → fits_at pattern name place ≡ true) → does_match pattern name ≡ true
unfolding does_match
fits_everywhere pattern name each =
    list_all-from_AllPass (fits_at pattern name) (range_with_len 0 11) (λ place d h. ap (fits_at pattern name) (place_at place d h) ∙ each place h)
