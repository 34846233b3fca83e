-- A walk over locks that leaves some of them.
use Rattle.std.proofs.Common.{◌≡◌, ◌∙◌, ℕ, ◌+◌, ◌<◌, ◌≤◌, Bool, true, false, List, [], ◌∷◌, ◌++◌, length, take, filter, get_or, ap, arith, length-take}
use Rattle.std.proofs.lemmas.List.{append-nil, take_more}
use Rattle.std.proofs.lemmas.List.Elements.{filter-append}
use Rattle.std.proofs.lemmas.List.Sums.{length-filter, count_by-le-length}
use Rattle.mpm_base.proofs.Lists.{kept_one, dropped_one}

-- one more, which passes or doesn't
pub filter_kept : {X : Type 0} (test : X → Bool) (xs : List X) (i : ℕ) (d : X) → i < length xs → test (get_or xs i d) ≡ true
    → filter test (take (i + 1) xs) ≡ filter test (take i xs) ++ get_or xs i d ∷ []
filter_kept test xs i d h passes =
    ap (filter test) (take_more xs i d h) ∙ filter-append test (take i xs) (get_or xs i d ∷ [])
    ∙ ap (λ more. filter test (take i xs) ++ more) (kept_one test (get_or xs i d) passes)

pub filter_dropped : {X : Type 0} (test : X → Bool) (xs : List X) (i : ℕ) (d : X) → i < length xs → test (get_or xs i d) ≡ false
    → filter test (take (i + 1) xs) ≡ filter test (take i xs)
filter_dropped test xs i d h fails =
    ap (filter test) (take_more xs i d h) ∙ filter-append test (take i xs) (get_or xs i d ∷ [])
    ∙ ap (λ more. filter test (take i xs) ++ more) (dropped_one test (get_or xs i d) fails) ∙ append-nil (filter test (take i xs))

-- there is room for one more
pub filter_room : {X : Type 0} (test : X → Bool) (xs : List X) (i n : ℕ) → i < length xs → length xs ≤ n → length (filter test (take i xs)) < n
filter_room test xs i n h most = omega (arith, length-filter test (take i xs), count_by-le-length test (take i xs), length-take i xs)
