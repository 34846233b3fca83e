-- Where a run of bytes that pass a test stops.
use Rattle.std.proofs.Common.{◌≡◌, ℕ, ◌<◌, ◌≤◌, Bool, true, false, List, ◌++◌, length, get_or, take, arith, sym, ◌∙◌, ap, refl, length-append}
use Rattle.std.specs.List.{prefix_len, AllPass}
use Rattle.std.specs.Prelude.{take_while}
use Rattle.std.proofs.lemmas.List.{get_or_append_left, get_or-take, take_at}
use Rattle.std.proofs.lemmas.List.Sums.{prefix_len_is, prefix_len_passes}
use Rattle.std.proofs.lemmas.List.Folds.{length-prefix_len}
use Rattle.std.proofs.Math.Seq.{get_or-append_right}

pub stops_at : (test : ℕ → Bool) (xs : List ℕ) (n : ℕ) → n < length xs → ((k : ℕ) → k < n → test (get_or xs k 0) ≡ true) → test (get_or xs n 0) ≡ false → n ≡ prefix_len test xs
stops_at test xs n h before here = sym (prefix_len_is test xs n 0 (omega arith) before (λ _. here))

pub runs_through : (test : ℕ → Bool) (xs : List ℕ) (n : ℕ) → n ≤ length xs → length xs ≤ n → ((k : ℕ) → k < n → test (get_or xs k 0) ≡ true) → length xs ≡ prefix_len test xs
runs_through test xs n h all before =
    let same : length xs ≡ n = omega arith in
    same ∙ sym (prefix_len_is test xs n 0 h before (λ more. absurd (omega arith)))

-- the run of a part that passes, before something that does not
pub run_before : (test : ℕ → Bool) (xs ys : List ℕ) → AllPass test xs → test (get_or ys 0 0) ≡ false → prefix_len test (xs ++ ys) ≡ length xs
run_before test xs ys all off =
    prefix_len_is test (xs ++ ys) (length xs) 0 (omega (arith, length-append xs ys)) (λ k h. ap test (get_or_append_left xs ys 0 k h) ∙ all k 0 h) (λ _. ap test (get_or-append_right xs ys (length xs) 0 (omega arith) ∙ ap (λ n. get_or ys n 0) (omega arith)) ∙ off)

pub taken_before : (test : ℕ → Bool) (xs ys : List ℕ) → AllPass test xs → test (get_or ys 0 0) ≡ false → take_while test (xs ++ ys) ≡ xs
taken_before test xs ys all off = ap (λ n. take n (xs ++ ys)) (run_before test xs ys all off) ∙ take_at xs ys (length xs) refl

-- what is taken passes
pub taken_passes : (test : ℕ → Bool) (xs : List ℕ) → AllPass test (take_while test xs)
taken_passes test xs k d h =
    let few : k < prefix_len test xs = omega (arith, length-prefix_len test xs) in
    ap test (get_or-take (prefix_len test xs) xs k d few) ∙ prefix_len_passes test xs k d few
