-- The first place that passes, as a loop finds it.
use Rattle.std.proofs.Common.{◌≡◌, ℕ, ◌<◌, ◌≤◌, Bool, true, false, cond, ltb, List, Some, None, length, get_or, sym, ap, ◌∙◌, arith}
use Rattle.std.specs.Prelude.{position}
use Rattle.std.proofs.lemmas.Bool.{lt-ltb, le-ltb}
use Rattle.std.specs.List.{position_or_len}
use Rattle.std.proofs.lemmas.List.Sums.{position_or_len_is}

pub found_at : (test : Bool → Bool) (xs : List Bool) (n : ℕ) → n < length xs → ((k : ℕ) → k < n → test (get_or xs k false) ≡ false) → test (get_or xs n false) ≡ true → Some n ≡ position test xs
found_at test xs n h before here =
    let at : position_or_len test xs ≡ n = position_or_len_is test xs n false (omega arith) before (λ _. here) in
    sym (ap (λ (m : ℕ). cond (ltb m (length xs)) (Some m) None) at ∙ ap (λ (b : Bool). cond b (Some n) None) (lt-ltb n (length xs) h))

pub nowhere : (test : Bool → Bool) (xs : List Bool) (n : ℕ) → n ≤ length xs → length xs ≤ n → ((k : ℕ) → k < n → test (get_or xs k false) ≡ false) → None ≡ position test xs
nowhere test xs n h all before =
    let at : position_or_len test xs ≡ n = position_or_len_is test xs n false h before (λ more. absurd (omega arith)) in
    sym (ap (λ (m : ℕ). cond (ltb m (length xs)) (Some m) None) at ∙ ap (λ (b : Bool). cond b (Some n) None) (le-ltb n (length xs) all))
