-- Where a run of bytes that pass a test stops.
use Rattle.std.proofs.Common.{◌≡◌, ℕ, ◌-◌, ◌<◌, ◌≤◌, Bool, true, false, List, length, get_or, sym}
use Rattle.std.specs.List.{suffix_len}
use Rattle.std.proofs.lemmas.List.Sums.{suffix_len_is}

pub ends_with : (test : ℕ → Bool) (xs : List ℕ) (n : ℕ) → n ≤ length xs → ((k : ℕ) → n ≤ k → k < length xs → test (get_or xs k 0) ≡ true) → (0 < n → test (get_or xs (n - 1) 0) ≡ false) → length xs - n ≡ suffix_len test xs
ends_with test xs n h behind here = sym (suffix_len_is test xs n 0 h behind here)
