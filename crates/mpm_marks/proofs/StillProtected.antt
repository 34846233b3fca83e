-- The drives that stay protected, one after the other.
use Rattle.std.proofs.Common.{◌≡◌, ℕ, ◌<◌, Bool, false, List, length, get_or}
use Rattle.std.proofs.lemmas.List.FromFn.{fill_by_all}
use Rattle.mpm_marks.specs.Protected.{is_still_protected, unprotected}

pub protected_all : (protected made : List Bool) (mask : ℕ) → length made ≡ 16
    → ((k : ℕ) → k < 16 → get_or made k false ≡ is_still_protected protected mask k) → made ≡ unprotected protected mask
unfolding unprotected
protected_all protected made mask size each = fill_by_all (is_still_protected protected mask) made 16 false size each
