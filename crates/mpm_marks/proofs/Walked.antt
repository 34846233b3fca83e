-- Walks over the processes and over the drives, for one that passes a test.
use Rattle.std.proofs.Common.{◌≡◌, ◌∙◌, ◌⊎◌, inl, inr, ℕ, ◌+◌, ◌<◌, ◌≤◌, Bool, true, false, List, sym, ap, subst, arith}
use Rattle.std.specs.List.{list_any, range_with_len}
use Rattle.std.proofs.lemmas.Bool.{cases_lt}
use Rattle.std.proofs.lemmas.List.FromFn.{length-range_with_len, get_or-range_with_len}
use Rattle.std.proofs.lemmas.List.Folds.{list_any_none}
use Rattle.mpm_base.proofs.Lists.{any_at}
use Rattle.mpm_opens.specs.Opens.{OpenFiles}
use Rattle.mpm_file_functions.specs.declared.functions.FileFunction.{FileFunction}
use Rattle.mpm_marks.specs.Busy.{is_named_busy, are_busy}
use Rattle.mpm_marks.specs.Marks.{is_marked_by, is_marked}

-- none of the first ones passes
pub record NonePasses (test : ℕ → Bool) (n : ℕ) : Type 0 where
  pub each : (k : ℕ) → k < n → test k ≡ false

pub none_first : (test : ℕ → Bool) → NonePasses test 0
none_first test = record { each = λ k below. absurd (omega (arith, below)) }

-- and not the next
pub none_yet : (test : ℕ → Bool) (i : ℕ) → NonePasses test i → test i ≡ false → NonePasses test (i + 1)
none_yet test i before here = record { each = λ k below. by_place k below (cases_lt k i) }
  where
    by_place : (k : ℕ) → k < i + 1 → (k < i) ⊎ (i ≤ k) → test k ≡ false
    by_place k below (inl low) = before.each k low
    by_place k below (inr high) =
        let last : i ≡ k = omega (arith, below, high) in
        subst (λ n. test n ≡ false) last here

at_place : (n k : ℕ) (test : ℕ → Bool) → test (0 + k) ≡ test k
at_place n k test = let same : 0 + k ≡ k = omega arith in ap test same

none_of_first : (test : ℕ → Bool) (m n : ℕ) → m ≤ n → NonePasses test n → list_any test (range_with_len 0 m) ≡ false
none_of_first test m n h none = list_any_none test (range_with_len 0 m) (λ k d within.
    let below : k < m = omega (arith, within, length-range_with_len 0 m) in
    ap test (get_or-range_with_len 0 m k d below) ∙ at_place m k test ∙ none.each k (omega (arith, below, h)))

-- a process that has marked a drive
pub marked_found : (marks : List ℕ) (p drive q : ℕ) → q < 32 → is_marked_by marks p drive q ≡ true → true ≡ is_marked marks p drive
unfolding is_marked
marked_found marks p drive q h here = sym (any_at (is_marked_by marks p drive) 32 q h here)

pub marked_none : (marks : List ℕ) (p drive n : ℕ) → 32 ≤ n → NonePasses (is_marked_by marks p drive) n → false ≡ is_marked marks p drive
unfolding is_marked
marked_none marks p drive n h none = sym (none_of_first (is_marked_by marks p drive) 32 n h none)

-- a drive that is busy
pub busy_found : (opens : OpenFiles) (marks : List ℕ) (p : ℕ) (function : FileFunction) (own mask drive : ℕ) → drive < 16 → is_named_busy opens marks p function own mask drive ≡ true
    → true ≡ are_busy opens marks p function own mask
unfolding are_busy
busy_found opens marks p function own mask drive h here = sym (any_at (is_named_busy opens marks p function own mask) 16 drive h here)

pub busy_none : (opens : OpenFiles) (marks : List ℕ) (p : ℕ) (function : FileFunction) (own mask n : ℕ) → 16 ≤ n
    → NonePasses (is_named_busy opens marks p function own mask) n → false ≡ are_busy opens marks p function own mask
unfolding are_busy
busy_none opens marks p function own mask n h none = sym (none_of_first (is_named_busy opens marks p function own mask) 16 n h none)
