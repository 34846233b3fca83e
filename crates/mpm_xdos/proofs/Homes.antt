-- Laws of a walk over the slots, in search of a process that lives in a segment.
use Rattle.std.proofs.Common.{◌≡◌, ◌∙◌, ℕ, ◌+◌, ◌<◌, ◌≤◌, true, false, ◌||◌, None, take, get_or, refl, sym, ap, arith}
use Rattle.std.specs.List.{list_any, range_with_len}
use Rattle.std.proofs.lemmas.List.{take_all}
use Rattle.std.proofs.lemmas.List.FromFn.{length-range_with_len, get_or-range_with_len}
use Rattle.std.proofs.lemmas.List.Folds.{list_any_more, list_any_at}
use Rattle.mpm_procs.specs.Table.{Table}
use Rattle.mpm_xdos.specs.Ending.{lives_in, is_home, vacated_if_empty}
use Rattle.mpm_banks.specs.Memory.{Memory}

slot_at : (p : ℕ) → p < 32 → get_or (range_with_len 0 32) p 0 ≡ p
slot_at p h = get_or-range_with_len 0 32 p 0 h ∙ omega arith

pub home_here : (procs : Table) (seg p : ℕ) → p < 32 → lives_in procs seg p ≡ true → is_home procs seg ≡ true
unfolding is_home
home_here procs seg p h lives =
    list_any_at (lives_in procs seg) (range_with_len 0 32) p 0 (omega (arith, length-range_with_len 0 32)) (ap (lives_in procs seg) (slot_at p h) ∙ lives)

pub home_further : (procs : Table) (seg p : ℕ) → p < 32 → list_any (lives_in procs seg) (take p (range_with_len 0 32)) ≡ false
    → lives_in procs seg p ≡ false → list_any (lives_in procs seg) (take (p + 1) (range_with_len 0 32)) ≡ false
home_further procs seg p h before other =
    list_any_more (lives_in procs seg) (range_with_len 0 32) p 0 (omega (arith, length-range_with_len 0 32))
    ∙ ap (λ b. b || lives_in procs seg (get_or (range_with_len 0 32) p 0)) before
    ∙ ap (lives_in procs seg) (slot_at p h) ∙ other

pub home_nowhere : (procs : Table) (seg count : ℕ) → 32 ≤ count → list_any (lives_in procs seg) (take count (range_with_len 0 32)) ≡ false → is_home procs seg ≡ false
unfolding is_home
home_nowhere procs seg count h none =
    sym (ap (list_any (lives_in procs seg)) (take_all count (range_with_len 0 32) (omega (arith, length-range_with_len 0 32)))) ∙ none

pub vacated_if_empty_none : (memory : Memory) (procs : Table) → vacated_if_empty memory procs None ≡ memory
unfolding vacated_if_empty
vacated_if_empty_none memory procs = refl
