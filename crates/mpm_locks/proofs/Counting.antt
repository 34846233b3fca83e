-- How many numbers come before the first that passes a test, counted one after the other.
use Rattle.std.proofs.Common.{◌≡◌, ◌∙◌, sym, ap, ℕ, suc, ◌+◌, ◌<◌, Bool, true, false, cond, arith}
use Rattle.mpm_base.proofs.CountLaws.{less_by}
use Rattle.mpm_locks.specs.Locks.{count_until}

-- so many were counted, and what is left
abbrev pub CountsTo : (ℕ → Bool) → ℕ → ℕ → ℕ → Type 0
CountsTo stops first count k = (left : ℕ) → k + left ≡ count → count_until stops first count ≡ k + count_until stops (first + k) left

pub none_counted : (stops : ℕ → Bool) (first count : ℕ) → CountsTo stops first count 0
none_counted stops first count left h =
    let all : count ≡ left = omega arith in
    let here : first ≡ first + 0 = omega arith in
    let none : count_until stops (first + 0) left ≡ 0 + count_until stops (first + 0) left = omega arith in
    ap (count_until stops first) all ∙ ap (λ n. count_until stops n left) here ∙ none

next_counted : (stops : ℕ → Bool) (first count k left : ℕ) → CountsTo stops first count k → k + 1 + left ≡ count
    → count_until stops first count ≡ k + cond (stops (first + k)) 0 (suc (count_until stops (first + k + 1) left))
unfolding count_until
next_counted stops first count k left before h = before (suc left) (omega arith)

pub one_counted : (stops : ℕ → Bool) (first count k : ℕ) → CountsTo stops first count k → stops (first + k) ≡ false → CountsTo stops first count (k + 1)
one_counted stops first count k before passes left h =
    let next : first + k + 1 ≡ first + (k + 1) = omega arith in
    let rest : ℕ = count_until stops (first + (k + 1)) left in
    let sums : k + suc rest ≡ k + 1 + rest = omega arith in
    next_counted stops first count k left before h ∙ ap (λ b. k + cond b 0 (suc (count_until stops (first + k + 1) left))) passes
    ∙ ap (λ n. k + suc (count_until stops n left)) next ∙ sums

pub counted_stop : (stops : ℕ → Bool) (first count k : ℕ) → CountsTo stops first count k → k < count → stops (first + k) ≡ true
    → k ≡ count_until stops first count
counted_stop stops first count k before h is =
    let left = less_by k count h in
    let whole : k + 0 ≡ k = omega arith in
    sym (next_counted stops first count k left.0 before left.1 ∙ ap (λ b. k + cond b 0 (suc (count_until stops (first + k + 1) left.0))) is ∙ whole)

pub all_counted : (stops : ℕ → Bool) (first count k : ℕ) → CountsTo stops first count k → k ≡ count → count ≡ count_until stops first count
unfolding count_until
all_counted stops first count k before ended =
    let whole : k + 0 ≡ count = omega arith in
    sym (before 0 whole ∙ whole)
