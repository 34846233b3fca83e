-- Records that are read, counted one after the other.
use Rattle.std.proofs.Common.{◌≡◌, ℕ, suc, ◌+◌, ◌<◌, Option, Some, None, sym, ap, ◌∙◌, arith}
use Rattle.mpm_file_functions.specs.declared.errors.RecordError.{RecordError}
use Rattle.mpm_files.specs.declared.counting.Count.{Count}
use Rattle.mpm_files.specs.Counting.{counted, unless_refused, read_count}
use Rattle.mpm_base.proofs.CountLaws.{less_by}

-- so many were counted, and what is left
abbrev pub ReadTo : (ℕ → Option RecordError) → ℕ → ℕ → ℕ → Type 0
ReadTo errors n count k = (left : ℕ) → k + left ≡ count → read_count errors n count ≡ counted k (read_count errors (n + k) left)

pub nothing_more : (c : Count) → counted 0 c ≡ c
nothing_more c = ap (λ u. record c { units = u }) (omega arith)

pub counted_both : (k m : ℕ) (c : Count) → counted k (counted m c) ≡ counted (k + m) c
counted_both k m c = ap (λ u. record c { units = u }) (omega arith)

pub none_read : (errors : ℕ → Option RecordError) (n count : ℕ) → ReadTo errors n count 0
none_read errors n count left h =
    let all : left ≡ count = omega arith in
    let first : n + 0 ≡ n = omega arith in
    sym (nothing_more (read_count errors (n + 0) left) ∙ ap (λ m. read_count errors m left) first ∙ ap (read_count errors n) all)

next_first : (errors : ℕ → Option RecordError) (n count k left : ℕ) → ReadTo errors n count k → k + 1 + left ≡ count
    → read_count errors n count ≡ counted k (unless_refused (errors (n + k)) 1 (read_count errors (n + k + 1) left))
unfolding read_count
next_first errors n count k left before h = before (suc left) (omega arith)

pub one_read : (errors : ℕ → Option RecordError) (n count k : ℕ) → ReadTo errors n count k → errors (n + k) ≡ None → ReadTo errors n count (k + 1)
one_read errors n count k before none left h =
    let next : n + k + 1 ≡ n + (k + 1) = omega arith in
    next_first errors n count k left before h ∙ ap (λ e. counted k (unless_refused e 1 (read_count errors (n + k + 1) left))) none
    ∙ counted_both k 1 (read_count errors (n + k + 1) left) ∙ ap (λ m. counted (k + 1) (read_count errors m left)) next

pub read_stop : (errors : ℕ → Option RecordError) (n count k : ℕ) (error : RecordError) → ReadTo errors n count k → k < count → errors (n + k) ≡ Some error
    → record { units = k; error = Some error } ≡ read_count errors n count
read_stop errors n count k error before h refused =
    let left = less_by k count h in
    let whole : k + 0 ≡ k = omega arith in
    sym (next_first errors n count k left.0 before left.1 ∙ ap (λ e. counted k (unless_refused e 1 (read_count errors (n + k + 1) left.0))) refused
    ∙ ap (λ u. record { units = u; error = Some error }) whole)

pub all_read : (errors : ℕ → Option RecordError) (n count k m : ℕ) → ReadTo errors n count k → k ≡ count → m ≡ count → record { units = m; error = None } ≡ read_count errors n count
unfolding read_count
all_read errors n count k m before ended same =
    let whole : k + 0 ≡ count = omega arith in
    let size : m ≡ k + 0 = omega arith in
    ap (λ u. record { units = u; error = None }) size ∙ sym (before 0 whole)
