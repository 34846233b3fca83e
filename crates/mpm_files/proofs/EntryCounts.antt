-- Directory entries that are counted, or looked for, slot by slot.
use Rattle.std.proofs.Common.{◌≡◌, ℕ, zero, suc, ◌+◌, ◌<◌, ◌≤◌, Bool, true, false, List, [], ◌∷◌, take, length, get_or, refl, ap, ◌∙◌, arith}
use Rattle.std.specs.Prelude.{count_by}
use Rattle.std.specs.List.{list_any}
use Rattle.std.proofs.lemmas.Bool.{or_from, or_left, or_right, or_parts}
use Rattle.mpm_base.proofs.CountLaws.{one_if, count_cons}
use Rattle.mpm_dirent.specs.declared.kinds.Entry.{Entry}
use Rattle.mpm_dirent.specs.declared.kinds.Entry.TheVariants.{Free}

as_bit : (b : Bool) → one_if b ≡ one_if b
as_bit true = refl
as_bit false = refl

pub count_more : (test : Entry → Bool) (entries : List Entry) (i : ℕ) → i < length entries
    → count_by test (take (i + 1) entries) ≡ count_by test (take i entries) + one_if (test (get_or entries i Free))
count_more test entries i h = ap (λ n. count_by test (take n entries)) (next i) ∙ by_place entries i h
  where
    next : (n : ℕ) → n + 1 ≡ suc n
    next n = omega arith

    by_place : (es : List Entry) (n : ℕ) → n < length es → count_by test (take (suc n) es) ≡ count_by test (take n es) + one_if (test (get_or es n Free))
    by_place [] n less = absurd (omega arith)
    by_place (e ∷ es) zero less = omega (arith, count_cons test e [], as_bit (test e))
    by_place (e ∷ es) (suc n) less = omega (arith, count_cons test e (take (suc n) es), count_cons test e (take n es), by_place es n (omega arith))

pub any_more : (test : Entry → Bool) (entries : List Entry) (i : ℕ) → i < length entries → list_any test (take i entries) ≡ false → test (get_or entries i Free) ≡ false
    → list_any test (take (i + 1) entries) ≡ false
any_more test entries i h before here = ap (λ n. list_any test (take n entries)) (next i) ∙ by_place entries i h before here
  where
    next : (n : ℕ) → n + 1 ≡ suc n
    next n = omega arith

    by_place : (es : List Entry) (n : ℕ) → n < length es → list_any test (take n es) ≡ false → test (get_or es n Free) ≡ false → list_any test (take (suc n) es) ≡ false
    by_place [] n less none last = absurd (omega arith)
    by_place (e ∷ es) zero less none last = or_from (test e) false last refl
    by_place (e ∷ es) (suc n) less none last =
        let parts = or_parts (test e) (list_any test (take n es)) none in
        or_from (test e) (list_any test (take (suc n) es)) parts.0 (by_place es n (omega arith) parts.1 last)

pub any_found : (test : Entry → Bool) (entries : List Entry) (i : ℕ) → i < length entries → test (get_or entries i Free) ≡ true → list_any test entries ≡ true
any_found test [] i h here = absurd (omega arith)
any_found test (e ∷ es) zero h here = or_left (test e) (list_any test es) here
any_found test (e ∷ es) (suc i) h here = or_right (test e) (list_any test es) (any_found test es i (omega arith) here)

pub taken_whole : (entries : List Entry) (n : ℕ) → length entries ≤ n → take n entries ≡ entries
taken_whole [] zero h = refl
taken_whole [] (suc n) h = refl
taken_whole (e ∷ es) zero h = absurd (omega arith)
taken_whole (e ∷ es) (suc n) h = ap (λ xs. e ∷ xs) (taken_whole es n (omega arith))
