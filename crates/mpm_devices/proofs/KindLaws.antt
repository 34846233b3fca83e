-- One more byte of a text, and the lines of it.
use Rattle.std.proofs.Common.{◌≡◌, ◌∙◌, ◌+◌, ◌-◌, ◌^◌, ◌++◌, ◌∷◌, [], ℕ, Bool, true, false, List, ap, sym, subst, refl, arith}
use Rattle.std.specs.Prelude.{min, count_by, cond, if◌then◌else◌}
use Rattle.std.specs.List.{zip}
use Rattle.std.proofs.lemmas.List.Sums.{sum_by-append}
use Rattle.mpm_devices.specs.Kinds.{begins_with, lines_of_kind, counted, last_behind}

-- the last byte of a text with one more is that one
pub last_more : (before : ℕ) (text : List ℕ) (byte : ℕ) → byte ≡ last_behind before (text ++ byte ∷ [])
unfolding last_behind
last_more before [] byte = refl
last_more before (x ∷ text) byte = last_more x text byte

pairs_more : (before : ℕ) (text : List ℕ) (byte : ℕ)
    → zip (before ∷ (text ++ byte ∷ [])) (text ++ byte ∷ []) ≡ zip (before ∷ text) text ++ (last_behind before text, byte) ∷ []
unfolding last_behind
pairs_more before [] byte = refl
pairs_more before (x ∷ text) byte = ap (λ pairs. (before, x) ∷ pairs) (pairs_more x text byte)

lines_more : (first : ℕ) (text : List ℕ) (byte : ℕ)
    → lines_of_kind first (text ++ byte ∷ []) ≡ lines_of_kind first text + (0 + cond (begins_with first (last_behind 10 text, byte)) 1 0)
unfolding lines_of_kind
lines_more first text byte =
    let pair : ℕ × ℕ = (last_behind 10 text, byte) in
    ap (count_by (begins_with first)) (pairs_more 10 text byte) ∙ sum_by-append (λ p. cond (begins_with first p) 1 0) (zip (10 ∷ text) text) (pair ∷ [])

by_count : (begins : Bool) (lines lines' : ℕ) → lines' ≡ lines + (0 + cond begins 1 0)
    → (if begins then min (min lines (2 ^ 64 - 1) + 1) (2 ^ 64 - 1) else min lines (2 ^ 64 - 1)) ≡ min lines' (2 ^ 64 - 1)
by_count true lines lines' is = omega (arith, is)
by_count false lines lines' is = omega (arith, is)

-- a count with the line that one more byte begins, or without one, is that of the text with the byte
pub counted_more : (first : ℕ) (text : List ℕ) (byte : ℕ)
    → (if begins_with first (last_behind 10 text, byte) then min (counted first text + 1) (2 ^ 64 - 1) else counted first text) ≡ counted first (text ++ byte ∷ [])
counted_more first text byte =
    by_count (begins_with first (last_behind 10 text, byte)) (lines_of_kind first text) (lines_of_kind first (text ++ byte ∷ [])) (lines_more first text byte)

-- nothing yet
empty_counted : (10 ≡ last_behind 10 []) × (0 ≡ counted 99 []) × (0 ≡ counted 116 [])
unfolding last_behind lines_of_kind
empty_counted = (refl, refl, refl)

pub nothing_counted : (text : List ℕ) → text ≡ [] → (10 ≡ last_behind 10 text) × (0 ≡ counted 99 text) × (0 ≡ counted 116 text)
nothing_counted text none =
    let P : List ℕ → Type 0 = λ t. (10 ≡ last_behind 10 t) × (0 ≡ counted 99 t) × (0 ≡ counted 116 t) in subst P (sym none) empty_counted
