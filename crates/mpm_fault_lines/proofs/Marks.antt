-- The marks of a list with one slot more.
use Rattle.std.proofs.Common.{◌≡◌, ℕ, zero, suc, ◌+◌, ◌<◌, ◌≤◌, cond, ◌==◌, Bool, true, false, ◌||◌, inl, inr, List, [], ◌∷◌, ◌++◌, map, length, get_or, refl, sym, ap, ◌∙◌, arith, eq-eqb, ne_eqb}
use Rattle.std.specs.Prelude.{slice_set}
use Rattle.std.specs.List.{range_with_len, filter}
use Rattle.std.proofs.lemmas.Bool.{cases_eq}
use Rattle.std.proofs.lemmas.List.{length-set, get_or-set_same, get_or-set_other, ext_get_or}
use Rattle.std.proofs.lemmas.List.Folds.{list_any-append}
use Rattle.std.proofs.lemmas.List.FromFn.{length-map-range_with_len, get_or-map-range_with_len}
use Rattle.mpm_fault_lines.specs.Lists.{has_slot, marked, different, listed}

or_last : (b c : Bool) → c ≡ true → (b || (c || false)) ≡ true
or_last true c is = refl
or_last false c is = ap (λ z. z || false) is

or_none : (b c : Bool) → c ≡ false → (b || (c || false)) ≡ b
or_none true c is = refl
or_none false c is = ap (λ z. z || false) is

has_last : (slots : List ℕ) (slot other : ℕ) → has_slot (slots ++ (slot ∷ [])) other ≡ (has_slot slots other || ((slot == other) || false))
has_last slots slot other = list_any-append (λ one. one == other) slots (slot ∷ [])

pub marked_more : (slots : List ℕ) (slot : ℕ) → slot < 512 → slice_set (marked slots) slot true ≡ marked (slots ++ (slot ∷ []))
unfolding marked
marked_more slots slot small =
    let old = has_slot slots in
    let new = has_slot (slots ++ (slot ∷ [])) in
    let marks = map old (range_with_len 0 512) in
    let long : length marks ≡ 512 = length-map-range_with_len old 0 512 in
    let set_long : length (slice_set marks slot true) ≡ 512 = length-set marks slot true ∙ long in
    let at_new : (i : ℕ) → i < 512 → get_or (map new (range_with_len 0 512)) i false ≡ new i = λ i less. get_or-map-range_with_len new 0 512 i i false less (omega arith) in
    let at_old : (i : ℕ) → i < 512 → get_or marks i false ≡ old i = λ i less. get_or-map-range_with_len old 0 512 i i false less (omega arith) in
    ext_get_or false (slice_set marks slot true) (map new (range_with_len 0 512)) (set_long ∙ sym (length-map-range_with_len new 0 512)) (λ i less.
    let within : i < 512 = omega (arith, set_long) in
    elim (cases_eq i slot) [
      | inl same ↦
          ap (λ k. get_or (slice_set marks slot true) k false) same
          ∙ get_or-set_same marks slot true false (omega (arith, long))
          ∙ sym (at_new i within ∙ has_last slots slot i ∙ or_last (old i) (slot == i) (eq-eqb slot i (sym same)))
      | inr apart ↦
          get_or-set_other marks slot i true false apart ∙ at_old i within
          ∙ sym (at_new i within ∙ has_last slots slot i ∙ or_none (old i) (slot == i) (ne_eqb slot i (λ same. apart (sym same))))
    ])

-- a test that is another over a range picks the same of it
pub filter_alike : (p q : ℕ → Bool) (a n : ℕ) → ((k : ℕ) → a ≤ k → k < a + n → p k ≡ q k) → filter p (range_with_len a n) ≡ filter q (range_with_len a n)
filter_alike p q a zero each = refl
filter_alike p q a (suc n) each =
    ap (λ b. cond b (a ∷ filter p (range_with_len (a + 1) n)) (filter p (range_with_len (a + 1) n))) (each a (omega arith) (omega arith))
    ∙ ap (λ xs. cond (q a) (a ∷ xs) xs) (filter_alike p q (a + 1) n (λ k low high. each k (omega arith) (omega arith)))

-- the marked slots below a bound are the different ones that a list has there
pub listed_marked : (slots : List ℕ) (count : ℕ) → count ≤ 512 → listed (marked slots) count ≡ different count slots
unfolding listed different marked
listed_marked slots count few =
    filter_alike (λ slot. get_or (marked slots) slot false) (has_slot slots) 0 count (λ k low high.
    get_or-map-range_with_len (has_slot slots) 0 512 k k false (omega (arith, high, few)) (omega arith))
