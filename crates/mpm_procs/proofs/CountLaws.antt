-- How many processes live, and in how many slots nobody does.
use Rattle.mpm_base.proofs.CountLaws.{one_if}
use Rattle.std.proofs.Common.{◌≡◌, ◌≢◌, ◌∙◌, ℕ, ◌+◌, ◌<◌, ◌≤◌, Bool, true, false, not, cond, List, [], ◌∷◌, Option, Some, None, inl, inr, length, refl, sym, ap, arith}
use Rattle.std.specs.Prelude.{◌↔◌, IfSome, IsNone, count_by}
use Rattle.std.specs.List.{position_or_len}
use Rattle.std.proofs.lemmas.Bool.{false≢true, cases_lt, lt-ltb, le-ltb}
use Rattle.std.proofs.lemmas.List.Sums.{sum_by-set, sum_by-cons, count_by-le-length}
use Rattle.mpm_procs.specs.declared.process.NewProcess.{NewProcess}
use Rattle.mpm_procs.specs.Table.{Table, HasSlots, lives, lowest_free, free_slots, living, added}
use Rattle.mpm_procs.proofs.MapLaws.{free_below}

abbrev free_bit : Bool → ℕ
free_bit b = cond (not b) 1 0

-- a process more, one fewer

pub living_added : (table : Table) (p : ℕ) (new : NewProcess) → p < length table.alive → lives table p ≡ false → living (added table p new) ≡ living table + 1
unfolding living added
living_added table p new within free =
    omega (arith, sum_by-set one_if table.alive p true false within, ap one_if free)

-- the slots are those where a process lives and the free ones
abbrev live_count : List Bool → ℕ
live_count bs = count_by (λ b. b) bs

live_more : (bs : List Bool) → live_count (true ∷ bs) ≡ 1 + live_count bs
live_more bs = sum_by-cons one_if true bs

live_same : (bs : List Bool) → live_count (false ∷ bs) ≡ 0 + live_count bs
live_same bs = sum_by-cons one_if false bs

free_same : (bs : List Bool) → count_by not (true ∷ bs) ≡ 0 + count_by not bs
free_same bs = sum_by-cons free_bit true bs

free_more : (bs : List Bool) → count_by not (false ∷ bs) ≡ 1 + count_by not bs
free_more bs = sum_by-cons free_bit false bs

parted : (bs : List Bool) → live_count bs + count_by not bs ≡ length bs
parted [] = refl
parted (true ∷ bs) = omega (arith, parted bs, live_more bs, free_same bs)
parted (false ∷ bs) = omega (arith, parted bs, live_same bs, free_more bs)

pub living_and_free : (table : Table) → HasSlots table → living table + free_slots table ≡ 32
unfolding living free_slots
living_and_free table slots = parted table.alive ∙ slots.alive

-- no slot is free exactly where 32 processes live
full_end : (bs : List Bool) → live_count bs ≡ length bs → position_or_len not bs ≡ length bs
full_end [] all = refl
full_end (true ∷ bs) all =
    let more : position_or_len not (true ∷ bs) ≡ 1 + position_or_len not bs = refl in
    omega (arith, full_end bs (omega (arith, live_more bs)))
full_end (false ∷ bs) all = absurd (omega (arith, live_same bs, count_by-le-length (λ b. b) bs))

end_full : (bs : List Bool) → length bs ≤ position_or_len not bs → live_count bs ≡ length bs
end_full [] all = refl
end_full (true ∷ bs) all =
    let more : position_or_len not (true ∷ bs) ≡ 1 + position_or_len not bs = refl in
    omega (arith, live_more bs, end_full bs (omega arith))
end_full (false ∷ bs) all =
    let here : position_or_len not (false ∷ bs) ≡ 0 = refl in
    absurd (omega arith)

pub full_from_none : (table : Table) → HasSlots table → lowest_free table ≡ None → living table ≡ 32
unfolding living lowest_free
full_from_none table slots none =
    elim (cases_lt (position_or_len not table.alive) (length table.alive)) [
      | inl h ↦ absurd (let some = ap (λ (b : Bool). cond b (Some (position_or_len not table.alive)) None) (lt-ltb _ _ h) in let wrong = sym some ∙ none in cc)
      | inr h ↦ end_full table.alive h ∙ slots.alive
    ]

pub none_from_full : (table : Table) → HasSlots table → living table ≡ 32 → lowest_free table ≡ None
unfolding living lowest_free
none_from_full table slots full =
    let at : position_or_len not table.alive ≡ length table.alive = full_end table.alive (full ∙ sym slots.alive) in
    ap (λ (b : Bool). cond b (Some (position_or_len not table.alive)) None) (le-ltb _ _ (omega arith))

pub room_from_some : (table : Table) (p : ℕ) → HasSlots table → lowest_free table ≡ Some p → living table ≢ 32
room_from_some table p slots some full = let wrong = sym some ∙ none_from_full table slots full in cc

-- the lowest free slot is one of the 32, and there is none exactly where 32 processes live
pub free_in : (table : Table) (result : Option ℕ) → HasSlots table → result ≡ lowest_free table → IfSome result (λ slot. slot < 32)
free_in table None slots is = tt
free_in table (Some slot) slots is =
    let within = free_below table slot (sym is) in
    let size = slots.alive in
    omega arith

pub full_exactly : (table : Table) (result : Option ℕ) → HasSlots table → result ≡ lowest_free table → IsNone result ↔ (living table ≡ 32)
full_exactly table None slots is = ((λ _. full_from_none table slots (sym is)), (λ _. refl))
full_exactly table (Some slot) slots is =
    ((λ wrong. absurd (false≢true (sym wrong))), (λ full. absurd (room_from_some table slot slots (sym is) full)))
