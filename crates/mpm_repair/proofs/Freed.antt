-- Slots that are freed one after another.
use Rattle.std.proofs.Common.{◌≡◌, ℕ, zero, suc, ◌+◌, ◌≤◌, Bool, true, false, List, [], ◌∷◌, ◌++◌, length, cond, refl, sym, ap, ◌∙◌, arith, add-one}
use Rattle.std.specs.Prelude.{slice_set, slice_index_or}
use Rattle.std.specs.List.{range_with_len, filter}
use Rattle.std.proofs.lemmas.List.{length-append}
use Rattle.mpm_dirent.specs.declared.kinds.Entry.{Entry}
use Rattle.mpm_dirent.specs.declared.kinds.Entry.TheVariants.{Free}
use Rattle.mpm_fault_lines.specs.Lists.{listed, listed_at}
use Rattle.mpm_repair.specs.Freeing.{freed}

pub freed_both : (slots more : List ℕ) (entries : List Entry) → freed (slots ++ more) entries ≡ freed more (freed slots entries)
unfolding freed
freed_both [] more entries = refl
freed_both (slot ∷ slots) more entries = freed_both slots more (slice_set entries slot Free)

pub kept_first : (p : ℕ → Bool) (here : Bool) (a : ℕ) (rest more : List ℕ) → cond here (a ∷ (rest ++ more)) (rest ++ more) ≡ cond here (a ∷ rest) rest ++ more
kept_first p true a rest more = refl
kept_first p false a rest more = refl

pub filter_next : (p : ℕ → Bool) (a n : ℕ) → filter p (range_with_len a (suc n)) ≡ filter p (range_with_len a n) ++ cond (p (a + n)) ((a + n) ∷ []) []
filter_next p a zero = let same : a + 0 ≡ a = omega arith in ap (λ k. cond (p k) (k ∷ []) []) (sym same)
filter_next p a (suc n) =
    let same : a + 1 + n ≡ a + suc n = omega arith in
    ap (λ rest. cond (p a) (a ∷ rest) rest) (filter_next p (a + 1) n)
    ∙ kept_first p (p a) a (filter p (range_with_len (a + 1) n)) (cond (p (a + 1 + n)) ((a + 1 + n) ∷ []) [])
    ∙ ap (λ k. filter p (range_with_len a (suc n)) ++ cond (p k) (k ∷ []) []) same

pub listed_more : (marks : List Bool) (slot : ℕ) → listed marks (slot + 1) ≡ listed marks slot ++ listed_at marks slot
unfolding listed
listed_more marks slot =
    let p : ℕ → Bool = λ k. slice_index_or marks k false in
    let zero_plus : 0 + slot ≡ slot = omega arith in
    ap (λ n. filter p (range_with_len 0 n)) (add-one slot) ∙ filter_next p 0 slot
    ∙ ap (λ k. filter p (range_with_len 0 slot) ++ cond (p k) (k ∷ []) []) zero_plus

at_most_one : (here : Bool) (slot : ℕ) → length (cond here (slot ∷ []) []) ≤ 1
at_most_one true slot = omega arith
at_most_one false slot = omega arith

pub listed_few : (marks : List Bool) (count : ℕ) → length (listed marks count) ≤ count
unfolding listed
listed_few marks zero = omega arith
listed_few marks (suc n) =
    let one = at_most_one (slice_index_or marks n false) n in
    let same = ap (λ (xs : List ℕ). length xs) (ap (listed marks) (sym (add-one n)) ∙ listed_more marks n) in
    omega (arith, listed_few marks n, one, same, length-append (listed marks n) (listed_at marks n))

-- the slots before one, and that one
pub freed_more : (marks : List Bool) (slot : ℕ) (old now new : List Entry) → now ≡ freed (listed marks slot) old → new ≡ freed (listed_at marks slot) now → new ≡ freed (listed marks (slot + 1)) old
freed_more marks slot old now new was is =
    is ∙ ap (freed (listed_at marks slot)) was ∙ sym (freed_both (listed marks slot) (listed_at marks slot) old) ∙ ap (λ slots. freed slots old) (sym (listed_more marks slot))

pub listed_none : (marks : List Bool) → listed marks 0 ≡ []
unfolding listed
listed_none marks = refl

pub freed_none : (marks : List Bool) (entries : List Entry) → freed (listed marks 0) entries ≡ entries
unfolding freed
freed_none marks entries = ap (λ slots. freed slots entries) (listed_none marks)
