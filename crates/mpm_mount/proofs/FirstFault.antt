-- The first slot at fault.
use Rattle.std.proofs.Common.{◌≡◌, ℕ, zero, suc, ◌+◌, ◌<◌, List, ◌∷◌, Option, Some, None, map, length, refl, sym, ap, ◌∙◌, arith, zero-add, add-zero}
use Rattle.std.specs.Prelude.{option_map, is_some}
use Rattle.std.specs.List.{range_with_len}
use Rattle.std.proofs.lemmas.Bool.{false≢true, true≢false}
use Rattle.mpm_base.specs.declared.kind.Kind.{Kind}
use Rattle.mpm_dirent.specs.declared.kinds.Entry.{Entry}
use Rattle.mpm_mount.specs.declared.errors.ImageFault.{ImageFault}
use Rattle.mpm_mount.specs.Faults.{cause_at, fault_at, first_some, first_fault}
use Rattle.mpm_mount.proofs.Ranges.{plus_suc}

pub first_past : {X : Type 0} (o : Option X) (items : List (Option X)) → o ≡ None → first_some (o ∷ items) ≡ first_some items
unfolding first_some
first_past None items none = refl
first_past (Some x) items none = absurd (true≢false (ap is_some none))

pub first_here : {X : Type 0} (o : Option X) (items : List (Option X)) (x : X) → o ≡ Some x → first_some (o ∷ items) ≡ Some x
unfolding first_some
first_here None items x here = absurd (false≢true (ap is_some here))
first_here (Some y) items x here = here

pub first_rest : {X : Type 0} (o : Option X) (items : List (Option X)) → first_some (o ∷ items) ≡ None → (o ≡ None) × (first_some items ≡ None)
unfolding first_some
first_rest None items none = (refl, none)
first_rest (Some x) items none = absurd (true≢false (ap is_some none))

first_from : {X : Type 0} (g : ℕ → Option X) (a n i : ℕ) (x : X) → i < n → ((k : ℕ) → k < i → g (a + k) ≡ None) → g (a + i) ≡ Some x
    → first_some (map g (range_with_len a n)) ≡ Some x
first_from g a zero i x h before here = absurd (omega arith)
first_from g a (suc n) zero x h before here = first_here (g a) (map g (range_with_len (a + 1) n)) x (ap g (sym (add-zero a)) ∙ here)
first_from g a (suc n) (suc i) x h before here =
    first_past (g a) (map g (range_with_len (a + 1) n)) (ap g (sym (add-zero a)) ∙ before 0 (omega arith))
    ∙ first_from g (a + 1) n i x (omega arith) (λ k less. ap g (plus_suc a k) ∙ before (suc k) (omega arith)) (ap g (plus_suc a i) ∙ here)

none_from : {X : Type 0} (g : ℕ → Option X) (a n : ℕ) → ((k : ℕ) → k < n → g (a + k) ≡ None) → first_some (map g (range_with_len a n)) ≡ None
unfolding first_some
none_from g a zero each = refl
none_from g a (suc n) each =
    first_past (g a) (map g (range_with_len (a + 1) n)) (ap g (sym (add-zero a)) ∙ each 0 (omega arith))
    ∙ none_from g (a + 1) n (λ k less. ap g (plus_suc a k) ∙ each (suc k) (omega arith))

each_from : {X : Type 0} (g : ℕ → Option X) (a n k : ℕ) → first_some (map g (range_with_len a n)) ≡ None → k < n → g (a + k) ≡ None
each_from g a zero k none h = absurd (omega arith)
each_from g a (suc n) zero none h = ap g (add-zero a) ∙ (first_rest (g a) (map g (range_with_len (a + 1) n)) none).0
each_from g a (suc n) (suc k) none h =
    ap g (sym (plus_suc a k)) ∙ each_from g (a + 1) n k ((first_rest (g a) (map g (range_with_len (a + 1) n)) none).1) (omega arith)

pub map_none : {X Y : Type 0} (f : X → Y) (o : Option X) → option_map f o ≡ None → o ≡ None
map_none f None none = refl
map_none f (Some x) none = absurd (true≢false (ap is_some none))

-- the first slot at fault is found
pub fault_found : (kind : Kind) (entries : List Entry) (slot cause : ℕ) → slot < length entries → ((k : ℕ) → k < slot → cause_at kind entries k ≡ None)
    → cause_at kind entries slot ≡ Some cause → first_fault kind entries ≡ Some (record { cause = cause; place = slot })
unfolding first_fault
fault_found kind entries slot cause h before here =
    let put : Option ℕ → Option ImageFault = λ o. option_map (λ c. record { cause = c; place = slot }) o in
    first_from (fault_at kind entries) 0 (length entries) slot (record { cause = cause; place = slot }) h
    (λ k less. ap (fault_at kind entries) (zero-add k) ∙ ap (λ o. option_map (λ c. record { cause = c; place = k }) o) (before k less))
    (ap (fault_at kind entries) (zero-add slot) ∙ ap put here)

-- no slot is at fault
pub faultless_if : (kind : Kind) (entries : List Entry) → ((k : ℕ) → k < length entries → cause_at kind entries k ≡ None) → first_fault kind entries ≡ None
unfolding first_fault
faultless_if kind entries each =
    none_from (fault_at kind entries) 0 (length entries)
    (λ k h. ap (fault_at kind entries) (zero-add k) ∙ ap (λ o. option_map (λ c. record { cause = c; place = k }) o) (each k h))

pub faultless_at : (kind : Kind) (entries : List Entry) (slot : ℕ) → first_fault kind entries ≡ None → slot < length entries → cause_at kind entries slot ≡ None
unfolding first_fault
faultless_at kind entries slot none h =
    map_none (λ c. record { cause = c; place = slot }) (cause_at kind entries slot)
    (ap (fault_at kind entries) (sym (zero-add slot)) ∙ each_from (fault_at kind entries) 0 (length entries) slot none h)
