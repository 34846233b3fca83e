-- What the entries are that stay, and how the list of the others agrees with the first fault of a directory.
use Rattle.std.proofs.Common.{◌≡◌, ℕ, zero, suc, ◌+◌, ◌-◌, ◌<◌, ◌≤◌, inl, inr, List, [], ◌∷◌, ◌++◌, Option, Some, None, map, length, get_or, take, drop, refl, sym, ap, ◌∙◌, arith, add-one}
use Rattle.std.specs.Prelude.{option_map, is_some, slice_set}
use Rattle.std.specs.List.{range_with_len, filter_map, cons_option}
use Rattle.std.proofs.lemmas.Bool.{true≢false, cases_lt}
use Rattle.std.proofs.lemmas.List.{length-append, append-nil, append_assoc, take_all, take-append-le, take_more, drop_all, drop_more, get_or_append_left, get_or-append-add, set-append_right}
use Rattle.mpm_base.specs.declared.kind.Kind.{Kind}
use Rattle.mpm_dirent.specs.declared.kinds.Entry.{Entry}
use Rattle.mpm_dirent.specs.declared.kinds.Entry.TheVariants.{Free}
use Rattle.mpm_mount.specs.declared.errors.ImageFault.{ImageFault}
use Rattle.mpm_mount.specs.Faults.{cause_of, cause_at, fault_at, first_some, first_fault}
use Rattle.mpm_mount.proofs.FirstFault.{faultless_if}
use Rattle.mpm_fault_lines.specs.declared.fault.SlotFault.{SlotFault}
use Rattle.mpm_repair.specs.FaultLists.{unless_at_fault, staying, cause_in, told_of, fault_in, fault_list, slot_of, first_of}
use Rattle.mpm_repair.specs.Freeing.{freed}

abbrev pub left_in : Kind → List Entry → ℕ → Entry
left_in kind entries slot = unless_at_fault (cause_in kind entries slot) (get_or entries slot Free)

pub staying_next : (kind : Kind) (entries : List Entry) (slot : ℕ) → staying kind entries (suc slot) ≡ staying kind entries slot ++ (left_in kind entries slot ∷ [])
unfolding staying
staying_next kind entries slot = refl

pub staying_more : (kind : Kind) (entries : List Entry) (slot : ℕ) → staying kind entries (slot + 1) ≡ staying kind entries slot ++ (left_in kind entries slot ∷ [])
staying_more kind entries slot = ap (staying kind entries) (add-one slot) ∙ staying_next kind entries slot

pub staying_size : (kind : Kind) (entries : List Entry) (n : ℕ) → length (staying kind entries n) ≡ n
unfolding staying
staying_size kind entries zero = refl
staying_size kind entries (suc n) =
    omega (arith, staying_size kind entries n, length-append (staying kind entries n) (left_in kind entries n ∷ []))

-- the front of those that stay are those that stay of the front
front_whole : (kind : Kind) (entries : List Entry) (n k : ℕ) → n ≡ k → take k (staying kind entries n) ≡ staying kind entries k
front_whole kind entries n k same =
    ap (λ (m : ℕ). take k (staying kind entries m)) same ∙ take_all k (staying kind entries k) (omega (arith, staying_size kind entries k))

pub staying_front : (kind : Kind) (entries : List Entry) (n k : ℕ) → k ≤ n → take k (staying kind entries n) ≡ staying kind entries k
staying_front kind entries zero k h = front_whole kind entries 0 k (omega arith)
staying_front kind entries (suc n) k h = elim (cases_lt n k) [
  | inl more ↦ front_whole kind entries (suc n) k (omega arith)
  | inr less ↦
      ap (take k) (staying_next kind entries n)
      ∙ take-append-le k (staying kind entries n) (left_in kind entries n ∷ []) (omega (arith, staying_size kind entries n))
      ∙ staying_front kind entries n k less
]

-- in each slot there is its entry, where that stays
pub staying_at : (kind : Kind) (entries : List Entry) (n k : ℕ) → k < n → get_or (staying kind entries n) k Free ≡ left_in kind entries k
staying_at kind entries zero k h = absurd (omega arith)
staying_at kind entries (suc n) k h =
    let xs = staying kind entries n in
    let x = left_in kind entries n in
    ap (λ ys. get_or ys k Free) (staying_next kind entries n)
    ∙ elim (cases_lt k n) [
      | inl less ↦ get_or_append_left xs (x ∷ []) Free k (omega (arith, staying_size kind entries n)) ∙ staying_at kind entries n k less
      | inr more ↦
          let there : k ≡ length xs + 0 = omega (arith, staying_size kind entries n) in
          let same : n ≡ k = omega arith in
          ap (λ (m : ℕ). get_or (xs ++ (x ∷ [])) m Free) there ∙ get_or-append-add xs (x ∷ []) 0 Free ∙ ap (left_in kind entries) same
    ]

-- nothing is at fault among those that stay
still_none : (kind : Kind) (earlier : List Entry) (entry : Entry) (o : Option ℕ) → cause_of kind earlier entry ≡ o → cause_of kind earlier (unless_at_fault o entry) ≡ None
still_none kind earlier entry None is = is
still_none kind earlier entry (Some cause) is = refl

pub staying_faultless : (kind : Kind) (entries : List Entry) (n : ℕ) → first_fault kind (staying kind entries n) ≡ None
staying_faultless kind entries n =
    faultless_if kind (staying kind entries n) (λ k h.
    let less : k < n = omega (arith, staying_size kind entries n) in
    ap (λ earlier. cause_of kind earlier (get_or (staying kind entries n) k Free)) (staying_front kind entries n k (omega arith))
    ∙ ap (cause_of kind (staying kind entries k)) (staying_at kind entries n k less)
    ∙ still_none kind (staying kind entries k) (get_or entries k Free) (cause_in kind entries k) refl)

-- up to the first slot at fault all entries stay
pub all_stay : (kind : Kind) (entries : List Entry) (n : ℕ) → n ≤ length entries → ((k : ℕ) → k < n → cause_at kind entries k ≡ None) → staying kind entries n ≡ take n entries
unfolding staying
all_stay kind entries zero h none = refl
all_stay kind entries (suc n) h none =
    let before = all_stay kind entries n (omega arith) (λ k less. none k (omega arith)) in
    ap (λ earlier. earlier ++ (unless_at_fault (cause_of kind earlier (get_or entries n Free)) (get_or entries n Free) ∷ [])) before
    ∙ ap (λ o. take n entries ++ (unless_at_fault o (get_or entries n Free) ∷ [])) (none n (omega arith))
    ∙ sym (take_more entries n Free (omega arith))
    ∙ ap (λ (m : ℕ). take m entries) (add-one n)

-- the first of the list is the first fault
first_here : (kind : Kind) (earlier : List Entry) (slot : ℕ) (entry : Entry) (o : Option ℕ) (items : List SlotFault) (rest : List (Option ImageFault))
    → (o ≡ None → first_of items ≡ first_some rest)
    → first_of (cons_option (option_map (told_of kind earlier slot entry) o) items) ≡ first_some (option_map (λ cause. record { cause = cause; place = slot }) o ∷ rest)
unfolding first_some
first_here kind earlier slot entry None items rest later = later refl
first_here kind earlier slot entry (Some cause) items rest later = refl

one_more : (kind : Kind) (entries : List Entry) (a : ℕ) → ((k : ℕ) → k < a → cause_at kind entries k ≡ None) → cause_at kind entries a ≡ None
    → (k : ℕ) → k < a + 1 → cause_at kind entries k ≡ None
one_more kind entries a none here k h = elim (cases_lt k a) [
  | inl less ↦ none k less
  | inr more ↦
      let same : k ≡ a = omega arith in
      ap (cause_at kind entries) same ∙ here
]

listed_from : (kind : Kind) (entries : List Entry) (a n : ℕ) → a + n ≤ length entries → ((k : ℕ) → k < a → cause_at kind entries k ≡ None)
    → first_of (filter_map (fault_in kind entries) (range_with_len a n)) ≡ first_some (map (fault_at kind entries) (range_with_len a n))
unfolding first_some
listed_from kind entries a zero h none = refl
listed_from kind entries a (suc n) h none =
    let earlier = staying kind entries a in
    let entry = get_or entries a Free in
    let items = filter_map (fault_in kind entries) (range_with_len (a + 1) n) in
    let rest = map (fault_at kind entries) (range_with_len (a + 1) n) in
    let same : cause_in kind entries a ≡ cause_at kind entries a = ap (λ before. cause_of kind before entry) (all_stay kind entries a (omega arith) none) in
    ap (λ o. first_of (cons_option (option_map (told_of kind earlier a entry) o) items)) same
    ∙ first_here kind earlier a entry (cause_at kind entries a) items rest (λ here.
    listed_from kind entries (a + 1) n (omega arith) (one_more kind entries a none here))

pub first_listed : (kind : Kind) (entries : List Entry) → first_of (fault_list kind entries) ≡ first_fault kind entries
unfolding fault_list first_fault
first_listed kind entries = listed_from kind entries 0 (length entries) (omega arith) (λ k h. absurd (omega arith))

none_first : (faults : List SlotFault) → first_of faults ≡ None → faults ≡ []
none_first [] none = refl
none_first (fault ∷ faults) none = absurd (true≢false (ap is_some none))

-- so the list is empty exactly where there is no fault
pub none_listed : (kind : Kind) (entries : List Entry) → fault_list kind entries ≡ [] → first_fault kind entries ≡ None
none_listed kind entries none = sym (first_listed kind entries) ∙ ap first_of none

pub nothing_listed : (kind : Kind) (entries : List Entry) → first_fault kind entries ≡ None → fault_list kind entries ≡ []
nothing_listed kind entries none = none_first (fault_list kind entries) (first_listed kind entries ∙ none)

-- the directory with the slots of its list free: what stays
freed_step : (kind : Kind) (slot : ℕ) (xs rest left : List Entry) (entry : Entry) (o : Option ℕ) (items : List SlotFault) → length xs ≡ slot
    → freed (map slot_of items) ((xs ++ (unless_at_fault o entry ∷ [])) ++ rest) ≡ left
    → freed (map slot_of (cons_option (option_map (told_of kind xs slot entry) o) items)) (xs ++ (entry ∷ rest)) ≡ left
unfolding freed
freed_step kind slot xs rest left entry None items size next = ap (freed (map slot_of items)) (sym (append_assoc xs (entry ∷ []) rest)) ∙ next
freed_step kind slot xs rest left entry (Some cause) items size next =
    let none : slot - slot ≡ 0 = omega arith in
    ap (freed (map slot_of items))
    (set-append_right xs (entry ∷ rest) slot slot Free size (omega arith)
    ∙ ap (λ (i : ℕ). xs ++ slice_set (entry ∷ rest) i Free) none
    ∙ sym (append_assoc xs (Free ∷ []) rest))
    ∙ next

freed_from : (kind : Kind) (entries : List Entry) (a n : ℕ) → a + n ≡ length entries
    → freed (map slot_of (filter_map (fault_in kind entries) (range_with_len a n))) (staying kind entries a ++ drop a entries) ≡ staying kind entries (length entries)
unfolding freed
freed_from kind entries a zero h =
    let same : a ≡ length entries = omega arith in
    ap (λ rest. staying kind entries a ++ rest) (drop_all a entries (omega arith)) ∙ append-nil (staying kind entries a) ∙ ap (staying kind entries) same
freed_from kind entries a (suc n) h =
    let items = filter_map (fault_in kind entries) (range_with_len (a + 1) n) in
    let entry = get_or entries a Free in
    ap (λ rest. freed (map slot_of (filter_map (fault_in kind entries) (range_with_len a (suc n)))) (staying kind entries a ++ rest)) (drop_more entries a Free (omega arith))
    ∙ freed_step kind a (staying kind entries a) (drop (a + 1) entries) (staying kind entries (length entries)) entry (cause_in kind entries a) items (staying_size kind entries a)
    (ap (λ front. freed (map slot_of items) (front ++ drop (a + 1) entries)) (sym (staying_more kind entries a)) ∙ freed_from kind entries (a + 1) n (omega arith))

pub freed_listed : (kind : Kind) (entries : List Entry) → freed (map slot_of (fault_list kind entries)) entries ≡ staying kind entries (length entries)
unfolding fault_list staying
freed_listed kind entries = freed_from kind entries 0 (length entries) (omega arith)

-- the slots of its own list leave a directory without a fault
pub own_list_suffices : (kind : Kind) (entries : List Entry) → first_fault kind (freed (map slot_of (fault_list kind entries)) entries) ≡ None
own_list_suffices kind entries = ap (first_fault kind) (freed_listed kind entries) ∙ staying_faultless kind entries (length entries)
