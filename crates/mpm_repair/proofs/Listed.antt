-- A directory's list, a slot at a time.
use Rattle.std.proofs.Common.{◌≡◌, ℕ, zero, suc, ◌+◌, ◌<◌, List, [], ◌∷◌, ◌++◌, Option, Some, None, length, get_or, take, drop, refl, sym, ap, ◌∙◌, arith, add-one}
use Rattle.std.specs.Prelude.{slice_set}
use Rattle.std.specs.List.{range_with_len, filter_map, cons_option}
use Rattle.std.proofs.lemmas.List.{append_assoc, take_at, set_at, drop_more, get_or-append-add}
use Rattle.mpm_base.specs.declared.kind.Kind.{Kind}
use Rattle.mpm_dirent.specs.declared.kinds.Entry.{Entry}
use Rattle.mpm_dirent.specs.declared.kinds.Entry.TheVariants.{Free}
use Rattle.mpm_fault_lines.specs.declared.fault.SlotFault.{SlotFault}
use Rattle.mpm_repair.specs.FaultLists.{staying, unless_at_fault, told_of, fault_at, left_at, fault_in}
use Rattle.mpm_mount.specs.Faults.{cause_of}
use Rattle.std.specs.Prelude.{option_map}
use Rattle.mpm_repair.proofs.Staying.{left_in, staying_size, staying_more}

pub none_stay : (kind : Kind) (entries : List Entry) → staying kind entries 0 ≡ []
unfolding staying
none_stay kind entries = refl

-- the entries as they are when those of the first slots were judged
abbrev pub judged : Kind → List Entry → ℕ → List Entry
judged kind entries slot = staying kind entries slot ++ drop slot entries

at_slot : (kind : Kind) (entries : List Entry) (slot : ℕ) → slot < length entries → judged kind entries slot ≡ staying kind entries slot ++ (get_or entries slot Free ∷ drop (slot + 1) entries)
at_slot kind entries slot less = ap (λ rest. staying kind entries slot ++ rest) (drop_more entries slot Free less)

front_at : (kind : Kind) (entries : List Entry) (slot : ℕ) → take slot (judged kind entries slot) ≡ staying kind entries slot
front_at kind entries slot = take_at (staying kind entries slot) (drop slot entries) slot (staying_size kind entries slot)

entry_at : (kind : Kind) (entries : List Entry) (slot : ℕ) → slot < length entries → get_or (judged kind entries slot) slot Free ≡ get_or entries slot Free
entry_at kind entries slot less =
    let xs = staying kind entries slot in
    let there : slot ≡ length xs + 0 = omega (arith, staying_size kind entries slot) in
    ap (λ ys. get_or ys slot Free) (at_slot kind entries slot less)
    ∙ ap (λ (k : ℕ). get_or (xs ++ (get_or entries slot Free ∷ drop (slot + 1) entries)) k Free) there
    ∙ get_or-append-add xs (get_or entries slot Free ∷ drop (slot + 1) entries) 0 Free

pub fault_same : (kind : Kind) (entries : List Entry) (slot : ℕ) → slot < length entries → fault_at kind (judged kind entries slot) slot ≡ fault_in kind entries slot
fault_same kind entries slot less =
    ap (λ earlier. option_map (told_of kind earlier slot (get_or (judged kind entries slot) slot Free)) (cause_of kind earlier (get_or (judged kind entries slot) slot Free))) (front_at kind entries slot)
    ∙ ap (λ entry. option_map (told_of kind (staying kind entries slot) slot entry) (cause_of kind (staying kind entries slot) entry)) (entry_at kind entries slot less)

left_same : (kind : Kind) (entries : List Entry) (slot : ℕ) → slot < length entries → left_at kind (judged kind entries slot) slot ≡ left_in kind entries slot
left_same kind entries slot less =
    ap (λ earlier. unless_at_fault (cause_of kind earlier (get_or (judged kind entries slot) slot Free)) (get_or (judged kind entries slot) slot Free)) (front_at kind entries slot)
    ∙ ap (λ entry. unless_at_fault (cause_of kind (staying kind entries slot) entry) entry) (entry_at kind entries slot less)

-- the next slot is judged
pub judged_more : (kind : Kind) (entries : List Entry) (slot : ℕ) → slot < length entries
    → slice_set (judged kind entries slot) slot (left_at kind (judged kind entries slot) slot) ≡ judged kind entries (slot + 1)
judged_more kind entries slot less =
    let xs = staying kind entries slot in
    let rest = drop (slot + 1) entries in
    ap (slice_set (judged kind entries slot) slot) (left_same kind entries slot less)
    ∙ ap (λ now. slice_set now slot (left_in kind entries slot)) (at_slot kind entries slot less)
    ∙ set_at xs (get_or entries slot Free) rest (left_in kind entries slot) slot (staying_size kind entries slot)
    ∙ sym (append_assoc xs (left_in kind entries slot ∷ []) rest)
    ∙ ap (λ front. front ++ rest) (sym (staying_more kind entries slot))

one_first : (o : Option SlotFault) (xs ys : List SlotFault) → cons_option o (xs ++ ys) ≡ cons_option o xs ++ ys
one_first (Some x) xs ys = refl
one_first None xs ys = refl

map_next : (f : ℕ → Option SlotFault) (a n : ℕ) → filter_map f (range_with_len a (suc n)) ≡ filter_map f (range_with_len a n) ++ cons_option (f (a + n)) []
map_next f a zero = let same : a + 0 ≡ a = omega arith in ap (λ k. cons_option (f k) []) (sym same)
map_next f a (suc n) =
    let same : a + 1 + n ≡ a + suc n = omega arith in
    ap (cons_option (f a)) (map_next f (a + 1) n)
    ∙ one_first (f a) (filter_map f (range_with_len (a + 1) n)) (cons_option (f (a + 1 + n)) [])
    ∙ ap (λ k. filter_map f (range_with_len a (suc n)) ++ cons_option (f k) []) same

pub faults_more : (kind : Kind) (entries : List Entry) (slot : ℕ) → slot < length entries
    → filter_map (fault_in kind entries) (range_with_len 0 slot) ++ cons_option (fault_at kind (judged kind entries slot) slot) [] ≡ filter_map (fault_in kind entries) (range_with_len 0 (slot + 1))
faults_more kind entries slot less =
    let before = filter_map (fault_in kind entries) (range_with_len 0 slot) in
    let zero_plus : 0 + slot ≡ slot = omega arith in
    ap (λ o. before ++ cons_option o []) (fault_same kind entries slot less)
    ∙ ap (λ k. before ++ cons_option (fault_in kind entries k) []) (sym zero_plus)
    ∙ sym (map_next (fault_in kind entries) 0 slot)
    ∙ ap (λ n. filter_map (fault_in kind entries) (range_with_len 0 n)) (sym (add-one slot))
