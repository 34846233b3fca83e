-- Laws of the ninety-six lists.
use Rattle.std.proofs.Common.{◌≡◌, ◌≢◌, ℕ, zero, suc, ◌<◌, ◌≤◌, ◌||◌, ◌&&◌, ◌⊎◌, inl, inr, Bool, true, false, not, cond, eqb, ltb, List, [], ◌∷◌, Option, Some, None, length, get_or, position, replicate, refl, sym, ap, subst, ◌∙◌, arith, get_or-set_same, get_or-set_other, length-set}
use Rattle.std.specs.List.{AllByRecursion, position_or_len}
use Rattle.std.proofs.lemmas.Bool.{false≢true, eqb-true, eq-eqb, ne_eqb, cases_eq, cases_lt, cases_Bool, lt-ltb, le-ltb, and_parts}
use Rattle.std.proofs.lemmas.List.{length-map, get_or_past, get_or-replicate, length-replicate, ext_get_or}
use Rattle.std.proofs.lemmas.List.Quantifiers.{position-Some}
use Rattle.std.proofs.lemmas.List.Sums.{position_or_len_is, fails_before_first}
use Rattle.mpm_ready.specs.Order.{Member, put_in, without_slot, in_list, IsInOrder, IsOnce}
use Rattle.mpm_ready.specs.Tables.{list_at, list_of, no_lists, inserted, removed, IsTable}
use Rattle.mpm_ready.proofs.OrderLaws.{in_list_put_in, all_put_in, in_order_put_in, once_put_in, in_list_without_slot, all_without_slot, in_order_without_slot, once_without_slot, without_slot_absent}

-- which lists an insertion and a removal change
pub length_inserted : (lists : List (List Member)) (list : ℕ) (member : Member) → length (inserted lists list member) ≡ length lists
unfolding inserted
length_inserted lists list member = length-set lists list (put_in (list_at lists list) member)

pub list_at_inserted : (lists : List (List Member)) (list : ℕ) (member : Member) → list < length lists → list_at (inserted lists list member) list ≡ put_in (list_at lists list) member
unfolding inserted
list_at_inserted lists list member within = get_or-set_same lists list (put_in (list_at lists list) member) [] within

pub list_at_inserted_other : (lists : List (List Member)) (list other : ℕ) (member : Member) → other ≢ list → list_at (inserted lists list member) other ≡ list_at lists other
unfolding inserted
list_at_inserted_other lists list other member apart = get_or-set_other lists list other (put_in (list_at lists list) member) [] apart

pub length_removed : (lists : List (List Member)) (slot : ℕ) → length (removed lists slot) ≡ length lists
unfolding removed
length_removed lists slot = length-map lists (without_slot slot)

pub list_at_removed : (lists : List (List Member)) (slot list : ℕ) → list_at (removed lists slot) list ≡ without_slot slot (list_at lists list)
unfolding removed without_slot
list_at_removed [] slot list = refl
list_at_removed (ms ∷ rest) slot zero = refl
list_at_removed (ms ∷ rest) slot (suc list) = list_at_removed rest slot list

-- the list that a process is in
pub none_in_none : (slot : ℕ) → in_list slot [] ≡ false
unfolding in_list
none_in_none slot = refl

pub within_lists : (lists : List (List Member)) (slot list : ℕ) → in_list slot (list_at lists list) ≡ true → list < length lists
within_lists lists slot list here =
    elim (cases_lt list (length lists)) [
      | inl h ↦ h
      | inr h ↦ absurd (false≢true (sym (none_in_none slot) ∙ ap (in_list slot) (sym (get_or_past lists list [] h)) ∙ here))
    ]

pub in_its_list : (lists : List (List Member)) (slot list : ℕ) → list_of lists slot ≡ Some list → in_list slot (list_at lists list) ≡ true
unfolding list_of
in_its_list lists slot list found = (position-Some (in_list slot) lists list [] found).1

pub its_list_within : (lists : List (List Member)) (slot list : ℕ) → list_of lists slot ≡ Some list → list < length lists
its_list_within lists slot list found = within_lists lists slot list (in_its_list lists slot list found)

-- it is in no list before that one
not_before : (lists : List (List Member)) (slot list k : ℕ) → IsTable lists → in_list slot (list_at lists list) ≡ true → k < list → in_list slot (list_at lists k) ≡ false
not_before lists slot list k table here below =
    elim (cases_Bool (in_list slot (list_at lists k))) [
      | inl there ↦ absurd (let same : k ≡ list = table.one_list slot k list there here in omega arith)
      | inr absent ↦ absent
    ]

pub list_of_known : (lists : List (List Member)) (slot list : ℕ) → IsTable lists → in_list slot (list_at lists list) ≡ true → list_of lists slot ≡ Some list
unfolding list_of
list_of_known lists slot list table here =
    let within : list < length lists = within_lists lists slot list here in
    let at : position_or_len (in_list slot) lists ≡ list = position_or_len_is (in_list slot) lists list [] (omega arith) (λ k below. not_before lists slot list k table here below) (λ _. here) in
    ap (λ (n : ℕ). cond (ltb n (length lists)) (Some n) None) at ∙ ap (λ (b : Bool). cond b (Some list) None) (lt-ltb list (length lists) within)

pub list_of_unlisted : (lists : List (List Member)) (slot : ℕ) → ((list : ℕ) → in_list slot (list_at lists list) ≡ false) → list_of lists slot ≡ None
unfolding list_of
list_of_unlisted lists slot absent =
    let at : position_or_len (in_list slot) lists ≡ length lists = position_or_len_is (in_list slot) lists (length lists) [] (omega arith) (λ k _. absent k) (λ more. absurd (omega arith)) in
    ap (λ (n : ℕ). cond (ltb n (length lists)) (Some n) None) at ∙ ap (λ (b : Bool). cond b (Some (length lists)) None) (le-ltb (length lists) (length lists) (omega arith))

some_or_none : (o : Option ℕ) → (o ≡ None) ⊎ ((n : ℕ) × (o ≡ Some n))
some_or_none None = inl refl
some_or_none (Some n) = inr (n, refl)

pub unlisted : (lists : List (List Member)) (slot list : ℕ) → list_of lists slot ≡ None → in_list slot (list_at lists list) ≡ false
unfolding list_of
unlisted lists slot list none =
    elim (cases_lt (position_or_len (in_list slot) lists) (length lists)) [
      | inl h ↦ absurd (let some : position (in_list slot) lists ≡ Some (position_or_len (in_list slot) lists) = ap (λ (b : Bool). cond b (Some (position_or_len (in_list slot) lists)) None) (lt-ltb _ _ h) in let wrong = sym some ∙ none in cc)
      | inr h ↦ elim (cases_lt list (length lists)) [
        | inl within ↦ fails_before_first (in_list slot) lists list [] (omega arith)
        | inr past ↦ ap (in_list slot) (get_or_past lists list [] past) ∙ none_in_none slot
      ]
    ]

-- what holds of each list holds of each with one more
pub each_inserted : (P : List Member → Type 0) (lists : List (List Member)) (list : ℕ) (member : Member) → list < length lists → P (put_in (list_at lists list) member) → ((other : ℕ) → P (list_at lists other)) → (other : ℕ) → P (list_at (inserted lists list member) other)
each_inserted P lists list member within here each other =
    elim (cases_eq other list) [
      | inl same ↦ subst (λ (k : ℕ). P (list_at (inserted lists list member) k)) (sym same) (subst P (sym (list_at_inserted lists list member within)) here)
      | inr apart ↦ subst P (sym (list_at_inserted_other lists list other member apart)) (each other)
    ]

pub each_removed : (P : List Member → Type 0) (lists : List (List Member)) (slot : ℕ) → ((list : ℕ) → P (without_slot slot (list_at lists list))) → (list : ℕ) → P (list_at (removed lists slot) list)
each_removed P lists slot each list = subst P (sym (list_at_removed lists slot list)) (each list)

-- who is in the lists with one more
pub in_list_inserted : (lists : List (List Member)) (list : ℕ) (member : Member) (slot other : ℕ) → list < length lists → in_list slot (list_at (inserted lists list member) other) ≡ ((eqb other list && eqb member.slot slot) || in_list slot (list_at lists other))
in_list_inserted lists list member slot other within =
    elim (cases_eq other list) [
      | inl same ↦ ap (λ (k : ℕ). in_list slot (list_at (inserted lists list member) k)) same ∙ ap (in_list slot) (list_at_inserted lists list member within) ∙ in_list_put_in slot (list_at lists list) member ∙ here (eqb other list) _ _ _ (eq-eqb other list same) (ap (λ (k : ℕ). in_list slot (list_at lists k)) same)
      | inr apart ↦ ap (in_list slot) (list_at_inserted_other lists list other member apart) ∙ there (eqb other list) _ _ (ne_eqb other list apart)
    ]
  where
    here : (b c x y : Bool) → b ≡ true → x ≡ y → (c || y) ≡ ((b && c) || x)
    here true c x y h e = ap (λ z. c || z) (sym e)
    here false c x y h e = absurd (false≢true h)

    there : (b c x : Bool) → b ≡ false → x ≡ ((b && c) || x)
    there true c x h = absurd (false≢true (sym h))
    there false c x h = refl

pub in_list_removed : (lists : List (List Member)) (slot other list : ℕ) → in_list other (list_at (removed lists slot) list) ≡ (not (eqb slot other) && in_list other (list_at lists list))
in_list_removed lists slot other list = ap (in_list other) (list_at_removed lists slot list) ∙ in_list_without_slot (list_at lists list) slot other

-- one who was in no list is in one afterwards
only_there : (b c x : Bool) → ((b && c) || x) ≡ true → x ≡ false → b ≡ true
only_there true c x h absent = refl
only_there false c x h absent = sym absent ∙ h

as_before : (b c x : Bool) → ((b && c) || x) ≡ true → c ≡ false → x ≡ true
as_before b true x h apart = absurd (false≢true (sym apart))
as_before true false x h apart = h
as_before false false x h apart = h

one_list_at : (lists : List (List Member)) (list : ℕ) (member : Member) (slot a b : ℕ) (c : Bool) → IsTable lists → list_of lists member.slot ≡ None → eqb member.slot slot ≡ c → ((eqb a list && eqb member.slot slot) || in_list slot (list_at lists a)) ≡ true → ((eqb b list && eqb member.slot slot) || in_list slot (list_at lists b)) ≡ true → a ≡ b
one_list_at lists list member slot a b true table none same x y =
    let absent : (k : ℕ) → in_list slot (list_at lists k) ≡ false = λ k. unlisted lists slot k (ap (list_of lists) (sym (eqb-true member.slot slot same)) ∙ none) in
    eqb-true a list (only_there _ _ _ x (absent a)) ∙ sym (eqb-true b list (only_there _ _ _ y (absent b)))
one_list_at lists list member slot a b false table none apart x y =
    table.one_list slot a b (as_before _ _ _ x apart) (as_before _ _ _ y apart)

pub table_inserted : (lists : List (List Member)) (list : ℕ) (member : Member) → IsTable lists → list < 96 → member.slot < 32 → list_of lists member.slot ≡ None → IsTable (inserted lists list member)
table_inserted lists list member table below small none =
    let within : list < length lists = omega (arith, table.size) in
    record {
      size = length_inserted lists list member ∙ table.size;
      in_order = each_inserted IsInOrder lists list member within (in_order_put_in (list_at lists list) member (table.in_order list)) table.in_order;
      once = each_inserted IsOnce lists list member within (once_put_in (list_at lists list) member (table.once list) (unlisted lists member.slot list none)) table.once;
      slots = each_inserted (AllByRecursion (λ m. m.slot < 32)) lists list member within (all_put_in (λ m. m.slot < 32) (list_at lists list) member (table.slots list) small) table.slots;
      one_list = λ slot a b x y. one_list_at lists list member slot a b (eqb member.slot slot) table none refl (sym (in_list_inserted lists list member slot a within) ∙ x) (sym (in_list_inserted lists list member slot b within) ∙ y);
    }

-- who is in a list without a process was in it
pub still_listed : (lists : List (List Member)) (slot other list : ℕ) → in_list other (list_at (removed lists slot) list) ≡ true → in_list other (list_at lists list) ≡ true
still_listed lists slot other list there = (and_parts (not (eqb slot other)) _ (sym (in_list_removed lists slot other list) ∙ there)).1

pub table_removed : (lists : List (List Member)) (slot : ℕ) → IsTable lists → IsTable (removed lists slot)
table_removed lists slot table =
    record {
      size = length_removed lists slot ∙ table.size;
      in_order = each_removed IsInOrder lists slot (λ list. in_order_without_slot (list_at lists list) slot (table.in_order list));
      once = each_removed IsOnce lists slot (λ list. once_without_slot (list_at lists list) slot (table.once list));
      slots = each_removed (AllByRecursion (λ m. m.slot < 32)) lists slot (λ list. all_without_slot (λ m. m.slot < 32) (list_at lists list) slot (table.slots list));
      one_list = λ other a b x y. table.one_list other a b (still_listed lists slot other a x) (still_listed lists slot other b y);
    }

-- where each process is afterwards
or_true : (b c x : Bool) → b ≡ true → c ≡ true → ((b && c) || x) ≡ true
or_true true true x h k = refl
or_true true false x h k = absurd (false≢true k)
or_true false c x h k = absurd (false≢true h)

pub list_of_inserted : (lists : List (List Member)) (list : ℕ) (member : Member) → IsTable lists → list < 96 → member.slot < 32 → list_of lists member.slot ≡ None → list_of (inserted lists list member) member.slot ≡ Some list
list_of_inserted lists list member table below small none =
    let within : list < length lists = omega (arith, table.size) in
    list_of_known (inserted lists list member) member.slot list (table_inserted lists list member table below small none) (in_list_inserted lists list member member.slot list within ∙ or_true _ _ _ (eq-eqb list list refl) (eq-eqb member.slot member.slot refl))

unchanged : (b c x : Bool) → c ≡ false → ((b && c) || x) ≡ x
unchanged b true x h = absurd (false≢true (sym h))
unchanged true false x h = refl
unchanged false false x h = refl

pub list_of_inserted_other : (lists : List (List Member)) (list : ℕ) (member : Member) (slot : ℕ) → IsTable lists → list < 96 → member.slot < 32 → list_of lists member.slot ≡ None → eqb member.slot slot ≡ false → list_of (inserted lists list member) slot ≡ list_of lists slot
list_of_inserted_other lists list member slot table below small none apart =
    let within : list < length lists = omega (arith, table.size) in
    let same : (k : ℕ) → in_list slot (list_at (inserted lists list member) k) ≡ in_list slot (list_at lists k) = λ k. in_list_inserted lists list member slot k within ∙ unchanged _ _ _ apart in
    elim (some_or_none (list_of lists slot)) [
      | inl absent ↦ list_of_unlisted (inserted lists list member) slot (λ k. same k ∙ unlisted lists slot k absent) ∙ sym absent
      | inr found ↦ list_of_known (inserted lists list member) slot found.0 (table_inserted lists list member table below small none) (same found.0 ∙ in_its_list lists slot found.0 found.1) ∙ sym found.1
    ]

-- a test that asks for something not to be so fails where it is
pub not_itself : (b x : Bool) → b ≡ true → (not b && x) ≡ false
not_itself true x h = refl
not_itself false x h = absurd (false≢true h)

not_another : (b x : Bool) → b ≡ false → (not b && x) ≡ x
not_another true x h = absurd (false≢true (sym h))
not_another false x h = refl

pub list_of_removed : (lists : List (List Member)) (slot : ℕ) → list_of (removed lists slot) slot ≡ None
list_of_removed lists slot = list_of_unlisted (removed lists slot) slot (λ list. in_list_removed lists slot slot list ∙ not_itself _ _ (eq-eqb slot slot refl))

pub list_of_removed_other : (lists : List (List Member)) (slot other : ℕ) → IsTable lists → eqb slot other ≡ false → list_of (removed lists slot) other ≡ list_of lists other
list_of_removed_other lists slot other table apart =
    let same : (k : ℕ) → in_list other (list_at (removed lists slot) k) ≡ in_list other (list_at lists k) = λ k. in_list_removed lists slot other k ∙ not_another _ _ apart in
    elim (some_or_none (list_of lists other)) [
      | inl absent ↦ list_of_unlisted (removed lists slot) other (λ k. same k ∙ unlisted lists other k absent) ∙ sym absent
      | inr found ↦ list_of_known (removed lists slot) other found.0 (table_removed lists slot table) (same found.0 ∙ in_its_list lists other found.0 found.1) ∙ sym found.1
    ]

-- the lists without one who is in none of them
pub removed_unlisted : (lists : List (List Member)) (slot : ℕ) → list_of lists slot ≡ None → removed lists slot ≡ lists
removed_unlisted lists slot none =
    ext_get_or [] (removed lists slot) lists (length_removed lists slot) (λ list _. list_at_removed lists slot list ∙ without_slot_absent (list_at lists list) slot (unlisted lists slot list none))

-- the lists without anybody
abbrev empty_list : List Member
empty_list = []

empty_at : (n list : ℕ) → get_or (replicate n empty_list) list [] ≡ []
empty_at n list =
    elim (cases_lt list n) [
      | inl h ↦ get_or-replicate n list [] [] h
      | inr h ↦ get_or_past (replicate n empty_list) list [] (subst (λ (k : ℕ). k ≤ list) (sym (length-replicate n empty_list)) h)
    ]

pub list_at_none : (list : ℕ) → list_at no_lists list ≡ []
unfolding no_lists
list_at_none list = empty_at 96 list

length_none : length no_lists ≡ 96
unfolding no_lists
length_none = length-replicate 96 empty_list

each_empty : (P : List Member → Type 0) → P [] → (list : ℕ) → P (list_at no_lists list)
each_empty P here list = subst P (sym (list_at_none list)) here

pub list_of_none : (slot : ℕ) → list_of no_lists slot ≡ None
list_of_none slot = list_of_unlisted no_lists slot (λ list. ap (in_list slot) (list_at_none list) ∙ none_in_none slot)

pub table_none : IsTable no_lists
unfolding IsInOrder IsOnce
table_none = record {
  size = length_none;
  in_order = each_empty IsInOrder tt;
  once = each_empty IsOnce tt;
  slots = each_empty (AllByRecursion (λ m. m.slot < 32)) tt;
  one_list = λ slot a b x _. absurd (false≢true (sym (ap (in_list slot) (list_at_none a) ∙ none_in_none slot) ∙ x));
}
