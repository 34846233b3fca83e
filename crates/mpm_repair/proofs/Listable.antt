-- What a directory's list has can be listed: its slots and causes keep within their bounds.
use Rattle.std.proofs.Common.{◌≡◌, ℕ, zero, suc, ◌+◌, ◌≤◌, ◌==◌, Bool, true, false, ◌||◌, List, Option, Some, None, length, refl, arith}
use Rattle.std.specs.Prelude.{option_map, position, nat_lt, slice_index_or, IfSome, if◌then◌else◌}
use Rattle.std.specs.List.{All, range_with_len, filter_map, cons_option, list_any}
use Rattle.std.proofs.lemmas.List.Elements.{All-nil, All-cons}
use Rattle.std.proofs.lemmas.List.Quantifiers.{position-Some}
use Rattle.mpm_base.specs.declared.kind.Kind.{Kind}
use Rattle.mpm_dirent.specs.declared.kinds.Entry.{Entry}
use Rattle.mpm_dirent.specs.declared.kinds.Entry.TheVariants.{Free, File, Xfcb, Label, Kept}
use Rattle.mpm_dirent.specs.Names.{plain}
use Rattle.mpm_mount.specs.Faults.{some_place, is_outside, is_taken, is_named, name_of, is_label, is_xfcb, file_cause, cause_of}
use Rattle.mpm_fault_lines.specs.declared.fault.SlotFault.{SlotFault}
use Rattle.mpm_repair.specs.FaultLists.{staying, shares_block, has_double, shared_at, clash_of, told_of, fault_in, fault_list}
use Rattle.mpm_repair.proofs.Staying.{staying_size}
use Rattle.mpm_fault_lines.proofs.ReadBack.{IsListable}

-- the cause of an entry
abbrev IsCause : ℕ → Type 0
IsCause cause = (2 ≤ cause) × (cause ≤ 8)

file_chain : (many outside taken named far : Bool)
    → IfSome (if many then Some 2 else (if outside then Some 3 else (if taken then Some 4 else (if named then Some 5 else (if far then Some 6 else None))))) IsCause
file_chain true outside taken named far = (omega arith, omega arith)
file_chain false true taken named far = (omega arith, omega arith)
file_chain false false true named far = (omega arith, omega arith)
file_chain false false false true far = (omega arith, omega arith)
file_chain false false false false true = (omega arith, omega arith)
file_chain false false false false false = tt

one_cause : (clashes : Bool) (cause : ℕ) → IsCause cause → IfSome (if clashes then Some cause else None) IsCause
one_cause true cause is = is
one_cause false cause is = tt

cause_within : (kind : Kind) (earlier : List Entry) (entry : Entry) → IfSome (cause_of kind earlier entry) IsCause
unfolding file_cause
cause_within kind earlier Free = tt
cause_within kind earlier (File f) =
    file_chain (nat_lt 128 f.rc) (some_place kind (is_outside kind f)) (some_place kind (is_taken kind earlier f)) (list_any (is_named kind (name_of kind f)) earlier) (nat_lt 63 f.s2 || nat_lt 31 f.ex)
cause_within kind earlier (Xfcb x) = one_cause (list_any (is_xfcb x.user (plain x.name)) earlier) 8 (omega arith, omega arith)
cause_within kind earlier (Label l) = one_cause (list_any is_label earlier) 7 (omega arith, omega arith)
cause_within kind earlier (Kept bytes) = tt

-- the slot with which it clashes
abbrev IsWithin : ℕ → Option ℕ → Type 0
IsWithin last other = IfSome other (λ slot. slot ≤ last)

found_within : (p : Entry → Bool) (earlier : List Entry) (last : ℕ) (at : Option ℕ) → position p earlier ≡ at → length earlier ≤ last → IsWithin last at
found_within p earlier last None at few = tt
found_within p earlier last (Some slot) at few = let found = position-Some p earlier slot Free at in omega (arith, found.0, few)

place_within : (p : Entry → Bool) (earlier : List Entry) (last : ℕ) → length earlier ≤ last → IsWithin last (position p earlier)
place_within p earlier last few = found_within p earlier last (position p earlier) refl few

shared_within : (at : Option ℕ) (double : Bool) (slot last : ℕ) → IsWithin last at → slot ≤ last → IsWithin last (shared_at at double slot)
shared_within (Some other) double slot last within low = within
shared_within None true slot last within low = low
shared_within None false slot last within low = tt

of_two : (a b : Bool) (x y : Option ℕ) (last : ℕ) → IsWithin last x → IsWithin last y → IsWithin last (if a then x else (if b then y else None))
of_two true b x y last first second = first
of_two false true x y last first second = second
of_two false false x y last first second = tt

clash_within : (kind : Kind) (earlier : List Entry) (slot : ℕ) (entry : Entry) (cause last : ℕ) → length earlier ≤ last → slot ≤ last → IsWithin last (clash_of kind earlier slot entry cause)
unfolding clash_of
clash_within kind earlier slot Free cause last few low = tt
clash_within kind earlier slot (File f) cause last few low =
    of_two (cause == 4) (cause == 5) (shared_at (position (shares_block kind f) earlier) (has_double kind f) slot) (position (is_named kind (name_of kind f)) earlier) last
    (shared_within (position (shares_block kind f) earlier) (has_double kind f) slot last (place_within (shares_block kind f) earlier last few) low)
    (place_within (is_named kind (name_of kind f)) earlier last few)
clash_within kind earlier slot (Xfcb x) cause last few low = place_within (is_xfcb x.user (plain x.name)) earlier last few
clash_within kind earlier slot (Label l) cause last few low = place_within is_label earlier last few
clash_within kind earlier slot (Kept bytes) cause last few low = tt

told_listable : (kind : Kind) (earlier : List Entry) (slot : ℕ) (entry : Entry) (last : ℕ) (o : Option ℕ) → IfSome o IsCause → length earlier ≤ last → slot ≤ last
    → IfSome (option_map (told_of kind earlier slot entry) o) (IsListable last)
told_listable kind earlier slot entry last None is few low = tt
told_listable kind earlier slot entry last (Some cause) is few low =
    record { slot = low; low = is.0; high = is.1; other = clash_within kind earlier slot entry cause last few low }

fault_listable : (kind : Kind) (entries : List Entry) (slot last : ℕ) → slot ≤ last → IfSome (fault_in kind entries slot) (IsListable last)
fault_listable kind entries slot last low =
    let earlier = staying kind entries slot in
    let entry = slice_index_or entries slot Free in
    told_listable kind earlier slot entry last (cause_of kind earlier entry) (cause_within kind earlier entry) (omega (arith, staying_size kind entries slot, low)) low

cons_all : (o : Option SlotFault) (faults : List SlotFault) (last : ℕ) → IfSome o (IsListable last) → All (IsListable last) faults → All (IsListable last) (cons_option o faults)
cons_all None faults last one more = more
cons_all (Some fault) faults last one more = All-cons (IsListable last) fault faults one more

listable_from : (kind : Kind) (entries : List Entry) (last a n : ℕ) → a + n ≤ last + 1 → All (IsListable last) (filter_map (fault_in kind entries) (range_with_len a n))
listable_from kind entries last a zero few = All-nil (IsListable last)
listable_from kind entries last a (suc n) few =
    cons_all (fault_in kind entries a) (filter_map (fault_in kind entries) (range_with_len (a + 1) n)) last (fault_listable kind entries a last (omega (arith, few)))
    (listable_from kind entries last (a + 1) n (omega (arith, few)))

pub listable : (kind : Kind) (entries : List Entry) (last : ℕ) → length entries ≤ last + 1 → All (IsListable last) (fault_list kind entries)
unfolding fault_list
listable kind entries last few = listable_from kind entries last 0 (length entries) (omega (arith, few))
