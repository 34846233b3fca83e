-- The next unit of a renaming: the lowest entry of the file goes to the new name.
use Rattle.std.proofs.Common.{◌≡◌, ℕ, ◌<◌, ◌≤◌, Bool, true, false, cond, ◌==◌, not, List, [], ◌∷◌, ◌++◌, Option, Some, None, map, length, refl, sym, ap, subst, ◌∙◌, arith}
use Rattle.std.specs.Prelude.{is_some, sum_by}
use Rattle.std.specs.List.{filter}
use Rattle.std.specs.declared.cmp.Ordering.{Ordering}
use Rattle.std.specs.declared.cmp.Ordering.TheVariants.{Less, Equal, Greater}
use Rattle.std.specs.Ordering.{eq_by_cmp, is_eq}
use Rattle.std.specs.Cmp.{tied_itself}
use Rattle.std.specs.FinMap.{get, remove, entries, put, entries-insert, get-remove}
use Rattle.std.specs.FinMap.Entries.{by_order}
use Rattle.std.proofs.lemmas.Bool.{true≢false, eq-eqb}
use Rattle.std.proofs.lemmas.Simd.{map-map}
use Rattle.std.proofs.lemmas.List.Sums.{sum_by-cons}
use Rattle.mpm_base.specs.Counts.{one_if}
use Rattle.mpm_base.proofs.CountLaws.{at_most_one}
use Rattle.mpm_mount.specs.Drives.{FileName, entry_cmp, PhysicalExtent, Protection, Drive, is_of, extents_of, with_extent, without_extent, without_xfcb}
use Rattle.mpm_mount.specs.Files.{where_there, is_same_file}
use Rattle.mpm_mount.proofs.Orders.{entry_total, entry_same, file_total}
use Rattle.mpm_mount.proofs.Names.{one_file, entry_parts, files_differ, same_back}
use Rattle.mpm_files.specs.Units.{FileUnit, RenamesEntry, RemovesXfcb, RenamesXfcb, stages, last_of, applied}
use Rattle.mpm_files.specs.Plans.{when, each, of_entries, of_xfcb, renaming}
use Rattle.mpm_files.specs.Serving.{Follows}
use Rattle.mpm_files.proofs.NextUnits.{Next, next_of}
use Rattle.mpm_files.proofs.Pairs.{one_key}
use Rattle.mpm_files.proofs.NextEntries.{entries_without, all_kept, tied_name, named_by}

-- a pair that a test refuses is put: those that pass stay
put_by : {K X : Type 0} (R : K → K → Ordering) (p : (K × X) → Bool) (k : K) (v : X) (e : K × X) (es : List (K × X)) (r : Ordering) → p (k, v) ≡ false
    → (r ≡ Equal → (p (e.0, v) ≡ false) × (p e ≡ false)) → filter p (put R k v es) ≡ filter p es
    → filter p (by_order r ((k, v) ∷ e ∷ es) ((e.0, v) ∷ es) (e ∷ put R k v es)) ≡ filter p (e ∷ es)
put_by R p k v e es Less un tied rest = ap (λ b. cond b ((k, v) ∷ filter p (e ∷ es)) (filter p (e ∷ es))) un
put_by R p k v e es Equal un tied rest =
    let both = tied refl in
    ap (λ b. cond b ((e.0, v) ∷ filter p es) (filter p es)) both.0 ∙ sym (ap (λ b. cond b (e ∷ filter p es) (filter p es)) both.1)
put_by R p k v e es Greater un tied rest = ap (λ l. cond (p e) (e ∷ l) l) rest

filter_put : {K X : Type 0} (R : K → K → Ordering) (p : (K × X) → Bool) (k : K) (v : X) (es : List (K × X)) → p (k, v) ≡ false
    → ((e : K × X) → R k e.0 ≡ Equal → (p (e.0, v) ≡ false) × (p e ≡ false)) → filter p (put R k v es) ≡ filter p es
filter_put R p k v [] un tied = ap (λ b. cond b ((k, v) ∷ []) []) un
filter_put R p k v (e ∷ es) un tied = put_by R p k v e es (R k e.0) un (tied e) (filter_put R p k v es un tied)

-- the numbers of a file's entries, without one
step_numbers : {X : Type 0} (num : X → ℕ) (number : ℕ) (of : X → Bool) (x : X) (rest kept : List X) (a b : Bool) → of x ≡ a → (a ≡ true → b ≡ (number == num x))
    → map num (filter of kept) ≡ filter (λ k. not (number == k)) (map num (filter of rest))
    → map num (filter of (cond (not b) (x ∷ kept) kept)) ≡ filter (λ k. not (number == k)) (map num (cond a (x ∷ filter of rest) (filter of rest)))
step_numbers num number of x rest kept true true is tied so =
    so ∙ ap (λ b. cond (not b) (num x ∷ filter (λ k. not (number == k)) (map num (filter of rest))) (filter (λ k. not (number == k)) (map num (filter of rest)))) (tied refl)
step_numbers num number of x rest kept true false is tied so =
    ap (λ b. map num (cond b (x ∷ filter of kept) (filter of kept))) is ∙ ap (λ l. num x ∷ l) so
    ∙ ap (λ b. cond (not b) (num x ∷ filter (λ k. not (number == k)) (map num (filter of rest))) (filter (λ k. not (number == k)) (map num (filter of rest)))) (tied refl)
step_numbers num number of x rest kept false true is tied so = so
step_numbers num number of x rest kept false false is tied so = ap (λ b. map num (cond b (x ∷ filter of kept) (filter of kept))) is ∙ so

numbers_without : {X : Type 0} (num : X → ℕ) (number : ℕ) (of tied : X → Bool) (xs : List X) → ((x : X) → of x ≡ true → tied x ≡ (number == num x))
    → map num (filter of (filter (λ x. not (tied x)) xs)) ≡ filter (λ k. not (number == k)) (map num (filter of xs))
numbers_without num number of tied [] same = refl
numbers_without num number of tied (x ∷ xs) same =
    step_numbers num number of x xs (filter (λ y. not (tied y)) xs) (of x) (tied x) refl (same x) (numbers_without num number of tied xs same)

step_sum : {X : Type 0} (num : X → ℕ) (number : ℕ) (of tied : X → Bool) (x : X) (xs : List X) (a : Bool) → of x ≡ a → (a ≡ true → tied x ≡ (number == num x))
    → sum_by (λ k. one_if (number == k)) (map num (filter of xs)) ≤ sum_by (λ y. one_if (tied y)) xs
    → sum_by (λ k. one_if (number == k)) (map num (cond a (x ∷ filter of xs) (filter of xs))) ≤ sum_by (λ y. one_if (tied y)) (x ∷ xs)
step_sum num number of tied x xs true is same so =
    let one = sum_by-cons (λ k. one_if (number == k)) (num x) (map num (filter of xs)) in
    let other = sum_by-cons (λ y. one_if (tied y)) x xs in
    omega (arith, so, one, other, ap one_if (same refl))
step_sum num number of tied x xs false is same so =
    let other = sum_by-cons (λ y. one_if (tied y)) x xs in
    omega (arith, so, other)

few_numbers : {X : Type 0} (num : X → ℕ) (number : ℕ) (of tied : X → Bool) (xs : List X) → ((x : X) → of x ≡ true → tied x ≡ (number == num x))
    → sum_by (λ k. one_if (number == k)) (map num (filter of xs)) ≤ sum_by (λ y. one_if (tied y)) xs
few_numbers num number of tied [] same = omega arith
few_numbers num number of tied (x ∷ xs) same = step_sum num number of tied x xs (of x) refl (same x) (few_numbers num number of tied xs same)

first_without : (number : ℕ) (more : List ℕ) → sum_by (λ k. one_if (number == k)) (number ∷ more) ≤ 1 → filter (λ k. not (number == k)) (number ∷ more) ≡ more
first_without number more few =
    let whole = sum_by-cons (λ k. one_if (number == k)) number more in
    let is : one_if (number == number) ≡ 1 = ap one_if (eq-eqb number number refl) in
    ap (λ b. cond (not b) (number ∷ filter (λ k. not (number == k)) more) (filter (λ k. not (number == k)) more)) (eq-eqb number number refl)
    ∙ all_kept (λ k. number == k) more (omega (arith, few, whole, is))

-- the tie of an entry of the file
tied_number : (file other : FileName) (number k : ℕ) → (b : Bool) → is_same_file other file ≡ b → b ≡ true
    → eq_by_cmp entry_cmp (record { user = file.user; name = file.name; number = number }) (record { user = other.user; name = other.name; number = k }) ≡ (number == k)
tied_number file other number k false is same = absurd (true≢false (sym same))
tied_number file other number k true is same =
    tied_name file other number k ∙ named_by file other number k is

renamed_left : (files : Drive) (file new : FileName) (number : ℕ) (entry : PhysicalExtent) (more : List ℕ) → is_same_file new file ≡ false
    → each (extents_of files file) (λ e. e.0.number) ≡ number ∷ more
    → each (extents_of (with_extent (without_extent files (record { user = file.user; name = file.name; number = number })) (record { user = new.user; name = new.name; number = number }) entry) file) (λ e. e.0.number) ≡ more
unfolding extents_of
renamed_left files file new number entry more apart first =
    ap (λ es. map (λ e. e.0.number) (filter (is_of file) es)) (entries-insert entry_total (remove files.extents (record { user = file.user; name = file.name; number = number })) (record { user = new.user; name = new.name; number = number }) entry)
    ∙ ap (map (λ e. e.0.number)) (filter_put entry_cmp (is_of file) (record { user = new.user; name = new.name; number = number }) entry
    (entries (remove files.extents (record { user = file.user; name = file.name; number = number }))) apart (λ e tied.
    let same = entry_parts new (record { user = e.0.user; name = e.0.name }) number e.0.number (ap is_eq tied) in
    let is : is_same_file (record { user = e.0.user; name = e.0.name }) file ≡ false =
    ap (λ (f : FileName). is_same_file f file) (sym (one_file new (record { user = e.0.user; name = e.0.name }) same.0)) ∙ apart in
    (is, is)))
    ∙ ap (λ es. map (λ e. e.0.number) (filter (is_of file) es)) (entries_without entry_cmp entry_total entry_same files.extents (record { user = file.user; name = file.name; number = number }))
    ∙ numbers_without (λ e. e.0.number) number (is_of file) (λ e. eq_by_cmp entry_cmp (record { user = file.user; name = file.name; number = number }) e.0) (entries files.extents)
    (λ e is. tied_number file (record { user = e.0.user; name = e.0.name }) number e.0.number true is refl)
    ∙ ap (filter (λ k. not (number == k))) first
    ∙ first_without number more (subst (λ l. sum_by (λ k. one_if (number == k)) l ≤ 1) first
    (omega (
      arith,
      few_numbers (λ e. e.0.number) number (is_of file) (λ e. eq_by_cmp entry_cmp (record { user = file.user; name = file.name; number = number }) e.0) (entries files.extents)
          (λ e is. tied_number file (record { user = e.0.user; name = e.0.name }) number e.0.number true is refl),
      one_key entry_cmp entry_total entry_same files.extents (record { user = file.user; name = file.name; number = number }),
      at_most_one (is_some (get files.extents (record { user = file.user; name = file.name; number = number }))),
    )))

-- what is left of a renaming whose new name has no XFCB
pub renaming_as : (files : Drive) (file new : FileName) (numbers : List ℕ) (o : Option Protection) → get files.xfcbs new ≡ None → get files.xfcbs file ≡ o
    → each (extents_of files file) (λ e. e.0.number) ≡ numbers
    → renaming files file new ≡ map (λ number. RenamesEntry file number new) numbers ++ when (is_some o) (RenamesXfcb file new)
renaming_as files file new numbers o none is named =
    ap (λ (x : Option Protection). when (is_some x) (RemovesXfcb new) ++ (of_entries files file (λ number. RenamesEntry file number new) ++ of_xfcb files file (RenamesXfcb file new))) none
    ∙ ap (λ (x : Option Protection). of_entries files file (λ number. RenamesEntry file number new) ++ when (is_some x) (RenamesXfcb file new)) is
    ∙ ap (λ l. l ++ when (is_some o) (RenamesXfcb file new)) (sym (map-map (λ number. RenamesEntry file number new) (λ e. e.0.number) (extents_of files file)) ∙ ap (map (λ number. RenamesEntry file number new)) named)

renamed_drive : (files : Drive) (file new : FileName) (number : ℕ) (entry : PhysicalExtent) → get files.extents (record { user = file.user; name = file.name; number = number }) ≡ Some entry
    → applied files (RenamesEntry file number new)
    ≡ with_extent (without_extent files (record { user = file.user; name = file.name; number = number })) (record { user = new.user; name = new.name; number = number }) entry
unfolding applied stages last_of
renamed_drive files file new number entry is =
    ap (λ (o : Option PhysicalExtent). last_of files (where_there o (λ e. with_extent (without_extent files (record { user = file.user; name = file.name; number = number })) (record { user = new.user; name = new.name; number = number }) e ∷ []))) is

-- the lowest entry of the file goes to the new name
pub renaming_next : (units : List FileUnit) (j : ℕ) (files : Drive) (file new : FileName) (number : ℕ) (entry : PhysicalExtent) (more : List ℕ) (other : FileUnit)
    → Follows units j (renaming files file new) → is_same_file new file ≡ false → get files.xfcbs new ≡ None
    → get files.extents (record { user = file.user; name = file.name; number = number }) ≡ Some entry → each (extents_of files file) (λ e. e.0.number) ≡ number ∷ more → j < length units
    → Next units j (RenamesEntry file number new) other (renaming (applied files (RenamesEntry file number new)) file new)
renaming_next units j files file new number entry more other follows apart none is named h =
    let after : Drive = with_extent (without_extent files (record { user = file.user; name = file.name; number = number })) (record { user = new.user; name = new.name; number = number }) entry in
    subst (λ (d : Drive). Next units j (RenamesEntry file number new) other (renaming d file new)) (sym (renamed_drive files file new number entry is))
    (next_of units j (RenamesEntry file number new) other (renaming after file new) (renaming files file new) follows
    (renaming_as files file new (number ∷ more) (get files.xfcbs file) none refl named
    ∙ ap (λ l. RenamesEntry file number new ∷ l) (sym (renaming_as after file new more (get files.xfcbs file) none refl (renamed_left files file new number entry more apart named)))) h)

-- an XFCB of the new name goes first
pub renamed_over_next : (units : List FileUnit) (j : ℕ) (files : Drive) (file new : FileName) (xfcb : Protection) (other : FileUnit)
    → Follows units j (renaming files file new) → is_same_file new file ≡ false → get files.xfcbs new ≡ Some xfcb → j < length units
    → Next units j (RemovesXfcb new) other (renaming (applied files (RemovesXfcb new)) file new)
unfolding applied stages last_of extents_of
renamed_over_next units j files file new xfcb other follows apart there h =
    let after : Drive = without_xfcb files new in
    let gone : get after.xfcbs new ≡ None = get-remove file_total files.xfcbs new new ∙ ap (λ r. cond (is_eq r) None (get files.xfcbs new)) (tied_itself file_total new) in
    let same : get after.xfcbs file ≡ get files.xfcbs file =
    get-remove file_total files.xfcbs new file ∙ ap (λ b. cond b None (get files.xfcbs file)) (files_differ file new (same_back file new ∙ apart)) in
    next_of units j (RemovesXfcb new) other (renaming after file new) (renaming files file new) follows
    (ap (λ (x : Option Protection). when (is_some x) (RemovesXfcb new) ++ (of_entries files file (λ number. RenamesEntry file number new) ++ of_xfcb files file (RenamesXfcb file new))) there
    ∙ sym (ap (λ (x : Option Protection). RemovesXfcb new ∷ (when (is_some x) (RemovesXfcb new) ++ (of_entries files file (λ number. RenamesEntry file number new) ++ of_xfcb after file (RenamesXfcb file new)))) gone
    ∙ ap (λ (x : Option Protection). RemovesXfcb new ∷ (of_entries files file (λ number. RenamesEntry file number new) ++ when (is_some x) (RenamesXfcb file new))) same)) h

-- its own XFCB goes last
pub renamed_xfcb_next : (units : List FileUnit) (j : ℕ) (files : Drive) (file new : FileName) (xfcb : Protection) (other : FileUnit)
    → Follows units j (renaming files file new) → get files.xfcbs new ≡ None → get files.xfcbs file ≡ Some xfcb → each (extents_of files file) (λ e. e.0.number) ≡ [] → j < length units
    → Next units j (RenamesXfcb file new) other []
renamed_xfcb_next units j files file new xfcb other follows none there named h =
    next_of units j (RenamesXfcb file new) other [] (renaming files file new) follows (renaming_as files file new [] (Some xfcb) none there named) h
