-- The next unit of a deletion: the first entry that fits goes, and then the XFCB of a file that has no entry any more.
use Rattle.std.proofs.Common.{◌≡◌, ℕ, ◌<◌, ◌≤◌, Bool, true, false, cond, ◌==◌, ◌&&◌, ◌||◌, not, List, [], ◌∷◌, ◌++◌, Option, Some, None, map, length, refl, sym, ap, subst, ◌∙◌, arith}
use Rattle.mpm_base.proofs.Tests.{one_test}
use Rattle.std.specs.Prelude.{is_some, sum_by, if◌then◌else◌}
use Rattle.std.specs.List.{list_any, filter}
use Rattle.std.specs.List as lists
use Rattle.std.specs.declared.cmp.Ordering.{Ordering}
use Rattle.std.specs.Ordering.{eq_by_cmp, is_eq}
use Rattle.std.specs.Cmp.{IsTotalOrder, tied_itself, alike_right, eq_by_cmp_equiv}
use Rattle.std.specs.FinMap.{FinMap, IsAntisymmetric, find, get, remove, entries, entries_sorted, keys, from_sorted, entries-from_sorted, get-from_sorted, get-remove, get-entries, same_map}
use Rattle.std.specs.FinMap.Entries.{where_key, is_sorted-where_key, find-where_key}
use Rattle.std.proofs.lemmas.Bool.{true≢false, false_from_ne_true, or_parts, or_from, or_right, and_parts, and_from, eq-eqb, eqb-true}
use Rattle.std.proofs.lemmas.Option.{same_Some}
use Rattle.std.proofs.lemmas.List.Sums.{sum_by-cons, sum_by-append}
use Rattle.std.proofs.lemmas.List.Elements.{filter-append}
use Rattle.mpm_base.specs.Counts.{one_if}
use Rattle.mpm_base.proofs.CountLaws.{at_most_one}
use Rattle.mpm_base.proofs.Choices.{at_either}
use Rattle.mpm_mount.specs.Drives.{FileName, entry_cmp, Protection, Drive, without_extent}
use Rattle.mpm_mount.specs.Files.{is_same_file, entries_named, is_entry_of, has_file, is_fitting}
use Rattle.mpm_mount.proofs.Orders.{entry_total, entry_same, file_total}
use Rattle.mpm_mount.proofs.Names.{one_file, is_itself, entry_parts, files_differ, same_back}
use Rattle.mpm_files.specs.Units.{FileUnit, RemovesEntry, RemovesXfcb, stages, last_of, applied}
use Rattle.mpm_files.specs.Plans.{when, of_xfcb, deleting_entry, deleting}
use Rattle.mpm_files.specs.Serving.{Follows}
use Rattle.mpm_files.proofs.Pairs.{sums_alike, sum_mapped, one_key}
use Rattle.mpm_files.proofs.NextUnits.{Next, next_of}

-- the entries of a map without a key
turned : (b c : Bool) {X : Type 0} (x : Option X) → b ≡ c → cond (not b) x None ≡ cond c None x
turned true true x same = refl
turned false false x same = refl
turned true false x same = absurd (true≢false same)
turned false true x same = absurd (true≢false (sym same))

pub entries_without : {K X : Type 0} (R : K → K → Ordering) → IsTotalOrder R → IsAntisymmetric R → (m : FinMap R X) (k : K)
    → entries (remove m k) ≡ where_key R (λ x. not (eq_by_cmp R k x)) (entries m)
entries_without R o same m k =
    let rest = where_key R (λ x. not (eq_by_cmp R k x)) (entries m) in
    let sorted = is_sorted-where_key R (λ x. not (eq_by_cmp R k x)) (entries m) (entries_sorted m) in
    ap entries (same_map o same (remove m k) (from_sorted rest) (λ q.
    get-remove o m k q
    ∙ sym (get-from_sorted R rest q sorted
    ∙ find-where_key R (λ x. not (eq_by_cmp R k x)) q (λ x t. ap (λ r. not (is_eq r)) (sym (alike_right o q x k t))) (entries m)
    ∙ turned (eq_by_cmp R k q) (eq_by_cmp R q k) (find R q (entries m)) ((eq_by_cmp_equiv o).symm k q)
    ∙ ap (cond (eq_by_cmp R q k) None) (sym (get-entries m q)))))
    ∙ entries-from_sorted R rest sorted

-- the entries by name, without one
pub is_named : FileName → ℕ → (FileName × ℕ) → Bool
is_named file number entry = is_same_file file entry.0 && (number == entry.1)

pub tied_name : (file other : FileName) (number k : ℕ)
    → eq_by_cmp entry_cmp (record { user = file.user; name = file.name; number = number }) (record { user = other.user; name = other.name; number = k }) ≡ is_named file number (other, k)
unfolding is_named
tied_name file other number k =
    one_test _ (is_same_file file other && (number == k))
    (λ tied. let parts = entry_parts file other number k tied in and_from (is_same_file file other) (number == k) parts.0 (eq-eqb number k parts.1))
    (λ named.
    let parts = and_parts (is_same_file file other) (number == k) named in
    ap (λ (f : FileName). eq_by_cmp entry_cmp (record { user = file.user; name = file.name; number = number }) (record { user = f.user; name = f.name; number = k })) (sym (one_file file other parts.0))
    ∙ ap (λ q. eq_by_cmp entry_cmp (record { user = file.user; name = file.name; number = number }) (record { user = file.user; name = file.name; number = q })) (sym (eqb-true number k parts.1))
    ∙ ap is_eq (tied_itself entry_total _))

pub filter_mapped : {X Y : Type 0} (p : X → Bool) (q : Y → Bool) (f : X → Y) (xs : List X) → ((x : X) → p x ≡ q (f x)) → map f (filter p xs) ≡ filter q (map f xs)
filter_mapped p q f [] same = refl
filter_mapped p q f (x ∷ xs) same =
    ap (λ b. map f (cond b (x ∷ filter p xs) (filter p xs))) (same x) ∙ at_either (map f) (q (f x)) (x ∷ filter p xs) (filter p xs)
    ∙ ap (λ l. cond (q (f x)) (f x ∷ l) l) (filter_mapped p q f xs same)

named_without : (files : Drive) (file : FileName) (number : ℕ)
    → entries_named (without_extent files (record { user = file.user; name = file.name; number = number })) ≡ filter (λ e. not (is_named file number e)) (entries_named files)
unfolding entries_named
named_without files file number =
    ap (λ es. map (λ name. (record { user = name.user; name = name.name }, name.number)) (map (λ e. e.0) es))
    (entries_without entry_cmp entry_total entry_same files.extents (record { user = file.user; name = file.name; number = number }))
    ∙ ap (map (λ name. (record { user = name.user; name = name.name }, name.number)))
    (filter_mapped _ (λ name. not (eq_by_cmp entry_cmp (record { user = file.user; name = file.name; number = number }) name)) (λ e. e.0) (entries files.extents) (λ e. refl))
    ∙ filter_mapped _ (λ e. not (is_named file number e)) (λ name. (record { user = name.user; name = name.name }, name.number)) (keys files.extents)
    (λ name. ap not (tied_name file (record { user = name.user; name = name.name }) number name.number))

-- no entry is named twice
named_once : (files : Drive) (file : FileName) (number : ℕ) → sum_by (λ e. one_if (is_named file number e)) (entries_named files) ≤ 1
unfolding entries_named
named_once files file number =
    let key = one_key entry_cmp entry_total entry_same files.extents (record { user = file.user; name = file.name; number = number }) in
    let same = sum_mapped (λ e. one_if (is_named file number e)) (λ name. (record { user = name.user; name = name.name }, name.number)) (keys files.extents)
    ∙ sum_mapped (λ name. one_if (is_named file number (record { user = name.user; name = name.name }, name.number))) (λ e. e.0) (entries files.extents)
    ∙ sums_alike _ (λ e. one_if (eq_by_cmp entry_cmp (record { user = file.user; name = file.name; number = number }) e.0)) (entries files.extents)
    (λ e. ap one_if (sym (tied_name file (record { user = e.0.user; name = e.0.name }) number e.0.number))) in
    omega (arith, same, key, at_most_one (is_some (get files.extents (record { user = file.user; name = file.name; number = number }))))

pub named_by : (file other : FileName) (number k : ℕ) → is_same_file other file ≡ true → is_named file number (other, k) ≡ (number == k)
unfolding is_named
named_by file other number k same = ap (λ b. b && (number == k)) (same_back file other ∙ same)

named_itself : (file : FileName) (number : ℕ) → is_named file number (file, number) ≡ true
unfolding is_named
named_itself file number = and_from (is_same_file file file) (number == number) (is_itself file) (eq-eqb number number refl)

-- the first that passes a test, and the others
pub record Splits {X : Type 0} (test : X → Bool) (xs : List X) (x : X) : Type 0 where
  pub front : List X
  pub rest : List X
  pub whole : xs ≡ front ++ (x ∷ rest)
  pub none : list_any test front ≡ false
  pub passes : test x ≡ true

split_by : {X : Type 0} (test : X → Bool) (y x : X) (ys : List X) (b : Bool) → test y ≡ b → cond b (Some y) (lists.find test ys) ≡ Some x
    → (lists.find test ys ≡ Some x → Splits test ys x) → Splits test (y ∷ ys) x
split_by test y x ys true is found so =
    record { front = []; rest = ys; whole = ap (λ z. z ∷ ys) (same_Some y x found); none = refl; passes = ap test (sym (same_Some y x found)) ∙ is }
split_by test y x ys false is found so =
    let rest = so found in
    record {
      front = y ∷ rest.front;
      rest = rest.rest;
      whole = ap (λ l. y ∷ l) rest.whole;
      none = ap (λ b. b || list_any test rest.front) is ∙ rest.none;
      passes = rest.passes;
    }

first_split : {X : Type 0} (test : X → Bool) (xs : List X) (x : X) → lists.find test xs ≡ Some x → Splits test xs x
first_split test [] x found = absurd (true≢false (sym (ap is_some found)))
first_split test (y ∷ ys) x found = split_by test y x ys (test y) refl found (λ rest. first_split test ys x rest)

-- what passes no test stays
kept_by : {X : Type 0} (x : X) (xs kept : List X) (b : Bool) → one_if b ≡ 0 → kept ≡ xs → cond (not b) (x ∷ kept) kept ≡ x ∷ xs
kept_by x xs kept true none same = absurd (omega arith)
kept_by x xs kept false none same = ap (λ l. x ∷ l) same

pub all_kept : {X : Type 0} (test : X → Bool) (xs : List X) → sum_by (λ x. one_if (test x)) xs ≡ 0 → filter (λ x. not (test x)) xs ≡ xs
all_kept test [] none = refl
all_kept test (x ∷ xs) none =
    let parts = sum_by-cons (λ y. one_if (test y)) x xs in
    kept_by x xs (filter (λ y. not (test y)) xs) (test x) (omega arith) (all_kept test xs (omega arith))

one_less : {X : Type 0} (test : X → Bool) (front rest : List X) (x : X) → test x ≡ true → sum_by (λ y. one_if (test y)) (front ++ (x ∷ rest)) ≤ 1
    → filter (λ y. not (test y)) (front ++ (x ∷ rest)) ≡ front ++ rest
one_less {X = X} test front rest x here few =
    let g : X → ℕ = λ y. one_if (test y) in
    let whole = sum_by-append g front (x ∷ rest) in
    let last = sum_by-cons g x rest in
    let is : one_if (test x) ≡ 1 = ap one_if here in
    filter-append (λ y. not (test y)) front (x ∷ rest)
    ∙ ap (λ l. l ++ filter (λ y. not (test y)) (x ∷ rest)) (all_kept test front (omega (arith, few, whole, last, is)))
    ∙ ap (λ b. front ++ cond (not b) (x ∷ filter (λ y. not (test y)) rest) (filter (λ y. not (test y)) rest)) here
    ∙ ap (λ l. front ++ l) (all_kept test rest (omega (arith, few, whole, last, is)))

-- entries that don't fit are passed; what is deleted depends on the XFCBs of the drive alone
deleting_past : (drive : Drive) (user : ℕ) (pattern : List ℕ) (front rest : List (FileName × ℕ)) → list_any (λ e. is_fitting user pattern e.0) front ≡ false
    → deleting drive user pattern (front ++ rest) ≡ deleting drive user pattern rest
unfolding deleting
deleting_past drive user pattern [] rest none = refl
deleting_past drive user pattern (entry ∷ front) rest none =
    let parts = or_parts (is_fitting user pattern entry.0) (list_any (λ e. is_fitting user pattern e.0) front) none in
    ap (λ b. (if b then deleting_entry drive entry (front ++ rest) else []) ++ deleting drive user pattern (front ++ rest)) parts.0
    ∙ deleting_past drive user pattern front rest parts.1

deleting_first : (drive : Drive) (user : ℕ) (pattern : List ℕ) (entry : FileName × ℕ) (rest : List (FileName × ℕ)) → is_fitting user pattern entry.0 ≡ true
    → deleting drive user pattern (entry ∷ rest) ≡ deleting_entry drive entry rest ++ deleting drive user pattern rest
unfolding deleting
deleting_first drive user pattern entry rest fits = ap (λ b. (if b then deleting_entry drive entry rest else []) ++ deleting drive user pattern rest) fits

deleting_alike : (one other : Drive) (user : ℕ) (pattern : List ℕ) (named : List (FileName × ℕ)) → ((file : FileName) → list_any (is_entry_of file) named ≡ true → get one.xfcbs file ≡ get other.xfcbs file)
    → deleting one user pattern named ≡ deleting other user pattern named
unfolding deleting
deleting_alike one other user pattern [] same = refl
deleting_alike one other user pattern (entry ∷ named) same =
    let first = same entry.0 (ap (λ b. b || list_any (is_entry_of entry.0) named) (is_itself entry.0)) in
    ap (λ (x : Option Protection). (if is_fitting user pattern entry.0 then RemovesEntry entry.0 entry.1 ∷ (if list_any (is_entry_of entry.0) named then [] else when (is_some x) (RemovesXfcb entry.0)) else [])
    ++ deleting one user pattern named) first
    ∙ ap (λ l. (if is_fitting user pattern entry.0 then deleting_entry other entry named else []) ++ l)
    (deleting_alike one other user pattern named (λ file there. same file (or_right (is_same_file file entry.0) (list_any (is_entry_of file) named) there)))

-- none of those that don't fit is of a file that fits
none_of_it : (user : ℕ) (pattern : List ℕ) (file : FileName) (front : List (FileName × ℕ)) → is_fitting user pattern file ≡ true → list_any (λ e. is_fitting user pattern e.0) front ≡ false
    → list_any (is_entry_of file) front ≡ false
none_of_it user pattern file [] fits none = refl
none_of_it user pattern file (entry ∷ front) fits none =
    let parts = or_parts (is_fitting user pattern entry.0) (list_any (λ e. is_fitting user pattern e.0) front) none in
    or_from (is_same_file file entry.0) (list_any (is_entry_of file) front)
    (false_from_ne_true (is_same_file file entry.0) (λ same.
    true≢false (sym fits ∙ ap (is_fitting user pattern) (one_file file entry.0 same) ∙ parts.0)))
    (none_of_it user pattern file front fits parts.1)

any_both : (p : (FileName × ℕ) → Bool) (xs ys : List (FileName × ℕ)) → list_any p xs ≡ false → list_any p (xs ++ ys) ≡ list_any p ys
any_both p [] ys none = refl
any_both p (x ∷ xs) ys none =
    let parts = or_parts (p x) (list_any p xs) none in
    ap (λ b. b || list_any p (xs ++ ys)) parts.0 ∙ any_both p xs ys parts.1

-- the first entry that fits goes: what is left is the XFCB of its file, where it was the last one, and the others
pub deletion_next : (units : List FileUnit) (j : ℕ) (files : Drive) (user : ℕ) (pattern : List ℕ) (file : FileName) (number : ℕ) (other : FileUnit)
    → Follows units j (deleting files user pattern (entries_named files)) → lists.find (λ e. is_fitting user pattern e.0) (entries_named files) ≡ Some (file, number) → j < length units
    → let after : Drive = applied files (RemovesEntry file number) in
    Next units j (RemovesEntry file number) other
    ((if has_file after file then [] else of_xfcb after file (RemovesXfcb file)) ++ deleting after user pattern (entries_named after))
unfolding applied stages last_of has_file
deletion_next units j files user pattern file number other follows found h =
    let after : Drive = applied files (RemovesEntry file number) in
    let split : Splits (λ e. is_fitting user pattern e.0) (entries_named files) (file, number) = first_split (λ e. is_fitting user pattern e.0) (entries_named files) (file, number) found in
    let itself : is_named file number (file, number) ≡ true = named_itself file number in
    let named : entries_named after ≡ split.front ++ split.rest =
    named_without files file number ∙ ap (filter (λ e. not (is_named file number e))) split.whole
    ∙ one_less (is_named file number) split.front split.rest (file, number) itself (subst (λ l. sum_by (λ e. one_if (is_named file number e)) l ≤ 1) split.whole (named_once files file number)) in
    let there : list_any (is_entry_of file) (entries_named after) ≡ list_any (is_entry_of file) split.rest =
    ap (list_any (is_entry_of file)) named ∙ any_both (is_entry_of file) split.front split.rest (none_of_it user pattern file split.front split.passes split.none) in
    let left : deleting after user pattern (entries_named after) ≡ deleting files user pattern split.rest =
    ap (deleting after user pattern) named ∙ deleting_past after user pattern split.front split.rest split.none
    ∙ deleting_alike after files user pattern split.rest (λ other_file is. refl) in
    next_of units j (RemovesEntry file number) other
    ((if has_file after file then [] else of_xfcb after file (RemovesXfcb file)) ++ deleting after user pattern (entries_named after))
    (deleting files user pattern (entries_named files)) follows
    (ap (deleting files user pattern) split.whole ∙ deleting_past files user pattern split.front ((file, number) ∷ split.rest) split.none
    ∙ deleting_first files user pattern (file, number) split.rest split.passes
    ∙ sym (ap (λ b. RemovesEntry file number ∷ ((if b then [] else of_xfcb files file (RemovesXfcb file)) ++ deleting after user pattern (entries_named after))) there
    ∙ ap (λ l. RemovesEntry file number ∷ ((if list_any (is_entry_of file) split.rest then [] else of_xfcb files file (RemovesXfcb file)) ++ l)) left)) h

-- the XFCB of a file that has no entry any more goes
pub deleted_xfcb_next : (units : List FileUnit) (j : ℕ) (files : Drive) (user : ℕ) (pattern : List ℕ) (file : FileName) (other : FileUnit)
    → Follows units j (RemovesXfcb file ∷ deleting files user pattern (entries_named files)) → has_file files file ≡ false → j < length units
    → let after : Drive = applied files (RemovesXfcb file) in
    Next units j (RemovesXfcb file) other (deleting after user pattern (entries_named after))
unfolding applied stages last_of has_file entries_named
deleted_xfcb_next units j files user pattern file other follows none h =
    let after : Drive = applied files (RemovesXfcb file) in
    next_of units j (RemovesXfcb file) other (deleting after user pattern (entries_named after)) (RemovesXfcb file ∷ deleting files user pattern (entries_named files)) follows
    (ap (λ l. RemovesXfcb file ∷ l) (deleting_alike files after user pattern (entries_named files) (λ one there.
    sym (get-remove file_total files.xfcbs file one
    ∙ ap (λ b. cond b None (get files.xfcbs one)) (files_differ one file (false_from_ne_true (is_same_file one file) (λ same.
    true≢false (sym there ∙ ap (λ (f : FileName). list_any (is_entry_of f) (entries_named files)) (one_file one file same) ∙ none)))))))) h
