-- The entries of one file: what a search for its name finds first is its lowest entry.
use Rattle.std.proofs.Common.{◌≡◌, ◌≢◌, ℕ, ◌%◌, ◌<◌, ◌==◌, Bool, true, false, cond, ◌&&◌, ◌||◌, List, [], ◌∷◌, Option, Some, None, length, get_or, refl, sym, ap, subst, ◌∙◌, arith, eq-eqb, ne_eqb}
use Rattle.std.specs.Prelude.{is_some, bytes_eq}
use Rattle.std.specs.List.{filter}
use Rattle.std.specs.List as lists
use Rattle.std.specs.declared.cmp.Ordering.{Ordering}
use Rattle.std.specs.Ordering.{is_eq, eq_by_cmp}
use Rattle.std.specs.Cmp.{IsTotalOrder, tied_itself, both_ways as same_tests}
use Rattle.std.specs.Cmp.Lexicographic.{bytes_decides}
use Rattle.std.specs.FinMap.{get, entries, get-entries, find}
use Rattle.std.proofs.lemmas.Bool.{true≢false, false≢true, both_ways, eqb-true, true_from_ne_false}
use Rattle.std.proofs.lemmas.Option.{same_Some}
use Rattle.std.proofs.lemmas.List.{length-map, get_or-map, ext_get_or}
use Rattle.std.proofs.Math.Bool.{or-true, and-true}
use Rattle.mpm_names.specs.Matching.{byte_fits, fits_at, does_match}
use Rattle.mpm_names.proofs.Fitting.{misfit, fits_everywhere}
use Rattle.mpm_blocks.specs.Sectors.{sectors_of}
use Rattle.mpm_dirent.specs.declared.kinds.Entry.{Entry}
use Rattle.mpm_dirent.specs.Proper.{HasSizes}
use Rattle.mpm_dirent.specs.Names.{plain}
use Rattle.mpm_mount.specs.declared.searching.Found.{Found}
use Rattle.mpm_mount.specs.declared.slots.EntryName.{EntryName}
use Rattle.mpm_mount.specs.Drives.{FileName, entry_cmp, PhysicalExtent, Drive, extents_of}
use Rattle.mpm_mount.specs.Faults.{name_of}
use Rattle.mpm_mount.specs.Images.{extent_in}
use Rattle.mpm_mount.specs.Directories.{Directory, Stands}
use Rattle.mpm_mount.specs.Searching.{search_of, is_sought, IsLeast, IsNext, IsUnambiguous}
use Rattle.mpm_mount.proofs.Orders.{entry_total}
use Rattle.mpm_mount.proofs.InSlots.{sizes_at, in_slot}
use Rattle.mpm_mount.proofs.NextFound.{there_too, is_sought_pair, next_none, next_found}

-- the name of each entry that a drive has is one of eleven bytes
key_from : (image : List ℕ) (d : Directory) (files : Drive) (name : EntryName) → Stands image d files → is_some (get files.extents name) ≡ true
    → (bytes : List ℕ) × (length bytes ≡ 11) × (name.name ≡ plain bytes)
key_from image d files name stands there =
    let found = in_slot image d files name stands there in
    (found.1.file.name, (subst (λ (e : Entry). HasSizes e) found.1.entry (sizes_at image d files found.0 stands found.1.within)).0, sym (ap (λ (n : EntryName). n.name) found.1.name_is))

-- a pattern without a mark fits one name alone
byte_same : (a b : ℕ) → a % 128 ≢ 63 → byte_fits a b ≡ true → a % 128 ≡ b % 128
byte_same a b apart fits = eqb-true (a % 128) (b % 128) (sym (ap (λ x. x || (a % 128 == b % 128)) (ne_eqb (a % 128) 63 apart)) ∙ fits)

same_fits : (a b : ℕ) → a % 128 ≡ b % 128 → byte_fits a b ≡ true
same_fits a b same = ap (λ x. (a % 128 == 63) || x) (eq-eqb (a % 128) (b % 128) same) ∙ or-true (a % 128 == 63)

plain_at : (xs : List ℕ) (k : ℕ) → k < length xs → get_or (plain xs) k 0 ≡ get_or xs k 0 % 128
plain_at xs k h = get_or-map (λ c. c % 128) xs k 0 0 h

plain_again : (xs : List ℕ) (k : ℕ) → k < length xs → get_or (plain xs) k 0 ≡ get_or (plain xs) k 0 % 128
plain_again xs k h =
    let twice : get_or xs k 0 % 128 ≡ get_or xs k 0 % 128 % 128 = omega arith in
    plain_at xs k h ∙ twice ∙ ap (λ n. n % 128) (sym (plain_at xs k h))

plain_size : (xs : List ℕ) → length xs ≡ 11 → length (plain xs) ≡ 11
plain_size xs size = length-map xs (λ c. c % 128) ∙ size

same_name : (pattern bytes : List ℕ) → IsUnambiguous pattern → length bytes ≡ 11 → does_match pattern (plain bytes) ≡ true → plain bytes ≡ plain pattern
same_name pattern bytes one size does =
    ext_get_or 0 (plain bytes) (plain pattern) (plain_size bytes size ∙ sym (plain_size pattern one.size)) (λ k less.
    let h : k < 11 = omega (arith, plain_size bytes size) in
    let fits : fits_at pattern (plain bytes) k ≡ true = true_from_ne_false (fits_at pattern (plain bytes) k) (λ off. both_ways (does_match pattern (plain bytes)) (misfit pattern (plain bytes) k h off) does) in
    plain_again bytes k (omega arith)
    ∙ sym (byte_same (get_or pattern k 0) (get_or (plain bytes) k 0) (one.marks k h) fits)
    ∙ sym (plain_at pattern k (omega (arith, one.size))))

name_fits : (pattern bytes : List ℕ) → IsUnambiguous pattern → length bytes ≡ 11 → plain bytes ≡ plain pattern → does_match pattern (plain bytes) ≡ true
name_fits pattern bytes one size same =
    fits_everywhere pattern (plain bytes) (λ k h.
    same_fits (get_or pattern k 0) (get_or (plain bytes) k 0)
    (sym (plain_at pattern k (omega (arith, one.size))) ∙ sym (ap (λ xs. get_or xs k 0) same) ∙ plain_again bytes k (omega arith)))

fits_name : (pattern bytes : List ℕ) → IsUnambiguous pattern → length bytes ≡ 11 → does_match pattern (plain bytes) ≡ bytes_eq (plain bytes) (plain pattern)
fits_name pattern bytes one size =
    same_tests (does_match pattern (plain bytes)) (bytes_eq (plain bytes) (plain pattern))
    (λ does. (bytes_decides (plain bytes) (plain pattern)).1 (same_name pattern bytes one size does))
    (λ same. name_fits pattern bytes one size ((bytes_decides (plain bytes) (plain pattern)).0 same))

-- an entry of a file, by its name
is_entry_of : FileName → EntryName → Bool
is_entry_of file name = (name.user == file.user) && bytes_eq name.name file.name

sought_of : (image : List ℕ) (d : Directory) (files : Drive) (user : ℕ) (pattern : List ℕ) (name : EntryName) → Stands image d files → IsUnambiguous pattern
    → is_some (get files.extents name) ≡ true → is_sought (search_of d.kind user pattern None) name ≡ is_entry_of (record { user = user; name = plain pattern }) name
unfolding is_entry_of
sought_of image d files user pattern name stands one there =
    let key = key_from image d files name stands there in
    ap (λ b. (name.user == user) && b)
    (and-true (does_match pattern name.name) ∙ ap (does_match pattern) key.2 ∙ fits_name pattern key.0 one key.1 ∙ ap (λ xs. bytes_eq xs (plain pattern)) (sym key.2))

-- lists of pairs, by two tests that agree on the keys that are there
filter_alike : {K X : Type 0} (R : K → K → Ordering) → IsTotalOrder R → (p q : K → Bool) (es : List (K × X)) → ((k : K) → is_some (find R k es) ≡ true → p k ≡ q k)
    → filter (λ e. p e.0) es ≡ filter (λ e. q e.0) es
filter_alike R o p q [] same = refl
filter_alike R o p q (e ∷ es) same =
    let there : is_some (find R e.0 (e ∷ es)) ≡ true = ap (λ r. is_some (cond (is_eq r) (Some e.1) (find R e.0 es))) (tied_itself o e.0) in
    ap (λ b. cond b (e ∷ filter (λ f. p f.0) es) (filter (λ f. p f.0) es)) (same e.0 there)
    ∙ ap (λ rest. cond (q e.0) (e ∷ rest) rest) (filter_alike R o p q es (λ k h. same k (there_too (eq_by_cmp R k e.0) e.1 (find R k es) h)))

first_step : {X : Type 0} (b : Bool) (y x : X) (rest : List X) (o : Option X) → cond b (Some y) o ≡ Some x → (o ≡ Some x → (more : List X) × (rest ≡ x ∷ more))
    → (more : List X) × (cond b (y ∷ rest) rest ≡ x ∷ more)
first_step true y x rest o is so = (rest, ap (λ z. z ∷ rest) (same_Some y x is))
first_step false y x rest o is so = so is

pub first_filtered : {X : Type 0} (p : X → Bool) (xs : List X) (x : X) → lists.find p xs ≡ Some x → (more : List X) × (filter p xs ≡ x ∷ more)
first_filtered p [] x is = absurd (false≢true (ap is_some is))
first_filtered p (y ∷ ys) x is = first_step (p y) y x (filter p ys) (lists.find p ys) is (first_filtered p ys x)

none_step : {X : Type 0} (b : Bool) (y : X) (rest : List X) (o : Option X) → cond b (Some y) o ≡ None → (o ≡ None → rest ≡ []) → cond b (y ∷ rest) rest ≡ []
none_step true y rest o is so = absurd (true≢false (ap is_some is))
none_step false y rest o is so = so is

pub none_filtered : {X : Type 0} (p : X → Bool) (xs : List X) → lists.find p xs ≡ None → filter p xs ≡ []
none_filtered p [] is = refl
none_filtered p (y ∷ ys) is = none_step (p y) y (filter p ys) (lists.find p ys) is (none_filtered p ys)

-- the entries of a file are those that a search for its name seeks
pub extents_sought : (image : List ℕ) (d : Directory) (files : Drive) (user : ℕ) (pattern : List ℕ) → Stands image d files → IsUnambiguous pattern
    → filter (is_sought_pair (search_of d.kind user pattern None)) (entries files.extents) ≡ extents_of files (record { user = user; name = plain pattern })
unfolding extents_of is_entry_of
extents_sought image d files user pattern stands one =
    let file : FileName = record { user = user; name = plain pattern } in
    filter_alike entry_cmp entry_total (is_sought (search_of d.kind user pattern None)) (is_entry_of file) (entries files.extents) (λ name there.
    sought_of image d files user pattern name stands one (ap is_some (get-entries files.extents name) ∙ there))

pub lowest_found : (image : List ℕ) (d : Directory) (files : Drive) (user : ℕ) (pattern : List ℕ) (found : Found) → Stands image d files → IsUnambiguous pattern
    → (least : IsLeast d.kind (search_of d.kind user pattern None) d.entries found)
    → (more : List (EntryName × PhysicalExtent))
    × (extents_of files (record { user = user; name = plain pattern }) ≡ (name_of d.kind least.file, extent_in (sectors_of image d.kind) d.kind least.file) ∷ more)
lowest_found image d files user pattern found stands one least =
    let search = search_of d.kind user pattern None in
    let first = first_filtered (is_sought_pair search) (entries files.extents) (name_of d.kind least.file, extent_in (sectors_of image d.kind) d.kind least.file)
    (next_found image d files search found stands least) in
    (first.0, sym (extents_sought image d files user pattern stands one) ∙ first.1)

pub lowest_missing : (image : List ℕ) (d : Directory) (files : Drive) (user : ℕ) (pattern : List ℕ) → Stands image d files → IsUnambiguous pattern
    → IsNext d.kind (search_of d.kind user pattern None) d.entries None → extents_of files (record { user = user; name = plain pattern }) ≡ []
lowest_missing image d files user pattern stands one none =
    sym (extents_sought image d files user pattern stands one)
    ∙ none_filtered (is_sought_pair (search_of d.kind user pattern None)) (entries files.extents)
    (next_none image d files (search_of d.kind user pattern None) stands none)
