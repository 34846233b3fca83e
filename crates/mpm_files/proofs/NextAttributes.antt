-- The next unit of a job that sets attributes: the first entry of the file above the last that has them.
use Rattle.std.proofs.Common.{◌≡◌, ℕ, ◌<◌, Bool, true, false, cond, ◌==◌, ◌&&◌, List, [], ◌∷◌, ◌++◌, Option, Some, None, map, length, drop, get_or, refl, sym, ap, subst, ◌∙◌, arith}
use Rattle.std.specs.Prelude.{nat_lt, bytes_eq}
use Rattle.std.specs.List.{filter}
use Rattle.std.specs.declared.cmp.Ordering.{Ordering}
use Rattle.std.specs.declared.cmp.Ordering.TheVariants.{Less, Equal, Greater}
use Rattle.std.specs.Ordering.{is_lt, nat_cmp, ordering_then}
use Rattle.std.specs.Cmp.{tied_itself, nat_cmp_total}
use Rattle.std.specs.Cmp.Lexicographic.{slice_cmp}
use Rattle.std.specs.FinMap.{FinMap, get, insert, entries, entries_sorted, keys, put, entries-insert, is_sorted}
use Rattle.std.specs.FinMap.Entries.{by_order, below_all}
use Rattle.std.proofs.lemmas.Bool.{true≢false, and_parts, lt-ltb, le-ltb, ltb-true}
use Rattle.std.proofs.lemmas.Simd.{map-map}
use Rattle.mpm_base.specs.declared.kind.Kind.{Kind}
use Rattle.mpm_mount.specs.declared.searching.Found.{Found}
use Rattle.mpm_mount.specs.Drives.{FileName, entry_cmp, PhysicalExtent, Drive, entry_number, is_of, extents_of, with_extent}
use Rattle.mpm_mount.specs.Files.{where_there, is_same_file}
use Rattle.mpm_mount.proofs.Orders.{entry_total, entry_same}
use Rattle.mpm_mount.proofs.Names.{one_file}
use Rattle.mpm_mount.proofs.SearchSteps.{is_true}
use Rattle.mpm_files.specs.Units.{FileUnit, SetsAttributes, with_attributes, stages, last_of, applied}
use Rattle.mpm_files.specs.Plans.{each}
use Rattle.mpm_files.specs.Serving.{Follows, is_later, left_setting}
use Rattle.mpm_files.proofs.Sums.{as_it_was}
use Rattle.mpm_files.proofs.NextUnits.{Next, next_of}
use Rattle.mpm_files.proofs.NextEntries.{filter_mapped}

-- numbers that rise
unfoldable AllAbove : ℕ → List ℕ → Type 0
AllAbove a [] = Unit {0}
AllAbove a (n ∷ ns) = (a < n) × AllAbove a ns

unfoldable Rise : List ℕ → Type 0
Rise [] = Unit {0}
Rise (n ∷ ns) = AllAbove n ns × Rise ns

-- two entries of one file are in the order of their numbers
last_order : (xs : List ℕ) (a b : ℕ) → is_lt (slice_cmp nat_cmp (xs ++ (a ∷ [])) (xs ++ (b ∷ []))) ≡ nat_lt a b
last_order [] a b = by_test (nat_lt a b) (a == b)
  where
    by_test : (t s : Bool) → is_lt (ordering_then (cond t Less (cond s Equal Greater)) Equal) ≡ t
    by_test true s = refl
    by_test false true = refl
    by_test false false = refl
last_order (x ∷ xs) a b =
    ap (λ r. is_lt (ordering_then r (slice_cmp nat_cmp (xs ++ (a ∷ [])) (xs ++ (b ∷ []))))) (tied_itself nat_cmp_total x) ∙ last_order xs a b

entry_order : (file : FileName) (a b : ℕ)
    → is_lt (entry_cmp (record { user = file.user; name = file.name; number = a }) (record { user = file.user; name = file.name; number = b })) ≡ nat_lt a b
unfolding entry_cmp
entry_order file a b = last_order (file.user ∷ file.name) a b

pub order_of_one : (file one other : FileName) (a b : ℕ) → is_same_file one file ≡ true → is_same_file other file ≡ true
    → is_lt (entry_cmp (record { user = one.user; name = one.name; number = a }) (record { user = other.user; name = other.name; number = b })) ≡ nat_lt a b
order_of_one file one other a b is too =
    ap (λ (f : FileName). is_lt (entry_cmp (record { user = f.user; name = f.name; number = a }) (record { user = other.user; name = other.name; number = b }))) (one_file one file is)
    ∙ ap (λ (f : FileName). is_lt (entry_cmp (record { user = file.user; name = file.name; number = a }) (record { user = f.user; name = f.name; number = b }))) (one_file other file too)
    ∙ entry_order file a b

less_of_one : (file one other : FileName) (a b : ℕ) → is_same_file one file ≡ true → is_same_file other file ≡ true
    → is_lt (entry_cmp (record { user = one.user; name = one.name; number = a }) (record { user = other.user; name = other.name; number = b })) ≡ true → a < b
less_of_one file one other a b is too less = ltb-true a b (sym (order_of_one file one other a b is too) ∙ less)

-- what rises among the entries of a map
above_step : {X : Type 0} (of : X → Bool) (num : X → ℕ) (a : ℕ) (x : X) (rest : List X) (b : Bool) → of x ≡ b → (b ≡ true → a < num x)
    → AllAbove a (map num (filter of rest)) → AllAbove a (map num (cond b (x ∷ filter of rest) (filter of rest)))
unfolding AllAbove
above_step of num a x rest true is less so = (less refl, so)
above_step of num a x rest false is less so = so

rise_step : {X : Type 0} (of : X → Bool) (num : X → ℕ) (x : X) (rest : List X) (b : Bool) → of x ≡ b → (b ≡ true → AllAbove (num x) (map num (filter of rest)))
    → Rise (map num (filter of rest)) → Rise (map num (cond b (x ∷ filter of rest) (filter of rest)))
unfolding Rise
rise_step of num x rest true is above so = (above refl, so)
rise_step of num x rest false is above so = so

-- an entry that comes again keeps all keys
keys_by : {K X : Type 0} (R : K → K → Ordering) (k : K) (v w : X) (e : K × X) (es : List (K × X)) (r : Ordering) → map (λ x. x.0) (put R k v es) ≡ map (λ x. x.0) (put R k w es)
    → map (λ x. x.0) (by_order r ((k, v) ∷ e ∷ es) ((e.0, v) ∷ es) (e ∷ put R k v es)) ≡ map (λ x. x.0) (by_order r ((k, w) ∷ e ∷ es) ((e.0, w) ∷ es) (e ∷ put R k w es))
keys_by R k v w e es Less so = refl
keys_by R k v w e es Equal so = refl
keys_by R k v w e es Greater so = ap (λ l. e.0 ∷ l) so

keys_put : {K X : Type 0} (R : K → K → Ordering) (k : K) (v w : X) (es : List (K × X)) → map (λ x. x.0) (put R k v es) ≡ map (λ x. x.0) (put R k w es)
keys_put R k v w [] = refl
keys_put R k v w (e ∷ es) = keys_by R k v w e es (R k e.0) (keys_put R k v w es)

-- the first number above the last, and those above it
later_up : (kind : Kind) (last : Option Found) (a b : ℕ) → a < b → is_later kind last a ≡ true → is_later kind last b ≡ true
later_up kind None a b less is = refl
later_up kind (Some found) a b less is = lt-ltb (entry_number kind found.extent) b (omega (arith, less, ltb-true (entry_number kind found.extent) a is))

all_later : (kind : Kind) (last : Option Found) (a : ℕ) (ns : List ℕ) → is_later kind last a ≡ true → AllAbove a ns → filter (is_later kind last) ns ≡ ns
unfolding AllAbove
all_later kind last a [] is above = refl
all_later kind last a (n ∷ ns) is above =
    ap (λ b. cond b (n ∷ filter (is_later kind last) ns) (filter (is_later kind last) ns)) (later_up kind last a n above.0 is) ∙ ap (λ l. n ∷ l) (all_later kind last a ns is above.1)

all_higher : (a : ℕ) (ns : List ℕ) → AllAbove a ns → filter (λ k. nat_lt a k) ns ≡ ns
unfolding AllAbove
all_higher a [] above = refl
all_higher a (n ∷ ns) above = ap (λ b. cond b (n ∷ filter (λ k. nat_lt a k) ns) (filter (λ k. nat_lt a k) ns)) (lt-ltb a n above.0) ∙ ap (λ l. n ∷ l) (all_higher a ns above.1)

some_there : List ℕ → Bool
some_there [] = false
some_there (n ∷ ns) = true

-- what is found among numbers above one is above it
found_step : (a number : ℕ) (more : List ℕ) (n : ℕ) (rest : List ℕ) (b : Bool) → a < n → cond b (n ∷ rest) rest ≡ number ∷ more → (rest ≡ number ∷ more → a < number) → a < number
found_step a number more n rest true less is so = subst (λ q. a < q) (ap (λ l. get_or l 0 0) is) less
found_step a number more n rest false less is so = so is

found_above : (test : ℕ → Bool) (a number : ℕ) (more ns : List ℕ) → AllAbove a ns → filter test ns ≡ number ∷ more → a < number
unfolding AllAbove some_there
found_above test a number more [] above is = absurd (true≢false (sym (ap some_there is)))
found_above test a number more (n ∷ ns) above is =
    found_step a number more n (filter test ns) (test n) above.0 is (λ rest. found_above test a number more ns above.1 rest)

next_step : (kind : Kind) (last : Option Found) (number : ℕ) (more : List ℕ) (n : ℕ) (ns : List ℕ) (b : Bool) → is_later kind last n ≡ b → AllAbove n ns
    → cond b (n ∷ filter (is_later kind last) ns) (filter (is_later kind last) ns) ≡ number ∷ more
    → (filter (is_later kind last) ns ≡ number ∷ more → filter (λ k. nat_lt number k) ns ≡ more)
    → cond (nat_lt number n) (n ∷ filter (λ k. nat_lt number k) ns) (filter (λ k. nat_lt number k) ns) ≡ more
next_step kind last number more n ns true is above found so =
    let same : n ≡ number = ap (λ l. get_or l 0 0) found in
    let rest : filter (is_later kind last) ns ≡ more = ap (drop 1) found in
    ap (λ b. cond b (n ∷ filter (λ k. nat_lt number k) ns) (filter (λ k. nat_lt number k) ns)) (le-ltb number n (omega (arith, same)))
    ∙ ap (λ q. filter (λ k. nat_lt q k) ns) (sym same) ∙ all_higher n ns above ∙ sym (all_later kind last n ns is above) ∙ rest
next_step kind last number more n ns false is above found so =
    let less : n < number = found_above (is_later kind last) n number more ns above found in
    ap (λ b. cond b (n ∷ filter (λ k. nat_lt number k) ns) (filter (λ k. nat_lt number k) ns)) (le-ltb number n (omega (arith, less))) ∙ so found

numbers_later : (kind : Kind) (last : Option Found) (number : ℕ) (more ns : List ℕ) → Rise ns → filter (is_later kind last) ns ≡ number ∷ more → filter (λ k. nat_lt number k) ns ≡ more
unfolding Rise some_there
numbers_later kind last number more [] rise found = absurd (true≢false (sym (ap some_there found)))
numbers_later kind last number more (n ∷ ns) rise found =
    next_step kind last number more n ns (is_later kind last n) refl rise.0 found (λ rest. numbers_later kind last number more ns rise.1 rest)

-- the numbers of a file's entries rise
rising_of : {X : Type 0} (below : X → List X → Bool) (of : X → Bool) (num : X → ℕ) → ((x y : X) (ys : List X) → below x (y ∷ ys) ≡ true → (of x ≡ true → of y ≡ true → num x < num y) × (below x ys ≡ true))
    → (x : X) (ys : List X) → below x ys ≡ true → of x ≡ true → AllAbove (num x) (map num (filter of ys))
unfolding AllAbove
rising_of below of num step x [] is own = tt
rising_of below of num step x (y ∷ ys) is own =
    let parts = step x y ys is in
    above_step of num (num x) y ys (of y) refl (λ too. parts.0 own too) (rising_of below of num step x ys parts.1 own)

all_rising : {X : Type 0} (below : X → List X → Bool) (sorted : List X → Bool) (of : X → Bool) (num : X → ℕ)
    → ((x y : X) (ys : List X) → below x (y ∷ ys) ≡ true → (of x ≡ true → of y ≡ true → num x < num y) × (below x ys ≡ true))
    → ((x : X) (xs : List X) → sorted (x ∷ xs) ≡ true → (below x xs ≡ true) × (sorted xs ≡ true)) → (xs : List X) → sorted xs ≡ true → Rise (map num (filter of xs))
unfolding Rise
all_rising below sorted of num step parts [] is = tt
all_rising below sorted of num step parts (x ∷ xs) is =
    let both = parts x xs is in
    rise_step of num x xs (of x) refl (λ own. rising_of below of num step x xs both.0 own) (all_rising below sorted of num step parts xs both.1)

numbers_rise : (drive : Drive) (file : FileName) → Rise (each (extents_of drive file) (λ e. e.0.number))
unfolding extents_of
numbers_rise drive file =
    all_rising (λ e es. below_all entry_cmp e.0 es) (is_sorted entry_cmp) (is_of file) (λ e. e.0.number)
    (λ x y ys is.
    let parts = and_parts (is_lt (entry_cmp x.0 y.0)) (below_all entry_cmp x.0 ys) is in
    ((λ own too. less_of_one file (record { user = x.0.user; name = x.0.name }) (record { user = y.0.user; name = y.0.name }) x.0.number y.0.number own too parts.0), parts.1))
    (λ x xs is. and_parts (below_all entry_cmp x.0 xs) (is_sorted entry_cmp xs) is)
    (entries drive.extents) (is_true (is_sorted entry_cmp (entries drive.extents)) (entries_sorted drive.extents))

by_keys : (file : FileName) (m : FinMap entry_cmp PhysicalExtent)
    → map (λ e. e.0.number) (filter (is_of file) (entries m)) ≡ map (λ name. name.number) (filter (λ name. (name.user == file.user) && bytes_eq name.name file.name) (keys m))
by_keys file m =
    sym (map-map (λ name. name.number) (λ e. e.0) (filter (is_of file) (entries m)))
    ∙ ap (map (λ name. name.number)) (filter_mapped (is_of file) (λ name. (name.user == file.user) && bytes_eq name.name file.name) (λ e. e.0) (entries m) (λ e. refl))

-- they are the same where an entry changes in its place
numbers_same : (drive : Drive) (file : FileName) (number : ℕ) (old new : PhysicalExtent) → get drive.extents (record { user = file.user; name = file.name; number = number }) ≡ Some old
    → each (extents_of (with_extent drive (record { user = file.user; name = file.name; number = number }) new) file) (λ e. e.0.number) ≡ each (extents_of drive file) (λ e. e.0.number)
unfolding extents_of
numbers_same drive file number old new is =
    by_keys file (insert drive.extents (record { user = file.user; name = file.name; number = number }) new)
    ∙ ap (λ ks. map (λ name. name.number) (filter (λ name. (name.user == file.user) && bytes_eq name.name file.name) ks))
    (ap (map (λ x. x.0)) (entries-insert entry_total drive.extents (record { user = file.user; name = file.name; number = number }) new)
    ∙ keys_put entry_cmp (record { user = file.user; name = file.name; number = number }) new old (entries drive.extents)
    ∙ sym (ap (map (λ x. x.0)) (entries-insert entry_total drive.extents (record { user = file.user; name = file.name; number = number }) old))
    ∙ ap (λ m. map (λ x. x.0) (entries m)) (as_it_was entry_cmp entry_total entry_same drive.extents (record { user = file.user; name = file.name; number = number }) old is))
    ∙ sym (by_keys file drive.extents)

set_drive : (files : Drive) (file : FileName) (number : ℕ) (attributes : List Bool) (entry : PhysicalExtent) → get files.extents (record { user = file.user; name = file.name; number = number }) ≡ Some entry
    → applied files (SetsAttributes file number attributes) ≡ with_extent files (record { user = file.user; name = file.name; number = number }) (with_attributes attributes entry)
unfolding applied stages last_of
set_drive files file number attributes entry is =
    ap (λ (o : Option PhysicalExtent). last_of files (where_there o (λ e. with_extent files (record { user = file.user; name = file.name; number = number }) (with_attributes attributes e) ∷ []))) is

-- the first entry above the last that has the attributes gets them; those above it are left
pub setting_next : (units : List FileUnit) (j : ℕ) (files : Drive) (file : FileName) (attributes : List Bool) (last : Option Found) (found : Found) (number : ℕ) (entry : PhysicalExtent) (more : List ℕ)
    (other : FileUnit) → Follows units j (left_setting files file attributes last) → filter (is_later files.kind last) (each (extents_of files file) (λ e. e.0.number)) ≡ number ∷ more
    → get files.extents (record { user = file.user; name = file.name; number = number }) ≡ Some entry → entry_number files.kind found.extent ≡ number → j < length units
    → Next units j (SetsAttributes file number attributes) other (left_setting (applied files (SetsAttributes file number attributes)) file attributes (Some found))
setting_next units j files file attributes last found number entry more other follows first there is h =
    let after : Drive = with_extent files (record { user = file.user; name = file.name; number = number }) (with_attributes attributes entry) in
    let left : left_setting after file attributes (Some found) ≡ map (λ k. SetsAttributes file k attributes) more =
    ap (λ q. map (λ k. SetsAttributes file k attributes) (filter (λ k. nat_lt q k) (each (extents_of after file) (λ e. e.0.number)))) is
    ∙ ap (λ ns. map (λ k. SetsAttributes file k attributes) (filter (λ k. nat_lt number k) ns)) (numbers_same files file number entry (with_attributes attributes entry) there)
    ∙ ap (map (λ k. SetsAttributes file k attributes)) (numbers_later files.kind last number more (each (extents_of files file) (λ e. e.0.number)) (numbers_rise files file) first) in
    subst (λ (d : Drive). Next units j (SetsAttributes file number attributes) other (left_setting d file attributes (Some found))) (sym (set_drive files file number attributes entry there))
    (next_of units j (SetsAttributes file number attributes) other (left_setting after file attributes (Some found)) (left_setting files file attributes last) follows
    (ap (map (λ k. SetsAttributes file k attributes)) first ∙ ap (λ l. SetsAttributes file number attributes ∷ l) (sym left)) h)
