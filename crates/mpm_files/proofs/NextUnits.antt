-- The next unit of a call on records, by what its cursor says is left and by the drive as it then is.
use Rattle.std.proofs.Common.{◌≡◌, ℕ, zero, suc, ◌+◌, ◌-◌, ◌/◌, ◌<◌, Bool, true, false, ◌&&◌, not, List, [], ◌∷◌, ◌++◌, Option, Some, None, map, drop, length, refl, sym, ap, subst, ◌∙◌, arith}
use Rattle.std.specs.Prelude.{is_some, slice_index_or, if◌then◌else◌}
use Rattle.std.specs.List.{range_with_len}
use Rattle.std.specs.FinMap.{get}
use Rattle.std.proofs.lemmas.Bool.{true≢false, not-true}
use Rattle.mpm_mount.specs.Drives.{FileName, PhysicalExtent, Drive, places, entry_number, entry_name}
use Rattle.mpm_files.specs.Units.{FileUnit, AddsEntry, ClearsBlock, WritesRecord, ReadsRecord, PassesRecord, new_entry, stages, last_of, applied, all_applied}
use Rattle.mpm_files.specs.Plans.{TestedRecord, has_record, needs_entry, has_block, needs_block, clears_blocks, when, write_units}
use Rattle.mpm_files.specs.Serving.{left_writing, left_reading, left_passing, left_testing, Follows}
use Rattle.mpm_files.proofs.Left.{first_left}
use Rattle.mpm_files.proofs.Recorded.{at_itself}
use Rattle.mpm_files.proofs.Needs.{empty_entry}

-- the unit that is next, and what is left after it
abbrev pub Next : List FileUnit → ℕ → FileUnit → FileUnit → List FileUnit → Type 0
Next units j unit other left = (slice_index_or units j other ≡ unit) × Follows units (suc j) left

pub next_of : (units : List FileUnit) (j : ℕ) (unit other : FileUnit) (left all : List FileUnit) → Follows units j all → all ≡ unit ∷ left → j < length units → Next units j unit other left
next_of units j unit other left all follows same h = first_left units j unit other left (subst (Follows units j) same follows) h

-- a record whose directory entry isn't there: it is added
entry_units : (files : Drive) (cleared : Bool) (file : FileName) (n : ℕ) (bytes : List ℕ) (stamp : Option (List ℕ)) (o : Option PhysicalExtent)
    → get files.extents (entry_name files.kind file (n / 128)) ≡ o → is_some o ≡ false
    → write_units files cleared file n bytes stamp ≡ AddsEntry file (n / 128) ∷ write_units (applied files (AddsEntry file (n / 128))) cleared file n bytes stamp
unfolding applied stages last_of new_entry
entry_units files cleared file n bytes stamp (Some entry) is none = absurd (true≢false none)
entry_units files cleared file n bytes stamp None is none =
    let there = at_itself files file (entry_number files.kind (n / 128)) (new_entry files file (n / 128)) in
    let units : Option PhysicalExtent → List FileUnit = λ o.
    when (not (is_some o)) (AddsEntry file (n / 128)) ++ (when (clears_blocks files.kind && (not (has_block files.kind n o) && not cleared)) (ClearsBlock file n) ++ (WritesRecord file n bytes stamp ∷ [])) in
    ap units is
    ∙ sym (ap (λ us. AddsEntry file (n / 128) ∷ us) (ap units there
    ∙ ap (λ b. when (clears_blocks files.kind && (not b && not cleared)) (ClearsBlock file n) ++ (WritesRecord file n bytes stamp ∷ [])) (empty_entry files.kind n (places files.kind))))

after_units : (files : Drive) (cleared : Bool) (file : FileName) (n : ℕ) (bytes : List ℕ) (records : List (List ℕ)) (stamp : Option (List ℕ)) (units : List FileUnit)
    → write_units files cleared file n bytes stamp ≡ units
    → left_writing files cleared file n (bytes ∷ records) stamp ≡ units ++ left_writing (all_applied files units) false file (n + 1) records None
unfolding left_writing
after_units files cleared file n bytes records stamp units is = ap (λ us. us ++ left_writing (all_applied files us) false file (n + 1) records None) is

pub entry_next : (units : List FileUnit) (j : ℕ) (files : Drive) (cleared : Bool) (file : FileName) (n : ℕ) (bytes : List ℕ) (records : List (List ℕ)) (stamp : Option (List ℕ)) (other : FileUnit)
    → Follows units j (left_writing files cleared file n (bytes ∷ records) stamp) → needs_entry files file n ≡ true → j < length units
    → Next units j (AddsEntry file (n / 128)) other (left_writing (applied files (AddsEntry file (n / 128))) cleared file n (bytes ∷ records) stamp)
unfolding left_writing all_applied
entry_next units j files cleared file n bytes records stamp other follows needs h =
    let o : Option PhysicalExtent = get files.extents (entry_name files.kind file (n / 128)) in
    next_of units j (AddsEntry file (n / 128)) other (left_writing (applied files (AddsEntry file (n / 128))) cleared file n (bytes ∷ records) stamp)
    (left_writing files cleared file n (bytes ∷ records) stamp) follows
    (after_units files cleared file n bytes records stamp _ (entry_units files cleared file n bytes stamp o refl (not-true (is_some o) needs))) h

-- a record whose block is cleared first
clearing_units : (a b : Bool) (x y z : FileUnit) → a ≡ false → b ≡ true → when a x ++ (when b y ++ (z ∷ [])) ≡ y ∷ z ∷ []
clearing_units a b x y z no_entry clears =
    ap (λ q. when q x ++ (when b y ++ (z ∷ []))) no_entry ∙ ap (λ q. when q y ++ (z ∷ [])) clears

pub alone_units : (a b : Bool) (x y z : FileUnit) → a ≡ false → b ≡ false → when a x ++ (when b y ++ (z ∷ [])) ≡ z ∷ []
alone_units a b x y z no_entry no_block =
    ap (λ q. when q x ++ (when b y ++ (z ∷ []))) no_entry ∙ ap (λ q. when q y ++ (z ∷ [])) no_block

pub never : (c b : Bool) → (c && (b && not true)) ≡ false
never true true = refl
never true false = refl
never false b = refl

pub clearing_next : (units : List FileUnit) (j : ℕ) (files : Drive) (file : FileName) (n : ℕ) (bytes : List ℕ) (records : List (List ℕ)) (stamp : Option (List ℕ)) (other : FileUnit)
    → Follows units j (left_writing files false file n (bytes ∷ records) stamp) → needs_entry files file n ≡ false
    → (clears_blocks files.kind && (needs_block files file n && not false)) ≡ true → j < length units
    → Next units j (ClearsBlock file n) other (left_writing files true file n (bytes ∷ records) stamp)
unfolding all_applied applied stages last_of
clearing_next units j files file n bytes records stamp other follows no_entry clears h =
    let unit : FileUnit = WritesRecord file n bytes stamp in
    next_of units j (ClearsBlock file n) other (left_writing files true file n (bytes ∷ records) stamp) (left_writing files false file n (bytes ∷ records) stamp) follows
    (after_units files false file n bytes records stamp (ClearsBlock file n ∷ unit ∷ [])
    (clearing_units (needs_entry files file n) _ (AddsEntry file (n / 128)) (ClearsBlock file n) unit no_entry clears)
    ∙ ap (λ us. ClearsBlock file n ∷ us) (sym (after_units files true file n bytes records stamp (unit ∷ [])
    (alone_units (needs_entry files file n) _ (AddsEntry file (n / 128)) (ClearsBlock file n) unit no_entry (never (clears_blocks files.kind) (needs_block files file n)))))) h

-- a record that is written by itself
pub writing_next : (units : List FileUnit) (j : ℕ) (files : Drive) (cleared : Bool) (file : FileName) (n : ℕ) (bytes : List ℕ) (records : List (List ℕ)) (stamp : Option (List ℕ)) (other : FileUnit)
    → Follows units j (left_writing files cleared file n (bytes ∷ records) stamp) → needs_entry files file n ≡ false
    → (clears_blocks files.kind && (needs_block files file n && not cleared)) ≡ false → j < length units
    → Next units j (WritesRecord file n bytes stamp) other (left_writing (applied files (WritesRecord file n bytes stamp)) false file (n + 1) records None)
unfolding all_applied
writing_next units j files cleared file n bytes records stamp other follows no_entry no_block h =
    let unit : FileUnit = WritesRecord file n bytes stamp in
    next_of units j unit other (left_writing (applied files unit) false file (n + 1) records None) (left_writing files cleared file n (bytes ∷ records) stamp) follows
    (after_units files cleared file n bytes records stamp (unit ∷ []) (alone_units (needs_entry files file n) _ (AddsEntry file (n / 128)) (ClearsBlock file n) unit no_entry no_block)) h

-- the records of a job, by how many are done
less_by : (k n : ℕ) → k < n → (left : ℕ) × (n - k ≡ suc left) × (n - (k + 1) ≡ left)
less_by k zero h = absurd (omega arith)
less_by k (suc n) h = (n - k, omega arith, omega arith)

pub reads_left : (file : FileName) (first done count : ℕ) → done < count
    → left_reading file (first + done) (count - done) ≡ ReadsRecord file (first + done) ∷ left_reading file (first + (done + 1)) (count - (done + 1))
reads_left file first done count h =
    let left = less_by done count h in
    let next : first + done + 1 ≡ first + (done + 1) = omega arith in
    ap (left_reading file (first + done)) left.1
    ∙ ap (λ m. ReadsRecord file (first + done) ∷ left_reading file m left.0) next
    ∙ sym (ap (λ c. ReadsRecord file (first + done) ∷ left_reading file (first + (done + 1)) c) left.2)

pub passes_left : (file : FileName) (first done count : ℕ) → done < count
    → left_passing file (first + done) (count - done) ≡ PassesRecord file (first + done) ∷ left_passing file (first + (done + 1)) (count - (done + 1))
passes_left file first done count h =
    let left = less_by done count h in
    let next : first + done + 1 ≡ first + (done + 1) = omega arith in
    ap (left_passing file (first + done)) left.1
    ∙ ap (λ m. PassesRecord file (first + done) ∷ left_passing file m left.0) next
    ∙ sym (ap (λ c. PassesRecord file (first + done) ∷ left_passing file (first + (done + 1)) c) left.2)

-- a record that is tested: it has the bytes, or is the first that is passed
pub match_left : (files : Drive) (file : FileName) (n : ℕ) (test : TestedRecord) (tests : List TestedRecord) (stamp : Option (List ℕ)) → has_record files file n test.expected ≡ true
    → left_testing files file n (test ∷ tests) stamp ≡ WritesRecord file n test.bytes stamp ∷ left_testing (applied files (WritesRecord file n test.bytes stamp)) file (n + 1) tests None
unfolding left_testing
match_left files file n test tests stamp has =
    let unit : FileUnit = WritesRecord file n test.bytes stamp in
    ap (λ b. if b then unit ∷ left_testing (applied files unit) file (n + 1) tests None else left_passing file n (suc (length tests))) has

pub mismatch_left : (files : Drive) (file : FileName) (n : ℕ) (test : TestedRecord) (tests : List TestedRecord) (stamp : Option (List ℕ)) → has_record files file n test.expected ≡ false
    → left_testing files file n (test ∷ tests) stamp ≡ left_passing file n (suc (length tests))
unfolding left_testing
mismatch_left files file n test tests stamp has =
    let unit : FileUnit = WritesRecord file n test.bytes stamp in
    ap (λ b. if b then unit ∷ left_testing (applied files unit) file (n + 1) tests None else left_passing file n (suc (length tests))) has

-- the items of a list from a place on
pub items_left : {X : Type 0} (f : ℕ → X) (k n : ℕ) → k < n → drop k (map f (range_with_len 0 n)) ≡ f k ∷ drop (k + 1) (map f (range_with_len 0 n))
items_left f k n h = from_place 0 k n h ∙ ap (λ x. f x ∷ drop (k + 1) (map f (range_with_len 0 n))) (none_before k)
  where
    none_before : (i : ℕ) → 0 + i ≡ i
    none_before i = omega arith

    from_place : (a i m : ℕ) → i < m → drop i (map f (range_with_len a m)) ≡ f (a + i) ∷ drop (i + 1) (map f (range_with_len a m))
    from_place a i zero less = absurd (omega arith)
    from_place a zero (suc m) less = ap (λ x. f x ∷ map f (range_with_len (a + 1) m)) (omega arith)
    from_place a (suc i) (suc m) less =
        let here : a + 1 + i ≡ a + suc i = omega arith in
        let more : suc (i + 1) ≡ suc i + 1 = omega arith in
        from_place (a + 1) i m (omega arith) ∙ ap (λ x. f x ∷ drop (i + 1) (map f (range_with_len (a + 1) m))) here
        ∙ ap (λ q. f (a + suc i) ∷ drop q (map f (range_with_len a (suc m)))) more

-- of a job whose units don't depend on the drive
pub units_left : (units : List FileUnit) (j : ℕ) (other : FileUnit) → j < length units → drop j units ≡ slice_index_or units j other ∷ drop (j + 1) units
units_left [] j other h = absurd (omega arith)
units_left (u ∷ units) zero other h = refl
units_left (u ∷ units) (suc j) other h =
    let more : suc (j + 1) ≡ suc j + 1 = omega arith in
    units_left units j other (omega arith) ∙ ap (λ k. slice_index_or units j other ∷ drop k (u ∷ units)) more
