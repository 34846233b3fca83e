-- What is counted in advance of a call that writes is what its units come to.
use Rattle.std.proofs.Common.{◌≡◌, ℕ, ◌+◌, ◌-◌, ◌/◌, ◌≤◌, Bool, true, false, ◌==◌, ◌&&◌, not, List, [], ◌∷◌, ◌++◌, Option, Some, None, length, refl, sym, ap, ◌∙◌, arith}
use Rattle.std.specs.Prelude.{if◌then◌else◌}
use Rattle.std.proofs.lemmas.Bool.{true≢false, and_parts, and_from, eq-eqb, eqb-true}
use Rattle.std.proofs.lemmas.List.{length-append}
use Rattle.std.proofs.Math.Bool.{and-true}
use Rattle.mpm_base.specs.declared.kind.Kind.{Kind}
use Rattle.mpm_base.specs.declared.kind.Kind.TheVariants.{Ibm3740, Hd4, Hd8}
use Rattle.mpm_base.specs.Counts.{one_if}
use Rattle.mpm_blocks.specs.Geometries.{block_records}
use Rattle.mpm_mount.specs.Drives.{FileName, Drive, entry_number, block_place, free_records, free_entries}
use Rattle.mpm_file_functions.specs.declared.errors.RecordError.{RecordError}
use Rattle.mpm_files.specs.declared.counting.Count.{Count}
use Rattle.mpm_files.specs.Units.{FileUnit, AddsEntry, ClearsBlock, WritesRecord, all_applied}
use Rattle.mpm_files.specs.Plans.{CallPlan, behind, unless_failing, needs_entry, needs_block, clears_blocks, when, write_error, write_units, writing}
use Rattle.mpm_files.specs.Counting.{counted, unless_refused, same_entry, same_block, entry_more, block_more, room_error, record_units, write_count}
use Rattle.mpm_files.proofs.Needs.{IsWhole, Done, record_done}

abbrev pub count_of : CallPlan → Count
count_of plan = record { units = length plan.units; error = plan.error }

-- a record before others
pub counted_behind : (error : Option RecordError) (units : List FileUnit) (plan : CallPlan) (count : Count) (n : ℕ) → length units ≡ n → count_of plan ≡ count
    → count_of (unless_failing error (behind units plan)) ≡ unless_refused error n count
counted_behind None units plan count n size same =
    ap (λ k. record { units = k; error = plan.error }) (length-append units plan.units ∙ ap (λ k. k + length plan.units) size) ∙ ap (counted n) same
counted_behind (Some error) units plan count n size same = refl

-- of three records in order, the last has the first one's entry: then the second one's too
between_entries : (kind : Kind) (p n m : ℕ) → p ≤ n → n ≤ m → same_entry kind m p ≡ true → same_entry kind m n ≡ true
between_entries Ibm3740 p n m low high same = eq-eqb _ _ (omega (arith, eqb-true (m / 128 / 1) (p / 128 / 1) same))
between_entries Hd4 p n m low high same = eq-eqb _ _ (omega (arith, eqb-true (m / 128 / 1) (p / 128 / 1) same))
between_entries Hd8 p n m low high same = eq-eqb _ _ (omega (arith, eqb-true (m / 128 / 2) (p / 128 / 2) same))

places_between : (kind : Kind) (p n m : ℕ) → p ≤ n → n ≤ m → entry_number kind (m / 128) ≡ entry_number kind (p / 128) → block_place kind m ≡ block_place kind p
    → block_place kind m ≡ block_place kind n
places_between Ibm3740 p n m low high same place = omega arith
places_between Hd4 p n m low high same place = omega arith
places_between Hd8 p n m low high same place = omega arith

between_blocks : (kind : Kind) (p n m : ℕ) → p ≤ n → n ≤ m → same_block kind m p ≡ true → same_block kind m n ≡ true
between_blocks kind p n m low high same =
    let parts = and_parts (same_entry kind m p) (block_place kind m == block_place kind p) same in
    and_from (same_entry kind m n) (block_place kind m == block_place kind n) (between_entries kind p n m low high parts.0)
    (eq-eqb (block_place kind m) (block_place kind n) (places_between kind p n m low high (eqb-true (entry_number kind (m / 128)) (entry_number kind (p / 128)) parts.0)
    (eqb-true (block_place kind m) (block_place kind p) parts.1)))

merged : (a l x y : Bool) → (x ≡ true → y ≡ true) → ((a && not (l && x)) && not y) ≡ (a && not (true && y))
merged false l x y so = refl
merged true false x y so = refl
merged true true true true so = refl
merged true true true false so = absurd (true≢false (sym (so refl)))
merged true true false y so = refl

three_parts : (a b : Bool) (x y z : FileUnit) → length (when a x ++ (when b y ++ (z ∷ []))) ≡ 1 + one_if a + one_if b
three_parts true true x y z = refl
three_parts true false x y z = refl
three_parts false true x y z = refl
three_parts false false x y z = refl

-- a drive in the midst of a call, against what its records needed before it
record IsAhead (kind : Kind) (file : FileName) (entries blocks : ℕ → Bool) (later : Bool) (n : ℕ) (d : Drive) : Type 0 where
  kind_is : d.kind ≡ kind
  whole : IsWhole file d
  entries_are : (m : ℕ) → n ≤ m → needs_entry d file m ≡ (entries m && not (later && same_entry kind m (n - 1)))
  blocks_are : (m : ℕ) → n ≤ m → needs_block d file m ≡ (blocks m && not (later && same_block kind m (n - 1)))

one_on : (n : ℕ) → n + 1 - 1 ≡ n
one_on n = omega arith

step_ahead : (kind : Kind) (file : FileName) (entries blocks : ℕ → Bool) (later : Bool) (n : ℕ) (d after : Drive) → IsAhead kind file entries blocks later n d
    → Done file n d after → IsAhead kind file entries blocks true (n + 1) after
step_ahead kind file entries blocks later n d after ahead done = record {
  kind_is = done.kind ∙ ahead.kind_is;
  whole = done.whole;
  entries_are = λ m h.
      done.entries m ∙ ap (λ q. needs_entry d file m && not (same_entry q m n)) ahead.kind_is
      ∙ ap (λ b. b && not (same_entry kind m n)) (ahead.entries_are m (omega arith))
      ∙ merged (entries m) later (same_entry kind m (n - 1)) (same_entry kind m n) (between_entries kind (n - 1) n m (omega arith) (omega arith))
      ∙ ap (λ q. entries m && not (true && same_entry kind m q)) (sym (one_on n));
  blocks_are = λ m h.
      done.blocks m ∙ ap (λ q. needs_block d file m && not (same_block q m n)) ahead.kind_is
      ∙ ap (λ b. b && not (same_block kind m n)) (ahead.blocks_are m (omega arith))
      ∙ merged (blocks m) later (same_block kind m (n - 1)) (same_block kind m n) (between_blocks kind (n - 1) n m (omega arith) (omega arith))
      ∙ ap (λ q. blocks m && not (true && same_block kind m q)) (sym (one_on n));
}

writing_counted : (records : List (List ℕ)) (kind : Kind) (file : FileName) (entries blocks : ℕ → Bool) (later : Bool) (n : ℕ) (stamp : Option (List ℕ)) (d : Drive)
    → IsAhead kind file entries blocks later n d
    → count_of (writing d file n records stamp) ≡ write_count kind entries blocks (free_entries d) (free_records d) later n (length records)
unfolding writing write_count
writing_counted [] kind file entries blocks later n stamp d ahead = refl
writing_counted (bytes ∷ records) kind file entries blocks later n stamp d ahead =
    let units : List FileUnit = write_units d false file n bytes stamp in
    let after : Drive = all_applied d units in
    let done : Done file n d after = record_done d file n bytes stamp false ahead.whole in
    let entry : Bool = entry_more kind entries later n in
    let block : Bool = block_more kind blocks later n in
    let e : needs_entry d file n ≡ entry = ahead.entries_are n (omega arith) in
    let b : needs_block d file n ≡ block = ahead.blocks_are n (omega arith) in
    let size : length units ≡ record_units kind entry block =
    three_parts (needs_entry d file n) (clears_blocks d.kind && (needs_block d file n && not false)) (AddsEntry file (n / 128)) (ClearsBlock file n) (WritesRecord file n bytes stamp)
    ∙ ap (λ x. 1 + one_if (needs_entry d file n) + one_if (clears_blocks d.kind && x)) (and-true (needs_block d file n))
    ∙ ap (λ x. 1 + one_if x + one_if (clears_blocks d.kind && needs_block d file n)) e ∙ ap (λ x. 1 + one_if entry + one_if (clears_blocks d.kind && x)) b
    ∙ ap (λ q. 1 + one_if entry + one_if (clears_blocks q && block)) ahead.kind_is in
    let rest : Count = write_count kind entries blocks (free_entries d - one_if entry) (free_records d - (if block then block_records kind else 0)) true (n + 1) (length records) in
    let left : count_of (writing after file (n + 1) records None) ≡ rest =
    writing_counted records kind file entries blocks true (n + 1) None after (step_ahead kind file entries blocks later n d after ahead done)
    ∙ ap (λ q. write_count kind entries blocks q (free_records after) true (n + 1) (length records)) (done.entries_left ∙ ap (λ x. free_entries d - one_if x) e)
    ∙ ap (λ q. write_count kind entries blocks (free_entries d - one_if entry) q true (n + 1) (length records))
    (done.records_left ∙ ap (λ x. free_records d - (if x then block_records d.kind else 0)) b ∙ ap (λ q. free_records d - (if block then block_records q else 0)) ahead.kind_is) in
    counted_behind (write_error d file n) units (writing after file (n + 1) records None) rest (record_units kind entry block) size left
    ∙ ap (λ x. unless_refused (room_error x (needs_block d file n) (free_entries d) (free_records d)) (record_units kind entry block) rest) e
    ∙ ap (λ x. unless_refused (room_error entry x (free_entries d) (free_records d)) (record_units kind entry block) rest) b

-- what is counted before a call that writes is how many units it has, and why it ends
pub counted_writing : (d : Drive) (file : FileName) (n : ℕ) (records : List (List ℕ)) (stamp : Option (List ℕ)) → IsWhole file d
    → count_of (writing d file n records stamp) ≡ write_count d.kind (needs_entry d file) (needs_block d file) (free_entries d) (free_records d) false n (length records)
counted_writing d file n records stamp whole =
    writing_counted records d.kind file (needs_entry d file) (needs_block d file) false n stamp d
    (record { kind_is = refl; whole = whole; entries_are = λ m h. sym (and-true (needs_entry d file m)); blocks_are = λ m h. sym (and-true (needs_block d file m)) })
