-- What a written record changes of what is seen: what is seen stays, but for the record itself; what is seen anew stands before it, or is
-- of a fresh block.
use Rattle.std.proofs.Common.{◌≡◌, ◌≢◌, ◌⊎◌, inl, inr, ℕ, ◌+◌, ◌/◌, ◌%◌, ◌<◌, ◌≤◌, Bool, true, false, ◌==◌, ◌&&◌, ◌||◌, List, [], Option, Some, None, refl, sym, ap, subst, ◌∙◌, arith}
use Rattle.std.specs.Prelude.{is_some, nat_lt, nat_le, option_map, option_and_then, slice_index_or, replicate, if◌then◌else◌}
use Rattle.std.proofs.lemmas.Bool.{true≢false, cases_eq, cases_lt}
use Rattle.std.proofs.lemmas.Bool.Decides.{nat_tests}
use Rattle.std.proofs.lemmas.Option.{same_Some}
use Rattle.std.proofs.lemmas.List.{get_or-set_other, get_or-replicate}
use Rattle.mpm_base.specs.declared.kind.Kind.{Kind}
use Rattle.mpm_base.proofs.Options.{still_some}
use Rattle.mpm_blocks.specs.Geometries.{block_records}
use Rattle.mpm_mount.specs.Drives.{PhysicalExtent, entry_number, count_in, block_place, record_in, visible_in}
use Rattle.mpm_mount.proofs.KeptRecords.{other_record, one_place}
use Rattle.mpm_sectors.specs.Writes.{zero_record}
use Rattle.mpm_files.specs.Units.{is_raising, raised, holds_block, fresh_records}
use Rattle.mpm_files.proofs.Seen.{seen}
use Rattle.mpm_files.proofs.Writes.{block_written}
use Rattle.mpm_files.proofs.HeldRecords.{index_within}

-- what is seen of a record, by three tests
abbrev pub shown_by : Bool → Bool → Option (List ℕ) → Option (List ℕ)
shown_by extent count bytes = if extent then (if count then bytes else None) else None

by_extent : (kind : Kind) (m : ℕ) (entry : PhysicalExtent) (b : Bool)
    → option_and_then (visible_in kind m) (if b then Some entry else None) ≡ shown_by b (nat_lt (m % 128) (count_in entry (m / 128))) (record_in kind m entry)
by_extent kind m entry true = refl
by_extent kind m entry false = refl

pub seen_tested : (kind : Kind) (m : ℕ) (entry : PhysicalExtent)
    → seen kind m entry ≡ shown_by (nat_le (m / 128) entry.last) (nat_lt (m % 128) (count_in entry (m / 128))) (record_in kind m entry)
seen_tested kind m entry = by_extent kind m entry (nat_le (m / 128) entry.last)

-- a record is below the record count of an entry
record IsBelow (m last count : ℕ) : Type 0 where
  extent : nat_le (m / 128) last ≡ true
  record_count : nat_lt (m % 128) (if m / 128 == last then count else 128) ≡ true

abbrev Below : ℕ → PhysicalExtent → Type 0
Below m entry = IsBelow m entry.last entry.count

shown_below : (m last count : ℕ) (bytes : Option (List ℕ)) (b c : Bool) → nat_le (m / 128) last ≡ b → nat_lt (m % 128) (if m / 128 == last then count else 128) ≡ c
    → is_some (shown_by b c bytes) ≡ true → IsBelow m last count × (shown_by b c bytes ≡ bytes)
shown_below m last count bytes true true e f shown = (record { extent = e; record_count = f }, refl)
shown_below m last count bytes true false e f shown = absurd (true≢false (sym shown))
shown_below m last count bytes false c e f shown = absurd (true≢false (sym shown))

-- last extent and record count after a record, as numbers
raised_as : (n : ℕ) (entry : PhysicalExtent) (c : Bool)
    → ((if c then record entry { last = n / 128; count = n % 128 + 1 } else entry).last ≡ (if c then n / 128 else entry.last))
    × ((if c then record entry { last = n / 128; count = n % 128 + 1 } else entry).count ≡ (if c then n % 128 + 1 else entry.count))
raised_as n entry true = (refl, refl)
raised_as n entry false = (refl, refl)

low : (m : ℕ) → m % 128 < 128
low m = omega arith

-- what is below the record count stays below it
still_extent : (q last x count r y : ℕ) → nat_le q last ≡ true → (nat_lt last x || ((x == last) && nat_le count y)) ≡ true → nat_le q x ≡ true
still_extent q last x count r y e raises = grind (arith, nat_tests)

still_count : (q last x count r y : ℕ) → r < 128 → nat_le q last ≡ true → nat_lt r (if q == last then count else 128) ≡ true
    → (nat_lt last x || ((x == last) && nat_le count y)) ≡ true → nat_lt r (if q == x then y + 1 else 128) ≡ true
still_count q last x count r y small e f raises = grind (arith, nat_tests)

still_below : (m n : ℕ) (entry : PhysicalExtent) (c : Bool) → is_raising n entry ≡ c → Below m entry → IsBelow m (if c then n / 128 else entry.last) (if c then n % 128 + 1 else entry.count)
still_below m n entry true raises below = record {
  extent = still_extent (m / 128) entry.last (n / 128) entry.count (m % 128) (n % 128) below.extent raises;
  record_count = still_count (m / 128) entry.last (n / 128) entry.count (m % 128) (n % 128) (low m) below.extent below.record_count raises;
}
still_below m n entry false raises below = below

-- the record itself is
own_extent : (x last count y : ℕ) → (nat_lt last x || ((x == last) && nat_le count y)) ≡ false → nat_le x last ≡ true
own_extent x last count y stays = grind (arith, nat_tests)

own_count : (x last count y : ℕ) → y < 128 → (nat_lt last x || ((x == last) && nat_le count y)) ≡ false → nat_lt y (if x == last then count else 128) ≡ true
own_count x last count y small stays = grind (arith, nat_tests)

own_raised : (x y : ℕ) → (nat_le x x ≡ true) × (nat_lt y (if x == x then y + 1 else 128) ≡ true)
own_raised x y = (grind (arith, nat_tests), grind (arith, nat_tests))

own_below : (n : ℕ) (entry : PhysicalExtent) (c : Bool) → is_raising n entry ≡ c → IsBelow n (if c then n / 128 else entry.last) (if c then n % 128 + 1 else entry.count)
own_below n entry true raises = let both = own_raised (n / 128) (n % 128) in record { extent = both.0; record_count = both.1 }
own_below n entry false stays = record {
  extent = own_extent (n / 128) entry.last entry.count (n % 128) stays;
  record_count = own_count (n / 128) entry.last entry.count (n % 128) (low n) stays;
}

-- what comes below it stands before the record
before_it : (q r x y : ℕ) → nat_le q x ≡ true → nat_lt r (if q == x then y + 1 else 128) ≡ true → (q < x) ⊎ ((q ≡ x) × (r ≤ y))
before_it q r x y e f = elim (cases_eq q x) [
  | inl same ↦ inr (same, grind (arith, nat_tests))
  | inr apart ↦ inl (grind (arith, nat_tests))
]

new_below : (m n : ℕ) (entry : PhysicalExtent) (c : Bool) → m ≢ n → (Below m entry → ⊥) → IsBelow m (if c then n / 128 else entry.last) (if c then n % 128 + 1 else entry.count) → m < n
new_below m n entry true apart none now = elim (before_it (m / 128) (m % 128) (n / 128) (n % 128) now.extent now.record_count) [
  | inl less ↦ omega arith
  | inr same ↦ less_than (omega (arith, same.0, same.1))
]
  where
    less_than : m ≤ n → m < n
    less_than h = elim (cases_lt m n) [ inl less ↦ less | inr more ↦ absurd (apart (omega arith)) ]
new_below m n entry false apart none now = absurd (none now)

-- an entry into which a record was written
pub record IsWritten (kind : Kind) (n : ℕ) (bytes : List ℕ) (old new : PhysicalExtent) : Type 0 where
  pub last : new.last ≡ (raised n old).last
  pub count : new.count ≡ (raised n old).count
  pub others : (place : ℕ) → place ≢ block_place kind n → slice_index_or new.blocks place None ≡ slice_index_or old.blocks place None
  pub block : slice_index_or new.blocks (block_place kind n) None ≡ block_written kind n bytes old (holds_block kind n old)

-- its records
record_stays : (kind : Kind) (n m : ℕ) (bytes : List ℕ) (old new : PhysicalExtent) → IsWritten kind n bytes old new → m ≢ n → entry_number kind (m / 128) ≡ entry_number kind (n / 128)
    → is_some (record_in kind m old) ≡ true → record_in kind m new ≡ record_in kind m old
record_stays kind n m bytes old new written apart number there =
    let q : ℕ = m % block_records kind in
    elim (cases_eq (block_place kind m) (block_place kind n)) [
      | inl same ↦
          let held : holds_block kind n old ≡ true =
          ap (λ p. is_some (slice_index_or old.blocks p None)) (sym same) ∙ sym (still_some (slice_index_or old.blocks (block_place kind m) None) (λ rs. slice_index_or rs q [])) ∙ there in
          ap (λ p. option_map (λ rs. slice_index_or rs q []) (slice_index_or new.blocks p None)) same
          ∙ ap (option_map (λ rs. slice_index_or rs q [])) (written.block ∙ ap (block_written kind n bytes old) held)
          ∙ other_record (slice_index_or old.blocks (block_place kind n) None) (n % block_records kind) q bytes (λ one. apart (one_place kind n m number same one))
          ∙ sym (ap (λ p. option_map (λ rs. slice_index_or rs q []) (slice_index_or old.blocks p None)) same)
      | inr other ↦ ap (option_map (λ rs. slice_index_or rs q [])) (written.others (block_place kind m) other)
    ]

zeros_there : (kind : Kind) (n m : ℕ) (bytes : List ℕ) → m % block_records kind ≢ n % block_records kind → slice_index_or (fresh_records kind n bytes) (m % block_records kind) [] ≡ zero_record
zeros_there kind n m bytes apart =
    get_or-set_other (replicate (block_records kind) zero_record) (n % block_records kind) (m % block_records kind) bytes [] apart
    ∙ get_or-replicate (block_records kind) (m % block_records kind) zero_record [] (index_within kind m)

record_new : (kind : Kind) (n m : ℕ) (bytes : List ℕ) (old new : PhysicalExtent) (b : List ℕ) → IsWritten kind n bytes old new → m ≢ n
    → entry_number kind (m / 128) ≡ entry_number kind (n / 128) → is_some (record_in kind m old) ≡ false → record_in kind m new ≡ Some b
    → (b ≡ zero_record) × (holds_block kind m old ≡ false)
record_new kind n m bytes old new b written apart number none now =
    let q : ℕ = m % block_records kind in
    let free : holds_block kind m old ≡ false = sym (still_some (slice_index_or old.blocks (block_place kind m) None) (λ rs. slice_index_or rs q [])) ∙ none in
    elim (cases_eq (block_place kind m) (block_place kind n)) [
      | inl same ↦
          let fresh : holds_block kind n old ≡ false = ap (λ p. is_some (slice_index_or old.blocks p None)) (sym same) ∙ free in
          let is : record_in kind m new ≡ Some zero_record =
          ap (λ p. option_map (λ rs. slice_index_or rs q []) (slice_index_or new.blocks p None)) same
          ∙ ap (option_map (λ rs. slice_index_or rs q [])) (written.block ∙ ap (block_written kind n bytes old) fresh)
          ∙ ap (λ (x : List ℕ). Some x) (zeros_there kind n m bytes (λ one. apart (one_place kind n m number same one))) in
          (same_Some b zero_record (sym now ∙ is), free)
      | inr other ↦
          absurd (true≢false (ap is_some (sym now ∙ ap (option_map (λ rs. slice_index_or rs q [])) (written.others (block_place kind m) other)) ∙ none))
    ]

record_there : (kind : Kind) (n : ℕ) (bytes : List ℕ) (old new : PhysicalExtent) → IsWritten kind n bytes old new → is_some (record_in kind n new) ≡ true
record_there kind n bytes old new written =
    still_some (slice_index_or new.blocks (block_place kind n) None) (λ rs. slice_index_or rs (n % block_records kind) [])
    ∙ ap is_some written.block ∙ by_held (holds_block kind n old) refl
  where
    by_held : (b : Bool) → holds_block kind n old ≡ b → is_some (block_written kind n bytes old b) ≡ true
    by_held true held = still_some (slice_index_or old.blocks (block_place kind n) None) _ ∙ held
    by_held false free = refl

-- what is seen of the entry
below_new : (kind : Kind) (n m : ℕ) (bytes : List ℕ) (old new : PhysicalExtent) → IsWritten kind n bytes old new
    → IsBelow m (if is_raising n old then n / 128 else old.last) (if is_raising n old then n % 128 + 1 else old.count) → Below m new
below_new kind n m bytes old new written below =
    let ends = raised_as n old (is_raising n old) in
    subst (λ l. IsBelow m l new.count) (sym (written.last ∙ ends.0))
    (subst (IsBelow m (if is_raising n old then n / 128 else old.last)) (sym (written.count ∙ ends.1)) below)

below_back : (kind : Kind) (n m : ℕ) (bytes : List ℕ) (old new : PhysicalExtent) → IsWritten kind n bytes old new → Below m new
    → IsBelow m (if is_raising n old then n / 128 else old.last) (if is_raising n old then n % 128 + 1 else old.count)
below_back kind n m bytes old new written below =
    let ends = raised_as n old (is_raising n old) in
    subst (λ l. IsBelow m l (if is_raising n old then n % 128 + 1 else old.count)) (written.last ∙ ends.0)
    (subst (IsBelow m new.last) (written.count ∙ ends.1) below)

seen_below : (kind : Kind) (m : ℕ) (entry : PhysicalExtent) → is_some (seen kind m entry) ≡ true → Below m entry × (seen kind m entry ≡ record_in kind m entry)
seen_below kind m entry shown =
    let both = shown_below m entry.last entry.count (record_in kind m entry) (nat_le (m / 128) entry.last) (nat_lt (m % 128) (count_in entry (m / 128))) refl refl
    (ap is_some (sym (seen_tested kind m entry)) ∙ shown) in
    (both.0, seen_tested kind m entry ∙ both.1)

seen_as : (kind : Kind) (m : ℕ) (entry : PhysicalExtent) → Below m entry → seen kind m entry ≡ record_in kind m entry
seen_as kind m entry below =
    seen_tested kind m entry ∙ ap (λ b. shown_by b (nat_lt (m % 128) (count_in entry (m / 128))) (record_in kind m entry)) below.extent
    ∙ ap (λ c. shown_by true c (record_in kind m entry)) below.record_count

pub seen_stays : (kind : Kind) (n m : ℕ) (bytes : List ℕ) (old new : PhysicalExtent) (b : List ℕ) → IsWritten kind n bytes old new → m ≢ n
    → entry_number kind (m / 128) ≡ entry_number kind (n / 128) → seen kind m old ≡ Some b → seen kind m new ≡ Some b
seen_stays kind n m bytes old new b written apart number shown =
    let was = seen_below kind m old (ap is_some shown) in
    seen_as kind m new (below_new kind n m bytes old new written (still_below m n old (is_raising n old) refl was.0))
    ∙ record_stays kind n m bytes old new written apart number (ap is_some (sym was.1 ∙ shown)) ∙ sym was.1 ∙ shown

pub seen_itself_now : (kind : Kind) (n : ℕ) (bytes : List ℕ) (old new : PhysicalExtent) → IsWritten kind n bytes old new → is_some (seen kind n new) ≡ true
seen_itself_now kind n bytes old new written =
    ap is_some (seen_as kind n new (below_new kind n n bytes old new written (own_below n old (is_raising n old) refl))) ∙ record_there kind n bytes old new written

unseen_by : (kind : Kind) (n m : ℕ) (bytes : List ℕ) (old new : PhysicalExtent) (b : List ℕ) → IsWritten kind n bytes old new → m ≢ n
    → entry_number kind (m / 128) ≡ entry_number kind (n / 128) → seen kind m old ≡ None → Below m new → record_in kind m new ≡ Some b
    → (held : Bool) → is_some (record_in kind m old) ≡ held → (m < n) ⊎ ((b ≡ zero_record) × (holds_block kind m old ≡ false))
unseen_by kind n m bytes old new b written apart number none below now true held =
    inl (new_below m n old (is_raising n old) apart
    (λ was. true≢false (sym held ∙ ap is_some (sym (seen_as kind m old was) ∙ none))) (below_back kind n m bytes old new written below))
unseen_by kind n m bytes old new b written apart number none below now false free = inr (record_new kind n m bytes old new b written apart number free now)

pub seen_new : (kind : Kind) (n m : ℕ) (bytes : List ℕ) (old new : PhysicalExtent) (b : List ℕ) → IsWritten kind n bytes old new → m ≢ n
    → entry_number kind (m / 128) ≡ entry_number kind (n / 128) → seen kind m old ≡ None → seen kind m new ≡ Some b
    → (m < n) ⊎ ((b ≡ zero_record) × (holds_block kind m old ≡ false))
seen_new kind n m bytes old new b written apart number none shown =
    let is = seen_below kind m new (ap is_some shown) in
    unseen_by kind n m bytes old new b written apart number none is.0 (sym is.1 ∙ shown) (is_some (record_in kind m old)) refl
