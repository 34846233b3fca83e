-- After all units of a record: which records need a directory entry or a block, and what is free.
use Rattle.std.proofs.Common.{◌≡◌, ◌≢◌, ◌⊎◌, inl, inr, ℕ, ◌+◌, ◌-◌, ◌*◌, ◌/◌, ◌≤◌, Bool, true, false, ◌==◌, ◌&&◌, not, List, [], ◌∷◌, ◌++◌, Option, Some, None, length, refl, sym, ap, subst, ◌∙◌, arith}
use Rattle.std.specs.Prelude.{is_some, slice_index_or, replicate, if◌then◌else◌}
use Rattle.std.specs.FinMap.{get, len}
use Rattle.std.proofs.lemmas.Bool.{cases_eq, cases_lt, eq-eqb, ne_eqb}
use Rattle.std.proofs.lemmas.List.{get_or-replicate, get_or_past, length-replicate}
use Rattle.std.proofs.Math.Bool.{and-true, and-false}
use Rattle.mpm_base.specs.declared.kind.Kind.{Kind}
use Rattle.mpm_base.specs.declared.kind.Kind.TheVariants.{Ibm3740, Hd4, Hd8}
use Rattle.mpm_base.specs.Counts.{one_if}
use Rattle.mpm_blocks.specs.Geometries.{geometry_of, block_records}
use Rattle.mpm_mount.specs.Drives.{FileName, PhysicalExtent, Drive, places, entry_number, entry_name, block_place, free_records, free_entries}
use Rattle.mpm_files.specs.Units.{FileUnit, AddsEntry, ClearsBlock, WritesRecord, new_entry, holds_block, stages, last_of, applied, all_applied}
use Rattle.mpm_files.specs.Plans.{needs_entry, has_block, needs_block, clears_blocks, when, write_units}
use Rattle.mpm_files.specs.Counting.{same_entry, same_block}
use Rattle.mpm_files.proofs.Recorded.{held, Puts, put_new, puts_after, none_held}
use Rattle.mpm_files.proofs.Writes.{Written, record_written}

-- each entry of a file has all its places
abbrev pub IsWhole : FileName → Drive → Type 0
IsWhole file d = (k : ℕ) (entry : PhysicalExtent) → get d.extents (record { user = file.user; name = file.name; number = k }) ≡ Some entry → length entry.blocks ≡ places d.kind

pub record Done (file : FileName) (n : ℕ) (before after : Drive) : Type 0 where
  pub kind : after.kind ≡ before.kind
  pub whole : IsWhole file after
  pub entries : (m : ℕ) → needs_entry after file m ≡ (needs_entry before file m && not (same_entry before.kind m n))
  pub blocks : (m : ℕ) → needs_block after file m ≡ (needs_block before file m && not (same_block before.kind m n))
  pub entries_left : free_entries after ≡ free_entries before - one_if (needs_entry before file n)
  pub records_left : free_records after ≡ free_records before - (if needs_block before file n then block_records before.kind else 0)

-- what is held at a place before
abbrev block_before : Option PhysicalExtent → ℕ → Option (List (List ℕ))
block_before None place = None
block_before (Some entry) place = slice_index_or entry.blocks place None

-- the entry that the units leave
record Leaves (file : FileName) (n : ℕ) (o : Option PhysicalExtent) (before after : Drive) : Type 0 where
  entry : PhysicalExtent
  puts : Puts file (entry_number before.kind (n / 128)) entry (one_if (not (is_some o))) (one_if (not (has_block before.kind n o))) before after
  room : length entry.blocks ≡ places before.kind
  holds : holds_block before.kind n entry ≡ true
  others : (place : ℕ) → place ≢ block_place before.kind n → slice_index_or entry.blocks place None ≡ block_before o place

without_one : (t l x b k a : ℕ) → t - (l + a + x + b + k) ≡ t - (l + x + b + k) - a
without_one t l x b k a = omega arith

pub none_at : (n i : ℕ) → slice_index_or (replicate {A = Option (List (List ℕ))} n None) i None ≡ None
none_at n i = elim (cases_lt i n) [
  | inl less ↦ get_or-replicate n i None None less
  | inr more ↦ get_or_past (replicate n None) i None (subst (λ q. q ≤ i) (sym (length-replicate n None)) more)
]

-- records that are free, with a block less
records_less : (kind : Kind) (h : ℕ) (b : Bool)
    → ((geometry_of kind).dsm + 1 - (geometry_of kind).directory_blocks - (h + one_if b)) * block_records kind
    ≡ ((geometry_of kind).dsm + 1 - (geometry_of kind).directory_blocks - h) * block_records kind - (if b then block_records kind else 0)
records_less Ibm3740 h true = omega arith
records_less Ibm3740 h false = omega arith
records_less Hd4 h true = omega arith
records_less Hd4 h false = omega arith
records_less Hd8 h true = omega arith
records_less Hd8 h false = omega arith

before_too : (kind : Kind) (m : ℕ) (x : Option PhysicalExtent) → not (is_some (block_before x (block_place kind m))) ≡ not (has_block kind m x)
before_too kind m None = refl
before_too kind m (Some entry) = refl

left_done : (file : FileName) (n : ℕ) (o : Option PhysicalExtent) (before after : Drive) → get before.extents (entry_name before.kind file (n / 128)) ≡ o → IsWhole file before
    → Leaves file n o before after → Done file n before after
unfolding free_records free_entries
left_done file n o before after is whole leaves =
    let kind : Kind = before.kind in
    let number : ℕ = entry_number kind (n / 128) in
    let puts = leaves.puts in
    let at : ℕ → Drive → Option PhysicalExtent = λ k d. get d.extents (record { user = file.user; name = file.name; number = k }) in
    let needed : needs_entry before file n ≡ not (is_some o) = ap (λ (x : Option PhysicalExtent). not (is_some x)) is in
    let blocked : needs_block before file n ≡ not (has_block kind n o) = ap (λ (x : Option PhysicalExtent). not (has_block kind n x)) is in
    record {
      kind = puts.kind;
      whole = λ k entry there. elim (cases_eq k number) [
        | inl same ↦ ap (λ (x : Option PhysicalExtent). length (unwrapped x).blocks) (sym there ∙ ap (λ q. at q after) same ∙ puts.here) ∙ leaves.room ∙ sym (ap places puts.kind)
        | inr apart ↦ whole k entry (sym (puts.others k apart) ∙ there) ∙ sym (ap places puts.kind)
      ];
      entries = λ m.
          ap (λ q. not (is_some (at (entry_number q (m / 128)) after))) puts.kind
          ∙ elim (cases_eq (entry_number kind (m / 128)) number) [
            | inl same ↦ ap (λ (x : Option PhysicalExtent). not (is_some x)) (ap (λ q. at q after) same ∙ puts.here)
                ∙ sym (ap (λ b. needs_entry before file m && not b) (eq-eqb (entry_number kind (m / 128)) number same) ∙ and-false (needs_entry before file m))
            | inr apart ↦ ap (λ (x : Option PhysicalExtent). not (is_some x)) (puts.others (entry_number kind (m / 128)) apart)
                ∙ sym (ap (λ b. needs_entry before file m && not b) (ne_eqb (entry_number kind (m / 128)) number apart) ∙ and-true (needs_entry before file m))
          ];
      blocks = λ m.
          ap (λ q. not (has_block q m (at (entry_number q (m / 128)) after))) puts.kind
          ∙ elim (cases_eq (entry_number kind (m / 128)) number) [
            | inl same ↦ ap (λ (x : Option PhysicalExtent). not (has_block kind m x)) (ap (λ q. at q after) same ∙ puts.here)
                ∙ in_entry m same (cases_eq (block_place kind m) (block_place kind n))
            | inr apart ↦ ap (λ (x : Option PhysicalExtent). not (has_block kind m x)) (puts.others (entry_number kind (m / 128)) apart)
                ∙ sym (ap (λ b. needs_block before file m && not (b && (block_place kind m == block_place kind n))) (ne_eqb (entry_number kind (m / 128)) number apart) ∙ and-true (needs_block before file m))
          ];
      entries_left =
          ap (λ q. (geometry_of q).drm + 1 - (len after.extents + len after.xfcbs + (if is_some after.label then 1 else 0) + after.kept)) puts.kind
          ∙ ap (λ q. (geometry_of kind).drm + 1 - (q + len after.xfcbs + (if is_some after.label then 1 else 0) + after.kept)) puts.counted
          ∙ ap (λ q. (geometry_of kind).drm + 1 - (len before.extents + one_if (not (is_some o)) + q + (if is_some after.label then 1 else 0) + after.kept)) puts.xfcbs
          ∙ ap (λ q. (geometry_of kind).drm + 1 - (len before.extents + one_if (not (is_some o)) + len before.xfcbs + (if is_some q then 1 else 0) + after.kept)) puts.label
          ∙ ap (λ q. (geometry_of kind).drm + 1 - (len before.extents + one_if (not (is_some o)) + len before.xfcbs + (if is_some before.label then 1 else 0) + q)) puts.kept
          ∙ without_one ((geometry_of kind).drm + 1) (len before.extents) (len before.xfcbs) (if is_some before.label then 1 else 0) before.kept (one_if (not (is_some o)))
          ∙ sym (ap (λ b. free_entries before - one_if b) needed);
      records_left =
          ap (λ q. ((geometry_of q).dsm + 1 - (geometry_of q).directory_blocks - held after) * block_records q) puts.kind
          ∙ ap (λ q. ((geometry_of kind).dsm + 1 - (geometry_of kind).directory_blocks - q) * block_records kind) puts.blocks
          ∙ records_less kind (held before) (not (has_block kind n o))
          ∙ sym (ap (λ b. free_records before - (if b then block_records kind else 0)) blocked);
    }
  where
    unwrapped : Option PhysicalExtent → PhysicalExtent
    unwrapped None = leaves.entry
    unwrapped (Some entry) = entry

    in_entry : (m : ℕ) → entry_number before.kind (m / 128) ≡ entry_number before.kind (n / 128)
        → (block_place before.kind m ≡ block_place before.kind n) ⊎ (block_place before.kind m ≡ block_place before.kind n → ⊥)
        → not (holds_block before.kind m leaves.entry) ≡ (needs_block before file m && not (same_block before.kind m n))
    in_entry m same (inl one) =
        ap (λ q. not (is_some (slice_index_or leaves.entry.blocks q None))) one ∙ ap not leaves.holds
        ∙ sym (ap (λ b. needs_block before file m && not (b && (block_place before.kind m == block_place before.kind n))) (eq-eqb (entry_number before.kind (m / 128)) (entry_number before.kind (n / 128)) same)
        ∙ ap (λ b. needs_block before file m && not b) (eq-eqb (block_place before.kind m) (block_place before.kind n) one) ∙ and-false (needs_block before file m))
    in_entry m same (inr apart) =
        ap (λ b. not (is_some b)) (leaves.others (block_place before.kind m) apart)
        ∙ before_too before.kind m o
        ∙ sym (ap (λ (x : Option PhysicalExtent). not (has_block before.kind m x))
        (ap (λ q. get before.extents (record { user = file.user; name = file.name; number = q })) same ∙ is))
        ∙ sym (ap (λ b. needs_block before file m && not (b && (block_place before.kind m == block_place before.kind n))) (eq-eqb (entry_number before.kind (m / 128)) (entry_number before.kind (n / 128)) same)
        ∙ ap (λ b. needs_block before file m && not b) (ne_eqb (block_place before.kind m) (block_place before.kind n) apart) ∙ and-true (needs_block before file m))

-- the units of one record, whether its entry is there or added
pub empty_entry : (kind : Kind) (n count : ℕ) → is_some (slice_index_or (replicate {A = Option (List (List ℕ))} count None) (block_place kind n) None) ≡ false
empty_entry kind n count = ap is_some (none_at count (block_place kind n))

applied_clearing : (d : Drive) (b : Bool) (file : FileName) (n : ℕ) (last : List FileUnit) → all_applied d (when b (ClearsBlock file n) ++ last) ≡ all_applied d last
unfolding all_applied applied stages last_of
applied_clearing d true file n last = refl
applied_clearing d false file n last = refl

leaves_there : (d : Drive) (file : FileName) (n : ℕ) (bytes : List ℕ) (stamp : Option (List ℕ)) (old : PhysicalExtent) (o : Option PhysicalExtent)
    → get d.extents (entry_name d.kind file (n / 128)) ≡ Some old → o ≡ Some old → length old.blocks ≡ places d.kind
    → (clears : Bool) → Leaves file n (Some old) d (all_applied d (when (not (is_some o)) (AddsEntry file (n / 128)) ++ (when clears (ClearsBlock file n) ++ (WritesRecord file n bytes stamp ∷ []))))
unfolding all_applied
leaves_there d file n bytes stamp old o is there room clears =
    let written : Written file n bytes old d (applied d (WritesRecord file n bytes stamp)) = record_written d file n bytes stamp old is room in
    let leaves : Leaves file n (Some old) d (applied d (WritesRecord file n bytes stamp)) =
    record { entry = written.entry; puts = written.puts; room = written.room ∙ room; holds = written.holds; others = written.others } in
    subst (λ x. Leaves file n (Some old) d (all_applied d (when (not (is_some x)) (AddsEntry file (n / 128)) ++ (when clears (ClearsBlock file n) ++ (WritesRecord file n bytes stamp ∷ []))))) (sym there)
    (subst (Leaves file n (Some old) d) (sym (applied_clearing d clears file n (WritesRecord file n bytes stamp ∷ []))) leaves)

added_too : (d : Drive) (file : FileName) (n : ℕ) (bytes : List ℕ) (stamp : Option (List ℕ)) → get d.extents (entry_name d.kind file (n / 128)) ≡ None
    → Leaves file n None d (applied (applied d (AddsEntry file (n / 128))) (WritesRecord file n bytes stamp))
unfolding applied stages last_of new_entry
added_too d file n bytes stamp none =
    let number : ℕ = entry_number d.kind (n / 128) in
    let fresh : PhysicalExtent = new_entry d file (n / 128) in
    let added : Drive = applied d (AddsEntry file (n / 128)) in
    let put : Puts file number fresh 1 0 d added = put_new d file number fresh none (none_held (places d.kind)) in
    let written : Written file n bytes fresh added (applied added (WritesRecord file n bytes stamp)) =
    record_written added file n bytes stamp fresh put.here (length-replicate (places d.kind) None) in
    record {
      entry = written.entry;
      puts = puts_after file number 1 0 0 1 fresh written.entry d added (applied added (WritesRecord file n bytes stamp)) put
          (subst (λ b. Puts file number written.entry 0 (one_if (not b)) added (applied added (WritesRecord file n bytes stamp))) (empty_entry d.kind n (places d.kind)) written.puts);
      room = written.room ∙ length-replicate (places d.kind) None;
      holds = written.holds;
      others = λ place apart. written.others place apart ∙ none_at (places d.kind) place;
    }

leaves_new : (d : Drive) (file : FileName) (n : ℕ) (bytes : List ℕ) (stamp : Option (List ℕ)) (o : Option PhysicalExtent)
    → get d.extents (entry_name d.kind file (n / 128)) ≡ None → o ≡ None
    → (clears : Bool) → Leaves file n None d (all_applied d (when (not (is_some o)) (AddsEntry file (n / 128)) ++ (when clears (ClearsBlock file n) ++ (WritesRecord file n bytes stamp ∷ []))))
unfolding all_applied
leaves_new d file n bytes stamp o none there clears =
    subst (λ x. Leaves file n None d (all_applied d (when (not (is_some x)) (AddsEntry file (n / 128)) ++ (when clears (ClearsBlock file n) ++ (WritesRecord file n bytes stamp ∷ []))))) (sym there)
    (subst (Leaves file n None d) (sym (applied_clearing (applied d (AddsEntry file (n / 128))) clears file n (WritesRecord file n bytes stamp ∷ []))) (added_too d file n bytes stamp none))

by_what_is_there : (d : Drive) (file : FileName) (n : ℕ) (bytes : List ℕ) (stamp : Option (List ℕ)) (cleared : Bool) → IsWhole file d → (o : Option PhysicalExtent)
    → get d.extents (entry_name d.kind file (n / 128)) ≡ o → Done file n d (all_applied d (write_units d cleared file n bytes stamp))
by_what_is_there d file n bytes stamp cleared whole None is =
    left_done file n None d (all_applied d (write_units d cleared file n bytes stamp)) is whole
    (leaves_new d file n bytes stamp (get d.extents (entry_name d.kind file (n / 128))) is is (clears_blocks d.kind && (needs_block d file n && not cleared)))
by_what_is_there d file n bytes stamp cleared whole (Some old) is =
    left_done file n (Some old) d (all_applied d (write_units d cleared file n bytes stamp)) is whole
    (leaves_there d file n bytes stamp old (get d.extents (entry_name d.kind file (n / 128))) is is (whole (entry_number d.kind (n / 128)) old is)
    (clears_blocks d.kind && (needs_block d file n && not cleared)))

pub record_done : (d : Drive) (file : FileName) (n : ℕ) (bytes : List ℕ) (stamp : Option (List ℕ)) (cleared : Bool) → IsWhole file d
    → Done file n d (all_applied d (write_units d cleared file n bytes stamp))
record_done d file n bytes stamp cleared whole = by_what_is_there d file n bytes stamp cleared whole (get d.extents (entry_name d.kind file (n / 128))) refl
