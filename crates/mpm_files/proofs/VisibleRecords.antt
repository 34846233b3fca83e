-- In a call that writes each record is seen, after any number of turns, as before the call, as after it, or as the zeros of a block that
-- the call brings.
use Rattle.std.proofs.Common.{◌≡◌, ◌≢◌, ◌⊎◌, inl, inr, ℕ, zero, suc, ◌+◌, ◌/◌, ◌%◌, ◌<◌, ◌≤◌, Bool, true, false, ◌&&◌, not, List, [], ◌∷◌, ◌++◌, Option, Some, None, take, length, refl, sym, ap, subst, ◌∙◌, arith}
use Rattle.std.specs.Prelude.{is_some, nat_le, nat_lt, option_map, option_and_then, slice_index_or}
use Rattle.std.specs.FinMap.{get}
use Rattle.std.proofs.lemmas.Bool.{true≢false, cases_eq, and_parts}
use Rattle.std.proofs.lemmas.List.{length-replicate}
use Rattle.mpm_base.specs.declared.kind.Kind.{Kind}
use Rattle.mpm_blocks.specs.Geometries.{block_records}
use Rattle.mpm_mount.specs.Drives.{FileName, PhysicalExtent, Drive, places, entry_number, entry_name, with_extent_there, extent_at, count_in, block_place, visible_in, visible_of}
use Rattle.mpm_file_functions.specs.declared.errors.RecordError.{RecordError}
use Rattle.mpm_sectors.specs.Writes.{zero_record}
use Rattle.mpm_files.specs.Units.{FileUnit, AddsEntry, ClearsBlock, WritesRecord, new_entry, stages, last_of, applied, all_applied}
use Rattle.mpm_files.specs.Plans.{CallPlan, behind, unless_failing, when, has_block, needs_block, clears_blocks, write_error, write_units, writing}
use Rattle.mpm_files.specs.Containment.{IsShown}
use Rattle.mpm_files.proofs.Recorded.{Puts, put_new, none_held}
use Rattle.mpm_files.proofs.Writes.{Written, record_written}
use Rattle.mpm_files.proofs.Needs.{IsWhole, Done, record_done, none_at}
use Rattle.mpm_files.proofs.Seen.{seen}
use Rattle.mpm_files.proofs.Shown.{shown_by, seen_tested, IsWritten, seen_stays, seen_itself_now, seen_new}
use Rattle.mpm_files.proofs.TurnLaws.{all_applied_append}

-- what the units of a record change of what is seen of its file
pub record Changes (file : FileName) (n : ℕ) (before after : Drive) : Type 0 where
  pub stays : (m : ℕ) (b : List ℕ) → m ≢ n → visible_of before file m ≡ Some b → visible_of after file m ≡ Some b
  pub itself : is_some (visible_of after file n) ≡ true
  pub new : (m : ℕ) (b : List ℕ) → m ≢ n → visible_of before file m ≡ None → visible_of after file m ≡ Some b → (m < n) ⊎ ((b ≡ zero_record) × (needs_block before file m ≡ true))

-- of an entry that is there
seen_at : (d : Drive) (file : FileName) (m : ℕ) (entry : PhysicalExtent) → get d.extents (entry_name d.kind file (m / 128)) ≡ Some entry → visible_of d file m ≡ seen d.kind m entry
unfolding visible_of extent_at
seen_at d file m entry is = ap (λ (o : Option PhysicalExtent). option_and_then (visible_in d.kind m) (option_and_then (with_extent_there (m / 128)) o)) is

unseen_at : (d : Drive) (file : FileName) (m : ℕ) → get d.extents (entry_name d.kind file (m / 128)) ≡ None → visible_of d file m ≡ None
unfolding visible_of extent_at
unseen_at d file m is = ap (λ (o : Option PhysicalExtent). option_and_then (visible_in d.kind m) (option_and_then (with_extent_there (m / 128)) o)) is

seen_alike : (d e : Drive) (file : FileName) (m : ℕ) → e.kind ≡ d.kind → get e.extents (entry_name d.kind file (m / 128)) ≡ get d.extents (entry_name d.kind file (m / 128))
    → visible_of e file m ≡ visible_of d file m
unfolding visible_of extent_at
seen_alike d e file m kind same =
    ap (λ k. option_and_then (visible_in k m) (option_and_then (with_extent_there (m / 128)) (get e.extents (entry_name k file (m / 128))))) kind
    ∙ ap (λ (o : Option PhysicalExtent). option_and_then (visible_in d.kind m) (option_and_then (with_extent_there (m / 128)) o)) same

-- a record is written into an entry that is there
at_number : (d : Drive) (file : FileName) (n m : ℕ) (o : Option PhysicalExtent) → entry_number d.kind (m / 128) ≡ entry_number d.kind (n / 128)
    → get d.extents (entry_name d.kind file (n / 128)) ≡ o → get d.extents (entry_name d.kind file (m / 128)) ≡ o
at_number d file n m o same is = ap (λ k. get d.extents (record { user = file.user; name = file.name; number = k })) same ∙ is

written_changes : (d e : Drive) (file : FileName) (n : ℕ) (bytes : List ℕ) (old : PhysicalExtent) → get d.extents (entry_name d.kind file (n / 128)) ≡ Some old
    → Written file n bytes old d e → Changes file n d e
written_changes d e file n bytes old is written =
    let kind : Kind = d.kind in
    let puts = written.puts in
    let into : IsWritten kind n bytes old written.entry = record { last = written.last; count = written.count; others = written.others; block = written.block } in
    let here : (m : ℕ) → entry_number kind (m / 128) ≡ entry_number kind (n / 128) → visible_of e file m ≡ seen kind m written.entry =
    λ m same. seen_at e file m written.entry
    (ap (λ k. get e.extents (entry_name k file (m / 128))) puts.kind ∙ ap (λ k. get e.extents (record { user = file.user; name = file.name; number = k })) same ∙ puts.here)
    ∙ ap (λ k. seen k m written.entry) puts.kind in
    let was : (m : ℕ) → entry_number kind (m / 128) ≡ entry_number kind (n / 128) → visible_of d file m ≡ seen kind m old =
    λ m same. seen_at d file m old (at_number d file n m (Some old) same is) in
    let beside : (m : ℕ) → entry_number kind (m / 128) ≢ entry_number kind (n / 128) → visible_of e file m ≡ visible_of d file m =
    λ m apart. seen_alike d e file m puts.kind (puts.others (entry_number kind (m / 128)) apart) in
    record {
      stays = λ m b other shown. elim (cases_eq (entry_number kind (m / 128)) (entry_number kind (n / 128))) [
        | inl same ↦ here m same ∙ seen_stays kind n m bytes old written.entry b into other same (sym (was m same) ∙ shown)
        | inr apart ↦ beside m apart ∙ shown
      ];
      itself = ap is_some (here n refl) ∙ seen_itself_now kind n bytes old written.entry into;
      new = λ m b other none shown. elim (cases_eq (entry_number kind (m / 128)) (entry_number kind (n / 128))) [
        | inl same ↦ elim (seen_new kind n m bytes old written.entry b into other same (sym (was m same) ∙ none) (sym (here m same) ∙ shown)) [
          | inl less ↦ inl less
          | inr zeros ↦ inr (zeros.0, ap (λ (o : Option PhysicalExtent). not (has_block kind m o)) (at_number d file n m (Some old) same is) ∙ ap not zeros.1)
        ]
        | inr apart ↦ absurd (true≢false (ap is_some (sym shown ∙ beside m apart ∙ none)))
      ];
    }

-- a new entry shows nothing
nothing_shown : (a b : Bool) → shown_by a b None ≡ None
nothing_shown true true = refl
nothing_shown true false = refl
nothing_shown false b = refl

no_record : (kind : Kind) (m count : ℕ) (entry : PhysicalExtent) → slice_index_or entry.blocks (block_place kind m) None ≡ None → seen kind m entry ≡ None
no_record kind m count entry none =
    seen_tested kind m entry
    ∙ ap (shown_by (nat_le (m / 128) entry.last) (nat_lt (m % 128) (count_in entry (m / 128)))) (ap (option_map (λ records. slice_index_or records (m % block_records kind) [])) none)
    ∙ nothing_shown (nat_le (m / 128) entry.last) (nat_lt (m % 128) (count_in entry (m / 128)))

record Added (file : FileName) (before after : Drive) : Type 0 where
  same : (m : ℕ) → visible_of after file m ≡ visible_of before file m
  blocks : (m : ℕ) → needs_block after file m ≡ true → needs_block before file m ≡ true

added_shows : (d : Drive) (file : FileName) (n : ℕ) → get d.extents (entry_name d.kind file (n / 128)) ≡ None → Added file d (applied d (AddsEntry file (n / 128)))
unfolding applied stages last_of new_entry
added_shows d file n none =
    let kind : Kind = d.kind in
    let fresh : PhysicalExtent = new_entry d file (n / 128) in
    let after : Drive = applied d (AddsEntry file (n / 128)) in
    let put : Puts file (entry_number kind (n / 128)) fresh 1 0 d after = put_new d file (entry_number kind (n / 128)) fresh none (none_held (places kind)) in
    record {
      same = λ m. elim (cases_eq (entry_number kind (m / 128)) (entry_number kind (n / 128))) [
        | inl one ↦
            seen_at after file m fresh (ap (λ k. get after.extents (record { user = file.user; name = file.name; number = k })) one ∙ put.here)
            ∙ no_record kind m 0 fresh (none_at (places kind) (block_place kind m)) ∙ sym (unseen_at d file m (at_number d file n m None one none))
        | inr apart ↦ seen_alike d after file m refl (put.others (entry_number kind (m / 128)) apart)
      ];
      blocks = λ m needs. elim (cases_eq (entry_number kind (m / 128)) (entry_number kind (n / 128))) [
        | inl one ↦ ap (λ (o : Option PhysicalExtent). not (has_block kind m o)) (at_number d file n m None one none)
        | inr apart ↦ sym (ap (λ (o : Option PhysicalExtent). not (has_block kind m o)) (put.others (entry_number kind (m / 128)) apart)) ∙ needs
      ];
    }

changes_after : (file : FileName) (n : ℕ) (a b c : Drive) → Added file a b → Changes file n b c → Changes file n a c
changes_after file n a b c added changes = record {
  stays = λ m x apart shown. changes.stays m x apart (added.same m ∙ shown);
  itself = changes.itself;
  new = λ m x apart none shown. elim (changes.new m x apart (added.same m ∙ none) shown) [ inl less ↦ inl less | inr zeros ↦ inr (zeros.0, added.blocks m zeros.1) ];
}

-- the units of one record: nothing is seen otherwise before the last of them
pub record UnitsShow (file : FileName) (n : ℕ) (before : Drive) (units : List FileUnit) : Type 0 where
  pub changes : Changes file n before (all_applied before units)
  pub until : (i : ℕ) → i < length units → (m : ℕ) → visible_of (all_applied before (take i units)) file m ≡ visible_of before file m

alone_show : (d e : Drive) (file : FileName) (n : ℕ) (bytes : List ℕ) (stamp : Option (List ℕ)) → Changes file n d (applied d (WritesRecord file n bytes stamp)) → (clears : Bool)
    → UnitsShow file n d (when clears (ClearsBlock file n) ++ (WritesRecord file n bytes stamp ∷ []))
unfolding all_applied applied stages last_of
alone_show d e file n bytes stamp changes true = record { changes = changes; until = λ i h m. by_place i h m }
  where
    by_place : (i : ℕ) → i < 2 → (m : ℕ) → visible_of (all_applied d (take i (ClearsBlock file n ∷ WritesRecord file n bytes stamp ∷ []))) file m ≡ visible_of d file m
    by_place zero h m = refl
    by_place (suc zero) h m = refl
    by_place (suc (suc i)) h m = absurd (omega arith)
alone_show d e file n bytes stamp changes false = record { changes = changes; until = λ i h m. by_place i h m }
  where
    by_place : (i : ℕ) → i < 1 → (m : ℕ) → visible_of (all_applied d (take i (WritesRecord file n bytes stamp ∷ []))) file m ≡ visible_of d file m
    by_place zero h m = refl
    by_place (suc i) h m = absurd (omega arith)

added_entry : (d : Drive) (file : FileName) (n : ℕ) → get d.extents (entry_name d.kind file (n / 128)) ≡ None
    → let added : Drive = applied d (AddsEntry file (n / 128)) in
    (get added.extents (entry_name added.kind file (n / 128)) ≡ Some (new_entry d file (n / 128))) × (length (new_entry d file (n / 128)).blocks ≡ places added.kind)
unfolding applied stages last_of new_entry
added_entry d file n none =
    ((put_new d file (entry_number d.kind (n / 128)) (new_entry d file (n / 128)) none (none_held (places d.kind))).here, length-replicate (places d.kind) None)

added_first : (d : Drive) (file : FileName) (n : ℕ) (unit : FileUnit) (units : List FileUnit) → Added file d (applied d unit) → UnitsShow file n (applied d unit) units
    → UnitsShow file n d (unit ∷ units)
unfolding all_applied
added_first d file n unit units added rest = record {
  changes = changes_after file n d (applied d unit) (all_applied (applied d unit) units) added rest.changes;
  until = by_place;
}
  where
    by_place : (i : ℕ) → i < length (unit ∷ units) → (m : ℕ) → visible_of (all_applied d (take i (unit ∷ units))) file m ≡ visible_of d file m
    by_place zero h m = refl
    by_place (suc i) h m = rest.until i (omega arith) m ∙ added.same m

units_by : (d : Drive) (file : FileName) (n : ℕ) (bytes : List ℕ) (stamp : Option (List ℕ)) (clears : Bool) → IsWhole file d → (o p : Option PhysicalExtent)
    → get d.extents (entry_name d.kind file (n / 128)) ≡ o → p ≡ o
    → UnitsShow file n d (when (not (is_some p)) (AddsEntry file (n / 128)) ++ (when clears (ClearsBlock file n) ++ (WritesRecord file n bytes stamp ∷ [])))
units_by d file n bytes stamp clears whole (Some old) p is same =
    subst (λ q. UnitsShow file n d (when (not (is_some q)) (AddsEntry file (n / 128)) ++ (when clears (ClearsBlock file n) ++ (WritesRecord file n bytes stamp ∷ [])))) (sym same)
    (alone_show d d file n bytes stamp
    (written_changes d (applied d (WritesRecord file n bytes stamp)) file n bytes old is (record_written d file n bytes stamp old is (whole (entry_number d.kind (n / 128)) old is))) clears)
units_by d file n bytes stamp clears whole None p is same =
    let added : Drive = applied d (AddsEntry file (n / 128)) in
    let there = added_entry d file n is in
    subst (λ q. UnitsShow file n d (when (not (is_some q)) (AddsEntry file (n / 128)) ++ (when clears (ClearsBlock file n) ++ (WritesRecord file n bytes stamp ∷ [])))) (sym same)
    (added_first d file n (AddsEntry file (n / 128)) (when clears (ClearsBlock file n) ++ (WritesRecord file n bytes stamp ∷ [])) (added_shows d file n is)
    (alone_show added added file n bytes stamp
    (written_changes added (applied added (WritesRecord file n bytes stamp)) file n bytes (new_entry d file (n / 128)) there.0
    (record_written added file n bytes stamp (new_entry d file (n / 128)) there.0 there.1)) clears))

pub units_show : (d : Drive) (file : FileName) (n : ℕ) (bytes : List ℕ) (stamp : Option (List ℕ)) (cleared : Bool) → IsWhole file d → UnitsShow file n d (write_units d cleared file n bytes stamp)
units_show d file n bytes stamp cleared whole =
    units_by d file n bytes stamp (clears_blocks d.kind && (needs_block d file n && not cleared)) whole (get d.extents (entry_name d.kind file (n / 128)))
    (get d.extents (entry_name d.kind file (n / 128))) refl refl

-- what is seen of a record stays as those after it are written
kept_by : (file : FileName) (m : ℕ) (b : List ℕ) (d : Drive) (error : Option RecordError) (units : List FileUnit) (plan : CallPlan) → visible_of d file m ≡ Some b
    → visible_of (all_applied d (units ++ plan.units)) file m ≡ Some b → visible_of (all_applied d (unless_failing error (behind units plan)).units) file m ≡ Some b
unfolding all_applied
kept_by file m b d None units plan now after = after
kept_by file m b d (Some error) units plan now after = now

still_seen : (records : List (List ℕ)) (d : Drive) (file : FileName) (n : ℕ) (stamp : Option (List ℕ)) (m : ℕ) (b : List ℕ) → IsWhole file d → m < n → visible_of d file m ≡ Some b
    → visible_of (all_applied d (writing d file n records stamp).units) file m ≡ Some b
unfolding writing all_applied
still_seen [] d file n stamp m b whole h shown = shown
still_seen (bytes ∷ records) d file n stamp m b whole h shown =
    let units : List FileUnit = write_units d false file n bytes stamp in
    let after : Drive = all_applied d units in
    let rest : CallPlan = writing after file (n + 1) records None in
    let done : Done file n d after = record_done d file n bytes stamp false whole in
    kept_by file m b d (write_error d file n) units rest shown
    (ap (λ x. visible_of x file m) (all_applied_append units rest.units d)
    ∙ still_seen records after file (n + 1) None m b done.whole (omega arith) ((units_show d file n bytes stamp false whole).changes.stays m b (λ same. absurd (omega (arith, same))) shown))

-- a number of units: some of the first record's, or all of them and some after
parted : (us vs : List FileUnit) (j : ℕ) → ((j < length us) × (take j (us ++ vs) ≡ take j us)) ⊎ ((i : ℕ) × (take j (us ++ vs) ≡ us ++ take i vs))
parted [] vs j = inr (j, refl)
parted (u ∷ us) vs zero = inl (omega arith, refl)
parted (u ∷ us) vs (suc j) = elim (parted us vs j) [
  | inl first ↦ inl (omega (arith, first.0), ap (λ l. u ∷ l) first.1)
  | inr both ↦ inr (both.0, ap (λ l. u ∷ l) both.1)
]

-- the same record, seen before or not
first_ways : (file : FileName) (n : ℕ) (d one z : Drive) (m : ℕ) → Changes file n d one → ((b : List ℕ) → m ≤ n → visible_of one file m ≡ Some b → visible_of z file m ≡ Some b)
    → (o p : Option (List ℕ)) → visible_of d file m ≡ o → visible_of one file m ≡ p → IsShown d z one file m
first_ways file n d one z m changes later o (Some b) was now = elim (cases_eq m n) [
  | inl same ↦ inr (inl (now ∙ sym (later b (omega arith) now)))
  | inr apart ↦ by_was apart o was
]
  where
    by_was : m ≢ n → (x : Option (List ℕ)) → visible_of d file m ≡ x → IsShown d z one file m
    by_was apart (Some c) before = inl (changes.stays m c apart before ∙ sym before)
    by_was apart None before = elim (changes.new m b apart before now) [
      | inl less ↦ inr (inl (now ∙ sym (later b (omega arith) now)))
      | inr zeros ↦ inr (inr (now ∙ ap (λ (x : List ℕ). Some x) zeros.0, zeros.1))
    ]
first_ways file n d one z m changes later o None was now = by_was o was
  where
    by_was : (x : Option (List ℕ)) → visible_of d file m ≡ x → IsShown d z one file m
    by_was None before = inl (now ∙ sym before)
    by_was (Some c) before = elim (cases_eq m n) [
      | inl same ↦ absurd (true≢false (sym (ap (λ q. is_some (visible_of one file q)) same ∙ changes.itself) ∙ ap is_some now))
      | inr apart ↦ inl (changes.stays m c apart before ∙ sym before)
    ]

pub shown_through : (file : FileName) (n : ℕ) (d one z now : Drive) (m : ℕ) → Done file n d one → Changes file n d one
    → ((b : List ℕ) → m ≤ n → visible_of one file m ≡ Some b → visible_of z file m ≡ Some b) → IsShown one z now file m → IsShown d z now file m
shown_through file n d one z now m done changes later (inl same) = elim (first_ways file n d one z m changes later (visible_of d file m) (visible_of one file m) refl refl) [
  | inl before ↦ inl (same ∙ before)
  | inr rest ↦ elim rest [ inl after ↦ inr (inl (same ∙ after)) | inr zeros ↦ inr (inr (same ∙ zeros.0, zeros.1)) ]
]
shown_through file n d one z now m done changes later (inr (inl after)) = inr (inl after)
shown_through file n d one z now m done changes later (inr (inr zeros)) = inr (inr (zeros.0, (and_parts (needs_block d file m) _ (sym (done.blocks m) ∙ zeros.1)).0))

shown_by_error : (file : FileName) (d : Drive) (m j : ℕ) (error : Option RecordError) (units : List FileUnit) (plan : CallPlan)
    → (error ≡ None → IsShown d (all_applied d (units ++ plan.units)) (all_applied d (take j (units ++ plan.units))) file m)
    → IsShown d (all_applied d (unless_failing error (behind units plan)).units) (all_applied d (take j (unless_failing error (behind units plan)).units)) file m
unfolding all_applied
shown_by_error file d m j None units plan so = so refl
shown_by_error file d m zero (Some error) units plan so = inl refl
shown_by_error file d m (suc j) (Some error) units plan so = inl refl

pub writing_shown : (records : List (List ℕ)) (d : Drive) (file : FileName) (n : ℕ) (stamp : Option (List ℕ)) (j m : ℕ) → IsWhole file d
    → let units : List FileUnit = (writing d file n records stamp).units in
    IsShown d (all_applied d units) (all_applied d (take j units)) file m
unfolding writing all_applied
writing_shown [] d file n stamp zero m whole = inl refl
writing_shown [] d file n stamp (suc j) m whole = inl refl
writing_shown (bytes ∷ records) d file n stamp j m whole =
    let units : List FileUnit = write_units d false file n bytes stamp in
    let one : Drive = all_applied d units in
    let rest : CallPlan = writing one file (n + 1) records None in
    let z : Drive = all_applied one rest.units in
    let done : Done file n d one = record_done d file n bytes stamp false whole in
    let show : UnitsShow file n d units = units_show d file n bytes stamp false whole in
    let all : all_applied d (units ++ rest.units) ≡ z = all_applied_append units rest.units d in
    shown_by_error file d m j (write_error d file n) units rest (λ none.
    subst (λ (e : Drive). IsShown d e (all_applied d (take j (units ++ rest.units))) file m) (sym all)
    (elim (parted units rest.units j) [
      | inl first ↦ inl (ap (λ us. visible_of (all_applied d us) file m) first.1 ∙ show.until j first.0 m)
      | inr both ↦
          subst (λ (e : Drive). IsShown d z e file m) (sym (ap (all_applied d) both.1 ∙ all_applied_append units (take both.0 rest.units) d))
          (shown_through file n d one z (all_applied one (take both.0 rest.units)) m done show.changes
          (λ b h shown. still_seen records one file (n + 1) None m b done.whole (omega arith) shown)
          (writing_shown records one file (n + 1) None both.0 m done.whole))
    ]))
