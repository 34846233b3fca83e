-- What the units of one record leave of a drive: which records need an entry or a block after them, and what is free then.
use Rattle.std.proofs.Common.{◌≡◌, ◌≢◌, ℕ, zero, suc, ◌+◌, ◌%◌, ◌<◌, false, cond, List, Option, Some, None, length, refl, sym, ap, ◌∙◌, arith}
use Rattle.std.specs.Prelude.{is_some, option_map, slice_set, slice_index_or, replicate, sum_by, count_by}
use Rattle.std.specs.FinMap.{get, len, entries, values, get-insert, len-insert}
use Rattle.std.specs.Ordering.{eq_by_cmp, is_eq}
use Rattle.std.specs.Cmp.{tied_itself}
use Rattle.std.proofs.lemmas.Bool.{false_from_ne_true}
use Rattle.std.proofs.lemmas.List.Sums.{sum_by-set}
use Rattle.mpm_base.proofs.CountLaws.{count_cons}
use Rattle.mpm_base.specs.declared.kind.Kind.{Kind}
use Rattle.mpm_base.specs.Counts.{one_if}
use Rattle.mpm_blocks.specs.Geometries.{block_records}
use Rattle.mpm_mount.specs.Drives.{FileName, PhysicalExtent, Protection, Drive, entry_cmp, block_place, held_blocks, with_record_in, with_extent, with_xfcb}
use Rattle.mpm_mount.proofs.Orders.{entry_total, entry_same, file_total}
use Rattle.mpm_mount.proofs.Names.{entry_parts}
use Rattle.mpm_files.specs.Units.{holds_block, fresh_records, with_fresh_block}
use Rattle.mpm_files.proofs.Sums.{sum_new, sum_there, sum_values}

-- how many entries and blocks are held
abbrev pub held : Drive → ℕ
held drive = sum_by held_blocks (values drive.extents)

-- a drive with another content of one entry, which may be new, and so many blocks more
pub record Puts (file : FileName) (number : ℕ) (entry : PhysicalExtent) (entries_more blocks_more : ℕ) (old new : Drive) : Type 0 where
  pub kind : new.kind ≡ old.kind
  pub label : new.label ≡ old.label
  pub kept : new.kept ≡ old.kept
  pub here : get new.extents (record { user = file.user; name = file.name; number = number }) ≡ Some entry
  pub others : (k : ℕ) → k ≢ number → get new.extents (record { user = file.user; name = file.name; number = k }) ≡ get old.extents (record { user = file.user; name = file.name; number = k })
  pub counted : len new.extents ≡ len old.extents + entries_more
  pub xfcbs : len new.xfcbs ≡ len old.xfcbs
  pub blocks : held new ≡ held old + blocks_more

sums_as_values : (d : Drive) → held d ≡ sum_by (λ e. held_blocks e.1) (entries d.extents)
sums_as_values d = sum_values held_blocks (entries d.extents)

pub other_number : (file : FileName) (k number : ℕ) → k ≢ number
    → eq_by_cmp entry_cmp (record { user = file.user; name = file.name; number = k }) (record { user = file.user; name = file.name; number = number }) ≡ false
other_number file k number apart = false_from_ne_true _ (λ tied. apart ((entry_parts file file k number tied).1))

pub at_itself : (d : Drive) (file : FileName) (number : ℕ) (entry : PhysicalExtent)
    → get (with_extent d (record { user = file.user; name = file.name; number = number }) entry).extents (record { user = file.user; name = file.name; number = number }) ≡ Some entry
at_itself d file number entry =
    get-insert entry_total d.extents (record { user = file.user; name = file.name; number = number }) entry (record { user = file.user; name = file.name; number = number })
    ∙ ap (λ r. cond (is_eq r) (Some entry) (get d.extents (record { user = file.user; name = file.name; number = number }))) (tied_itself entry_total _)

beside : (d : Drive) (file : FileName) (number : ℕ) (entry : PhysicalExtent) (k : ℕ) → k ≢ number
    → get (with_extent d (record { user = file.user; name = file.name; number = number }) entry).extents (record { user = file.user; name = file.name; number = k })
    ≡ get d.extents (record { user = file.user; name = file.name; number = k })
beside d file number entry k apart =
    get-insert entry_total d.extents (record { user = file.user; name = file.name; number = number }) entry (record { user = file.user; name = file.name; number = k })
    ∙ ap (λ b. cond b (Some entry) (get d.extents (record { user = file.user; name = file.name; number = k }))) (other_number file k number apart)

-- a new entry
pub put_new : (d : Drive) (file : FileName) (number : ℕ) (entry : PhysicalExtent) → get d.extents (record { user = file.user; name = file.name; number = number }) ≡ None
    → held_blocks entry ≡ 0 → Puts file number entry 1 0 d (with_extent d (record { user = file.user; name = file.name; number = number }) entry)
put_new d file number entry none empty =
    let new : Drive = with_extent d (record { user = file.user; name = file.name; number = number }) entry in
    record {
      kind = refl;
      label = refl;
      kept = refl;
      here = at_itself d file number entry;
      others = beside d file number entry;
      counted = len-insert entry_total d.extents _ entry ∙ ap (λ (v : Option PhysicalExtent). cond (is_some v) (len d.extents) (len d.extents + 1)) none;
      xfcbs = refl;
      blocks = omega (arith, sums_as_values new, sums_as_values d, sum_new entry_cmp entry_total (λ e. held_blocks e.1) d.extents _ entry none, empty);
    }

-- another content of an entry
pub put_there : (d : Drive) (file : FileName) (number more : ℕ) (old entry : PhysicalExtent) → get d.extents (record { user = file.user; name = file.name; number = number }) ≡ Some old
    → held_blocks entry ≡ held_blocks old + more → Puts file number entry 0 more d (with_extent d (record { user = file.user; name = file.name; number = number }) entry)
put_there d file number more old entry is held_more =
    let new : Drive = with_extent d (record { user = file.user; name = file.name; number = number }) entry in
    record {
      kind = refl;
      label = refl;
      kept = refl;
      here = at_itself d file number entry;
      others = beside d file number entry;
      counted = len-insert entry_total d.extents _ entry ∙ ap (λ (v : Option PhysicalExtent). cond (is_some v) (len d.extents) (len d.extents + 1)) is ∙ omega arith;
      xfcbs = refl;
      blocks = omega (arith, sums_as_values new, sums_as_values d, sum_there entry_cmp entry_total entry_same (λ e. held_blocks e.1) d.extents _ entry old is, held_more);
    }

-- one after the other, and a stamp
pub puts_after : (file : FileName) (number a b c e : ℕ) (one two : PhysicalExtent) (x y z : Drive) → Puts file number one a b x y → Puts file number two c e y z
    → Puts file number two (a + c) (b + e) x z
puts_after file number a b c e one two x y z first second = record {
  kind = second.kind ∙ first.kind;
  label = second.label ∙ first.label;
  kept = second.kept ∙ first.kept;
  here = second.here;
  others = λ k apart. second.others k apart ∙ first.others k apart;
  counted = omega (arith, first.counted, second.counted);
  xfcbs = second.xfcbs ∙ first.xfcbs;
  blocks = omega (arith, first.blocks, second.blocks);
}

pub puts_stamped : (file : FileName) (number a b : ℕ) (entry : PhysicalExtent) (x y : Drive) (other : FileName) (old xfcb : Protection) → get y.xfcbs other ≡ Some old
    → Puts file number entry a b x y → Puts file number entry a b x (with_xfcb y other xfcb)
puts_stamped file number a b entry x y other old xfcb is put = record {
  kind = put.kind;
  label = put.label;
  kept = put.kept;
  here = put.here;
  others = put.others;
  counted = put.counted;
  xfcbs = len-insert file_total y.xfcbs other xfcb ∙ ap (λ (v : Option Protection). cond (is_some v) (len y.xfcbs) (len y.xfcbs + 1)) is ∙ put.xfcbs;
  blocks = put.blocks;
}

-- blocks of an entry
pub none_held : (n : ℕ) → count_by {X = Option (List (List ℕ))} is_some (replicate n None) ≡ 0
none_held zero = refl
none_held (suc n) = omega (arith, count_cons {X = Option (List (List ℕ))} is_some None (replicate n None), none_held n)

exact : (a b c d : ℕ) → a + b ≡ c + d → b ≡ d → a ≡ c
exact a b c d sum same = omega arith

one_up : (a c : ℕ) → a + 0 ≡ c + 1 → a ≡ c + 1
one_up a c sum = omega arith

-- a record more in a block that is held holds no block more
pub recorded_held : (kind : Kind) (n : ℕ) (entry : PhysicalExtent) (bytes : List ℕ) → block_place kind n < length entry.blocks
    → held_blocks (with_record_in entry (block_place kind n) (n % block_records kind) bytes) ≡ held_blocks entry
recorded_held kind n entry bytes h =
    let old : Option (List (List ℕ)) = slice_index_or entry.blocks (block_place kind n) None in
    let new : Option (List (List ℕ)) = option_map (λ records. slice_set records (n % block_records kind) bytes) old in
    exact (count_by is_some (slice_set entry.blocks (block_place kind n) new)) (one_if (is_some old)) (count_by is_some entry.blocks) (one_if (is_some new))
    (sum_by-set (λ (o : Option (List (List ℕ))). one_if (is_some o)) entry.blocks (block_place kind n) new None h) (ap one_if (sym (still_some old)))
  where
    still_some : (o : Option (List (List ℕ))) → is_some (option_map (λ records. slice_set records (n % block_records kind) bytes) o) ≡ is_some o
    still_some None = refl
    still_some (Some records) = refl

-- a fresh block is one more
pub fresh_held : (kind : Kind) (n : ℕ) (entry : PhysicalExtent) (bytes : List ℕ) → block_place kind n < length entry.blocks → holds_block kind n entry ≡ false
    → held_blocks (with_fresh_block kind n bytes entry) ≡ held_blocks entry + 1
fresh_held kind n entry bytes h free =
    one_up (count_by is_some (slice_set entry.blocks (block_place kind n) (Some (fresh_records kind n bytes)))) (count_by is_some entry.blocks)
    (ap (λ b. held_blocks (with_fresh_block kind n bytes entry) + one_if b) (sym free)
    ∙ sum_by-set (λ (o : Option (List (List ℕ))). one_if (is_some o)) entry.blocks (block_place kind n) (Some (fresh_records kind n bytes)) None h)
