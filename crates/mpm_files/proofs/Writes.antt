-- The units of one record: the entry that they leave, and how many entries and blocks more there are.
use Rattle.std.proofs.Common.{◌≡◌, ◌≢◌, ℕ, ◌+◌, ◌/◌, ◌%◌, ◌<◌, Bool, true, false, not, List, [], ◌∷◌, ◌++◌, Option, Some, None, map, length, refl, sym, ap, subst, ◌∙◌, arith}
use Rattle.std.specs.Prelude.{is_some, option_map, slice_set, slice_index_or, if◌then◌else◌}
use Rattle.std.specs.FinMap.{get}
use Rattle.std.proofs.lemmas.List.{get_or-set_same, get_or-set_other, length-set, append-nil}
use Rattle.mpm_base.specs.declared.kind.Kind.{Kind}
use Rattle.mpm_base.specs.Counts.{one_if}
use Rattle.mpm_base.proofs.Options.{still_some}
use Rattle.mpm_blocks.specs.Geometries.{block_records}
use Rattle.mpm_mount.specs.Drives.{FileName, PhysicalExtent, Protection, Drive, places, entry_number, entry_name, block_place, held_blocks, with_record_in, with_extent, with_xfcb}
use Rattle.mpm_mount.specs.Files.{where_there}
use Rattle.mpm_mount.proofs.KeptRecords.{place_within}
use Rattle.mpm_files.specs.Units.{WritesRecord, is_raising, raised, holds_block, fresh_records, with_fresh_block, rewritten, written_extents, last_of, second_stamped, stamped, with_stamp, stages, applied}
use Rattle.mpm_files.proofs.Keeping.{last_append}
use Rattle.mpm_files.proofs.Recorded.{Puts, put_there, puts_stamped, recorded_held, fresh_held}

-- the content of an entry with a record
abbrev content : Kind → ℕ → List ℕ → PhysicalExtent → PhysicalExtent
content kind n bytes entry = if holds_block kind n entry then with_record_in entry (block_place kind n) (n % block_records kind) bytes else with_fresh_block kind n bytes entry

-- its last stage
last_rewritten : (d : Drive) (put : PhysicalExtent → Drive) (there high : PhysicalExtent) (c : Bool)
    → last_of d (map put (there ∷ (if c then (if c then high else there) ∷ [] else []))) ≡ put (if c then high else there)
unfolding last_of
last_rewritten d put there high true = refl
last_rewritten d put there high false = refl

last_written : (d : Drive) (put : PhysicalExtent → Drive) (n : ℕ) (there fresh : PhysicalExtent) (b : Bool)
    → last_of d (map put (if b then rewritten n there else (raised n fresh ∷ []))) ≡ put (raised n (if b then there else fresh))
unfolding last_of
last_written d put n there fresh true = last_rewritten d put there (record there { last = n / 128; count = n % 128 + 1 }) (is_raising n there)
last_written d put n there fresh false = refl

-- the block with the record: the one that is held, or a fresh one
abbrev pub block_written : Kind → ℕ → List ℕ → PhysicalExtent → Bool → Option (List (List ℕ))
block_written kind n bytes old held =
    if held then option_map (λ records. slice_set records (n % block_records kind) bytes) (slice_index_or old.blocks (block_place kind n) None)
    else Some (fresh_records kind n bytes)

-- what the record's own unit leaves: the block is held, and the entry's others are as they were
pub record Written (file : FileName) (n : ℕ) (bytes : List ℕ) (old : PhysicalExtent) (before after : Drive) : Type 0 where
  pub entry : PhysicalExtent
  pub puts : Puts file (entry_number before.kind (n / 128)) entry 0 (one_if (not (holds_block before.kind n old))) before after
  pub room : length entry.blocks ≡ length old.blocks
  pub holds : holds_block before.kind n entry ≡ true
  pub others : (place : ℕ) → place ≢ block_place before.kind n → slice_index_or entry.blocks place None ≡ slice_index_or old.blocks place None
  pub last : entry.last ≡ (raised n old).last
  pub count : entry.count ≡ (raised n old).count
  pub block : slice_index_or entry.blocks (block_place before.kind n) None ≡ block_written before.kind n bytes old (holds_block before.kind n old)

-- the blocks that are set
record SetsBlock (kind : Kind) (n : ℕ) (bytes : List ℕ) (old new : PhysicalExtent) : Type 0 where
  more : held_blocks new ≡ held_blocks old + one_if (not (holds_block kind n old))
  room : length new.blocks ≡ length old.blocks
  holds : holds_block kind n new ≡ true
  others : (place : ℕ) → place ≢ block_place kind n → slice_index_or new.blocks place None ≡ slice_index_or old.blocks place None
  block : slice_index_or new.blocks (block_place kind n) None ≡ block_written kind n bytes old (holds_block kind n old)

content_sets : (kind : Kind) (n : ℕ) (bytes : List ℕ) (old : PhysicalExtent) → block_place kind n < length old.blocks → (b : Bool) → holds_block kind n old ≡ b
    → SetsBlock kind n bytes old (if b then with_record_in old (block_place kind n) (n % block_records kind) bytes else with_fresh_block kind n bytes old)
content_sets kind n bytes old h true held =
    let place : ℕ = block_place kind n in
    let put : Option (List (List ℕ)) = option_map (λ records. slice_set records (n % block_records kind) bytes) (slice_index_or old.blocks place None) in
    record {
      more = recorded_held kind n old bytes h ∙ sym (ap (λ b. held_blocks old + one_if (not b)) held ∙ omega arith);
      room = length-set old.blocks place put;
      holds = ap is_some (get_or-set_same old.blocks place put None h) ∙ still_some (slice_index_or old.blocks place None) _ ∙ held;
      others = λ q apart. get_or-set_other old.blocks place q put None apart;
      block = get_or-set_same old.blocks place put None h ∙ sym (ap (block_written kind n bytes old) held);
    }
content_sets kind n bytes old h false free =
    let place : ℕ = block_place kind n in
    record {
      more = fresh_held kind n old bytes h free ∙ sym (ap (λ b. held_blocks old + one_if (not b)) free);
      room = length-set old.blocks place (Some (fresh_records kind n bytes));
      holds = ap is_some (get_or-set_same old.blocks place (Some (fresh_records kind n bytes)) None h);
      others = λ q apart. get_or-set_other old.blocks place q (Some (fresh_records kind n bytes)) None apart;
      block = get_or-set_same old.blocks place (Some (fresh_records kind n bytes)) None h ∙ sym (ap (block_written kind n bytes old) free);
    }

raised_sets : (kind : Kind) (n : ℕ) (bytes : List ℕ) (old new : PhysicalExtent) (c : Bool) → SetsBlock kind n bytes old new → SetsBlock kind n bytes old (if c then record new { last = n / 128; count = n % 128 + 1 } else new)
raised_sets kind n bytes old new true sets = record { more = sets.more; room = sets.room; holds = sets.holds; others = sets.others; block = sets.block }
raised_sets kind n bytes old new false sets = sets

-- last extent and record count rise as they would with no other blocks
raised_ends : (n : ℕ) (old : PhysicalExtent) (blocks : List (Option (List (List ℕ)))) (c : Bool)
    → ((if c then record old { last = n / 128; count = n % 128 + 1; blocks = blocks } else record old { blocks = blocks }).last ≡ (if c then record old { last = n / 128; count = n % 128 + 1 } else old).last)
    × ((if c then record old { last = n / 128; count = n % 128 + 1; blocks = blocks } else record old { blocks = blocks }).count ≡ (if c then record old { last = n / 128; count = n % 128 + 1 } else old).count)
raised_ends n old blocks true = (refl, refl)
raised_ends n old blocks false = (refl, refl)

content_ends : (kind : Kind) (n : ℕ) (bytes : List ℕ) (old : PhysicalExtent) (b : Bool)
    → let new : PhysicalExtent = if b then with_record_in old (block_place kind n) (n % block_records kind) bytes else with_fresh_block kind n bytes old in
    ((raised n new).last ≡ (raised n old).last) × ((raised n new).count ≡ (raised n old).count)
content_ends kind n bytes old true = raised_ends n old (with_record_in old (block_place kind n) (n % block_records kind) bytes).blocks (is_raising n old)
content_ends kind n bytes old false = raised_ends n old (with_fresh_block kind n bytes old).blocks (is_raising n old)

-- with a stamp or without
stamps_too : (file : FileName) (n : ℕ) (bytes : List ℕ) (old : PhysicalExtent) (before : Drive) (drives : List Drive) (moment : List ℕ) (o : Option Protection)
    → get (last_of before drives).xfcbs file ≡ o → Written file n bytes old before (last_of before drives)
    → Written file n bytes old before (last_of before (drives ++ where_there o (λ xfcb. with_xfcb (last_of before drives) file (second_stamped moment xfcb) ∷ [])))
stamps_too file n bytes old before drives moment None is written =
    subst (λ ds. Written file n bytes old before (last_of before ds)) (sym (append-nil drives)) written
stamps_too file n bytes old before drives moment (Some xfcb) is written =
    let last : Drive = last_of before drives in
    let new : Drive = with_xfcb last file (second_stamped moment xfcb) in
    subst (Written file n bytes old before) (sym (last_append drives new before))
    (record {
      entry = written.entry;
      puts = puts_stamped file (entry_number before.kind (n / 128)) 0 (one_if (not (holds_block before.kind n old))) written.entry before last file xfcb (second_stamped moment xfcb) is written.puts;
      room = written.room;
      holds = written.holds;
      others = written.others;
      last = written.last;
      count = written.count;
      block = written.block;
    })

stamped_or_not : (file : FileName) (n : ℕ) (bytes : List ℕ) (old : PhysicalExtent) (before : Drive) (drives : List Drive) (stamp : Option (List ℕ)) → Written file n bytes old before (last_of before drives)
    → Written file n bytes old before (last_of before (drives ++ stamped second_stamped file stamp (last_of before drives)))
stamped_or_not file n bytes old before drives None written = subst (λ ds. Written file n bytes old before (last_of before ds)) (sym (append-nil drives)) written
stamped_or_not file n bytes old before drives (Some moment) written = stamps_too file n bytes old before drives moment (get (last_of before drives).xfcbs file) refl written

by_entry : (d : Drive) (file : FileName) (n : ℕ) (bytes : List ℕ) (stamp : Option (List ℕ)) (old : PhysicalExtent) (o : Option PhysicalExtent)
    → get d.extents (entry_name d.kind file (n / 128)) ≡ Some old → o ≡ Some old → length old.blocks ≡ places d.kind
    → let drives : List Drive = where_there o (λ entry. map (with_extent d (entry_name d.kind file (n / 128))) (written_extents d.kind n bytes entry)) in
    Written file n bytes old d (last_of d (with_stamp file stamp d drives))
by_entry d file n bytes stamp old o is there room =
    let put : PhysicalExtent → Drive = with_extent d (entry_name d.kind file (n / 128)) in
    let drives_of : Option PhysicalExtent → List Drive = λ x. where_there x (λ entry. map put (written_extents d.kind n bytes entry)) in
    let drives : List Drive = drives_of (Some old) in
    let sets = content_sets d.kind n bytes old (subst (λ q. block_place d.kind n < q) (sym room) (place_within d.kind n)) (holds_block d.kind n old) refl in
    let high = raised_sets d.kind n bytes old (content d.kind n bytes old) (is_raising n (content d.kind n bytes old)) sets in
    let ends = content_ends d.kind n bytes old (holds_block d.kind n old) in
    let written : Written file n bytes old d (put (raised n (content d.kind n bytes old))) = record {
      entry = raised n (content d.kind n bytes old);
      puts = put_there d file (entry_number d.kind (n / 128)) (one_if (not (holds_block d.kind n old))) old (raised n (content d.kind n bytes old)) is high.more;
      room = high.room;
      holds = high.holds;
      others = high.others;
      last = ends.0;
      count = ends.1;
      block = high.block;
    } in
    subst (λ x. Written file n bytes old d (last_of d (with_stamp file stamp d (drives_of x)))) (sym there)
    (stamped_or_not file n bytes old d drives stamp
    (subst (Written file n bytes old d) (sym (last_written d put n (with_record_in old (block_place d.kind n) (n % block_records d.kind) bytes) (with_fresh_block d.kind n bytes old) (holds_block d.kind n old))) written))

pub record_written : (d : Drive) (file : FileName) (n : ℕ) (bytes : List ℕ) (stamp : Option (List ℕ)) (old : PhysicalExtent)
    → get d.extents (entry_name d.kind file (n / 128)) ≡ Some old → length old.blocks ≡ places d.kind → Written file n bytes old d (applied d (WritesRecord file n bytes stamp))
unfolding applied stages
record_written d file n bytes stamp old is room = by_entry d file n bytes stamp old (get d.extents (entry_name d.kind file (n / 128))) is is room
