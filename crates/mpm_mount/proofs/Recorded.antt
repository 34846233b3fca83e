-- A record's sector that is written changes that record alone.
use Rattle.std.proofs.Common.{◌≡◌, ◌≢◌, ℕ, ◌+◌, ◌*◌, ◌<◌, ◌==◌, Bool, true, false, not, ◌&&◌, ◌||◌, inl, inr, List, [], Option, Some, None, map, length, get_or, take, sym, ap, subst, ◌∙◌, arith, ne_eqb}
use Rattle.std.specs.Prelude.{slice_set, option_map, if◌then◌else◌}
use Rattle.std.specs.List.{range_with_len, list_any}
use Rattle.std.specs.FinMap.{FinMap}
use Rattle.std.proofs.lemmas.Bool.{both_ways, cases_eq, cases_order, or_parts}
use Rattle.std.proofs.lemmas.List.{length-map, length-set, get_or-map, get_or-set_same, get_or-set_other, ext_get_or}
use Rattle.std.proofs.lemmas.List.FromFn.{length-map-range_with_len}
use Rattle.mpm_base.specs.declared.kind.Kind.{Kind}
use Rattle.mpm_blocks.specs.Geometries.{block_records, logical_sectors, place_of}
use Rattle.mpm_blocks.specs.Sectors.{Sectors, sectors_of, SectorWritten}
use Rattle.mpm_blocks.proofs.Written.{written_size, sectors_written}
use Rattle.mpm_dirent.specs.declared.kinds.Entry.{Entry}
use Rattle.mpm_dirent.specs.declared.kinds.Entry.TheVariants.{Free, File}
use Rattle.mpm_dirent.specs.declared.kinds.FileEntry.{FileEntry}
use Rattle.mpm_port.specs.Disks.{with_sector}
use Rattle.mpm_mount.specs.declared.slots.EntryName.{EntryName}
use Rattle.mpm_mount.specs.Drives.{entry_cmp, PhysicalExtent, Drive, places, with_record_in, with_extent}
use Rattle.mpm_mount.specs.Faults.{name_of, block_at, has_at, holds, is_taken, some_place, first_fault}
use Rattle.mpm_mount.specs.Images.{contents_of, extent_in, extent_from, collected, drive_of}
use Rattle.mpm_mount.specs.Directories.{others, Directory, entry_in, Stands}
use Rattle.mpm_mount.specs.Changes.{with_pair, without_pair}
use Rattle.mpm_mount.proofs.Ranges.{map_at}
use Rattle.mpm_mount.proofs.UsedBlocks.{nowhere_at}
use Rattle.mpm_mount.proofs.Sound.{sound_at, held_once, block_within}
use Rattle.mpm_mount.proofs.Collected.{StandsAlone, collected_set}
use Rattle.mpm_mount.proofs.Orders.{entry_total, entry_same}
use Rattle.mpm_mount.proofs.Still.{has_own, other_at}
use Rattle.mpm_mount.proofs.Exchanged.{extent_alone}
use Rattle.mpm_mount.proofs.Sorts.{again}
use Rattle.mpm_mount.proofs.Unheld.{entries_kept, contents_kept, from_kept, block_sector}

untaken_before : (b : ℕ) (earlier before : Bool) → b ≢ 0 → (not (b == 0) && (earlier || before)) ≡ false → before ≡ false
untaken_before b earlier before some none =
    (or_parts earlier before (sym (ap (λ z. not z && (earlier || before)) (ne_eqb b 0 some)) ∙ none)).1

-- a block stands once in an entry
pub before_in : (kind : Kind) (earlier : List Entry) (f : FileEntry) (i j : ℕ) → some_place kind (is_taken kind earlier f) ≡ false → i < j → j < places kind → block_at f j ≢ 0
    → block_at f i ≢ block_at f j
before_in kind earlier f i j free less h some same =
    let none : is_taken kind earlier f j ≡ false = nowhere_at kind (is_taken kind earlier f) j free h in
    let has : has_at f j (block_at f j) ≡ true = ap (has_at f j) (sym same) ∙ has_own f j i less in
    both_ways (has_at f j (block_at f j)) (untaken_before (block_at f j) (list_any (holds kind (block_at f j)) earlier) (has_at f j (block_at f j)) some none) has

pub places_differ : (kind : Kind) (earlier : List Entry) (f : FileEntry) (i j : ℕ) → some_place kind (is_taken kind earlier f) ≡ false → i < places kind → j < places kind
    → block_at f i ≢ 0 → j ≢ i → block_at f j ≢ block_at f i
places_differ kind earlier f i j free hi hj some apart = elim (cases_order j i) [
  | inl same ↦ absurd (apart same)
  | inr other ↦ elim other [
    | inl less ↦ before_in kind earlier f j i free less hi some
    | inr more ↦ λ same. before_in kind earlier f i j free more hj (λ none0. some (sym same ∙ none0)) (sym same)
  ]
]

-- the records of the block
pub set_range : {X : Type 0} (d : X) (g h : ℕ → X) (n r : ℕ) (x : X) → r < n → h r ≡ x → ((i : ℕ) → i < n → i ≢ r → h i ≡ g i)
    → map h (range_with_len 0 n) ≡ slice_set (map g (range_with_len 0 n)) r x
set_range d g h n r x less here others =
    let long : length (map g (range_with_len 0 n)) ≡ n = length-map-range_with_len g 0 n in
    let longer : length (map h (range_with_len 0 n)) ≡ n = length-map-range_with_len h 0 n in
    ext_get_or d (map h (range_with_len 0 n)) (slice_set (map g (range_with_len 0 n)) r x) (longer ∙ sym long ∙ sym (length-set (map g (range_with_len 0 n)) r x)) (λ i small.
    let within : i < n = omega arith in
    elim (cases_eq i r) [
      | inl same ↦
          map_at h n i d within ∙ ap h same ∙ here ∙ sym (get_or-set_same (map g (range_with_len 0 n)) r x d (omega arith))
          ∙ sym (ap (λ (k : ℕ). get_or (slice_set (map g (range_with_len 0 n)) r x) k d) same)
      | inr apart ↦
          map_at h n i d within ∙ others i within apart ∙ sym (map_at g n i d within) ∙ sym (get_or-set_other (map g (range_with_len 0 n)) r i x d apart)
    ])

-- the block's contents
contents_set : (kind : Kind) (old new : Sectors) (block r : ℕ) (bytes : List ℕ) → SectorWritten (block * block_records kind + r) bytes old new → r < block_records kind → block ≢ 0
    → contents_of new kind block ≡ option_map (λ records. slice_set records r bytes) (contents_of old kind block)
unfolding contents_of
contents_set kind old new block r bytes written less some =
    let g : ℕ → List ℕ = λ i. old (block * block_records kind + i) in
    let h : ℕ → List ℕ = λ i. new (block * block_records kind + i) in
    let n : ℕ = block_records kind in
    ap (λ b. if b then None else Some (map h (range_with_len 0 n))) (ne_eqb block 0 some)
    ∙ ap (λ (records : List (List ℕ)). Some records) (set_range [] g h n r bytes less written.here (λ i small apart. written.others (block * block_records kind + i) (λ same. apart (omega arith))))
    ∙ sym (ap (λ b. option_map (λ records. slice_set records r bytes) (if b then None else Some (map g (range_with_len 0 n)))) (ne_eqb block 0 some))

-- the blocks of the entry
blocks_set : (kind : Kind) (earlier : List Entry) (old new : Sectors) (f : FileEntry) (i r : ℕ) (bytes : List ℕ) → SectorWritten (block_at f i * block_records kind + r) bytes old new
    → r < block_records kind → i < places kind → block_at f i ≢ 0 → some_place kind (is_taken kind earlier f) ≡ false
    → map (λ j. contents_of new kind (block_at f j)) (range_with_len 0 (places kind))
    ≡ slice_set (map (λ j. contents_of old kind (block_at f j)) (range_with_len 0 (places kind))) i (option_map (λ records. slice_set records r bytes) (contents_of old kind (block_at f i)))
blocks_set kind earlier old new f i r bytes written less h some free =
    let g : ℕ → Option (List (List ℕ)) = λ j. contents_of old kind (block_at f j) in
    let k : ℕ → Option (List (List ℕ)) = λ j. contents_of new kind (block_at f j) in
    let n : ℕ = places kind in
    let put : Option (List (List ℕ)) = option_map (λ records. slice_set records r bytes) (contents_of old kind (block_at f i)) in
    set_range None g k n i put h (contents_set kind old new (block_at f i) r bytes written less some)
    (λ j within apart. contents_kept kind old new (block_at f i) r (block_at f j) bytes written less (places_differ kind earlier f i j free h within some apart))

extent_set : (kind : Kind) (earlier : List Entry) (old new : Sectors) (f : FileEntry) (i r : ℕ) (bytes : List ℕ) → SectorWritten (block_at f i * block_records kind + r) bytes old new
    → r < block_records kind → i < places kind → block_at f i ≢ 0 → some_place kind (is_taken kind earlier f) ≡ false
    → extent_in new kind f ≡ with_record_in (extent_in old kind f) i r bytes
unfolding extent_in
extent_set kind earlier old new f i r bytes written less h some free =
    let blocks : List (Option (List (List ℕ))) = map (λ j. contents_of old kind (block_at f j)) (range_with_len 0 (places kind)) in
    ap (λ (bs : List (Option (List (List ℕ)))). record (extent_in old kind f) { blocks = bs })
    (blocks_set kind earlier old new f i r bytes written less h some free
    ∙ ap (λ (o : Option (List (List ℕ))). slice_set blocks i (option_map (λ records. slice_set records r bytes) o)) (sym (map_at (λ j. contents_of old kind (block_at f j)) (places kind) i None h)))

-- the entries' items: one is replaced
items_set : (kind : Kind) (entries : List Entry) (slot : ℕ) (old new : Sectors) (f : FileEntry) (i r : ℕ) (bytes : List ℕ) → first_fault kind entries ≡ None → slot < length entries
    → get_or entries slot Free ≡ File f → SectorWritten (block_at f i * block_records kind + r) bytes old new → r < block_records kind → i < places kind → block_at f i ≢ 0
    → map (extent_from new kind) entries ≡ slice_set (map (extent_from old kind) entries) slot (Some (name_of kind f, with_record_in (extent_in old kind f) i r bytes))
items_set kind entries slot old new f i r bytes faultless h is written less within some =
    let before : List (Option (EntryName × PhysicalExtent)) = map (extent_from old kind) entries in
    let after : List (Option (EntryName × PhysicalExtent)) = map (extent_from new kind) entries in
    let put : Option (EntryName × PhysicalExtent) = Some (name_of kind f, with_record_in (extent_in old kind f) i r bytes) in
    let held : holds kind (block_at f i) (get_or entries slot Free) ≡ true = ap (holds kind (block_at f i)) is ∙ has_own f (places kind) i within in
    let sound = sound_at kind entries slot f faultless h is in
    let long : length before ≡ length entries = length-map entries (extent_from old kind) in
    let longer : length after ≡ length entries = length-map entries (extent_from new kind) in
    ext_get_or None after (slice_set before slot put) (longer ∙ sym long ∙ sym (length-set before slot put)) (λ k small.
    let inside : k < length entries = omega arith in
    elim (cases_eq k slot) [
      | inl same ↦
          get_or-map (extent_from new kind) entries k Free None inside
          ∙ ap (λ (m : ℕ). extent_from new kind (get_or entries m Free)) same ∙ ap (extent_from new kind) is
          ∙ ap (λ (e : PhysicalExtent). Some (name_of kind f, e)) (extent_set kind (take slot entries) old new f i r bytes written less within some sound.free)
          ∙ sym (get_or-set_same before slot put None (omega arith)) ∙ sym (ap (λ (m : ℕ). get_or (slice_set before slot put) m None) same)
      | inr apart ↦
          get_or-map (extent_from new kind) entries k Free None inside
          ∙ from_kept kind old new (block_at f i) r bytes (get_or entries k Free) written less
          (other_at (holds kind (block_at f i)) entries slot k (held_once kind entries slot (block_at f i) faultless h some held) inside apart)
          ∙ sym (get_or-map (extent_from old kind) entries k Free None inside) ∙ sym (get_or-set_other before slot k put None apart)
    ])

drive_set : (kind : Kind) (entries : List Entry) (slot : ℕ) (old new : Sectors) (f : FileEntry) (i r : ℕ) (bytes : List ℕ) → first_fault kind entries ≡ None → slot < length entries
    → get_or entries slot Free ≡ File f → SectorWritten (block_at f i * block_records kind + r) bytes old new → r < block_records kind → i < places kind → block_at f i ≢ 0
    → drive_of new kind entries ≡ with_extent (drive_of old kind entries) (name_of kind f) (with_record_in (extent_in old kind f) i r bytes)
unfolding drive_of
drive_set kind entries slot old new f i r bytes faultless h is written less within some =
    let from = extent_from old kind in
    let before : List (Option (EntryName × PhysicalExtent)) = map from entries in
    let put : Option (EntryName × PhysicalExtent) = Some (name_of kind f, with_record_in (extent_in old kind f) i r bytes) in
    let was : get_or before slot None ≡ Some (name_of kind f, extent_in old kind f) = get_or-map from entries slot Free None h ∙ ap from is in
    let alone = extent_alone old kind entries slot (File f) faultless h is in
    ap (λ (extents : FinMap entry_cmp PhysicalExtent). record (drive_of old kind entries) { extents = extents })
    (ap (collected entry_cmp) (items_set kind entries slot old new f i r bytes faultless h is written less within some)
    ∙ collected_set entry_cmp entry_total entry_same before slot put (omega (arith, length-map entries from))
    (subst (λ o. StandsAlone entry_cmp o (others before slot)) (sym was) alone) alone
    ∙ ap (λ o. with_pair (without_pair (collected entry_cmp before) o) put) was
    ∙ again entry_cmp entry_total entry_same (collected entry_cmp before) (name_of kind f) (with_record_in (extent_in old kind f) i r bytes))

-- a record's sector, rewritten
pub record_written : (image : List ℕ) (d : Directory) (files : Drive) (slot i r : ℕ) (f : FileEntry) (bytes : List ℕ) → Stands image d files → slot < length d.entries
    → entry_in d slot ≡ File f → i < places d.kind → r < block_records d.kind → block_at f i ≢ 0 → length bytes ≡ 128
    → Stands (with_sector image (place_of d.kind (block_at f i * block_records d.kind + r)) bytes) d
    (with_extent files (name_of d.kind f) (with_record_in (extent_in (sectors_of image d.kind) d.kind f) i r bytes))
record_written image d files slot i r f bytes stands h is within less some size =
    let block : ℕ = block_at f i in
    let held : holds d.kind block (get_or d.entries slot Free) ≡ true = ap (holds d.kind block) is ∙ has_own f (places d.kind) i within in
    let bounds = block_within d.kind d.entries slot block stands.faultless h some held in
    let s : ℕ = block * block_records d.kind + r in
    let room : s < logical_sectors d.kind = block_sector d.kind block r bounds.1 less in
    let written = sectors_written d.kind image bytes s stands.size size room in
    let old = sectors_of image d.kind in
    let new = sectors_of (with_sector image (place_of d.kind s) bytes) d.kind in
    record {
      size = written_size d.kind image bytes s stands.size size room ∙ stands.size;
      entries = stands.entries ∙ sym (entries_kept d.kind old new block r bytes written bounds.0);
      faultless = stands.faultless;
      drive = ap (λ (drive : Drive). with_extent drive (name_of d.kind f) (with_record_in (extent_in old d.kind f) i r bytes)) stands.drive
          ∙ sym (drive_set d.kind d.entries slot old new f i r bytes stands.faultless h is written less within some);
    }
