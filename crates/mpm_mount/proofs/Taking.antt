-- A block that an entry takes: what the entry has then, and that the directory stays without a fault.
use Rattle.std.proofs.Common.{◌≡◌, ◌≢◌, ℕ, zero, suc, ◌+◌, ◌*◌, ◌/◌, ◌%◌, ◌<◌, ◌≤◌, ◌==◌, Bool, true, false, ◌&&◌, ◌||◌, not, inl, inr, List, [], ◌∷◌, Option, Some, None, length, get_or, map, take, refl, sym, ap, subst, ◌∙◌, arith, eq-eqb, ne_eqb}
use Rattle.std.specs.Prelude.{nat_lt, replicate, slice_set, if◌then◌else◌}
use Rattle.std.specs.List.{range_with_len, list_any}
use Rattle.std.proofs.lemmas.Bool.{cases_eq, le-ltb, or_parts, or_from}
use Rattle.std.proofs.lemmas.List.{get_or-set_same, get_or-set_other}
use Rattle.std.proofs.Math.Bool.{and-false}
use Rattle.mpm_base.specs.declared.kind.Kind.{Kind}
use Rattle.mpm_blocks.specs.Geometries.{geometry_of, last_block, block_records, place_of}
use Rattle.mpm_blocks.specs.Sectors.{Sectors, sectors_of, with_slot}
use Rattle.mpm_dirent.specs.declared.kinds.Entry.{Entry}
use Rattle.mpm_dirent.specs.declared.kinds.Entry.TheVariants.{Free, File}
use Rattle.mpm_dirent.specs.declared.kinds.FileEntry.{FileEntry}
use Rattle.mpm_dirent.specs.Entries.{entry_of}
use Rattle.mpm_port.specs.Disks.{with_sector}
use Rattle.mpm_mount.specs.declared.slots.EntryName.{EntryName}
use Rattle.mpm_mount.specs.Drives.{PhysicalExtent, Drive, entry_number, places, with_extent}
use Rattle.mpm_mount.specs.Faults.{extent_of, name_of, block_at, has_at, holds, is_outside, is_taken, is_named, cause_of, first_fault}
use Rattle.mpm_mount.specs.Images.{contents_of, extent_in, drive_of}
use Rattle.mpm_mount.specs.Directories.{others, Directory, entry_in, with_entry, Stands}
use Rattle.mpm_mount.specs.Changes.{exchanged, with_block, with_contents, TakesBlock}
use Rattle.mpm_mount.proofs.Ranges.{none_if}
use Rattle.mpm_mount.proofs.Orders.{same_entry}
use Rattle.mpm_mount.proofs.Others.{any_split}
use Rattle.mpm_mount.proofs.UsedBlocks.{some_none, nowhere_at}
use Rattle.mpm_mount.proofs.Sound.{sound_at, file_clean, held_once}
use Rattle.mpm_mount.proofs.Distinct.{own_name, named_alone}
use Rattle.mpm_mount.proofs.Still.{has_own}
use Rattle.mpm_mount.proofs.Unheld.{not_held}
use Rattle.mpm_mount.proofs.Recorded.{before_in, set_range}
use Rattle.mpm_mount.proofs.EntryWritten.{entry_written}
use Rattle.mpm_mount.proofs.Sorts.{extent_changed}

-- what the entry has
pub extent_with_block : (sectors : Sectors) (kind : Kind) (f : FileEntry) (i block ex s2 rc : ℕ) → i < places kind → i < length f.blocks
    → extent_in sectors kind (with_block f i block ex s2 rc) ≡ with_contents (extent_in sectors kind f) i (contents_of sectors kind block) (32 * s2 + ex) rc
unfolding extent_in
extent_with_block sectors kind f i block ex s2 rc h room =
    let g : FileEntry = with_block f i block ex s2 rc in
    ap (λ (bs : List (Option (List (List ℕ)))). record (extent_in sectors kind f) { last = 32 * s2 + ex; count = rc; blocks = bs })
    (set_range None (λ j. contents_of sectors kind (block_at f j)) (λ j. contents_of sectors kind (block_at g j)) (places kind) i (contents_of sectors kind block) h
    (ap (contents_of sectors kind) (get_or-set_same f.blocks i block 0 room))
    (λ j less apart. ap (contents_of sectors kind) (get_or-set_other f.blocks i j block 0 apart)))

-- a block whose records are zeros, but for one
pub all_alike : {X : Type 0} (x : X) (a n : ℕ) → map (λ i. x) (range_with_len a n) ≡ replicate n x
all_alike x a zero = refl
all_alike x a (suc n) = ap (λ xs. x ∷ xs) (all_alike x (a + 1) n)

pub fresh_block : (sectors : Sectors) (kind : Kind) (block r : ℕ) (bytes : List ℕ) → block ≢ 0 → r < block_records kind → sectors (block * block_records kind + r) ≡ bytes
    → ((i : ℕ) → i < block_records kind → i ≢ r → sectors (block * block_records kind + i) ≡ replicate 128 0)
    → contents_of sectors kind block ≡ Some (slice_set (replicate (block_records kind) (replicate 128 0)) r bytes)
unfolding contents_of
fresh_block sectors kind block r bytes some h here others_zero =
    let n : ℕ = block_records kind in
    let g : ℕ → List ℕ = λ i. replicate 128 0 in
    let f : ℕ → List ℕ = λ i. sectors (block * block_records kind + i) in
    ap (λ b. if b then None else Some (map f (range_with_len 0 n))) (ne_eqb block 0 some)
    ∙ ap (λ (records : List (List ℕ)). Some records) (set_range [] g f n r bytes h here others_zero)
    ∙ ap (λ (records : List (List ℕ)). Some (slice_set records r bytes)) (all_alike (replicate 128 0) 0 n)

-- the blocks of the entry, one of them new
block_here : (f : FileEntry) (i block ex s2 rc : ℕ) → i < length f.blocks → block_at (with_block f i block ex s2 rc) i ≡ block
block_here f i block ex s2 rc room = get_or-set_same f.blocks i block 0 room

block_other : (f : FileEntry) (i j block ex s2 rc : ℕ) → j ≢ i → block_at (with_block f i block ex s2 rc) j ≡ block_at f j
block_other f i j block ex s2 rc apart = get_or-set_other f.blocks i j block 0 apart

free_others : (kind : Kind) (entries : List Entry) (slot block : ℕ) → slot < length entries → list_any (holds kind block) entries ≡ false
    → (holds kind block (get_or entries slot Free) ≡ false) × (list_any (holds kind block) (others entries slot) ≡ false)
free_others kind entries slot block h none =
    or_parts (holds kind block (get_or entries slot Free)) (list_any (holds kind block) (others entries slot)) (sym (any_split (holds kind block) entries slot Free h) ∙ none)

outside_test : Kind → ℕ → Bool
outside_test kind b = not (b == 0) && (nat_lt b (geometry_of kind).directory_blocks || nat_lt (last_block kind) b)

inside_block : (kind : Kind) (b : ℕ) → (geometry_of kind).directory_blocks ≤ b → b ≤ last_block kind → outside_test kind b ≡ false
unfolding outside_test
inside_block kind b low high =
    ap (λ z. not (b == 0) && z)
    (or_from (nat_lt b (geometry_of kind).directory_blocks) (nat_lt (last_block kind) b) (le-ltb b (geometry_of kind).directory_blocks low) (le-ltb (last_block kind) b high))
    ∙ and-false (not (b == 0))

none_outside : (d : Directory) (slot : ℕ) (f : FileEntry) (i block ex s2 rc : ℕ) → first_fault d.kind d.entries ≡ None → TakesBlock d slot f i block ex s2 rc
    → (j : ℕ) → j < places d.kind → is_outside d.kind (with_block f i block ex s2 rc) j ≡ false
unfolding outside_test
none_outside d slot f i block ex s2 rc faultless takes j less =
    let sound = sound_at d.kind d.entries slot f faultless takes.within takes.entry in
    elim (cases_eq j i) [
      | inl same ↦
          ap (λ (k : ℕ). outside_test d.kind (block_at (with_block f i block ex s2 rc) k)) same ∙ ap (outside_test d.kind) (block_here f i block ex s2 rc takes.room)
          ∙ inside_block d.kind block takes.free.low takes.free.high
      | inr apart ↦ ap (outside_test d.kind) (block_other f i j block ex s2 rc apart) ∙ nowhere_at d.kind (is_outside d.kind f) j sound.inside less
    ]

-- no block of the entry is another's, or stands twice
pub none_before : (f g : FileEntry) (j c : ℕ) → ((k : ℕ) → k < j → block_at g k ≢ c) → has_at g j c ≡ false
unfolding has_at
none_before f g j c each = none_if (λ k. block_at g k == c) j (λ k h. ne_eqb (block_at g k) c (each k h))

pub off : (a b c : Bool) → b ≡ false → c ≡ false → (a && (b || c)) ≡ false
off true b c eb ec = or_from b c eb ec
off false b c eb ec = refl

pub off_zero : (c : ℕ) (x : Bool) → c ≡ 0 → (not (c == 0) && x) ≡ false
off_zero c x none = ap (λ z. not z && x) (eq-eqb c 0 none)

none_taken_here : (d : Directory) (slot : ℕ) (f : FileEntry) (i block ex s2 rc : ℕ) → TakesBlock d slot f i block ex s2 rc
    → (not (block == 0) && (list_any (holds d.kind block) (others d.entries slot) || has_at (with_block f i block ex s2 rc) i block)) ≡ false
none_taken_here d slot f i block ex s2 rc takes =
    let parts = free_others d.kind d.entries slot block takes.within takes.free.unheld in
    let unheld : has_at f (places d.kind) block ≡ false = ap (holds d.kind block) (sym takes.entry) ∙ parts.0 in
    off (not (block == 0)) (list_any (holds d.kind block) (others d.entries slot)) (has_at (with_block f i block ex s2 rc) i block) parts.1
    (none_before f (with_block f i block ex s2 rc) i block (λ k h same.
    not_held f (places d.kind) block k unheld (omega (arith, takes.place)) (sym (block_other f i k block ex s2 rc (λ is. omega arith)) ∙ same)))

none_taken_other : (d : Directory) (slot : ℕ) (f : FileEntry) (i block ex s2 rc j : ℕ) → first_fault d.kind d.entries ≡ None → TakesBlock d slot f i block ex s2 rc → j < places d.kind
    → j ≢ i → block_at f j ≢ 0
    → (not (block_at f j == 0) && (list_any (holds d.kind (block_at f j)) (others d.entries slot) || has_at (with_block f i block ex s2 rc) j (block_at f j))) ≡ false
none_taken_other d slot f i block ex s2 rc j faultless takes less apart some =
    let sound = sound_at d.kind d.entries slot f faultless takes.within takes.entry in
    let parts = free_others d.kind d.entries slot block takes.within takes.free.unheld in
    let unheld : has_at f (places d.kind) block ≡ false = ap (holds d.kind block) (sym takes.entry) ∙ parts.0 in
    let here : holds d.kind (block_at f j) (get_or d.entries slot Free) ≡ true = ap (holds d.kind (block_at f j)) takes.entry ∙ has_own f (places d.kind) j less in
    off (not (block_at f j == 0)) (list_any (holds d.kind (block_at f j)) (others d.entries slot)) (has_at (with_block f i block ex s2 rc) j (block_at f j))
    (held_once d.kind d.entries slot (block_at f j) faultless takes.within some here)
    (none_before f (with_block f i block ex s2 rc) j (block_at f j) (λ k h same. elim (cases_eq k i) [
      | inl is ↦
          not_held f (places d.kind) block j unheld less
          (sym same ∙ ap (λ (m : ℕ). block_at (with_block f i block ex s2 rc) m) is ∙ block_here f i block ex s2 rc takes.room)
      | inr other ↦ before_in d.kind (take slot d.entries) f k j sound.free h less some (sym (block_other f i k block ex s2 rc other) ∙ same)
    ]))

taken_test : Kind → List Entry → FileEntry → ℕ → ℕ → Bool
taken_test kind rest g j c = not (c == 0) && (list_any (holds kind c) rest || has_at g j c)

none_taken : (d : Directory) (slot : ℕ) (f : FileEntry) (i block ex s2 rc : ℕ) → first_fault d.kind d.entries ≡ None → TakesBlock d slot f i block ex s2 rc
    → (j : ℕ) → j < places d.kind → is_taken d.kind (others d.entries slot) (with_block f i block ex s2 rc) j ≡ false
unfolding taken_test
none_taken d slot f i block ex s2 rc faultless takes j less =
    let g : FileEntry = with_block f i block ex s2 rc in
    let rest : List Entry = others d.entries slot in
    elim (cases_eq j i) [
      | inl same ↦
          ap (λ (k : ℕ). taken_test d.kind rest g k (block_at g k)) same ∙ ap (taken_test d.kind rest g i) (block_here f i block ex s2 rc takes.room)
          ∙ none_taken_here d slot f i block ex s2 rc takes
      | inr apart ↦ ap (taken_test d.kind rest g j) (block_other f i j block ex s2 rc apart) ∙ elim (cases_eq (block_at f j) 0) [
        | inl none ↦ off_zero (block_at f j) (list_any (holds d.kind (block_at f j)) rest || has_at g j (block_at f j)) none
        | inr some ↦ none_taken_other d slot f i block ex s2 rc j faultless takes less apart some
      ]
    ]

same_number : (kind : Kind) (f : FileEntry) (i block ex s2 rc : ℕ) → entry_number kind (32 * s2 + ex) ≡ entry_number kind (extent_of f)
    → name_of kind (with_block f i block ex s2 rc) ≡ name_of kind f
same_number kind f i block ex s2 rc number = same_entry (name_of kind (with_block f i block ex s2 rc)) (name_of kind f) refl refl number

-- no fault after all others
pub still_taking : (d : Directory) (slot : ℕ) (f : FileEntry) (i block ex s2 rc : ℕ) → first_fault d.kind d.entries ≡ None → TakesBlock d slot f i block ex s2 rc
    → cause_of d.kind (others d.entries slot) (File (with_block f i block ex s2 rc)) ≡ None
still_taking d slot f i block ex s2 rc faultless takes =
    let g : FileEntry = with_block f i block ex s2 rc in
    let rest : List Entry = others d.entries slot in
    file_clean d.kind rest g (record {
      few = le-ltb 128 rc takes.few;
      inside = some_none d.kind (is_outside d.kind g) (none_outside d slot f i block ex s2 rc faultless takes);
      free = some_none d.kind (is_taken d.kind rest g) (none_taken d slot f i block ex s2 rc faultless takes);
      unnamed = ap (λ (n : EntryName). list_any (is_named d.kind n) rest) (same_number d.kind f i block ex s2 rc takes.number)
          ∙ named_alone d.kind d.entries slot (name_of d.kind f) faultless takes.within (ap (is_named d.kind (name_of d.kind f)) takes.entry ∙ own_name d.kind f);
      extent = or_from (nat_lt 63 s2) (nat_lt 31 ex) (le-ltb 63 s2 takes.high) (le-ltb 31 ex takes.low);
    })

kind_of : (sectors : Sectors) (kind : Kind) (entries : List Entry) → (drive_of sectors kind entries).kind ≡ kind
unfolding drive_of
kind_of sectors kind entries = refl

-- the directory entry that is written with a block taken
pub block_taken : (image : List ℕ) (d : Directory) (files : Drive) (slot : ℕ) (f : FileEntry) (i block ex s2 rc : ℕ) (bytes : List ℕ) → Stands image d files
    → slot < (geometry_of d.kind).drm + 1 → TakesBlock d slot f i block ex s2 rc → length bytes ≡ 32
    → entry_of bytes (geometry_of d.kind).wide ≡ File (with_block f i block ex s2 rc)
    → Stands (with_sector image (place_of d.kind (slot / 4)) (with_slot (sectors_of image d.kind (slot / 4)) (slot % 4) bytes))
    (with_entry d slot (File (with_block f i block ex s2 rc)))
    (with_extent files (name_of d.kind f)
    (with_contents (extent_in (sectors_of image d.kind) d.kind f) i (contents_of (sectors_of image d.kind) d.kind block) (32 * s2 + ex) rc))
block_taken image d files slot f i block ex s2 rc bytes stands h takes size is =
    let sectors = sectors_of image d.kind in
    let g : FileEntry = with_block f i block ex s2 rc in
    let written : List ℕ = with_sector image (place_of d.kind (slot / 4)) (with_slot (sectors (slot / 4)) (slot % 4) bytes) in
    let none : cause_of d.kind (others d.entries slot) (entry_of bytes (geometry_of d.kind).wide) ≡ None =
    ap (cause_of d.kind (others d.entries slot)) is ∙ still_taking d slot f i block ex s2 rc stands.faultless takes in
    let kind_is : files.kind ≡ d.kind = ap (λ (drive : Drive). drive.kind) stands.drive ∙ kind_of sectors d.kind d.entries in
    let changed : exchanged sectors files (File f) (File g) ≡ with_extent files (name_of d.kind f) (with_contents (extent_in sectors d.kind f) i (contents_of sectors d.kind block) (32 * s2 + ex) rc) =
    extent_changed sectors files f g (ap (λ (k : Kind). name_of k f) kind_is ∙ sym (same_number d.kind f i block ex s2 rc takes.number) ∙ sym (ap (λ (k : Kind). name_of k g) kind_is))
    ∙ ap (λ (k : Kind). with_extent files (name_of k g) (extent_in sectors k g)) kind_is
    ∙ ap (λ (n : EntryName). with_extent files n (extent_in sectors d.kind g)) (same_number d.kind f i block ex s2 rc takes.number)
    ∙ ap (λ (e : PhysicalExtent). with_extent files (name_of d.kind f) e) (extent_with_block sectors d.kind f i block ex s2 rc takes.place takes.room) in
    subst (λ (drive : Drive). Stands written (with_entry d slot (File g)) drive) changed
    (subst (λ (e : Entry). Stands written (with_entry d slot (File g)) (exchanged sectors files e (File g))) takes.entry
    (subst (λ (e : Entry). Stands written (with_entry d slot e) (exchanged sectors files (entry_in d slot) e)) is
    (entry_written image d files slot bytes stands h takes.within size none)))
