-- The free records of a directory's block map are those of the drive that it stands for: each block that an entry holds is one more that is used.
use Rattle.std.proofs.Common.{◌≡◌, ◌≢◌, ℕ, zero, suc, ◌+◌, ◌-◌, ◌*◌, ◌<◌, ◌≤◌, ◌==◌, Bool, true, false, ◌&&◌, ◌||◌, not, inl, inr, List, [], ◌∷◌, length, get_or, map, take, refl, sym, ap, ◌∙◌, arith, eq-eqb, ne_eqb, add-zero, add-one}
use Rattle.std.proofs.Math.Bool.{or-false, or-true, or_assoc}
use Rattle.std.specs.Prelude.{Some, None, is_some, nat_lt, sum_by, count_by, if◌then◌else◌}
use Rattle.std.specs.List.{range_with_len, list_any}
use Rattle.std.specs.FinMap.{values}
use Rattle.std.proofs.lemmas.Bool.{cases_eq, le-ltb, or_parts}
use Rattle.std.proofs.lemmas.List.FromFn.{length-range_with_len}
use Rattle.std.proofs.lemmas.List.Sums.{sum_by-cons}
use Rattle.mpm_base.specs.declared.kind.Kind.{Kind}
use Rattle.mpm_base.specs.declared.kind.Kind.TheVariants.{Ibm3740, Hd4, Hd8}
use Rattle.mpm_base.proofs.CountLaws.{one_if}
use Rattle.mpm_blocks.specs.Geometries.{geometry_of, last_block, block_records}
use Rattle.mpm_blocks.specs.Sectors.{Sectors, sectors_of}
use Rattle.mpm_dirent.specs.declared.kinds.Entry.{Entry}
use Rattle.mpm_dirent.specs.declared.kinds.Entry.TheVariants.{Free, File, Xfcb, Label, Kept}
use Rattle.mpm_dirent.specs.declared.kinds.FileEntry.{FileEntry}
use Rattle.mpm_mount.specs.Drives.{entry_cmp, Drive, places, held_blocks, free_records}
use Rattle.mpm_mount.specs.Faults.{block_at, has_at, holds, first_fault}
use Rattle.mpm_mount.specs.Images.{contents_of, extent_in, extent_from, collected, drive_of}
use Rattle.mpm_mount.specs.Directories.{others, Directory, is_used, used_blocks, free_block, free_records_in, Stands}
use Rattle.mpm_mount.specs.Using.{is_among}
use Rattle.mpm_mount.proofs.Ranges.{none_if}
use Rattle.mpm_mount.proofs.Tails.{EachWithRest, by_others}
use Rattle.mpm_mount.proofs.Counts.{none_counted, count_more, count_alike, count_with, count_below, count_map, not_counted}
use Rattle.mpm_mount.proofs.InAll.{weight, sum_collected}
use Rattle.mpm_mount.proofs.UsedBlocks.{inside_at, has_none, claims_none_bit, among_here, among_other, among_zero}
use Rattle.mpm_mount.proofs.UsedBy.{zero_used}
use Rattle.mpm_mount.proofs.Sound.{sound_at, held_once}
use Rattle.mpm_mount.proofs.Still.{has_own}
use Rattle.mpm_mount.proofs.Recorded.{before_in}
use Rattle.mpm_mount.proofs.Orders.{entry_total}
use Rattle.mpm_mount.proofs.LookedUp.{nowhere}
use Rattle.mpm_mount.proofs.FreeEntries.{extents_apart}

-- a block of an entry: one of files, that nothing after it holds, and that stands once
pub record IsOwn (kind : Kind) (f : FileEntry) (i : ℕ) (rest : List Entry) : Type 0 where
  pub low : (geometry_of kind).directory_blocks ≤ block_at f i
  pub high : block_at f i ≤ last_block kind
  pub alone : list_any (holds kind (block_at f i)) rest ≡ false
  pub once : (j : ℕ) → j < i → block_at f j ≢ block_at f i

abbrev pub HoldsOwn : Kind → Entry → List Entry → Type 0
HoldsOwn kind (File f) rest = (i : ℕ) → i < places kind → block_at f i ≢ 0 → IsOwn kind f i rest
HoldsOwn kind Free rest = Unit {0}
HoldsOwn kind (Xfcb x) rest = Unit {0}
HoldsOwn kind (Label l) rest = Unit {0}
HoldsOwn kind (Kept bytes) rest = Unit {0}

own_less : (kind : Kind) (e y : Entry) (ys : List Entry) → HoldsOwn kind e (y ∷ ys) → HoldsOwn kind e ys
own_less kind (File f) y ys own = λ i h some.
    let was = own i h some in
    record { low = was.low; high = was.high; alone = (or_parts (holds kind (block_at f i) y) (list_any (holds kind (block_at f i)) ys) was.alone).1; once = was.once }
own_less kind Free y ys own = tt
own_less kind (Xfcb x) y ys own = tt
own_less kind (Label l) y ys own = tt
own_less kind (Kept bytes) y ys own = tt

own_at : (kind : Kind) (entries : List Entry) (slot : ℕ) (e : Entry) → first_fault kind entries ≡ None → slot < length entries → get_or entries slot Free ≡ e
    → HoldsOwn kind e (others entries slot)
own_at kind entries slot (File f) faultless h is = λ i less some.
    let sound = sound_at kind entries slot f faultless h is in
    let inside = inside_at kind f i sound.inside less some in
    record {
      low = inside.0;
      high = inside.1;
      alone = held_once kind entries slot (block_at f i) faultless h some (ap (holds kind (block_at f i)) is ∙ has_own f (places kind) i less);
      once = λ j before. before_in kind (take slot entries) f j i sound.free before less some;
    }
own_at kind entries slot Free faultless h is = tt
own_at kind entries slot (Xfcb x) faultless h is = tt
own_at kind entries slot (Label l) faultless h is = tt
own_at kind entries slot (Kept bytes) faultless h is = tt

each_own : (kind : Kind) (entries : List Entry) → first_fault kind entries ≡ None → EachWithRest (HoldsOwn kind) entries
each_own kind entries faultless = by_others (HoldsOwn kind) Free (own_less kind) entries (λ slot h. own_at kind entries slot (get_or entries slot Free) faultless h refl)

-- one block more of an entry
among_next : (f : FileEntry) (i block : ℕ) → block_at f i ≢ 0 → is_among f (suc i) block ≡ (is_among f i block || block_at f i == block)
among_next f i block some = ap (λ (n : ℕ). is_among f n block) (sym (add-one i)) ∙ elim (cases_eq (block_at f i) block) [
  | inl same ↦
      among_here f i block (λ none. some (same ∙ none)) same ∙ sym (or-true (is_among f i block)) ∙ ap (λ b. is_among f i block || b) (sym (eq-eqb (block_at f i) block same))
  | inr other ↦ among_other f i block other ∙ sym (or-false (is_among f i block)) ∙ ap (λ b. is_among f i block || b) (sym (ne_eqb (block_at f i) block other))
]

among_same : (f : FileEntry) (i block : ℕ) → block_at f i ≡ 0 → is_among f (suc i) block ≡ is_among f i block
among_same f i block none = ap (λ (n : ℕ). is_among f n block) (sym (add-one i)) ∙ among_zero f i block none

not_among : (f : FileEntry) (i : ℕ) → ((j : ℕ) → j < i → block_at f j ≢ block_at f i) → has_at f i (block_at f i) ≡ false
unfolding has_at
not_among f i once = none_if (λ j. block_at f j == block_at f i) i (λ j h. ne_eqb (block_at f j) (block_at f i) (once j h))

neither : (a b c d : Bool) → a ≡ false → b ≡ false → d ≡ false → ((a || b) || (c && d)) ≡ false
neither true b c d ea eb ed = ea
neither false true c d ea eb ed = eb
neither false false true d ea eb ed = ed
neither false false false d ea eb ed = refl

old_free : (kind : Kind) (f : FileEntry) (i : ℕ) (rest : List Entry) → IsOwn kind f i rest → (is_used kind rest (block_at f i) || is_among f i (block_at f i)) ≡ false
old_free kind f i rest own =
    neither (nat_lt (block_at f i) (geometry_of kind).directory_blocks) (list_any (holds kind (block_at f i)) rest) (not (block_at f i == 0)) (has_at f i (block_at f i))
    (le-ltb (block_at f i) (geometry_of kind).directory_blocks own.low) own.alone (not_among f i own.once)

used_none : (kind : Kind) (f : FileEntry) (rest : List Entry) (b : ℕ) → (is_used kind rest b || is_among f 0 b) ≡ is_used kind rest b
used_none kind f rest b =
    ap (λ z. is_used kind rest b || (not (b == 0) && z)) (has_none f b) ∙ sym (claims_none_bit (is_used kind rest b) (not (b == 0)))

used_to_place : (kind : Kind) (f : FileEntry) (rest : List Entry) (n : ℕ) → HoldsOwn kind (File f) rest → n ≤ places kind
    → count_by (λ b. is_used kind rest b || is_among f n b) (range_with_len 0 (last_block kind + 1))
    ≡ count_by (is_used kind rest) (range_with_len 0 (last_block kind + 1)) + count_by (λ i. not (block_at f i == 0)) (range_with_len 0 n)
used_to_place kind f rest zero own h =
    count_alike (λ b. is_used kind rest b || is_among f 0 b) (is_used kind rest) (last_block kind + 1) (λ b less. used_none kind f rest b)
    ∙ sym (add-zero (count_by (is_used kind rest) (range_with_len 0 (last_block kind + 1))))
used_to_place kind f rest (suc i) own h =
    let size : ℕ = last_block kind + 1 in
    let before = used_to_place kind f rest i own (omega arith) in
    let more = count_more (λ j. not (block_at f j == 0)) i in
    elim (cases_eq (block_at f i) 0) [
      | inl none ↦
          let here : one_if (not (block_at f i == 0)) ≡ 0 = ap (λ z. one_if (not z)) (eq-eqb (block_at f i) 0 none) in
          let same : count_by (λ b. is_used kind rest b || is_among f (suc i) b) (range_with_len 0 size) ≡ count_by (λ b. is_used kind rest b || is_among f i b) (range_with_len 0 size) =
          count_alike (λ b. is_used kind rest b || is_among f (suc i) b) (λ b. is_used kind rest b || is_among f i b) size
          (λ b less. ap (λ z. is_used kind rest b || z) (among_same f i b none)) in
          omega (arith, here, same, before, more)
      | inr some ↦
          let mine = own i (omega arith) some in
          let here : one_if (not (block_at f i == 0)) ≡ 1 = ap (λ z. one_if (not z)) (ne_eqb (block_at f i) 0 some) in
          let same : count_by (λ b. is_used kind rest b || is_among f (suc i) b) (range_with_len 0 size)
          ≡ count_by (λ b. (is_used kind rest b || is_among f i b) || (block_at f i == b)) (range_with_len 0 size) =
          count_alike (λ b. is_used kind rest b || is_among f (suc i) b) (λ b. (is_used kind rest b || is_among f i b) || (block_at f i == b)) size
          (λ b less. ap (λ z. is_used kind rest b || z) (among_next f i b some) ∙ sym (or_assoc (is_used kind rest b) (is_among f i b) (block_at f i == b))) in
          let one = count_with (λ b. is_used kind rest b || is_among f i b) (block_at f i) size (old_free kind f i rest mine) (omega (arith, mine.high)) in
          omega (arith, here, same, one, before, more)
    ]

-- all blocks of an entry
used_with : (dir has rest : Bool) → (dir || (has || rest)) ≡ ((dir || rest) || (true && has))
used_with true has rest = refl
used_with false true true = refl
used_with false true false = refl
used_with false false true = refl
used_with false false false = refl

used_at_block : (kind : Kind) (f : FileEntry) (rest : List Entry) (b : ℕ) → is_used kind (File f ∷ rest) b ≡ (is_used kind rest b || is_among f (places kind) b)
used_at_block kind f rest b = elim (cases_eq b 0) [
  | inl none ↦
      ap (is_used kind (File f ∷ rest)) none ∙ zero_used kind (File f ∷ rest)
      ∙ sym (ap (λ z. z || is_among f (places kind) b) (ap (is_used kind rest) none ∙ zero_used kind rest))
  | inr some ↦
      used_with (nat_lt b (geometry_of kind).directory_blocks) (has_at f (places kind) b) (list_any (holds kind b) rest)
      ∙ ap (λ z. is_used kind rest b || (not z && has_at f (places kind) b)) (sym (ne_eqb b 0 some))
]

there_unless : {X : Type 0} (b : Bool) (x : X) → is_some (if b then None else Some x) ≡ not b
there_unless true x = refl
there_unless false x = refl

pub held_where : (sectors : Sectors) (kind : Kind) (block : ℕ) → is_some (contents_of sectors kind block) ≡ not (block == 0)
unfolding contents_of
held_where sectors kind block =
    there_unless (block == 0) (map (λ r. sectors (block * block_records kind + r)) (range_with_len 0 (block_records kind)))

held_counted : (sectors : Sectors) (kind : Kind) (f : FileEntry) → count_by (λ i. not (block_at f i == 0)) (range_with_len 0 (places kind)) ≡ held_blocks (extent_in sectors kind f)
unfolding extent_in
held_counted sectors kind f =
    sym (count_map is_some (λ i. contents_of sectors kind (block_at f i)) (range_with_len 0 (places kind))
    ∙ count_alike (λ i. is_some (contents_of sectors kind (block_at f i))) (λ i. not (block_at f i == 0)) (places kind) (λ i h. held_where sectors kind (block_at f i)))

used_more : (sectors : Sectors) (kind : Kind) (e : Entry) (rest : List Entry) → HoldsOwn kind e rest
    → count_by (is_used kind (e ∷ rest)) (range_with_len 0 (last_block kind + 1))
    ≡ count_by (is_used kind rest) (range_with_len 0 (last_block kind + 1)) + weight held_blocks (extent_from sectors kind e)
used_more sectors kind (File f) rest own =
    count_alike (is_used kind (File f ∷ rest)) (λ b. is_used kind rest b || is_among f (places kind) b) (last_block kind + 1) (λ b less. used_at_block kind f rest b)
    ∙ used_to_place kind f rest (places kind) own (omega arith)
    ∙ ap (λ (n : ℕ). count_by (is_used kind rest) (range_with_len 0 (last_block kind + 1)) + n) (held_counted sectors kind f)
used_more sectors kind Free rest own = sym (add-zero (count_by (is_used kind rest) (range_with_len 0 (last_block kind + 1))))
used_more sectors kind (Xfcb x) rest own = sym (add-zero (count_by (is_used kind rest) (range_with_len 0 (last_block kind + 1))))
used_more sectors kind (Label l) rest own = sym (add-zero (count_by (is_used kind rest) (range_with_len 0 (last_block kind + 1))))
used_more sectors kind (Kept bytes) rest own = sym (add-zero (count_by (is_used kind rest) (range_with_len 0 (last_block kind + 1))))

directory_small : (kind : Kind) → (geometry_of kind).directory_blocks ≤ last_block kind + 1
directory_small Ibm3740 = omega arith
directory_small Hd4 = omega arith
directory_small Hd8 = omega arith

one_entry_more : (a b c d s t : ℕ) → a ≡ b + c → b ≡ d + s → t ≡ c + s → a ≡ d + t
one_entry_more a b c d s t one two three = omega arith

used_all : (sectors : Sectors) (kind : Kind) (entries : List Entry) → EachWithRest (HoldsOwn kind) entries
    → count_by (is_used kind entries) (range_with_len 0 (last_block kind + 1))
    ≡ (geometry_of kind).directory_blocks + sum_by (weight held_blocks) (map (extent_from sectors kind) entries)
used_all sectors kind [] own =
    count_below (geometry_of kind).directory_blocks (last_block kind + 1) (directory_small kind) ∙ sym (add-zero (geometry_of kind).directory_blocks)
used_all sectors kind (e ∷ rest) own =
    one_entry_more (count_by (is_used kind (e ∷ rest)) (range_with_len 0 (last_block kind + 1))) (count_by (is_used kind rest) (range_with_len 0 (last_block kind + 1)))
    (weight held_blocks (extent_from sectors kind e)) (geometry_of kind).directory_blocks (sum_by (weight held_blocks) (map (extent_from sectors kind) rest))
    (sum_by (weight held_blocks) (map (extent_from sectors kind) (e ∷ rest))) (used_more sectors kind e rest own.0) (used_all sectors kind rest own.1)
    (sum_by-cons (weight held_blocks) (extent_from sectors kind e) (map (extent_from sectors kind) rest))

free_counted : (kind : Kind) (entries : List Entry)
    → count_by not (used_blocks kind entries) + count_by (is_used kind entries) (range_with_len 0 (last_block kind + 1)) ≡ last_block kind + 1
unfolding used_blocks
free_counted kind entries = not_counted (is_used kind entries) (range_with_len 0 (last_block kind + 1)) ∙ length-range_with_len 0 (last_block kind + 1)

left_of : (free used size dir held : ℕ) → free + used ≡ size → used ≡ dir + held → free ≡ size - dir - held
left_of free used size dir held all is = omega arith

free_records_of : (sectors : Sectors) (kind : Kind) (entries : List Entry) → first_fault kind entries ≡ None
    → count_by not (used_blocks kind entries) * block_records kind ≡ free_records (drive_of sectors kind entries)
unfolding free_records drive_of
free_records_of sectors kind entries faultless =
    let items = map (extent_from sectors kind) entries in
    let held : sum_by held_blocks (values (collected entry_cmp items)) ≡ sum_by (weight held_blocks) items =
    sum_collected entry_cmp entry_total held_blocks items (extents_apart sectors kind entries faultless) in
    ap (λ (n : ℕ). n * block_records kind)
    (left_of (count_by not (used_blocks kind entries)) (count_by (is_used kind entries) (range_with_len 0 (last_block kind + 1))) (last_block kind + 1)
    (geometry_of kind).directory_blocks (sum_by held_blocks (values (collected entry_cmp items))) (free_counted kind entries)
    (used_all sectors kind entries (each_own kind entries faultless) ∙ ap (λ (n : ℕ). (geometry_of kind).directory_blocks + n) (sym held)))

pub free_records_same : (image : List ℕ) (d : Directory) (files : Drive) → Stands image d files → free_records_in d ≡ free_records files
free_records_same image d files stands =
    free_records_of (sectors_of image d.kind) d.kind d.entries stands.faultless ∙ sym (ap free_records stands.drive)

zero_times : (n : ℕ) → 0 * n ≡ 0
zero_times n = omega arith

-- where no block is free, the drive has no free record
pub no_free_block : (image : List ℕ) (d : Directory) (files : Drive) → Stands image d files → free_block d ≡ None → free_records files ≡ 0
no_free_block image d files stands none =
    sym (free_records_same image d files stands)
    ∙ ap (λ (n : ℕ). n * block_records d.kind) (none_counted not (used_blocks d.kind d.entries) (nowhere not (used_blocks d.kind d.entries) none))
    ∙ zero_times (block_records d.kind)
