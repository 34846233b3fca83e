-- Sectors that are written into a free block: the drive stays as it is, and the block comes to have zeros and one record.
use Rattle.std.proofs.Common.{◌≡◌, ◌≢◌, inl, inr, ℕ, zero, suc, ◌+◌, ◌-◌, ◌*◌, ◌<◌, ◌≤◌, Bool, true, false, ◌==◌, max, List, [], ◌∷◌, ◌++◌, Some, length, map, refl, sym, ap, subst, ◌∙◌, arith, eq-eqb, ne_eqb}
use Rattle.std.specs.Prelude.{replicate, slice_set, if◌then◌else◌}
use Rattle.std.specs.List.{AllByRecursion, range_with_len}
use Rattle.std.proofs.lemmas.Bool.{cases_eq, cases_lt, cond-true, cond-false}
use Rattle.std.proofs.lemmas.List.{length-replicate}
use Rattle.mpm_base.specs.declared.kind.Kind.{Kind}
use Rattle.mpm_base.specs.declared.kind.Kind.TheVariants.{Ibm3740, Hd4, Hd8}
use Rattle.mpm_port.specs.Disks.{with_sector}
use Rattle.mpm_blocks.specs.Geometries.{geometry_of, block_records, logical_sectors, place_of}
use Rattle.mpm_blocks.specs.Sectors.{sectors_of}
use Rattle.mpm_blocks.proofs.Written.{sectors_written}
use Rattle.mpm_mount.specs.Drives.{Drive}
use Rattle.mpm_mount.specs.Images.{contents_of}
use Rattle.mpm_mount.specs.Directories.{Directory, IsFreeBlock, Stands}
use Rattle.mpm_mount.proofs.Unheld.{block_sector, unheld_written}
use Rattle.mpm_mount.proofs.Taking.{fresh_block}
use Rattle.mpm_sectors.specs.Writes.{Write, written, zero_record, cleared, zeros_from, block_writes}
use Rattle.mpm_sectors.specs.Writes as sectors

-- a sector of a block
record IsInto (kind : Kind) (block : ℕ) (w : Write) : Type 0 where
  index : ℕ
  less : index < block_records kind
  at : w.sector ≡ block * block_records kind + index
  long : length w.bytes ≡ 128

abbrev AreInto : Kind → ℕ → List Write → Type 0
AreInto kind block = AllByRecursion (IsInto kind block)

into_both : (kind : Kind) (block : ℕ) (xs ys : List Write) → AreInto kind block xs → AreInto kind block ys → AreInto kind block (xs ++ ys)
into_both kind block [] ys one other = other
into_both kind block (x ∷ xs) ys one other = (one.0, into_both kind block xs ys one.1 other)

into_front : (kind : Kind) (block : ℕ) (xs ys : List Write) → AreInto kind block (xs ++ ys) → AreInto kind block xs
into_front kind block [] ys each = tt
into_front kind block (x ∷ xs) ys each = (each.0, into_front kind block xs ys each.1)

next_at : (a b k : ℕ) → a ≡ b + k → a + 1 ≡ b + (k + 1)
next_at a b k is = omega (arith, is)

zeros_into : (kind : Kind) (block first count k : ℕ) → first ≡ block * block_records kind + k → k + count ≤ block_records kind → AreInto kind block (zeros_from first count)
unfolding zeros_from
zeros_into kind block first zero k is h = tt
zeros_into kind block first (suc count) k is h = (
  record { index = k; less = omega (arith, h); at = is; long = length-replicate {A = ℕ} 128 0 },
  zeros_into kind block (first + 1) count (k + 1) (next_at first (block * block_records kind) k is) (omega (arith, h)),
)

block_into : (kind : Kind) (block clear index : ℕ) (bytes : List ℕ) → clear ≤ block_records kind → index < block_records kind → length bytes ≡ 128
    → AreInto kind block (block_writes kind block clear index bytes)
unfolding block_writes
block_into kind block clear index bytes h less long =
    let first : ℕ = sectors.block_sector kind block in
    let behind : ℕ = max clear (index + 1) in
    let last : List Write = record { sector = first + index; bytes = bytes } ∷ [] in
    into_both kind block (zeros_from (first + clear) (index - clear)) (zeros_from (first + behind) (block_records kind - behind) ++ last)
    (zeros_into kind block (first + clear) (index - clear) clear refl (omega (arith, h, less)))
    (into_both kind block (zeros_from (first + behind) (block_records kind - behind)) last
    (zeros_into kind block (first + behind) (block_records kind - behind) behind refl (omega (arith, h, less)))
    (record { index = index; less = less; at = refl; long = long }, tt))

-- the drive stays
one_into : (d : Directory) (files : Drive) (block : ℕ) (w : Write) (image : List ℕ) → IsFreeBlock d block → IsInto d.kind block w → Stands image d files
    → Stands (with_sector image (place_of d.kind w.sector) w.bytes) d files
one_into d files block w image free into stands =
    subst (λ (s : ℕ). Stands (with_sector image (place_of d.kind s) w.bytes) d files) (sym into.at)
    (unheld_written image d files block into.index w.bytes stands free.low free.high into.less free.unheld into.long)

stands_into : (d : Directory) (files : Drive) (block : ℕ) (ws : List Write) (image : List ℕ) → IsFreeBlock d block → AreInto d.kind block ws → Stands image d files
    → Stands (written d.kind ws image) d files
unfolding written
stands_into d files block [] image free each stands = stands
stands_into d files block (w ∷ ws) image free each stands =
    stands_into d files block ws (with_sector image (place_of d.kind w.sector) w.bytes) free each.1 (one_into d files block w image free each.0 stands)

-- what a sector has after some writes
unfoldable behind_writes : List Write → ℕ → List ℕ → List ℕ
behind_writes [] s before = before
behind_writes (w ∷ ws) s before = behind_writes ws s (if w.sector == s then w.bytes else before)

one_read : (d : Directory) (files : Drive) (block s : ℕ) (w : Write) (image : List ℕ) → IsFreeBlock d block → IsInto d.kind block w → Stands image d files
    → sectors_of (with_sector image (place_of d.kind w.sector) w.bytes) d.kind s ≡ (if w.sector == s then w.bytes else sectors_of image d.kind s)
one_read d files block s w image free into stands =
    let room : w.sector < logical_sectors d.kind = subst (λ (n : ℕ). n < logical_sectors d.kind) (sym into.at) (block_sector d.kind block into.index free.high into.less) in
    let written = sectors_written d.kind image w.bytes w.sector stands.size into.long room in
    elim (cases_eq w.sector s) [
      | inl same ↦ ap (sectors_of (with_sector image (place_of d.kind w.sector) w.bytes) d.kind) (sym same) ∙ written.here
          ∙ sym (cond-true (w.sector == s) w.bytes (sectors_of image d.kind s) (eq-eqb w.sector s same))
      | inr apart ↦ written.others s (λ same. apart (sym same)) ∙ sym (cond-false (w.sector == s) w.bytes (sectors_of image d.kind s) (ne_eqb w.sector s apart))
    ]

all_read : (d : Directory) (files : Drive) (block s : ℕ) (ws : List Write) (image : List ℕ) → IsFreeBlock d block → AreInto d.kind block ws → Stands image d files
    → sectors_of (written d.kind ws image) d.kind s ≡ behind_writes ws s (sectors_of image d.kind s)
unfolding written behind_writes
all_read d files block s [] image free each stands = refl
all_read d files block s (w ∷ ws) image free each stands =
    all_read d files block s ws (with_sector image (place_of d.kind w.sector) w.bytes) free each.1 (one_into d files block w image free each.0 stands)
    ∙ ap (behind_writes ws s) (one_read d files block s w image free each.0 stands)

behind_both : (xs ys : List Write) (s : ℕ) (before : List ℕ) → behind_writes (xs ++ ys) s before ≡ behind_writes ys s (behind_writes xs s before)
unfolding behind_writes
behind_both [] ys s before = refl
behind_both (x ∷ xs) ys s before = behind_both xs ys s (if x.sector == s then x.bytes else before)

either_zeros : (b : Bool) → (if b then zero_record else zero_record) ≡ zero_record
either_zeros true = refl
either_zeros false = refl

zeros_keep : (first count s : ℕ) → behind_writes (zeros_from first count) s zero_record ≡ zero_record
unfolding behind_writes zeros_from
zeros_keep first zero s = refl
zeros_keep first (suc count) s = ap (behind_writes (map cleared (range_with_len (first + 1) count)) s) (either_zeros (first == s)) ∙ zeros_keep (first + 1) count s

zeros_cover : (first count s : ℕ) (before : List ℕ) → first ≤ s → s < first + count → behind_writes (zeros_from first count) s before ≡ zero_record
unfolding behind_writes zeros_from
zeros_cover first zero s before low high = absurd (omega (arith, low, high))
zeros_cover first (suc count) s before low high = elim (cases_eq first s) [
  | inl same ↦ ap (behind_writes (map cleared (range_with_len (first + 1) count)) s) (cond-true (first == s) zero_record before (eq-eqb first s same)) ∙ zeros_keep (first + 1) count s
  | inr apart ↦ zeros_cover (first + 1) count s (if first == s then zero_record else before) (omega (arith, low, apart)) (omega (arith, high))
]

-- the sectors of a fresh block
block_behind : (kind : Kind) (block clear index s : ℕ) (bytes before : List ℕ) → behind_writes (block_writes kind block clear index bytes) s before
    ≡ (if sectors.block_sector kind block + index == s then bytes
    else (behind_writes (zeros_from (sectors.block_sector kind block + max clear (index + 1)) (block_records kind - max clear (index + 1))) s
    (behind_writes (zeros_from (sectors.block_sector kind block + clear) (index - clear)) s before)))
unfolding block_writes behind_writes
block_behind kind block clear index s bytes before =
    let first : ℕ = sectors.block_sector kind block in
    let behind : ℕ = max clear (index + 1) in
    let last : List Write = record { sector = first + index; bytes = bytes } ∷ [] in
    behind_both (zeros_from (first + clear) (index - clear)) (zeros_from (first + behind) (block_records kind - behind) ++ last) s before
    ∙ behind_both (zeros_from (first + behind) (block_records kind - behind)) last s (behind_writes (zeros_from (first + clear) (index - clear)) s before)

not_same : (a i j : ℕ) → i ≢ j → a + j ≢ a + i
not_same a i j apart same = apart (omega (arith, same))

within_block : (first clear index records i : ℕ) (before : List ℕ) → index < records → i < records → i ≢ index → (i < clear → before ≡ zero_record)
    → behind_writes (zeros_from (first + max clear (index + 1)) (records - max clear (index + 1))) (first + i)
    (behind_writes (zeros_from (first + clear) (index - clear)) (first + i) before) ≡ zero_record
within_block first clear index records i before less h apart were =
    let behind : ℕ = max clear (index + 1) in
    let second : List Write = zeros_from (first + behind) (records - behind) in
    elim (cases_lt i clear) [
      | inl low ↦ ap (λ (b : List ℕ). behind_writes second (first + i) (behind_writes (zeros_from (first + clear) (index - clear)) (first + i) b)) (were low)
          ∙ ap (behind_writes second (first + i)) (zeros_keep (first + clear) (index - clear) (first + i)) ∙ zeros_keep (first + behind) (records - behind) (first + i)
      | inr above ↦ elim (cases_lt i index) [
        | inl low ↦ ap (behind_writes second (first + i)) (zeros_cover (first + clear) (index - clear) (first + i) before (omega (arith, above)) (omega (arith, above, low)))
            ∙ zeros_keep (first + behind) (records - behind) (first + i)
        | inr high ↦ zeros_cover (first + behind) (records - behind) (first + i) (behind_writes (zeros_from (first + clear) (index - clear)) (first + i) before)
            (omega (arith, above, high, apart)) (omega (arith, above, high, apart, h))
      ]
    ]

not_zero : (kind : Kind) (block : ℕ) → (geometry_of kind).directory_blocks ≤ block → block ≢ 0
not_zero Ibm3740 block low is = omega (arith, low, is)
not_zero Hd4 block low is = omega (arith, low, is)
not_zero Hd8 block low is = omega (arith, low, is)

-- all of them, and the first ones
pub block_stands : (d : Directory) (files : Drive) (block clear index : ℕ) (bytes image : List ℕ) → IsFreeBlock d block → clear ≤ block_records d.kind → index < block_records d.kind
    → length bytes ≡ 128 → Stands image d files → (first rest : List Write) → first ++ rest ≡ block_writes d.kind block clear index bytes → Stands (written d.kind first image) d files
block_stands d files block clear index bytes image free h less long stands first rest all =
    stands_into d files block first image free
    (into_front d.kind block first rest (subst (AreInto d.kind block) (sym all) (block_into d.kind block clear index bytes h less long))) stands

pub block_filled : (d : Directory) (files : Drive) (block clear index : ℕ) (bytes image : List ℕ) → IsFreeBlock d block → clear ≤ block_records d.kind → index < block_records d.kind
    → length bytes ≡ 128 → Stands image d files → ((i : ℕ) → i < clear → sectors_of image d.kind (block * block_records d.kind + i) ≡ zero_record)
    → contents_of (sectors_of (written d.kind (block_writes d.kind block clear index bytes) image) d.kind) d.kind block
    ≡ Some (slice_set (replicate (block_records d.kind) zero_record) index bytes)
block_filled d files block clear index bytes image free h less long stands were =
    let ws : List Write = block_writes d.kind block clear index bytes in
    let first : ℕ = sectors.block_sector d.kind block in
    let into : AreInto d.kind block ws = block_into d.kind block clear index bytes h less long in
    fresh_block (sectors_of (written d.kind ws image) d.kind) d.kind block index bytes (not_zero d.kind block free.low) less
    (all_read d files block (first + index) ws image free into stands
    ∙ block_behind d.kind block clear index (first + index) bytes (sectors_of image d.kind (first + index))
    ∙ cond-true (first + index == first + index) bytes _ (eq-eqb (first + index) (first + index) refl))
    (λ i inside apart.
    all_read d files block (first + i) ws image free into stands
    ∙ block_behind d.kind block clear index (first + i) bytes (sectors_of image d.kind (first + i))
    ∙ cond-false (first + index == first + i) bytes _ (ne_eqb (first + index) (first + i) (not_same first i index apart))
    ∙ within_block first clear index (block_records d.kind) i (sectors_of image d.kind (first + i)) less inside apart (were i))

-- the cleared sectors of one
pub cleared_stands : (d : Directory) (files : Drive) (block count : ℕ) (image : List ℕ) → IsFreeBlock d block → count ≤ block_records d.kind → Stands image d files
    → (first rest : List Write) → first ++ rest ≡ zeros_from (sectors.block_sector d.kind block) count → Stands (written d.kind first image) d files
cleared_stands d files block count image free h stands first rest all =
    stands_into d files block first image free
    (into_front d.kind block first rest (subst (AreInto d.kind block) (sym all) (zeros_into d.kind block (sectors.block_sector d.kind block) count 0 (omega arith) (omega (arith, h))))) stands

pub cleared_read : (d : Directory) (files : Drive) (block count : ℕ) (image : List ℕ) → IsFreeBlock d block → count ≤ block_records d.kind → Stands image d files → (r : ℕ) → r < count
    → sectors_of (written d.kind (zeros_from (sectors.block_sector d.kind block) count) image) d.kind (block * block_records d.kind + r) ≡ zero_record
cleared_read d files block count image free h stands r less =
    let first : ℕ = sectors.block_sector d.kind block in
    all_read d files block (first + r) (zeros_from first count) image free (zeros_into d.kind block first count 0 (omega arith) (omega (arith, h))) stands
    ∙ zeros_cover first count (first + r) (sectors_of image d.kind (first + r)) (omega arith) (omega (arith, less))
