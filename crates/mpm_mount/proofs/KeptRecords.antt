-- Which records a change leaves as they were: those of other files, and of one entry all but the record that is written.
use Rattle.std.proofs.Common.{◌≡◌, ◌≢◌, ℕ, ◌/◌, ◌%◌, ◌<◌, false, cond, inl, inr, List, [], Option, Some, None, length, refl, sym, ap, ◌∙◌, arith}
use Rattle.std.specs.Prelude.{slice_set, slice_index_or, option_map, option_and_then}
use Rattle.std.specs.FinMap.{get, get-insert, get-remove}
use Rattle.std.specs.Ordering.{eq_by_cmp, is_eq}
use Rattle.std.specs.Cmp.{tied_itself}
use Rattle.std.proofs.lemmas.Bool.{false_from_ne_true, cases_eq}
use Rattle.std.proofs.lemmas.List.{get_or-set_same, get_or-set_other}
use Rattle.std.proofs.lemmas.List.FromFn.{length-map-range_with_len}
use Rattle.mpm_base.specs.declared.kind.Kind.{Kind}
use Rattle.mpm_base.specs.declared.kind.Kind.TheVariants.{Ibm3740, Hd4, Hd8}
use Rattle.mpm_blocks.specs.Geometries.{block_records}
use Rattle.mpm_blocks.specs.Sectors.{Sectors}
use Rattle.mpm_dirent.specs.declared.kinds.FileEntry.{FileEntry}
use Rattle.mpm_mount.specs.declared.slots.EntryName.{EntryName}
use Rattle.mpm_mount.specs.Drives.{FileName, entry_cmp, PhysicalExtent, Drive, entry_number, entry_name, places, with_extent_there, extent_at, block_place, record_in, record_of, visible_in, visible_of, with_extent, without_extent, with_record_in}
use Rattle.mpm_mount.specs.Faults.{block_at}
use Rattle.mpm_mount.specs.Images.{contents_of, extent_in}
use Rattle.mpm_mount.specs.Changes.{OnlyFile}
use Rattle.mpm_mount.proofs.Orders.{entry_total, entry_tied}

-- an entry has room for all its blocks, and each record has its place among them
pub all_places : (sectors : Sectors) (kind : Kind) (f : FileEntry) → length (extent_in sectors kind f).blocks ≡ places kind
unfolding extent_in
all_places sectors kind f = length-map-range_with_len (λ i. contents_of sectors kind (block_at f i)) 0 (places kind)

pub place_within : (kind : Kind) (n : ℕ) → block_place kind n < places kind
place_within Ibm3740 n = omega arith
place_within Hd4 n = omega arith
place_within Hd8 n = omega arith

-- two records of one entry in one place of one block are one
pub one_place : (kind : Kind) (n m : ℕ) → entry_number kind (m / 128) ≡ entry_number kind (n / 128) → block_place kind m ≡ block_place kind n
    → m % block_records kind ≡ n % block_records kind → m ≡ n
one_place Ibm3740 n m number place r = omega arith
one_place Hd4 n m number place r = omega arith
one_place Hd8 n m number place r = omega arith

-- the record that is written, and another
pub record_in_written : (kind : Kind) (n : ℕ) (entry : PhysicalExtent) (records : List (List ℕ)) (bytes : List ℕ) → block_place kind n < length entry.blocks
    → slice_index_or entry.blocks (block_place kind n) None ≡ Some records → n % block_records kind < length records
    → record_in kind n (with_record_in entry (block_place kind n) (n % block_records kind) bytes) ≡ Some bytes
record_in_written kind n entry records bytes h held less =
    let place : ℕ = block_place kind n in
    let r : ℕ = n % block_records kind in
    let put : Option (List (List ℕ)) = option_map (λ rs. slice_set rs r bytes) (slice_index_or entry.blocks place None) in
    ap (option_map (λ rs. slice_index_or rs r [])) (get_or-set_same entry.blocks place put None h ∙ ap (option_map (λ rs. slice_set rs r bytes)) held)
    ∙ ap (λ (b : List ℕ). Some b) (get_or-set_same records r bytes [] less)

pub other_record : (o : Option (List (List ℕ))) (r q : ℕ) (bytes : List ℕ) → q ≢ r
    → option_map (λ rs. slice_index_or rs q []) (option_map (λ rs. slice_set rs r bytes) o) ≡ option_map (λ rs. slice_index_or rs q []) o
other_record None r q bytes apart = refl
other_record (Some records) r q bytes apart = ap (λ (b : List ℕ). Some b) (get_or-set_other records r q bytes [] apart)

pub record_in_kept : (kind : Kind) (n m : ℕ) (entry : PhysicalExtent) (bytes : List ℕ) → block_place kind n < length entry.blocks
    → (block_place kind m ≡ block_place kind n → m % block_records kind ≢ n % block_records kind)
    → record_in kind m (with_record_in entry (block_place kind n) (n % block_records kind) bytes) ≡ record_in kind m entry
record_in_kept kind n m entry bytes h apart =
    let place : ℕ = block_place kind n in
    let r : ℕ = n % block_records kind in
    let q : ℕ = m % block_records kind in
    let put : Option (List (List ℕ)) = option_map (λ rs. slice_set rs r bytes) (slice_index_or entry.blocks place None) in
    elim (cases_eq (block_place kind m) place) [
      | inl same ↦
          ap (λ (p : ℕ). option_map (λ rs. slice_index_or rs q []) (slice_index_or (slice_set entry.blocks place put) p None)) same
          ∙ ap (option_map (λ rs. slice_index_or rs q [])) (get_or-set_same entry.blocks place put None h)
          ∙ other_record (slice_index_or entry.blocks place None) r q bytes (apart same)
          ∙ sym (ap (λ (p : ℕ). option_map (λ rs. slice_index_or rs q []) (slice_index_or entry.blocks p None)) same)
      | inr other ↦ ap (option_map (λ rs. slice_index_or rs q [])) (get_or-set_other entry.blocks place (block_place kind m) put None other)
    ]

-- an entry of a file comes, changes or goes: no other file's does
pub only_with_extent : (file : FileName) (drive : Drive) (name : EntryName) (entry : PhysicalExtent) → name.user ≡ file.user → name.name ≡ file.name
    → OnlyFile file drive (with_extent drive name entry)
only_with_extent file drive name entry user is = record {
  kind = refl;
  others = λ other apart.
      let differs : eq_by_cmp entry_cmp other name ≡ false = false_from_ne_true (eq_by_cmp entry_cmp other name) (λ tied.
      let same : other ≡ name = entry_tied other name tied in
      apart (ap (λ (n : EntryName). n.user) same ∙ user) (ap (λ (n : EntryName). n.name) same ∙ is)) in
      get-insert entry_total drive.extents name entry other ∙ ap (λ b. cond b (Some entry) (get drive.extents other)) differs;
}

pub only_without_extent : (file : FileName) (drive : Drive) (name : EntryName) → name.user ≡ file.user → name.name ≡ file.name → OnlyFile file drive (without_extent drive name)
only_without_extent file drive name user is = record {
  kind = refl;
  others = λ other apart.
      let differs : eq_by_cmp entry_cmp other name ≡ false = false_from_ne_true (eq_by_cmp entry_cmp other name) (λ tied.
      let same : other ≡ name = entry_tied other name tied in
      apart (ap (λ (n : EntryName). n.user) same ∙ user) (ap (λ (n : EntryName). n.name) same ∙ is)) in
      get-remove entry_total drive.extents name other ∙ ap (λ b. cond b None (get drive.extents other)) differs;
}

-- the records of other files
pub record_kept : (file other : FileName) (old new : Drive) (n : ℕ) → OnlyFile file old new → (other.user ≡ file.user → other.name ≡ file.name → ⊥)
    → record_of new other n ≡ record_of old other n
unfolding record_of
record_kept file other old new n only apart =
    ap (λ (kind : Kind). option_and_then (record_in kind n) (get new.extents (entry_name kind other (n / 128)))) only.kind
    ∙ ap (option_and_then (record_in old.kind n)) (only.others (entry_name old.kind other (n / 128)) apart)

pub visible_kept : (file other : FileName) (old new : Drive) (n : ℕ) → OnlyFile file old new → (other.user ≡ file.user → other.name ≡ file.name → ⊥)
    → visible_of new other n ≡ visible_of old other n
unfolding visible_of extent_at
visible_kept file other old new n only apart =
    ap (λ (kind : Kind). option_and_then (visible_in kind n) (option_and_then (with_extent_there (n / 128)) (get new.extents (entry_name kind other (n / 128))))) only.kind
    ∙ ap (λ (o : Option PhysicalExtent). option_and_then (visible_in old.kind n) (option_and_then (with_extent_there (n / 128)) o)) (only.others (entry_name old.kind other (n / 128)) apart)

-- the records of the file: of the entry that is new, and of its others
pub record_through : (drive : Drive) (name : EntryName) (entry : PhysicalExtent) (file : FileName) (n : ℕ) → entry_name drive.kind file (n / 128) ≡ name
    → record_of (with_extent drive name entry) file n ≡ record_in drive.kind n entry
unfolding record_of
record_through drive name entry file n same =
    ap (option_and_then (record_in drive.kind n))
    (ap (λ (q : EntryName). get (with_extent drive name entry).extents q) same ∙ get-insert entry_total drive.extents name entry name
    ∙ ap (λ r. cond (is_eq r) (Some entry) (get drive.extents name)) (tied_itself entry_total name))

pub record_beside : (drive : Drive) (name : EntryName) (entry : PhysicalExtent) (file : FileName) (n : ℕ) → entry_name drive.kind file (n / 128) ≢ name
    → record_of (with_extent drive name entry) file n ≡ record_of drive file n
unfolding record_of
record_beside drive name entry file n apart =
    let other : EntryName = entry_name drive.kind file (n / 128) in
    let differs : eq_by_cmp entry_cmp other name ≡ false = false_from_ne_true (eq_by_cmp entry_cmp other name) (λ tied. apart (entry_tied other name tied)) in
    ap (option_and_then (record_in drive.kind n))
    (get-insert entry_total drive.extents name entry other ∙ ap (λ b. cond b (Some entry) (get drive.extents other)) differs)
