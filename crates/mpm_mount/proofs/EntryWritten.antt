-- A directory entry that is written in the place of another: the image stands for the drive in which the one replaces the other.
use Rattle.std.proofs.Common.{◌≡◌, ◌≢◌, ℕ, suc, ◌+◌, ◌*◌, ◌/◌, ◌%◌, ◌<◌, ◌≤◌, ◌==◌, ◌⊎◌, Bool, inl, inr, List, [], ◌∷◌, Some, None, map, length, get_or, refl, sym, ap, subst, ◌∙◌, arith, eq-eqb}
use Rattle.std.specs.Prelude.{slice_set, if◌then◌else◌}
use Rattle.std.specs.List.{range_with_len}
use Rattle.std.specs.FinMap.{FinMap}
use Rattle.std.proofs.lemmas.Bool.{cases_eq, cases_order}
use Rattle.std.proofs.lemmas.List.{length-set, get_or-set_same, get_or-set_other, ext_get_or}
use Rattle.std.proofs.lemmas.List.FromFn.{length-map-range_with_len}
use Rattle.mpm_base.specs.declared.kind.Kind.{Kind}
use Rattle.mpm_base.specs.declared.kind.Kind.TheVariants.{Ibm3740, Hd4, Hd8}
use Rattle.mpm_blocks.specs.Geometries.{geometry_of, block_records, logical_sectors, place_of}
use Rattle.mpm_blocks.specs.Sectors.{Sectors, sectors_of, with_slot, SectorWritten}
use Rattle.mpm_blocks.proofs.Written.{spliced_size, spliced_here, spliced_kept, written_size, written_again, sectors_written, sector_size}
use Rattle.mpm_dirent.specs.declared.kinds.Entry.{Entry}
use Rattle.mpm_dirent.specs.declared.kinds.Entry.TheVariants.{Free, File, Xfcb, Label, Kept}
use Rattle.mpm_dirent.specs.Entries.{part, entry_of}
use Rattle.mpm_port.specs.Disks.{with_sector}
use Rattle.mpm_mount.specs.Drives.{entry_cmp, PhysicalExtent, Drive, places}
use Rattle.mpm_mount.specs.Faults.{name_of, block_at, cause_of, first_fault}
use Rattle.mpm_mount.specs.Images.{slot_entry, entries_to, entries_of, contents_of, extent_in, extent_from, collected, drive_of}
use Rattle.mpm_mount.specs.Directories.{others, Directory, entry_in, with_entry, Stands}
use Rattle.mpm_mount.specs.Changes.{exchanged}
use Rattle.mpm_mount.specs.Using.{IsInsideBlocks}
use Rattle.mpm_mount.proofs.Ranges.{map_same, map_at}
use Rattle.mpm_mount.proofs.UsedBlocks.{inside_at}
use Rattle.mpm_mount.proofs.Replaced.{old_inside}
use Rattle.mpm_mount.proofs.Still.{still_faultless}
use Rattle.mpm_mount.proofs.Unheld.{behind_directory}
use Rattle.mpm_mount.proofs.Exchanged.{drive_exchanged}

pub directory_within : (kind : Kind) (slot : ℕ) → slot < (geometry_of kind).drm + 1 → slot / 4 < logical_sectors kind
directory_within Ibm3740 slot h = omega arith
directory_within Hd4 slot h = omega arith
directory_within Hd8 slot h = omega arith

places_of_slots : (i slot : ℕ) → i ≢ slot → i / 4 ≡ slot / 4 → (32 * (i % 4) + 32 ≤ 32 * (slot % 4)) ⊎ (32 * (slot % 4) + 32 ≤ 32 * (i % 4))
places_of_slots i slot apart sector = elim (cases_order i slot) [
  | inl same ↦ absurd (apart same)
  | inr other ↦ elim other [ inl less ↦ inl (omega arith) | inr more ↦ inr (omega arith) ]
]

pub slot_room : (slot : ℕ) (sector : List ℕ) → length sector ≡ 128 → 32 * (slot % 4) + 32 ≤ length sector
slot_room slot sector size = omega arith

-- the entry in each slot
entry_here : (old new : Sectors) (wide : Bool) (slot : ℕ) (bytes : List ℕ) → SectorWritten (slot / 4) (with_slot (old (slot / 4)) (slot % 4) bytes) old new
    → length (old (slot / 4)) ≡ 128 → length bytes ≡ 32 → slot_entry new wide slot ≡ entry_of bytes wide
entry_here old new wide slot bytes written whole size =
    ap (λ sector. entry_of (part (32 * (slot % 4)) 32 sector) wide) written.here
    ∙ ap (λ b. entry_of b wide) (spliced_here (old (slot / 4)) bytes (32 * (slot % 4)) 32 size (slot_room slot (old (slot / 4)) whole))

entry_other : (old new : Sectors) (wide : Bool) (slot i : ℕ) (bytes : List ℕ) → SectorWritten (slot / 4) (with_slot (old (slot / 4)) (slot % 4) bytes) old new
    → length (old (slot / 4)) ≡ 128 → length bytes ≡ 32 → i ≢ slot → slot_entry new wide i ≡ slot_entry old wide i
entry_other old new wide slot i bytes written whole size apart = elim (cases_eq (i / 4) (slot / 4)) [
  | inl same ↦
      ap (λ (s : ℕ). entry_of (part (32 * (i % 4)) 32 (new s)) wide) same
      ∙ ap (λ sector. entry_of (part (32 * (i % 4)) 32 sector) wide) written.here
      ∙ ap (λ b. entry_of b wide)
      (spliced_kept (old (slot / 4)) bytes (32 * (slot % 4)) 32 (32 * (i % 4)) 32 size (slot_room slot (old (slot / 4)) whole) (places_of_slots i slot apart same))
      ∙ sym (ap (λ (s : ℕ). entry_of (part (32 * (i % 4)) 32 (old s)) wide) same)
  | inr other ↦ ap (λ sector. entry_of (part (32 * (i % 4)) 32 sector) wide) (written.others (i / 4) other)
]

pub entries_set : (kind : Kind) (old new : Sectors) (slot : ℕ) (bytes : List ℕ) → SectorWritten (slot / 4) (with_slot (old (slot / 4)) (slot % 4) bytes) old new
    → length (old (slot / 4)) ≡ 128 → length bytes ≡ 32 → slot < (geometry_of kind).drm + 1
    → entries_of new kind ≡ slice_set (entries_of old kind) slot (entry_of bytes (geometry_of kind).wide)
unfolding entries_to
entries_set kind old new slot bytes written whole size h =
    let wide = (geometry_of kind).wide in
    let n : ℕ = (geometry_of kind).drm + 1 in
    let before : List Entry = map (slot_entry old wide) (range_with_len 0 n) in
    let after : List Entry = map (slot_entry new wide) (range_with_len 0 n) in
    let long : length before ≡ n = length-map-range_with_len (slot_entry old wide) 0 n in
    let longer : length after ≡ n = length-map-range_with_len (slot_entry new wide) 0 n in
    ext_get_or Free after (slice_set before slot (entry_of bytes wide)) (longer ∙ sym long ∙ sym (length-set before slot (entry_of bytes wide))) (λ i less.
    let within : i < n = omega arith in
    elim (cases_eq i slot) [
      | inl same ↦
          ap (λ (k : ℕ). get_or after k Free) same ∙ map_at (slot_entry new wide) n slot Free h ∙ entry_here old new wide slot bytes written whole size
          ∙ sym (get_or-set_same before slot (entry_of bytes wide) Free (omega arith)) ∙ sym (ap (λ (k : ℕ). get_or (slice_set before slot (entry_of bytes wide)) k Free) same)
      | inr apart ↦
          map_at (slot_entry new wide) n i Free within ∙ entry_other old new wide slot i bytes written whole size apart
          ∙ sym (map_at (slot_entry old wide) n i Free within) ∙ sym (get_or-set_other before slot i (entry_of bytes wide) Free apart)
    ])

-- the blocks of files, where a sector of the directory is written
contents_behind : (kind : Kind) (old new : Sectors) (slot b : ℕ) (bytes : List ℕ) → SectorWritten (slot / 4) bytes old new → slot < (geometry_of kind).drm + 1
    → (b ≢ 0 → (geometry_of kind).directory_blocks ≤ b) → contents_of new kind b ≡ contents_of old kind b
unfolding contents_of
contents_behind kind old new slot b bytes written h inside = elim (cases_eq b 0) [
  | inl none ↦
      ap (λ z. if z then None else Some (map (λ r. new (b * block_records kind + r)) (range_with_len 0 (block_records kind)))) (eq-eqb b 0 none)
      ∙ sym (ap (λ z. if z then None else Some (map (λ r. old (b * block_records kind + r)) (range_with_len 0 (block_records kind)))) (eq-eqb b 0 none))
  | inr some ↦
      ap (λ records. if b == 0 then None else Some records)
      (map_same (λ r. new (b * block_records kind + r)) (λ r. old (b * block_records kind + r)) (block_records kind) (λ r less.
      written.others (b * block_records kind + r) (λ same. behind_directory kind b r slot (inside some) h (sym same))))
]

extent_behind : (kind : Kind) (old new : Sectors) (slot : ℕ) (bytes : List ℕ) (entry : Entry) → SectorWritten (slot / 4) bytes old new → slot < (geometry_of kind).drm + 1
    → IsInsideBlocks kind entry → extent_from new kind entry ≡ extent_from old kind entry
unfolding extent_in
extent_behind kind old new slot bytes (File f) written h inside =
    ap (λ blocks. Some (name_of kind f, record (extent_in old kind f) { blocks = blocks }))
    (map_same (λ i. contents_of new kind (block_at f i)) (λ i. contents_of old kind (block_at f i)) (places kind) (λ i less.
    contents_behind kind old new slot (block_at f i) bytes written h (λ some. (inside_at kind f i inside less some).0)))
extent_behind kind old new slot bytes Free written h inside = refl
extent_behind kind old new slot bytes (Xfcb x) written h inside = refl
extent_behind kind old new slot bytes (Label l) written h inside = refl
extent_behind kind old new slot bytes (Kept kept) written h inside = refl

map_each : {X Y : Type 0} (f g : X → Y) (xs : List X) (d : X) → ((k : ℕ) → k < length xs → f (get_or xs k d) ≡ g (get_or xs k d)) → map f xs ≡ map g xs
map_each f g [] d each = refl
map_each f g (x ∷ xs) d each =
    ap (λ y. y ∷ map f xs) (each 0 (omega arith)) ∙ ap (λ ys. g x ∷ ys) (map_each f g xs d (λ k h. each (suc k) (omega arith)))

pub drive_behind : (kind : Kind) (old new : Sectors) (slot : ℕ) (bytes : List ℕ) (entries : List Entry) → SectorWritten (slot / 4) bytes old new → slot < (geometry_of kind).drm + 1
    → first_fault kind entries ≡ None → drive_of new kind entries ≡ drive_of old kind entries
unfolding drive_of
drive_behind kind old new slot bytes entries written h faultless =
    ap (λ (extents : FinMap entry_cmp PhysicalExtent). record (drive_of old kind entries) { extents = extents })
    (ap (λ items. collected entry_cmp items) (map_each (extent_from new kind) (extent_from old kind) entries Free (λ k less.
    extent_behind kind old new slot bytes (get_or entries k Free) written h (old_inside kind entries k faultless less))))

-- one directory entry written in the place of another
pub entry_written : (image : List ℕ) (d : Directory) (files : Drive) (slot : ℕ) (bytes : List ℕ) → Stands image d files → slot < (geometry_of d.kind).drm + 1
    → slot < length d.entries → length bytes ≡ 32 → cause_of d.kind (others d.entries slot) (entry_of bytes (geometry_of d.kind).wide) ≡ None
    → Stands (with_sector image (place_of d.kind (slot / 4)) (with_slot (sectors_of image d.kind (slot / 4)) (slot % 4) bytes))
    (with_entry d slot (entry_of bytes (geometry_of d.kind).wide))
    (exchanged (sectors_of image d.kind) files (entry_in d slot) (entry_of bytes (geometry_of d.kind).wide))
entry_written image d files slot bytes stands h inside size none =
    let s : ℕ = slot / 4 in
    let old = sectors_of image d.kind in
    let entry : Entry = entry_of bytes (geometry_of d.kind).wide in
    let after : first_fault d.kind (slice_set d.entries slot entry) ≡ None = still_faultless d.kind d.entries slot entry stands.faultless inside none in
    let within : s < logical_sectors d.kind = directory_within d.kind slot h in
    let whole : length (old s) ≡ 128 = sector_size d.kind image s stands.size within in
    let sector : List ℕ = with_slot (old s) (slot % 4) bytes in
    let long : length sector ≡ 128 = spliced_size (old s) bytes (32 * (slot % 4)) 32 size (slot_room slot (old s) whole) ∙ whole in
    let written = sectors_written d.kind image sector s stands.size long within in
    let new = sectors_of (with_sector image (place_of d.kind s) sector) d.kind in
    record {
      size = written_size d.kind image sector s stands.size long within ∙ stands.size;
      entries = ap (λ es. slice_set es slot entry) stands.entries ∙ sym (entries_set d.kind old new slot bytes written whole size h);
      faultless = after;
      drive = ap (λ (drive : Drive). exchanged old drive (entry_in d slot) entry) stands.drive
          ∙ sym (drive_exchanged old d.kind d.entries slot entry stands.faultless inside after)
          ∙ sym (drive_behind d.kind old new slot sector (slice_set d.entries slot entry) written h after);
    }

-- a sector of the directory with one entry written has its size
slot_size : (kind : Kind) (image : List ℕ) (slot : ℕ) (bytes : List ℕ) → length image ≡ (geometry_of kind).bytes → slot < (geometry_of kind).drm + 1 → length bytes ≡ 32
    → length (with_slot (sectors_of image kind (slot / 4)) (slot % 4) bytes) ≡ 128
slot_size kind image slot bytes whole h size =
    let sector : List ℕ = sectors_of image kind (slot / 4) in
    let long : length sector ≡ 128 = sector_size kind image (slot / 4) whole (directory_within kind slot h) in
    spliced_size sector bytes (32 * (slot % 4)) 32 size (slot_room slot sector long) ∙ long

-- what bytes mean to a directory; an image with an entry written, and with another one of the same sector
abbrev read_by : Directory → List ℕ → Entry
read_by d bytes = entry_of bytes (geometry_of d.kind).wide

abbrev image_with : List ℕ → Kind → ℕ → List ℕ → List ℕ
image_with image kind slot bytes = with_sector image (place_of kind (slot / 4)) (with_slot (sectors_of image kind (slot / 4)) (slot % 4) bytes)

abbrev image_with_two : List ℕ → Kind → ℕ → List ℕ → ℕ → List ℕ → List ℕ
image_with_two image kind slot bytes other more =
    with_sector image (place_of kind (slot / 4)) (with_slot (with_slot (sectors_of image kind (slot / 4)) (slot % 4) bytes) (other % 4) more)

pub two_written : (image : List ℕ) (d : Directory) (files : Drive) (slot other : ℕ) (bytes more : List ℕ) → Stands image d files → slot < (geometry_of d.kind).drm + 1
    → slot < length d.entries → other < (geometry_of d.kind).drm + 1 → other < length d.entries → other / 4 ≡ slot / 4 → length bytes ≡ 32 → length more ≡ 32
    → cause_of d.kind (others d.entries slot) (read_by d bytes) ≡ None → cause_of d.kind (others (slice_set d.entries slot (read_by d bytes)) other) (read_by d more) ≡ None
    → Stands (image_with_two image d.kind slot bytes other more) (with_entry (with_entry d slot (read_by d bytes)) other (read_by d more))
    (exchanged (sectors_of (image_with image d.kind slot bytes) d.kind) (exchanged (sectors_of image d.kind) files (entry_in d slot) (read_by d bytes))
    (entry_in (with_entry d slot (read_by d bytes)) other) (read_by d more))
two_written image d files slot other bytes more stands h inside k within same size long none none_more =
    let s : ℕ = slot / 4 in
    let sector : List ℕ = with_slot (sectors_of image d.kind s) (slot % 4) bytes in
    let mid : List ℕ = image_with image d.kind slot bytes in
    let one : Directory = with_entry d slot (read_by d bytes) in
    let files_one : Drive = exchanged (sectors_of image d.kind) files (entry_in d slot) (read_by d bytes) in
    let room : s < logical_sectors d.kind = directory_within d.kind slot h in
    let whole : length sector ≡ 128 = slot_size d.kind image slot bytes stands.size h size in
    let written = sectors_written d.kind image sector s stands.size whole room in
    let stands_one = entry_written image d files slot bytes stands h inside size none in
    let stands_two = entry_written mid one files_one other more stands_one k (omega (arith, length-set d.entries slot (read_by d bytes))) long none_more in
    let is : image_with mid d.kind other more ≡ image_with_two image d.kind slot bytes other more =
    ap (λ (t : ℕ). with_sector mid (place_of d.kind t) (with_slot (sectors_of mid d.kind t) (other % 4) more)) same
    ∙ ap (λ (bs : List ℕ). with_sector mid (place_of d.kind s) (with_slot bs (other % 4) more)) written.here
    ∙ written_again d.kind image sector (with_slot sector (other % 4) more) s stands.size whole room in
    subst (λ (i : List ℕ). Stands i (with_entry one other (read_by d more)) (exchanged (sectors_of mid d.kind) files_one (entry_in one other) (read_by d more))) is stands_two
