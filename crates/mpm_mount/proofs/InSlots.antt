-- Each entry that a drive has is in a slot of its directory; what is so of it there.
use Rattle.std.proofs.Common.{◌≡◌, ℕ, suc, ◌+◌, ◌*◌, ◌/◌, ◌%◌, ◌<◌, Bool, true, false, ◌||◌, List, [], ◌∷◌, Some, None, length, get_or, refl, sym, ap, subst, ◌∙◌, arith}
use Rattle.std.specs.Prelude.{is_some, nat_le}
use Rattle.std.specs.List.{list_any}
use Rattle.std.specs.FinMap.{get}
use Rattle.std.proofs.lemmas.Bool.{false≢true, both_ways, true_from_ne_false}
use Rattle.std.proofs.lemmas.Option.{same_Some}
use Rattle.std.proofs.lemmas.List.{length-map}
use Rattle.mpm_base.specs.declared.kind.Kind.{Kind}
use Rattle.mpm_blocks.specs.Geometries.{geometry_of}
use Rattle.mpm_blocks.specs.Sectors.{Sectors, sectors_of}
use Rattle.mpm_blocks.proofs.Written.{sector_size}
use Rattle.mpm_dirent.specs.declared.kinds.Entry.{Entry}
use Rattle.mpm_dirent.specs.declared.kinds.Entry.TheVariants.{Free}
use Rattle.mpm_dirent.specs.declared.kinds.FileEntry.{FileEntry}
use Rattle.mpm_dirent.specs.Proper.{HasSizes}
use Rattle.mpm_dirent.proofs.Lengths.{part_size, entry_sizes}
use Rattle.mpm_mount.specs.declared.slots.EntryName.{EntryName}
use Rattle.mpm_mount.specs.Drives.{PhysicalExtent, Drive, IsOfImage}
use Rattle.mpm_mount.specs.Faults.{name_of, is_named}
use Rattle.mpm_mount.specs.Images.{slot_bytes, slot_entry, entries_to, extent_in}
use Rattle.mpm_mount.specs.Directories.{Directory, entry_in, Stands}
use Rattle.mpm_mount.specs.Changes.{HasRanges}
use Rattle.mpm_mount.proofs.Ranges.{map_at}
use Rattle.mpm_mount.proofs.Distinct.{named_by}
use Rattle.mpm_mount.proofs.LookedUp.{extent_there, extent_nowhere, IsFound}
use Rattle.mpm_mount.proofs.EntryWritten.{directory_within, slot_room}
use Rattle.mpm_mount.proofs.FreeEntries.{all_slots}
use Rattle.mpm_mount.proofs.KeptRecords.{all_places}
use Rattle.mpm_mount.proofs.Puts.{ranges_at}

-- the lengths of what an image's entries have
slot_is : (sectors : Sectors) (wide : Bool) (count slot : ℕ) → slot < count → get_or (entries_to sectors wide count) slot Free ≡ slot_entry sectors wide slot
unfolding entries_to
slot_is sectors wide count slot h = map_at (slot_entry sectors wide) count slot Free h

pub sizes_at : (image : List ℕ) (d : Directory) (files : Drive) (slot : ℕ) → Stands image d files → slot < length d.entries → HasSizes (entry_in d slot)
sizes_at image d files slot stands inside =
    let sectors = sectors_of image d.kind in
    let wide = (geometry_of d.kind).wide in
    let h : slot < (geometry_of d.kind).drm + 1 = omega (arith, ap length stands.entries, all_slots sectors d.kind) in
    let is : entry_in d slot ≡ slot_entry sectors wide slot = ap (λ es. get_or es slot Free) stands.entries ∙ slot_is sectors wide ((geometry_of d.kind).drm + 1) slot h in
    let whole : length (sectors (slot / 4)) ≡ 128 = sector_size d.kind image (slot / 4) stands.size (directory_within d.kind slot h) in
    let size : length (slot_bytes sectors slot) ≡ 32 = part_size (32 * (slot % 4)) 32 (sectors (slot / 4)) (slot_room slot (sectors (slot / 4)) whole) in
    subst (λ (e : Entry). HasSizes e) (sym is) (entry_sizes (slot_bytes sectors slot) wide size)

-- each entry that a drive has is in a slot
any_step : (p : Entry → Bool) (e : Entry) (es : List Entry) (b : Bool) → p e ≡ b → (b || list_any p es) ≡ true
    → (list_any p es ≡ true → (k : ℕ) × (k < length es) × (p (get_or es k Free) ≡ true)) → (k : ℕ) × (k < length (e ∷ es)) × (p (get_or (e ∷ es) k Free) ≡ true)
any_step p e es true here has so = (0, omega arith, here)
any_step p e es false here has so = let at = so has in (suc at.0, omega (arith, at.1), at.2)

any_in : (p : Entry → Bool) (es : List Entry) → list_any p es ≡ true → (k : ℕ) × (k < length es) × (p (get_or es k Free) ≡ true)
any_in p [] has = absurd (false≢true has)
any_in p (e ∷ es) has = any_step p e es (p e) refl has (any_in p es)

pub in_slot : (image : List ℕ) (d : Directory) (files : Drive) (name : EntryName) → Stands image d files → is_some (get files.extents name) ≡ true
    → (slot : ℕ) × IsFound (sectors_of image d.kind) d files name slot
in_slot image d files name stands there =
    let sectors = sectors_of image d.kind in
    let has : list_any (is_named d.kind name) d.entries ≡ true = true_from_ne_false (list_any (is_named d.kind name) d.entries) (λ none.
    let gone : get files.extents name ≡ None = ap (λ (drive : Drive). get drive.extents name) stands.drive ∙ extent_nowhere sectors d.kind d.entries name none in
    both_ways (is_some (get files.extents name)) (ap is_some gone) there) in
    let at = any_in (is_named d.kind name) d.entries has in
    let by = named_by d.kind name (get_or d.entries at.0 Free) at.2 in (
      at.0,
      record {
        file = by.file;
        within = at.1;
        entry = by.is;
        name_is = by.named;
        extent = ap (λ (drive : Drive). get drive.extents name) stands.drive
            ∙ extent_there sectors d.kind d.entries at.0 name by.file stands.faultless at.1 by.is at.2 by.named;
      },
    )

-- its parts have their lengths and ranges
of_image : (sectors : Sectors) (kind : Kind) (name : EntryName) (f : FileEntry) → HasRanges f → length f.name ≡ 11 → name_of kind f ≡ name → IsOfImage kind name (extent_in sectors kind f)
unfolding extent_in
of_image sectors kind name f ranges size named = record {
  attributes = length-map f.name (nat_le 128) ∙ size;
  last = omega (arith, ranges.low, ranges.high);
  number = ap (λ (n : EntryName). n.number) named;
  count = ranges.few;
  blocks = all_places sectors kind f;
}

pub extent_of_image : (image : List ℕ) (d : Directory) (files : Drive) (name : EntryName) (extent : PhysicalExtent) → Stands image d files → get files.extents name ≡ Some extent
    → IsOfImage d.kind name extent
extent_of_image image d files name extent stands is =
    let sectors = sectors_of image d.kind in
    let found = in_slot image d files name stands (ap is_some is) in
    let size : length found.1.file.name ≡ 11 = (subst (λ (e : Entry). HasSizes e) found.1.entry (sizes_at image d files found.0 stands found.1.within)).0 in
    let ranges = ranges_at d found.0 found.1.file stands.faultless found.1.within found.1.entry in
    subst (λ (x : PhysicalExtent). IsOfImage d.kind name x) (same_Some (extent_in sectors d.kind found.1.file) extent (sym found.1.extent ∙ is))
    (of_image sectors d.kind name found.1.file ranges size found.1.name_is)
