-- What is answered of a file by the directory is what the drive has that it stands for.
use Rattle.std.proofs.Common.{◌≡◌, ◌∙◌, ℕ, ◌+◌, ◌≤◌, ◌<◌, Bool, false, List, [], ◌∷◌, Option, Some, None, length, replicate, sym, refl, ap, arith}
use Rattle.std.specs.Prelude.{unwrap_or}
use Rattle.std.specs.FinMap.{get}
use Rattle.mpm_blocks.specs.Geometries.{geometry_of}
use Rattle.mpm_blocks.specs.Sectors.{sectors_of}
use Rattle.mpm_dirent.specs.declared.kinds.Entry.{Entry}
use Rattle.mpm_dirent.specs.declared.kinds.Entry.TheVariants.{Free, File, Xfcb, Label, Kept}
use Rattle.mpm_dirent.specs.Proper.{IsProper}
use Rattle.mpm_dirent.specs.Names.{plain}
use Rattle.mpm_mount.specs.Drives.{FileName, PhysicalExtent, Drive, extents_of, entry_number, entry_name}
use Rattle.mpm_mount.specs.Faults.{first_fault}
use Rattle.mpm_mount.specs.Images.{extent_in}
use Rattle.mpm_mount.specs.Directories.{Directory, entry_in, extent_slot, Stands}
use Rattle.mpm_mount.specs.Attributes.{attributes_of, first_attributes}
use Rattle.mpm_mount.specs.Files.{where_there}
use Rattle.mpm_mount.proofs.LookedUp.{extent_found, extent_missing}
use Rattle.mpm_mount.proofs.Puts.{ranges_at}
use Rattle.mpm_mount.specs.Looking.{file_attributes, extent_count}
use Rattle.mpm_file_entries.specs.Telling.{record_count, told_entry, found_bytes, CanTell, told_at, told_where, told_in}

-- an entry's numbers fit
can_tell_by : (d : Directory) (slot : ℕ) (e : Entry) → first_fault d.kind d.entries ≡ None → slot < length d.entries → entry_in d slot ≡ e → IsProper (geometry_of d.kind).wide e → CanTell e
can_tell_by d slot (File f) faultless h is proper =
    let ranges = ranges_at d slot f faultless h is in
    (proper.0, omega (arith, ranges.low, ranges.high))
can_tell_by d slot Free faultless h is proper = tt
can_tell_by d slot (Xfcb x) faultless h is proper = tt
can_tell_by d slot (Label label) faultless h is proper = tt
can_tell_by d slot (Kept bytes) faultless h is proper = tt

pub can_tell : (d : Directory) (slot : ℕ) (e : Entry) → first_fault d.kind d.entries ≡ None → length d.entries ≡ (geometry_of d.kind).drm + 1 → slot ≤ (geometry_of d.kind).drm → e ≡ entry_in d slot
    → IsProper (geometry_of d.kind).wide e → CanTell e
can_tell d slot e faultless full h is proper = can_tell_by d slot e faultless (omega (arith, full, h)) (sym is) proper

-- an entry
told_by : (image : List ℕ) (d : Directory) (files : Drive) (file : FileName) (extent : ℕ) → Stands image d files → (found : Option ℕ) → extent_slot d file extent ≡ found
    → where_there (told_where d found) (λ bytes. bytes) ≡ where_there (get files.extents (entry_name d.kind file extent)) (told_entry file)
unfolding extent_in
told_by image d files file extent stands None e = sym (ap (λ o. where_there o (told_entry file)) (extent_missing image d files file extent stands e))
told_by image d files file extent stands (Some slot) e =
    let f = extent_found image d files file extent slot stands e in
    let named : file ≡ record { user = f.file.user; name = plain f.file.name } = ap (λ name. record { user = name.user; name = name.name }) (sym f.name_is) in
    ap (λ entry. where_there (told_at entry) (λ bytes. bytes)) f.entry
    ∙ sym (ap (λ g. told_entry g (extent_in (sectors_of image d.kind) d.kind f.file)) named)
    ∙ sym (ap (λ o. where_there o (told_entry file)) f.extent)

pub told_stands : (image : List ℕ) (d : Directory) (files : Drive) (file : FileName) (extent : ℕ) (result : Option (List ℕ)) → Stands image d files → result ≡ told_in d file extent
    → where_there result (λ bytes. bytes) ≡ found_bytes files (Some (file, entry_number d.kind extent))
unfolding told_in
told_stands image d files file extent result stands is =
    ap (λ o. where_there o (λ bytes. bytes)) is ∙ told_by image d files file extent stands (extent_slot d file extent) refl

-- a record count
pub counted : (files : Drive) (file : FileName) (extent : ℕ) (found : Option ℕ) (count : ℕ) → extent_count files file extent ≡ found → count ≡ unwrap_or found 0 → count ≡ record_count files file extent
counted files file extent found count is so = so ∙ sym (ap (λ o. unwrap_or o 0) is)

-- the attributes
attributes_by : {K : Type 0} (es : List (K × PhysicalExtent)) → attributes_of es ≡ unwrap_or (first_attributes es) (replicate 11 false)
attributes_by [] = refl
attributes_by (e ∷ es) = refl

pub attributes_same : (files : Drive) (file : FileName) (found : Option (List Bool)) (told : List Bool) → file_attributes files file ≡ found → told ≡ unwrap_or found (replicate 11 false)
    → told ≡ attributes_of (extents_of files file)
unfolding file_attributes
attributes_same files file found told is so = so ∙ sym (attributes_by (extents_of files file) ∙ ap (λ o. unwrap_or o (replicate 11 false)) is)
