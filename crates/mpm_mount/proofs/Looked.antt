-- What the directory says is what the drive has that it stands for.
use Rattle.std.proofs.Common.{◌≡◌, ◌∙◌, ℕ, ◌+◌, ◌<◌, ◌≤◌, Bool, true, false, cond, List, Option, Some, None, length, get_or, sym, refl, ap, arith}
use Rattle.std.specs.Prelude.{nat_le, option_map, option_and_then, unwrap_or}
use Rattle.std.specs.FinMap.{get}
use Rattle.std.proofs.lemmas.List.{get_or-map, length-map}
use Rattle.std.proofs.lemmas.List.FromFn.{fill_by_all}
use Rattle.std.proofs.lemmas.List.Quantifiers.{position-Some}
use Rattle.mpm_base.specs.declared.kind.Kind.{Kind}
use Rattle.mpm_blocks.specs.Geometries.{geometry_of}
use Rattle.mpm_blocks.specs.Sectors.{sectors_of}
use Rattle.mpm_dirent.specs.declared.kinds.Entry.TheVariants.{Free}
use Rattle.mpm_dirent.specs.declared.kinds.LabelEntry.{LabelEntry}
use Rattle.mpm_mount.specs.Drives.{FileName, PhysicalExtent, Drive, entry_name, with_extent_there, extent_at, count_in}
use Rattle.mpm_mount.specs.Faults.{extent_of, is_label, is_xfcb}
use Rattle.mpm_mount.specs.Images.{extent_in, protection_of}
use Rattle.mpm_mount.specs.Directories.{Directory, extent_slot, xfcb_slot, label_slot, Stands}
use Rattle.mpm_mount.specs.Attributes.{attributes_in}
use Rattle.mpm_mount.proofs.LookedUp.{extent_found, extent_missing, xfcb_found, xfcb_missing, label_found, label_missing, kind_of}
use Rattle.mpm_mount.specs.Looking.{label_at, label_where, label_in, label_of, data_byte, xfcb_at, xfcb_where, xfcb_in, extent_count, count_at, count_where, count_of}

-- a slot that is found is one of the directory
pub label_within : (d : Directory) (slot : ℕ) → length d.entries ≡ (geometry_of d.kind).drm + 1 → label_slot d ≡ Some slot → slot ≤ (geometry_of d.kind).drm
label_within d slot full found =
    let at = position-Some is_label d.entries slot Free found in
    omega (arith, at.0, full)

pub xfcb_within : (d : Directory) (file : FileName) (slot : ℕ) → length d.entries ≡ (geometry_of d.kind).drm + 1 → xfcb_slot d file ≡ Some slot → slot ≤ (geometry_of d.kind).drm
xfcb_within d file slot full found =
    let at = position-Some (is_xfcb file.user file.name) d.entries slot Free found in
    omega (arith, at.0, full)

-- the label
label_by : (image : List ℕ) (d : Directory) (files : Drive) → Stands image d files → (found : Option ℕ) → label_slot d ≡ found
    → files.label ≡ option_map label_of (label_where d found)
label_by image d files stands None e = label_missing image d files stands e
label_by image d files stands (Some slot) e =
    let f = label_found image d files slot stands e in
    f.is ∙ sym (ap (λ entry. option_map label_of (label_at entry)) f.entry)

pub label_stands : (image : List ℕ) (d : Directory) (files : Drive) → Stands image d files → files.label ≡ option_map label_of (label_in d)
unfolding label_in
label_stands image d files stands = label_by image d files stands (label_slot d) refl

-- an XFCB
xfcb_by : (image : List ℕ) (d : Directory) (files : Drive) (file : FileName) → Stands image d files → (found : Option ℕ) → xfcb_slot d file ≡ found
    → get files.xfcbs file ≡ option_map protection_of (xfcb_where d found)
xfcb_by image d files file stands None e = xfcb_missing image d files file stands e
xfcb_by image d files file stands (Some slot) e =
    let f = xfcb_found image d files file slot stands e in
    f.protection ∙ sym (ap (λ entry. option_map protection_of (xfcb_at entry)) f.entry)

pub xfcb_stands : (image : List ℕ) (d : Directory) (files : Drive) (file : FileName) → Stands image d files → get files.xfcbs file ≡ option_map protection_of (xfcb_in d file)
unfolding xfcb_in
xfcb_stands image d files file stands = xfcb_by image d files file stands (xfcb_slot d file) refl

-- an extent
counted_where : (there : Bool) (extent : ℕ) (entry : PhysicalExtent) → option_map (λ (e : PhysicalExtent). count_in e extent) (cond there (Some entry) None) ≡ cond there (Some (count_in entry extent)) None
counted_where true extent entry = refl
counted_where false extent entry = refl

abbrev counts : ℕ → Option PhysicalExtent → Option ℕ
counts extent found = option_map (λ (e : PhysicalExtent). count_in e extent) (option_and_then (with_extent_there extent) found)

count_by_slot : (image : List ℕ) (d : Directory) (files : Drive) (file : FileName) (extent : ℕ) → Stands image d files → (found : Option ℕ) → extent_slot d file extent ≡ found
    → counts extent (get files.extents (entry_name d.kind file extent)) ≡ count_where d extent found
unfolding extent_in
count_by_slot image d files file extent stands None e = ap (counts extent) (extent_missing image d files file extent stands e)
count_by_slot image d files file extent stands (Some slot) e =
    let f = extent_found image d files file extent slot stands e in
    ap (counts extent) f.extent ∙ counted_where (nat_le extent (extent_of f.file)) extent (extent_in (sectors_of image d.kind) d.kind f.file)
    ∙ sym (ap (count_at extent) f.entry)

pub count_stands : (image : List ℕ) (d : Directory) (files : Drive) (file : FileName) (extent : ℕ) → Stands image d files
    → extent_count files file extent ≡ count_of d file extent
unfolding extent_count extent_at count_of
count_stands image d files file extent stands =
    ap (λ (kind : Kind). counts extent (get files.extents (entry_name kind file extent))) (kind_of image d files stands)
    ∙ count_by_slot image d files file extent stands (extent_slot d file extent) refl

-- the label's data byte
pub byte_stands : (files : Drive) (label : Option LabelEntry) (byte : ℕ) → files.label ≡ option_map label_of label → byte ≡ unwrap_or (option_map (λ l. l.mode) label) 0 → byte ≡ data_byte files
byte_stands files None byte e is = is ∙ sym (ap (λ label. unwrap_or (option_map (λ l. l.protection.mode) label) 0) e)
byte_stands files (Some l) byte e is = is ∙ sym (ap (λ label. unwrap_or (option_map (λ l. l.protection.mode) label) 0) e)

-- attributes
pub attributes_all : (name : List ℕ) (made : List Bool) → length name ≡ 11 → length made ≡ 11 → ((k : ℕ) → k < 11 → get_or made k false ≡ nat_le 128 (get_or name k 0)) → made ≡ attributes_in name
attributes_all name made size size_made each =
    fill_by_all (λ k. nat_le 128 (get_or name k 0)) made 11 false size_made each
    ∙ sym (fill_by_all (λ k. nat_le 128 (get_or name k 0)) (attributes_in name) 11 false (length-map name (nat_le 128) ∙ size) (λ k h. get_or-map (nat_le 128) name k 0 false (omega arith)))
