-- The free slots of a directory are as many as the drive that it stands for has free entries.
use Rattle.std.proofs.Common.{◌≡◌, ℕ, ◌+◌, ◌-◌, ◌<◌, List, [], ◌∷◌, length, get_or, map, refl, sym, ap, subst, ◌∙◌, arith}
use Rattle.std.specs.Prelude.{Option, Some, None, is_some, count_by, if◌then◌else◌}
use Rattle.std.specs.List.{list_any}
use Rattle.std.specs.FinMap.{len}
use Rattle.std.proofs.lemmas.Bool.{or_parts}
use Rattle.std.proofs.lemmas.List.{length-map, get_or-map}
use Rattle.std.proofs.lemmas.List.FromFn.{length-map-range_with_len}
use Rattle.mpm_base.specs.declared.kind.Kind.{Kind}
use Rattle.mpm_base.proofs.CountLaws.{one_if, count_cons}
use Rattle.mpm_blocks.specs.Geometries.{geometry_of}
use Rattle.mpm_blocks.specs.Sectors.{Sectors, sectors_of}
use Rattle.mpm_dirent.specs.declared.kinds.Entry.{Entry}
use Rattle.mpm_dirent.specs.declared.kinds.Entry.TheVariants.{Free, File, Xfcb, Label, Kept}
use Rattle.mpm_mount.specs.declared.slots.EntryName.{EntryName}
use Rattle.mpm_mount.specs.Drives.{FileName, entry_cmp, file_cmp, PhysicalExtent, Protection, DirectoryLabel, Drive, free_entries}
use Rattle.mpm_mount.specs.Faults.{first_some, first_fault}
use Rattle.mpm_mount.specs.Images.{slot_entry, entries_to, entries_of, extent_from, xfcb_from, label_from, is_kept, collected, drive_of}
use Rattle.mpm_mount.specs.Directories.{free_entries_in, others, Directory, is_free, free_slot, Stands}
use Rattle.mpm_mount.proofs.Tails.{EachWithRest, by_others}
use Rattle.mpm_mount.proofs.Counts.{none_counted}
use Rattle.mpm_mount.proofs.InAll.{alone_less, counted_none, len_collected}
use Rattle.mpm_mount.proofs.Collected.{StandsAlone}
use Rattle.mpm_mount.proofs.Orders.{entry_total, file_total}
use Rattle.mpm_mount.proofs.LookedUp.{nowhere}
use Rattle.mpm_mount.proofs.Exchanged.{IsOnly, extent_alone, xfcb_stands_alone, label_only}

-- no two entries give one key
pub extents_alone : (sectors : Sectors) (kind : Kind) (entries : List Entry) → first_fault kind entries ≡ None → (i : ℕ) → i < length (map (extent_from sectors kind) entries)
    → StandsAlone entry_cmp (get_or (map (extent_from sectors kind) entries) i None) (others (map (extent_from sectors kind) entries) i)
extents_alone sectors kind entries faultless i h =
    let f : Entry → Option (EntryName × PhysicalExtent) = extent_from sectors kind in
    let inside : i < length entries = omega (arith, length-map entries f) in
    subst (λ (o : Option (EntryName × PhysicalExtent)). StandsAlone entry_cmp o (others (map f entries) i)) (sym (get_or-map f entries i Free None inside))
    (extent_alone sectors kind entries i (get_or entries i Free) faultless inside refl)

pub extents_apart : (sectors : Sectors) (kind : Kind) (entries : List Entry) → first_fault kind entries ≡ None → EachWithRest (StandsAlone entry_cmp) (map (extent_from sectors kind) entries)
extents_apart sectors kind entries faultless =
    by_others (StandsAlone entry_cmp) None (alone_less entry_cmp) (map (extent_from sectors kind) entries) (extents_alone sectors kind entries faultless)

pub xfcbs_alone : (kind : Kind) (entries : List Entry) → first_fault kind entries ≡ None → (i : ℕ) → i < length (map xfcb_from entries)
    → StandsAlone file_cmp (get_or (map xfcb_from entries) i None) (others (map xfcb_from entries) i)
xfcbs_alone kind entries faultless i h =
    let inside : i < length entries = omega (arith, length-map entries xfcb_from) in
    subst (λ (o : Option (FileName × Protection)). StandsAlone file_cmp o (others (map xfcb_from entries) i)) (sym (get_or-map xfcb_from entries i Free None inside))
    (xfcb_stands_alone kind entries i (get_or entries i Free) faultless inside refl)

pub xfcbs_apart : (kind : Kind) (entries : List Entry) → first_fault kind entries ≡ None → EachWithRest (StandsAlone file_cmp) (map xfcb_from entries)
xfcbs_apart kind entries faultless = by_others (StandsAlone file_cmp) None (alone_less file_cmp) (map xfcb_from entries) (xfcbs_alone kind entries faultless)

only_less : {X : Type 0} (x y : Option X) (ys : List (Option X)) → IsOnly x (y ∷ ys) → IsOnly x ys
only_less None y ys alone = tt
only_less (Some x) y ys alone = (or_parts (is_some y) (list_any is_some ys) alone).1

pub labels_alone : (kind : Kind) (entries : List Entry) → first_fault kind entries ≡ None → (i : ℕ) → i < length (map label_from entries)
    → IsOnly (get_or (map label_from entries) i None) (others (map label_from entries) i)
labels_alone kind entries faultless i h =
    let inside : i < length entries = omega (arith, length-map entries label_from) in
    subst (λ (o : Option DirectoryLabel). IsOnly o (others (map label_from entries) i)) (sym (get_or-map label_from entries i Free None inside))
    (label_only kind entries i (get_or entries i Free) faultless inside refl)

labels_apart : (kind : Kind) (entries : List Entry) → first_fault kind entries ≡ None → EachWithRest IsOnly (map label_from entries)
labels_apart kind entries faultless = by_others IsOnly None only_less (map label_from entries) (labels_alone kind entries faultless)

-- the one that is there, as a number
one_there : (a b : ℕ) → b ≡ 0 → a ≡ 1 + b → a ≡ 1
one_there a b none is = omega arith

first_counted : {X : Type 0} (items : List (Option X)) → EachWithRest IsOnly items → count_by is_some items ≡ one_if (is_some (first_some items))
unfolding first_some
first_counted [] apart = refl
first_counted (None ∷ items) apart = counted_none items ∙ first_counted items apart.1
first_counted (Some x ∷ items) apart =
    one_there (count_by is_some (Some x ∷ items)) (count_by is_some items) (none_counted is_some items apart.0) (count_cons is_some (Some x) items)

-- each entry is of one sort
one_sort : (sectors : Sectors) (kind : Kind) (e : Entry)
    → one_if (is_free e) + one_if (is_some (extent_from sectors kind e)) + one_if (is_some (xfcb_from e)) + one_if (is_some (label_from e)) + one_if (is_kept e) ≡ 1
one_sort sectors kind Free = refl
one_sort sectors kind (File f) = refl
one_sort sectors kind (Xfcb x) = refl
one_sort sectors kind (Label l) = refl
one_sort sectors kind (Kept bytes) = refl

all_sorts : (sectors : Sectors) (kind : Kind) (entries : List Entry)
    → count_by is_free entries + count_by is_some (map (extent_from sectors kind) entries) + count_by is_some (map xfcb_from entries) + count_by is_some (map label_from entries)
    + count_by is_kept entries ≡ length entries
all_sorts sectors kind [] = refl
all_sorts sectors kind (e ∷ entries) =
    omega (
      arith,
      one_sort sectors kind e,
      all_sorts sectors kind entries,
      count_cons is_free e entries,
      count_cons is_some (extent_from sectors kind e) (map (extent_from sectors kind) entries),
      count_cons is_some (xfcb_from e) (map xfcb_from entries),
      count_cons is_some (label_from e) (map label_from entries),
      count_cons is_kept e entries,
    )

left_over : (free a b c k whole x y z : ℕ) → free + a + b + c + k ≡ whole → x ≡ a → y ≡ b → c ≡ z → free ≡ whole - (x + y + z + k)
left_over free a b c k whole x y z all one two three = omega arith

pub free_entries_of : (sectors : Sectors) (kind : Kind) (entries : List Entry) → first_fault kind entries ≡ None → length entries ≡ (geometry_of kind).drm + 1
    → count_by is_free entries ≡ free_entries (drive_of sectors kind entries)
unfolding free_entries drive_of
free_entries_of sectors kind entries faultless size =
    let a : ℕ = count_by is_some (map (extent_from sectors kind) entries) in
    let b : ℕ = count_by is_some (map xfcb_from entries) in
    let c : ℕ = count_by is_some (map label_from entries) in
    let z : ℕ = if is_some (first_some (map label_from entries)) then 1 else 0 in
    left_over (count_by is_free entries) a b c (count_by is_kept entries) ((geometry_of kind).drm + 1) (len (collected entry_cmp (map (extent_from sectors kind) entries)))
    (len (collected file_cmp (map xfcb_from entries))) z (all_sorts sectors kind entries ∙ size)
    (len_collected entry_cmp entry_total (map (extent_from sectors kind) entries) (extents_apart sectors kind entries faultless))
    (len_collected file_cmp file_total (map xfcb_from entries) (xfcbs_apart kind entries faultless))
    (first_counted (map label_from entries) (labels_apart kind entries faultless))

pub all_slots : (sectors : Sectors) (kind : Kind) → length (entries_of sectors kind) ≡ (geometry_of kind).drm + 1
unfolding entries_to
all_slots sectors kind = length-map-range_with_len (slot_entry sectors (geometry_of kind).wide) 0 ((geometry_of kind).drm + 1)

pub free_entries_same : (image : List ℕ) (d : Directory) (files : Drive) → Stands image d files → free_entries_in d ≡ free_entries files
free_entries_same image d files stands =
    let sectors = sectors_of image d.kind in
    free_entries_of sectors d.kind d.entries stands.faultless (ap length stands.entries ∙ all_slots sectors d.kind) ∙ sym (ap free_entries stands.drive)

-- where no slot is free, the drive has no free entry
pub no_free_slot : (image : List ℕ) (d : Directory) (files : Drive) → Stands image d files → free_slot d ≡ None → free_entries files ≡ 0
no_free_slot image d files stands none =
    sym (free_entries_same image d files stands) ∙ none_counted is_free d.entries (nowhere is_free d.entries none)
