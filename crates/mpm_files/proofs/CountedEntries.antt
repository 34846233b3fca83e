-- Directory entries that are counted in memory, against the drive that they stand for.
use Rattle.std.proofs.Common.{◌≡◌, ℕ, ◌+◌, Bool, true, false, ◌&&◌, List, ◌++◌, Option, Some, None, map, length, refl, sym, ap, ◌∙◌, arith, zero-add, add-zero}
use Rattle.std.specs.Prelude.{is_some, nat_lt, sum_by, count_by}
use Rattle.std.specs.List.{list_any, filter}
use Rattle.std.specs.FinMap.{get, entries, keys}
use Rattle.std.proofs.lemmas.List.{length-append, length-map}
use Rattle.std.proofs.lemmas.List.Sums.{length-filter}
use Rattle.mpm_base.specs.declared.kind.Kind.{Kind}
use Rattle.mpm_base.specs.Counts.{one_if}
use Rattle.mpm_blocks.specs.Sectors.{Sectors, sectors_of}
use Rattle.mpm_dirent.specs.declared.kinds.Entry.{Entry}
use Rattle.mpm_dirent.specs.declared.kinds.Entry.TheVariants.{Free, File, Xfcb, Label, Kept}
use Rattle.mpm_mount.specs.Drives.{FileName, entry_cmp, file_cmp, Drive, is_of, extents_of}
use Rattle.mpm_mount.specs.Faults.{first_fault}
use Rattle.mpm_mount.specs.Images.{extent_from, xfcb_from, drive_of}
use Rattle.mpm_mount.specs.Directories.{Directory, Stands, xfcb_slot}
use Rattle.mpm_mount.specs.Files.{is_same_file, entries_named, is_entry_of, is_fitting, file_in, is_part_of}
use Rattle.mpm_mount.proofs.Orders.{entry_total, file_total}
use Rattle.mpm_mount.proofs.LookedUp.{xfcb_found, xfcb_missing}
use Rattle.mpm_mount.proofs.FreeEntries.{extents_apart, xfcbs_apart}
use Rattle.mpm_mount.proofs.Names.{same_back}
use Rattle.mpm_files.specs.Units.{FileUnit, RemovesXfcb, RenamesXfcb}
use Rattle.mpm_files.specs.Plans.{when, of_entries, of_xfcb, deleting, renaming}
use Rattle.mpm_files.specs.Counting.{is_deleted}
use Rattle.mpm_files.proofs.Pairs.{sums_alike, sum_mapped, sum_both, any_counted, of_item, pairs_collected}
use Rattle.mpm_files.proofs.Deletions.{xfcbs_among, deleting_counted}

-- the pairs of the drive, entry by entry
extents_counted : (sectors : Sectors) (d : Directory) (files : Drive) → files ≡ drive_of sectors d.kind d.entries → first_fault d.kind d.entries ≡ None → (test : FileName → Bool)
    → sum_by (λ e. one_if (test (record { user = e.0.user; name = e.0.name }))) (entries files.extents)
    ≡ sum_by (λ e. of_item (λ p. one_if (test (record { user = p.0.user; name = p.0.name }))) (extent_from sectors d.kind e)) d.entries
unfolding drive_of
extents_counted sectors d files is faultless test =
    ap (λ (x : Drive). sum_by (λ e. one_if (test (record { user = e.0.user; name = e.0.name }))) (entries x.extents)) is
    ∙ pairs_collected entry_cmp entry_total (λ p. one_if (test (record { user = p.0.user; name = p.0.name }))) (map (extent_from sectors d.kind) d.entries) (extents_apart sectors d.kind d.entries faultless)
    ∙ sum_mapped (of_item (λ p. one_if (test (record { user = p.0.user; name = p.0.name })))) (extent_from sectors d.kind) d.entries

xfcbs_counted : (sectors : Sectors) (d : Directory) (files : Drive) → files ≡ drive_of sectors d.kind d.entries → first_fault d.kind d.entries ≡ None → (test : FileName → Bool)
    → sum_by (λ q. one_if (test q.0)) (entries files.xfcbs) ≡ sum_by (λ e. of_item (λ p. one_if (test p.0)) (xfcb_from e)) d.entries
unfolding drive_of
xfcbs_counted sectors d files is faultless test =
    ap (λ (x : Drive). sum_by (λ q. one_if (test q.0)) (entries x.xfcbs)) is
    ∙ pairs_collected file_cmp file_total (λ p. one_if (test p.0)) (map xfcb_from d.entries) (xfcbs_apart d.kind d.entries faultless)
    ∙ sum_mapped (of_item (λ p. one_if (test p.0))) xfcb_from d.entries

-- the entries of one file
part_by : (sectors : Sectors) (kind : Kind) (file : FileName) (e : Entry)
    → of_item (λ p. one_if (is_same_file file (record { user = p.0.user; name = p.0.name }))) (extent_from sectors kind e) ≡ one_if (is_part_of file e)
part_by sectors kind file (File f) = refl
part_by sectors kind file Free = refl
part_by sectors kind file (Xfcb x) = refl
part_by sectors kind file (Label l) = refl
part_by sectors kind file (Kept bytes) = refl

parts_counted : (image : List ℕ) (d : Directory) (files : Drive) (file : FileName) → Stands image d files
    → sum_by (λ e. one_if (is_same_file file (record { user = e.0.user; name = e.0.name }))) (entries files.extents) ≡ count_by (is_part_of file) d.entries
parts_counted image d files file stands =
    extents_counted (sectors_of image d.kind) d files stands.drive stands.faultless (is_same_file file)
    ∙ sums_alike _ (λ e. one_if (is_part_of file e)) d.entries (part_by (sectors_of image d.kind) d.kind file)

pub entries_counted : (image : List ℕ) (d : Directory) (files : Drive) (file : FileName) (unit : ℕ → FileUnit) → Stands image d files
    → length (of_entries files file unit) ≡ count_by (is_part_of file) d.entries
unfolding extents_of
entries_counted image d files file unit stands =
    length-map (filter (is_of file) (entries files.extents)) (λ entry. unit entry.0.number) ∙ length-filter (is_of file) (entries files.extents)
    ∙ sums_alike (λ e. one_if (is_of file e)) (λ e. one_if (is_same_file file (record { user = e.0.user; name = e.0.name }))) (entries files.extents)
    (λ e. ap one_if (same_back (record { user = e.0.user; name = e.0.name }) file))
    ∙ parts_counted image d files file stands

-- whether a file has an XFCB
pub xfcb_by : (image : List ℕ) (d : Directory) (files : Drive) (file : FileName) → Stands image d files → (o : Option ℕ) → xfcb_slot d file ≡ o
    → is_some (get files.xfcbs file) ≡ is_some o
xfcb_by image d files file stands None none = ap is_some (xfcb_missing image d files file stands none)
xfcb_by image d files file stands (Some slot) found = ap is_some ((xfcb_found image d files file slot stands found).protection)

size_when : (b : Bool) (unit : FileUnit) → length (when b unit) ≡ one_if b
size_when true unit = refl
size_when false unit = refl

xfcb_counted : (image : List ℕ) (d : Directory) (files : Drive) (file : FileName) (unit : FileUnit) → Stands image d files → length (of_xfcb files file unit) ≡ one_if (is_some (xfcb_slot d file))
xfcb_counted image d files file unit stands =
    size_when (is_some (get files.xfcbs file)) unit ∙ ap one_if (xfcb_by image d files file stands (xfcb_slot d file) refl)

turned : (a b c : ℕ) → a + (b + c) ≡ b + c + a
turned a b c = omega arith

pub renaming_counted : (image : List ℕ) (d : Directory) (files : Drive) (file other : FileName) → Stands image d files
    → length (renaming files file other) ≡ count_by (is_part_of file) d.entries + one_if (is_some (xfcb_slot d file)) + one_if (is_some (xfcb_slot d other))
renaming_counted image d files file other stands =
    let a : List FileUnit = of_xfcb files other (RemovesXfcb other) in
    let c : List FileUnit = of_xfcb files file (RenamesXfcb file other) in
    length-append a (of_entries files file _ ++ c)
    ∙ ap (λ n. length a + n) (length-append (of_entries files file _) c)
    ∙ turned (length a) (length (of_entries files file _)) (length c)
    ∙ ap (λ n. n + length c + length a) (entries_counted image d files file _ stands)
    ∙ ap (λ n. count_by (is_part_of file) d.entries + n + length a) (xfcb_counted image d files file (RenamesXfcb file other) stands)
    ∙ ap (λ n. count_by (is_part_of file) d.entries + one_if (is_some (xfcb_slot d file)) + n) (xfcb_counted image d files other (RemovesXfcb other) stands)

-- a file is there where the directory has an entry of it
named_sum : (files : Drive) (test : FileName → Bool)
    → sum_by (λ e. one_if (test e.0)) (entries_named files) ≡ sum_by (λ e. one_if (test (record { user = e.0.user; name = e.0.name }))) (entries files.extents)
unfolding entries_named
named_sum files test =
    sum_mapped (λ e. one_if (test e.0)) (λ name. (record { user = name.user; name = name.name }, name.number)) (keys files.extents)
    ∙ sum_mapped (λ name. one_if (test (record { user = name.user; name = name.name }))) (λ e. e.0) (entries files.extents)

pub there_same : (image : List ℕ) (d : Directory) (files : Drive) (file : FileName) → Stands image d files
    → list_any (is_entry_of file) (entries_named files) ≡ list_any (is_part_of file) d.entries
there_same image d files file stands =
    any_counted (is_entry_of file) (entries_named files)
    ∙ ap (nat_lt 0) (named_sum files (is_same_file file) ∙ parts_counted image d files file stands)
    ∙ sym (any_counted (is_part_of file) d.entries)

-- what a deletion removes
deleted_by : (sectors : Sectors) (d : Directory) (user : ℕ) (pattern : List ℕ) (e : Entry)
    → of_item (λ p. one_if (is_fitting user pattern (record { user = p.0.user; name = p.0.name }))) (extent_from sectors d.kind e)
    + of_item (λ p. one_if (is_fitting user pattern p.0 && list_any (is_part_of p.0) d.entries)) (xfcb_from e)
    ≡ one_if (is_deleted d user pattern e)
deleted_by sectors d user pattern (File f) = add-zero (one_if (is_fitting user pattern (file_in f.user f.name)))
deleted_by sectors d user pattern (Xfcb x) = zero-add (one_if (is_fitting user pattern (file_in x.user x.name) && list_any (is_part_of (file_in x.user x.name)) d.entries))
deleted_by sectors d user pattern Free = refl
deleted_by sectors d user pattern (Label l) = refl
deleted_by sectors d user pattern (Kept bytes) = refl

pub deletion_counted : (image : List ℕ) (d : Directory) (files : Drive) (user : ℕ) (pattern : List ℕ) → Stands image d files
    → length (deleting files user pattern (entries_named files)) ≡ count_by (is_deleted d user pattern) d.entries
deletion_counted image d files user pattern stands =
    let sectors : Sectors = sectors_of image d.kind in
    deleting_counted files user pattern (entries_named files)
    ∙ ap (λ n. n + xfcbs_among files user pattern (entries_named files))
    (named_sum files (is_fitting user pattern) ∙ extents_counted sectors d files stands.drive stands.faultless (is_fitting user pattern))
    ∙ ap (λ n. sum_by (λ e. of_item (λ p. one_if (is_fitting user pattern (record { user = p.0.user; name = p.0.name }))) (extent_from sectors d.kind e)) d.entries + n)
    (sums_alike _ (λ q. one_if (is_fitting user pattern q.0 && list_any (is_part_of q.0) d.entries)) (entries files.xfcbs)
    (λ q. ap (λ b. one_if (is_fitting user pattern q.0 && b)) (there_same image d files q.0 stands))
    ∙ xfcbs_counted sectors d files stands.drive stands.faultless (λ file. is_fitting user pattern file && list_any (is_part_of file) d.entries))
    ∙ sym (sum_both (λ e. of_item (λ p. one_if (is_fitting user pattern (record { user = p.0.user; name = p.0.name }))) (extent_from sectors d.kind e))
    (λ e. of_item (λ p. one_if (is_fitting user pattern p.0 && list_any (is_part_of p.0) d.entries)) (xfcb_from e)) d.entries)
    ∙ sums_alike _ (λ e. one_if (is_deleted d user pattern e)) d.entries (deleted_by sectors d user pattern)
