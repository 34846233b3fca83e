-- The records that are summed, by the directory in memory and the image that stand for the drive.
use Rattle.std.proofs.Common.{◌≡◌, ◌≢◌, ◌∙◌, ℕ, ◌+◌, ◌*◌, ◌/◌, ◌%◌, ◌<◌, ◌≤◌, ◌==◌, ◌&&◌, Bool, true, false, not, List, [], Option, Some, None, length, map, take, get_or, refl, sym, ap, subst, arith, zero-add}
use Rattle.std.specs.Prelude.{IfSome, nat_lt, nat_le, option_map, option_and_then, slice_index_or, sum_by, if◌then◌else◌}
use Rattle.std.specs.List.{range_with_len}
use Rattle.std.specs.Option.{option_map_or}
use Rattle.std.specs.FinMap.{get}
use Rattle.std.proofs.lemmas.Bool.{eqb-false}
use Rattle.std.proofs.lemmas.Bool.Decides.{nat_tests}
use Rattle.std.proofs.lemmas.List.Quantifiers.{position-Some}
use Rattle.std.proofs.lemmas.List.Sums.{sum_by_more}
use Rattle.std.proofs.lemmas.List.FromFn.{length-range_with_len, get_or-range_with_len}
use Rattle.std.proofs.lemmas.Option.{none-some}
use Rattle.mpm_base.specs.declared.kind.Kind.TheVariants.{Hd4}
use Rattle.mpm_port.specs.Disks.{Disks, sector_of}
use Rattle.mpm_blocks.specs.Geometries.{geometry_of}
use Rattle.mpm_blocks.specs.Sectors.{Sectors, sectors_of}
use Rattle.mpm_dirent.specs.declared.kinds.Entry.{Entry}
use Rattle.mpm_dirent.specs.declared.kinds.Entry.TheVariants.{Free, File}
use Rattle.mpm_dirent.specs.declared.kinds.FileEntry.{FileEntry}
use Rattle.mpm_mount.specs.Drives.{PhysicalExtent, Drive, entry_name, entry_number, with_extent_there, extent_at, count_in, record_in, visible_in, visible_of}
use Rattle.mpm_mount.specs.Faults.{extent_of, block_at, holds, is_named, first_fault}
use Rattle.mpm_mount.specs.Images.{contents_of, extent_in, drive_of}
use Rattle.mpm_mount.specs.Directories.{Directory, entry_in, extent_slot, Stands}
use Rattle.mpm_mount.specs.Files.{is_file}
use Rattle.mpm_mount.proofs.LookedUp.{extent_found, extent_missing}
use Rattle.mpm_mount.proofs.Ranges.{map_at}
use Rattle.mpm_mount.proofs.Sound.{block_within}
use Rattle.mpm_mount.proofs.Still.{has_own, file_injective}
use Rattle.mpm_refusals.specs.Asking.{StandsWhere}
use Rattle.mpm_bdos.specs.Serving.{StandEach}
use Rattle.mpm_directories.specs.Places.{directory_at}
use Rattle.mpm_bdos.specs.Turns.{drive_and_kind, images_of}
use Rattle.mpm_bdos.proofs.NextTurns.{image_told}
use Rattle.mpm_top.specs.Data.{data_file, data_of, data_on, sector_in, HasDriveA}
use Rattle.mpm_top.proofs.Naming.{kind_labelled}

-- drive A after a run

drive_by_directory : (x : Disks) (drives : List (Option Drive)) (directory : Option Directory) (drive : Option Drive) → option_map drive_and_kind directory ≡ Some (0, Hd4)
    → StandsWhere 0 (images_of x 0) directory drive → slice_index_or drives 0 None ≡ drive → HasDriveA x directory drives
drive_by_directory x drives None drive label stands here = absurd (none-some _ label)
drive_by_directory x drives (Some d) None label stands here = absurd stands
drive_by_directory x drives (Some d) (Some files) label stands here = record {
  image = images_of x 0;
  files = files;
  attached = image_told x 0 d.kind stands.stands.size;
  stands = stands.stands;
  here = here;
}

pub has_drive_a : (x : Disks) (mounted : List (Option Directory)) (drives : List (Option Drive)) → option_map drive_and_kind (directory_at mounted 0) ≡ Some (0, Hd4)
    → StandEach (images_of x) mounted drives → HasDriveA x (directory_at mounted 0) drives
has_drive_a x mounted drives label stand = drive_by_directory x drives (directory_at mounted 0) (slice_index_or drives 0 None) label (stand.each 0) refl

-- the directory of the drive is of its kind
pub kind_there : (directory : Option Directory) (d : Directory) → Some d ≡ directory → option_map drive_and_kind directory ≡ Some (0, Hd4) → d.kind ≡ Hd4
kind_there directory d is label = kind_labelled d 0 Hd4 (ap (option_map drive_and_kind) is ∙ label)

pub none_there : (directory : Option Directory) → None ≡ directory → option_map drive_and_kind directory ≡ Some (0, Hd4) → ⊥
none_there directory is label = none-some _ (ap (option_map drive_and_kind) is ∙ label)

-- what its records sum to
pub summed_on : (on : List (Option Drive)) (files : Drive) → slice_index_or on 0 None ≡ Some files → data_of files ≡ data_on on
summed_on on files here = ap (λ (drive : Option Drive). option_map_or data_of drive 0) (sym here)

-- the sum, one record more

pub sum_more : (f : ℕ → ℕ) (place : ℕ) → place < 32 → sum_by f (take (place + 1) (range_with_len 0 32)) ≡ sum_by f (take place (range_with_len 0 32)) + f place
sum_more f place less =
    sum_by_more f (range_with_len 0 32) place 0 (omega (arith, less, length-range_with_len 0 32))
    ∙ ap (λ n. sum_by f (take place (range_with_len 0 32)) + f n) (get_or-range_with_len 0 32 place 0 less ∙ zero-add place)

as_hd4 : (d : Directory) → d.kind ≡ Hd4 → d ≡ record d { kind = Hd4 }
as_hd4 d is i = record d { kind = is i }

-- a record by its entry

held_contents : (sectors : Sectors) (b : Bool) (block r : ℕ) → (block == 0) ≡ b → r < 16
    → option_map (λ (records : List (List ℕ)). slice_index_or records r []) (contents_of sectors Hd4 block) ≡ option_map sectors (if not b then Some (16 * block + r) else None)
unfolding contents_of
held_contents sectors true block r is less =
    ap (λ (t : Bool). option_map (λ (records : List (List ℕ)). slice_index_or records r []) (if t then None else Some (map (λ k. sectors (block * 16 + k)) (range_with_len 0 16)))) is
held_contents sectors false block r is less =
    ap (λ (t : Bool). option_map (λ (records : List (List ℕ)). slice_index_or records r []) (if t then None else Some (map (λ k. sectors (block * 16 + k)) (range_with_len 0 16)))) is
    ∙ ap (λ (bytes : List ℕ). Some bytes) (map_at (λ k. sectors (block * 16 + k)) 16 r [] less)
    ∙ ap (λ n. Some (sectors (n + r))) (swapped block)
  where
    swapped : (n : ℕ) → n * 16 ≡ 16 * n
    swapped n = omega arith

record_by_entry : (sectors : Sectors) (place : ℕ) (f : FileEntry) → place < 32
    → record_in Hd4 place (extent_in sectors Hd4 f) ≡ option_map sectors (if not (block_at f (place / 16) == 0) then Some (16 * block_at f (place / 16) + place % 16) else None)
unfolding extent_in
record_by_entry sectors place f less =
    let among : place / 16 % 8 ≡ place / 16 = omega (arith, less) in
    ap (option_map (λ (records : List (List ℕ)). slice_index_or records (place % 16) []))
    (map_at (λ i. contents_of sectors Hd4 (block_at f i)) 8 (place / 16 % 8) None (omega arith))
    ∙ ap (λ n. option_map (λ (records : List (List ℕ)). slice_index_or records (place % 16) []) (contents_of sectors Hd4 (block_at f n))) among
    ∙ held_contents sectors (block_at f (place / 16) == 0) (block_at f (place / 16)) (place % 16) refl (omega arith)

-- where it is below the record count
counted_by : (sectors : Sectors) (b c : Bool) (sector : ℕ) → (if b then option_map sectors (if c then Some sector else None) else None) ≡ option_map sectors (if b && c then Some sector else None)
counted_by sectors true c sector = refl
counted_by sectors false c sector = refl

-- a record of extent 0
visible_by_entry : (sectors : Sectors) (place : ℕ) (f : FileEntry) → place < 32 → extent_of f ≡ 0
    → option_and_then (visible_in Hd4 place) (with_extent_there (place / 128) (extent_in sectors Hd4 f)) ≡ option_map sectors (sector_in place f)
unfolding extent_in
visible_by_entry sectors place f less first =
    let zero_extent : place / 128 ≡ 0 = omega (arith, less) in
    let within : place % 128 ≡ place = omega (arith, less) in
    let e : PhysicalExtent = extent_in sectors Hd4 f in
    let there : nat_le 0 (extent_of f) ≡ true = grind (arith, nat_tests) in
    let here : (0 == extent_of f) ≡ true = ap (λ n. 0 == n) first in
    let look : ℕ → ℕ → Option (List ℕ) = λ n extent. option_and_then (λ (x : PhysicalExtent). if nat_lt n (count_in x extent) then record_in Hd4 place x else None) (with_extent_there extent e) in
    ap (λ n. look n (place / 128)) within
    ∙ ap (look place) zero_extent
    ∙ ap (λ (b : Bool). option_and_then (λ (x : PhysicalExtent). if nat_lt place (count_in x 0) then record_in Hd4 place x else None) (if b then Some e else None)) there
    ∙ ap (λ (b : Bool). if nat_lt place (if b then f.rc else 128) then record_in Hd4 place e else None) here
    ∙ ap (λ (r : Option (List ℕ)). if nat_lt place f.rc then r else None) (record_by_entry sectors place f less)
    ∙ counted_by sectors (nat_lt place f.rc) (not (block_at f (place / 16) == 0)) (16 * block_at f (place / 16) + place % 16)

-- and by the drive

visible_by : (image : List ℕ) (number : ℕ) (entries : List Entry) (files : Drive) (place : ℕ) → place < 32 → Stands image (record { drive = number; kind = Hd4; entries = entries }) files
    → visible_of files data_file place ≡ option_and_then (visible_in Hd4 place) (option_and_then (with_extent_there (place / 128)) (get files.extents (entry_name Hd4 data_file 0)))
unfolding drive_of visible_of extent_at
visible_by image number entries files place less stands =
    let kind : files.kind ≡ Hd4 = ap (λ (drive : Drive). drive.kind) stands.drive in
    let zero_extent : place / 128 ≡ 0 = omega (arith, less) in
    ap (λ k. option_and_then (visible_in k place) (option_and_then (with_extent_there (place / 128)) (get files.extents (entry_name k data_file (place / 128))))) kind
    ∙ ap (λ n. option_and_then (visible_in Hd4 place) (option_and_then (with_extent_there (place / 128)) (get files.extents (entry_name Hd4 data_file n)))) zero_extent

record_found : (image : List ℕ) (number : ℕ) (entries : List Entry) (files : Drive) (place slot : ℕ) (f : FileEntry) → place < 32
    → Stands image (record { drive = number; kind = Hd4; entries = entries }) files → extent_slot (record { drive = number; kind = Hd4; entries = entries }) data_file 0 ≡ Some slot
    → get_or entries slot Free ≡ File f → visible_of files data_file place ≡ option_map (sector_of image) (sector_in place f)
unfolding sectors_of
record_found image number entries files place slot f less stands found is =
    let d : Directory = record { drive = number; kind = Hd4; entries = entries } in
    let there = extent_found image d files data_file 0 slot stands found in
    let same : there.file ≡ f = file_injective there.file f (sym there.entry ∙ is) in
    let numbered : entry_number Hd4 (extent_of there.file) ≡ entry_number Hd4 0 = ap (λ name. name.number) there.name_is in
    let first : extent_of f ≡ 0 = omega (arith, numbered, ap (λ (g : FileEntry). extent_of g) same) in
    visible_by image number entries files place less stands
    ∙ ap (λ (o : Option PhysicalExtent). option_and_then (visible_in Hd4 place) (option_and_then (with_extent_there (place / 128)) o)) there.extent
    ∙ ap (λ (g : FileEntry). option_and_then (visible_in Hd4 place) (with_extent_there (place / 128) (extent_in (sectors_of image Hd4) Hd4 g))) same
    ∙ visible_by_entry (sectors_of image Hd4) place f less first

pub visible_found : (image : List ℕ) (d : Directory) (files : Drive) (place slot : ℕ) (f : FileEntry) → d.kind ≡ Hd4 → place < 32 → Stands image d files
    → extent_slot d data_file 0 ≡ Some slot → entry_in d slot ≡ File f → visible_of files data_file place ≡ option_map (sector_of image) (sector_in place f)
visible_found image d files place slot f kind less stands found is =
    let same = as_hd4 d kind in
    record_found image d.drive d.entries files place slot f less (subst (λ (x : Directory). Stands image x files) same stands)
    (subst (λ (x : Directory). extent_slot x data_file 0 ≡ Some slot) same found) is

-- what is found is a part of a file
pub file_found : (image : List ℕ) (d : Directory) (files : Drive) (slot : ℕ) (e : Entry) → Stands image d files → extent_slot d data_file 0 ≡ Some slot → entry_in d slot ≡ e
    → is_file e ≡ true
file_found image d files slot e stands found is =
    let there = extent_found image d files data_file 0 slot stands found in
    ap is_file (sym is ∙ there.entry)

-- where none is found no record is there
record_missing : (image : List ℕ) (number : ℕ) (entries : List Entry) (files : Drive) (place : ℕ) → place < 32 → Stands image (record { drive = number; kind = Hd4; entries = entries }) files
    → extent_slot (record { drive = number; kind = Hd4; entries = entries }) data_file 0 ≡ None → visible_of files data_file place ≡ None
record_missing image number entries files place less stands none =
    visible_by image number entries files place less stands
    ∙ ap (λ (o : Option PhysicalExtent). option_and_then (visible_in Hd4 place) (option_and_then (with_extent_there (place / 128)) o))
    (extent_missing image (record { drive = number; kind = Hd4; entries = entries }) files data_file 0 stands none)

pub visible_missing : (image : List ℕ) (d : Directory) (files : Drive) (place : ℕ) → d.kind ≡ Hd4 → place < 32 → Stands image d files → extent_slot d data_file 0 ≡ None
    → visible_of files data_file place ≡ None
visible_missing image d files place kind less stands none =
    let same = as_hd4 d kind in
    record_missing image d.drive d.entries files place less (subst (λ (x : Directory). Stands image x files) same stands)
    (subst (λ (x : Directory). extent_slot x data_file 0 ≡ None) same none)

-- its sector is one of the disk

block_low : (entries : List Entry) (slot place : ℕ) (f : FileEntry) → place < 32 → first_fault Hd4 entries ≡ None → slot < length entries → get_or entries slot Free ≡ File f
    → block_at f (place / 16) ≢ 0 → block_at f (place / 16) ≤ 2047
block_low entries slot place f less faultless within is some =
    let held : holds Hd4 (block_at f (place / 16)) (get_or entries slot Free) ≡ true =
    ap (holds Hd4 (block_at f (place / 16))) is ∙ has_own f 8 (place / 16) (omega (arith, less)) in
    (block_within Hd4 entries slot (block_at f (place / 16)) faultless within some held).1

sector_low : (b c : Bool) (block place : ℕ) → (block == 0) ≡ c → (block ≢ 0 → block ≤ 2047) → IfSome (if b && not c then Some (16 * block + place % 16) else None) (λ sector. sector < 32768)
sector_low false c block place is low = tt
sector_low true true block place is low = tt
sector_low true false block place is low = omega (arith, low (eqb-false block 0 is))

pub within_disk : (d : Directory) (place slot : ℕ) (f : FileEntry) → d.kind ≡ Hd4 → place < 32 → length d.entries ≡ (geometry_of d.kind).drm + 1 → first_fault d.kind d.entries ≡ None
    → extent_slot d data_file 0 ≡ Some slot → entry_in d slot ≡ File f → IfSome (sector_in place f) (λ sector. sector < 32768)
within_disk d place slot f kind less full faultless found is =
    let at = position-Some (is_named d.kind (entry_name d.kind data_file 0)) d.entries slot Free found in
    let none : first_fault Hd4 d.entries ≡ None = subst (λ k. first_fault k d.entries ≡ None) kind faultless in
    sector_low (nat_lt place f.rc) (block_at f (place / 16) == 0) (block_at f (place / 16)) place refl (block_low d.entries slot place f less none at.0 is)
