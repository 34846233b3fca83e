-- The sector that is read for a record has the record.
use Rattle.std.proofs.Common.{◌≡◌, ℕ, ◌+◌, ◌*◌, ◌/◌, ◌%◌, ◌<◌, Bool, true, false, ◌==◌, not, List, [], Option, Some, None, Result, Ok, Err, OnOk, map, refl, sym, ap, subst, ◌∙◌, ne_eqb}
use Rattle.std.specs.Prelude.{is_some, nat_lt, nat_le, option_map, option_and_then, slice_index_or, if◌then◌else◌}
use Rattle.std.specs.List.{range_with_len}
use Rattle.std.specs.FinMap.{get}
use Rattle.std.proofs.lemmas.Bool.{true≢false}
use Rattle.mpm_base.specs.declared.kind.Kind.{Kind}
use Rattle.mpm_port.specs.Disks.{Disks}
use Rattle.mpm_blocks.specs.Geometries.{block_records, logical_sectors}
use Rattle.mpm_blocks.specs.Sectors.{Sectors, sectors_of}
use Rattle.mpm_dirent.specs.declared.kinds.Entry.{Entry}
use Rattle.mpm_dirent.specs.declared.kinds.FileEntry.{FileEntry}
use Rattle.mpm_mount.specs.Drives.{FileName, PhysicalExtent, Drive, places, entry_name, count_in, block_place, with_extent_there, extent_at, record_in, record_of, visible_in, visible_of}
use Rattle.mpm_mount.specs.Faults.{block_at}
use Rattle.mpm_mount.specs.Images.{contents_of, extent_in}
use Rattle.mpm_mount.specs.Directories.{Directory, Stands, extent_slot}
use Rattle.mpm_mount.proofs.LookedUp.{extent_found, kind_of}
use Rattle.mpm_mount.proofs.KeptRecords.{place_within}
use Rattle.mpm_mount.proofs.Ranges.{map_at}
use Rattle.mpm_sectors.specs.declared.disk.Disk.{Disk}
use Rattle.mpm_files.specs.Units.{ReadsRecord, holds_block, stages}
use Rattle.mpm_mount.specs.Records.{read_error, record_error}
use Rattle.mpm_files.specs.Plans.{has_block, needs_block}
use Rattle.mpm_files.specs.Counting.{number_in, lacks_block_at, lacks_block}
use Rattle.mpm_files.specs.Lookups.{HasEntry, IsHeldAt, sector_at, record_sector}
use Rattle.mpm_files.specs.Standing.{DoesUnit}
use Rattle.mpm_files.proofs.StandingLaws.{goes_nowhere, stays, does}
use Rattle.mpm_files.proofs.HeldRecords.{index_within, held_inside}
use Rattle.mpm_files.proofs.RecordUnits.{lacks_is}
use Rattle.mpm_files.proofs.Tied.{block_needed}
use Rattle.mpm_mount.proofs.ReadErrors.{read_in, read_by_tests, read_tested, read_error_same}

-- a record of a block that is held
held_contents : (sectors : Sectors) (kind : Kind) (n : ℕ) (b : Bool) (block : ℕ) → (block == 0) ≡ b → b ≡ false
    → option_map (λ (records : List (List ℕ)). slice_index_or records (n % block_records kind) []) (contents_of sectors kind block)
    ≡ Some (sectors (block * block_records kind + n % block_records kind))
unfolding contents_of
held_contents sectors kind n b block is some =
    ap (λ (t : Bool). option_map (λ (records : List (List ℕ)). slice_index_or records (n % block_records kind) [])
    (if t then None else Some (map (λ r. sectors (block * block_records kind + r)) (range_with_len 0 (block_records kind))))) (is ∙ some)
    ∙ ap (λ (x : List ℕ). Some x) (map_at (λ r. sectors (block * block_records kind + r)) (block_records kind) (n % block_records kind) [] (index_within kind n))

record_there : (sectors : Sectors) (kind : Kind) (n : ℕ) (f : FileEntry) → (block_at f (block_place kind n) == 0) ≡ false
    → record_in kind n (extent_in sectors kind f) ≡ Some (sectors (block_at f (block_place kind n) * block_records kind + n % block_records kind))
unfolding extent_in
record_there sectors kind n f some =
    ap (option_map (λ (records : List (List ℕ)). slice_index_or records (n % block_records kind) []))
    (map_at (λ i. contents_of sectors kind (block_at f i)) (places kind) (block_place kind n) None (place_within kind n))
    ∙ held_contents sectors kind n (block_at f (block_place kind n) == 0) (block_at f (block_place kind n)) refl some

found_by : (image : List ℕ) (d : Directory) (files : Drive) (file : FileName) (n : ℕ) (o : Option ℕ) → Stands image d files → extent_slot d file (n / 128) ≡ o → lacks_block_at d n o ≡ false
    → option_and_then (record_in d.kind n) (get files.extents (entry_name d.kind file (n / 128))) ≡ Some (sectors_of image d.kind (sector_at d n o))
found_by image d files file n None stands is lacks = absurd (true≢false lacks)
found_by image d files file n (Some slot) stands is lacks =
    let there = extent_found image d files file (n / 128) slot stands is in
    let some : (block_at there.file (block_place d.kind n) == 0) ≡ false = sym (ap (λ (e : Entry). number_in d.kind n e == 0) there.entry) ∙ lacks in
    ap (option_and_then (record_in d.kind n)) there.extent
    ∙ record_there (sectors_of image d.kind) d.kind n there.file some
    ∙ ap (λ (e : Entry). Some (sectors_of image d.kind (number_in d.kind n e * block_records d.kind + n % block_records d.kind))) (sym there.entry)

pub record_found : (image : List ℕ) (d : Directory) (files : Drive) (file : FileName) (n : ℕ) → Stands image d files → lacks_block d file n ≡ false
    → record_of files file n ≡ Some (sectors_of image d.kind (record_sector d file n))
unfolding record_of
record_found image d files file n stands lacks =
    ap (λ (k : Kind). option_and_then (record_in k n) (get files.extents (entry_name k file (n / 128)))) (kind_of image d files stands)
    ∙ found_by image d files file n (extent_slot d file (n / 128)) stands refl lacks

-- a record that can be read is held, and visible
pub tests_pass : (a b c : Bool) → read_by_tests a b c ≡ None → (a ≡ true) × ((b ≡ true) × (c ≡ true))
tests_pass true true true none = (refl, (refl, refl))
tests_pass true true false none = absurd (true≢false (ap is_some none))
tests_pass true false c none = absurd (true≢false (ap is_some none))
tests_pass false b c none = absurd (true≢false (ap is_some none))

visible_by : (kind : Kind) (n : ℕ) (o : Option PhysicalExtent) → read_in kind n o ≡ None
    → (option_and_then (visible_in kind n) (option_and_then (with_extent_there (n / 128)) o) ≡ option_and_then (record_in kind n) o) × (not (has_block kind n o) ≡ false)
visible_by kind n None none = absurd (true≢false (ap is_some none))
visible_by kind n (Some e) none =
    let tests = tests_pass (nat_le (n / 128) e.last) (nat_lt (n % 128) (count_in e (n / 128))) (holds_block kind n e) (sym (read_tested kind n e) ∙ none) in (
      ap (λ (b : Bool). option_and_then (visible_in kind n) (if b then Some e else None)) tests.0 ∙ ap (λ (b : Bool). if b then record_in kind n e else None) tests.1.0,
      ap not tests.1.1,
    )

read_parts : (files : Drive) (file : FileName) (n : ℕ) → read_error files file n ≡ None → (visible_of files file n ≡ record_of files file n) × (needs_block files file n ≡ false)
unfolding visible_of extent_at record_of
read_parts files file n none = visible_by files.kind n (get files.extents (entry_name files.kind file (n / 128))) none

pub is_readable : (image : List ℕ) (d : Directory) (files : Drive) (file : FileName) (n : ℕ) → Stands image d files → record_error d file n ≡ None
    → (visible_of files file n ≡ record_of files file n) × (lacks_block d file n ≡ false)
is_readable image d files file n stands none =
    let parts = read_parts files file n (read_error_same image d files file n stands ∙ none) in
    (parts.0, sym (block_needed image d files file n stands) ∙ parts.1)

-- what the call answers
its_sector : (d : Directory) (file : FileName) (n slot sector : ℕ) (f : FileEntry) → HasEntry d file n slot f → IsHeldAt d.kind f n sector → record_sector d file n ≡ sector
its_sector d file n slot sector f has held =
    ap (sector_at d n) has.found ∙ ap (λ (e : Entry). number_in d.kind n e * block_records d.kind + n % block_records d.kind) has.entry ∙ sym held.at

is_held : (d : Directory) (file : FileName) (n slot sector : ℕ) (f : FileEntry) → HasEntry d file n slot f → IsHeldAt d.kind f n sector → lacks_block d file n ≡ false
is_held d file n slot sector f has held = lacks_is d file n slot f has ∙ ne_eqb (block_at f (block_place d.kind n)) 0 held.held

pub reads : {A E : Type 0} (image : List ℕ) (d : Directory) (files : Drive) (file : FileName) (n slot sector : ℕ) (f : FileEntry) (out : List ℕ) (disk : Disk) (disks : Disks)
    (result : Result A E) → disk ≡ record { drive = d.drive; kind = d.kind } → HasEntry d file n slot f → IsHeldAt d.kind f n sector → disks.image d.drive ≡ Some image
    → Stands image d files → ((i : List ℕ) → disks.image disk.drive ≡ Some i → OnOk result (out ≡ sectors_of i disk.kind sector))
    → OnOk result (record_of files file n ≡ Some out)
reads image d files file n slot sector f out disk disks (Err e) is has held told stands read = tt
reads image d files file n slot sector f out disk disks (Ok x) is has held told stands read =
    let here : out ≡ sectors_of image d.kind sector =
    subst (λ (y : Disk). disks.image y.drive ≡ Some image → out ≡ sectors_of image y.kind sector) is (read image) told in
    record_found image d files file n stands (is_held d file n slot sector f has held)
    ∙ ap (λ (s : ℕ). Some (sectors_of image d.kind s)) (its_sector d file n slot sector f has held) ∙ ap (λ (b : List ℕ). Some b) (sym here)

pub read_inside : (d : Directory) (file : FileName) (n slot sector : ℕ) (f : FileEntry) (disk : Disk) → disk ≡ record { drive = d.drive; kind = d.kind } → HasEntry d file n slot f
    → IsHeldAt d.kind f n sector → sector < logical_sectors disk.kind
read_inside d file n slot sector f disk is has held = subst (λ (y : Disk). sector < logical_sectors y.kind) (sym is) (held_inside d file n slot sector f has held)

pub reads_visible : {A E : Type 0} (image : List ℕ) (d : Directory) (files : Drive) (file : FileName) (n : ℕ) (out : List ℕ) (result : Result A E) → Stands image d files
    → record_error d file n ≡ None → OnOk result (record_of files file n ≡ Some out) → OnOk result (visible_of files file n ≡ Some out)
reads_visible image d files file n out (Err e) stands none read = tt
reads_visible image d files file n out (Ok x) stands none read = (is_readable image d files file n stands none).0 ∙ read

-- nothing is written
pub reads_only : {A E : Type 0} (image : List ℕ) (d : Directory) (files : Drive) (file : FileName) (n : ℕ) (old new : Disks) (result : Result A E) → old.image d.drive ≡ Some image
    → Stands image d files → new ≡ old → DoesUnit new d.drive d files (ReadsRecord file n) result
unfolding stages
reads_only image d files file n old new (Ok x) told stands same =
    does new d.drive d files (ReadsRecord file n) [] (Ok x) refl
    (goes_nowhere new d.drive d files x (record { image = image; told = ap (λ (x : Disks). x.image d.drive) same ∙ told; stands = stands }))
reads_only image d files file n old new (Err e) told stands same =
    does new d.drive d files (ReadsRecord file n) [] (Err e) refl
    (stays new d.drive d d files [] e refl (record { image = image; told = ap (λ (x : Disks). x.image d.drive) same ∙ told; stands = stands }))
