-- What the directory in memory says of a record that is read, against the drive that it stands for with its image.
use Rattle.std.proofs.Common.{◌≡◌, inl, inr, ℕ, ◌+◌, ◌/◌, ◌%◌, Bool, true, false, ◌==◌, ◌||◌, not, List, [], Option, Some, None, refl, sym, ap, ◌∙◌, arith}
use Rattle.std.specs.Prelude.{is_some, nat_lt, nat_le, option_map, option_and_then, slice_index_or, if◌then◌else◌}
use Rattle.std.specs.FinMap.{get}
use Rattle.std.proofs.lemmas.Bool.{cases_lt, lt-ltb, le-ltb, le-leb, lt-leb}
use Rattle.std.proofs.lemmas.List.FromFn.{get_or-map-range_with_len}
use Rattle.std.proofs.Math.Bool.{not-not}
use Rattle.mpm_base.specs.declared.kind.Kind.{Kind}
use Rattle.mpm_blocks.specs.Geometries.{block_records}
use Rattle.mpm_dirent.specs.declared.kinds.FileEntry.{FileEntry}
use Rattle.mpm_mount.specs.Drives.{FileName, PhysicalExtent, Drive, places, entry_name, with_extent_there, extent_at, count_in, block_place, visible_in, visible_of}
use Rattle.mpm_mount.specs.Faults.{extent_of, block_at}
use Rattle.mpm_blocks.specs.Sectors.{Sectors, sectors_of}
use Rattle.mpm_mount.specs.Images.{contents_of, extent_in}
use Rattle.mpm_mount.specs.Directories.{Directory, Stands, extent_slot}
use Rattle.mpm_mount.proofs.LookedUp.{kind_of, extent_found, extent_missing}
use Rattle.mpm_mount.proofs.FreeRecords.{held_where}
use Rattle.mpm_mount.proofs.KeptRecords.{place_within}
use Rattle.mpm_file_functions.specs.declared.errors.RecordError.{RecordError}
use Rattle.mpm_file_functions.specs.declared.errors.RecordError.TheVariants.{UnwrittenExtent, UnwrittenData}
use Rattle.mpm_mount.specs.Records.{read_error, count_there, file_error, error_in, error_at, record_error}

-- a block that an entry of the image holds
pub held_at : (sectors : Sectors) (kind : Kind) (f : FileEntry) (n : ℕ)
    → is_some (slice_index_or (extent_in sectors kind f).blocks (block_place kind n) None) ≡ not (block_at f (block_place kind n) == 0)
unfolding extent_in
held_at sectors kind f n =
    ap is_some (get_or-map-range_with_len (λ i. contents_of sectors kind (block_at f i)) 0 (places kind) (block_place kind n) (block_place kind n) None (place_within kind n) (from_zero (block_place kind n)))
    ∙ held_where sectors kind (block_at f (block_place kind n))
  where
    from_zero : (i : ℕ) → 0 + i ≡ i
    from_zero i = omega arith

-- what keeps it from being read
abbrev pub read_in : Kind → ℕ → Option PhysicalExtent → Option RecordError
read_in kind n o =
    if not (is_some (option_and_then (with_extent_there (n / 128)) o)) then Some UnwrittenExtent
    else (if not (is_some (option_and_then (visible_in kind n) (option_and_then (with_extent_there (n / 128)) o))) then Some UnwrittenData else None)

by_there : (kind : Kind) (n : ℕ) (entry : PhysicalExtent) (b : Bool)
    → (if not (is_some (if b then Some entry else None)) then Some UnwrittenExtent
    else (if not (is_some (option_and_then (visible_in kind n) (if b then Some entry else None))) then Some UnwrittenData else None))
    ≡ (if not b then Some UnwrittenExtent else (if not (is_some (visible_in kind n entry)) then Some UnwrittenData else None))
by_there kind n entry true = refl
by_there kind n entry false = refl

by_count : (o : Option (List (List ℕ))) (f : List (List ℕ) → List ℕ) (c : Bool) → not (is_some (if c then option_map f o else None)) ≡ (not c || not (is_some o))
by_count None f true = refl
by_count None f false = refl
by_count (Some records) f true = refl
by_count (Some records) f false = refl

no_less : (a b : ℕ) → nat_lt b a ≡ not (nat_le a b)
no_less a b = elim (cases_lt b a) [ inl less ↦ lt-ltb b a less ∙ sym (ap not (lt-leb a b less)) | inr more ↦ le-ltb b a more ∙ sym (ap not (le-leb a b more)) ]

no_more : (a b : ℕ) → nat_le b a ≡ not (nat_lt a b)
no_more a b = sym (ap not (no_less b a) ∙ not-not (nat_le b a))

-- by three tests: its extent is there, it lies below the record count, its block is held
abbrev pub read_by_tests : Bool → Bool → Bool → Option RecordError
read_by_tests extent count block = if not extent then Some UnwrittenExtent else (if not count || not block then Some UnwrittenData else None)

pub read_tested : (kind : Kind) (n : ℕ) (entry : PhysicalExtent)
    → read_in kind n (Some entry)
    ≡ read_by_tests (nat_le (n / 128) entry.last) (nat_lt (n % 128) (count_in entry (n / 128))) (is_some (slice_index_or entry.blocks (block_place kind n) None))
read_tested kind n entry =
    by_there kind n entry (nat_le (n / 128) entry.last)
    ∙ ap (λ b. if not (nat_le (n / 128) entry.last) then Some UnwrittenExtent else (if b then Some UnwrittenData else None))
    (by_count (slice_index_or entry.blocks (block_place kind n) None) (λ records. slice_index_or records (n % block_records kind) []) (nat_lt (n % 128) (count_in entry (n / 128))))

read_there : (sectors : Sectors) (kind : Kind) (f : FileEntry) (n : ℕ) → read_in kind n (Some (extent_in sectors kind f)) ≡ file_error kind n f
unfolding extent_in
read_there sectors kind f n =
    let entry : PhysicalExtent = extent_in sectors kind f in
    let place : ℕ = block_place kind n in
    let count : ℕ = count_there f (n / 128) in
    read_tested kind n entry
    ∙ ap (λ b. if b then Some UnwrittenExtent else (if not (nat_lt (n % 128) count) || not (is_some (slice_index_or entry.blocks place None)) then Some UnwrittenData else None))
    (sym (no_less (n / 128) (extent_of f)))
    ∙ ap (λ b. if nat_lt (extent_of f) (n / 128) then Some UnwrittenExtent else (if b then Some UnwrittenData else None))
    (ap (λ b. b || not (is_some (slice_index_or entry.blocks place None))) (sym (no_more (n % 128) count))
    ∙ ap (λ b. nat_le count (n % 128) || b) (ap not (held_at sectors kind f n) ∙ not-not (block_at f place == 0)))

read_by : (image : List ℕ) (d : Directory) (files : Drive) (file : FileName) (n : ℕ) → Stands image d files → (o : Option ℕ) → extent_slot d file (n / 128) ≡ o
    → read_in d.kind n (get files.extents (entry_name d.kind file (n / 128))) ≡ error_at d n o
read_by image d files file n stands None none = ap (read_in d.kind n) (extent_missing image d files file (n / 128) stands none)
read_by image d files file n stands (Some slot) found =
    let there = extent_found image d files file (n / 128) slot stands found in
    ap (read_in d.kind n) there.extent ∙ read_there (sectors_of image d.kind) d.kind there.file n ∙ sym (ap (error_in d.kind n) there.entry)

pub read_error_same : (image : List ℕ) (d : Directory) (files : Drive) (file : FileName) (n : ℕ) → Stands image d files → read_error files file n ≡ record_error d file n
unfolding extent_at visible_of
read_error_same image d files file n stands =
    ap (λ kind. read_in kind n (get files.extents (entry_name kind file (n / 128)))) (kind_of image d files stands)
    ∙ read_by image d files file n stands (extent_slot d file (n / 128)) refl
