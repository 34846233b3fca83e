-- What the directory in memory says of a record, against the drive that it stands for with its image.
use Rattle.std.proofs.Common.{◌≡◌, ℕ, ◌*◌, ◌/◌, ◌==◌, not, List, [], Option, Some, None, length, refl, sym, ap, ◌∙◌, arith}
use Rattle.std.specs.Prelude.{is_some}
use Rattle.std.specs.FinMap.{get}
use Rattle.std.proofs.lemmas.Bool.{true≢false}
use Rattle.std.proofs.Math.Bool.{not-not}
use Rattle.mpm_base.specs.declared.kind.Kind.{Kind}
use Rattle.mpm_base.specs.declared.kind.Kind.TheVariants.{Ibm3740, Hd4, Hd8}
use Rattle.mpm_dirent.specs.declared.kinds.Entry.{Entry}
use Rattle.mpm_mount.specs.Drives.{FileName, PhysicalExtent, Drive, covered, places, entry_number, entry_name, block_place}
use Rattle.mpm_mount.specs.Faults.{block_at}
use Rattle.mpm_blocks.specs.Sectors.{sectors_of}
use Rattle.mpm_mount.specs.Directories.{Directory, Stands, extent_slot}
use Rattle.mpm_mount.proofs.LookedUp.{kind_of, extent_found, extent_missing}
use Rattle.mpm_mount.proofs.KeptRecords.{all_places}
use Rattle.mpm_files.specs.Plans.{needs_entry, has_block, needs_block}
use Rattle.mpm_files.specs.Counting.{lacks_entry, number_in, lacks_block_at, lacks_block}
use Rattle.mpm_files.proofs.Needs.{IsWhole}
use Rattle.mpm_mount.proofs.ReadErrors.{held_at}

-- whether a record needs a directory entry, or a block
entry_by : (image : List ℕ) (d : Directory) (files : Drive) (file : FileName) (n : ℕ) → Stands image d files → (o : Option ℕ) → extent_slot d file (n / 128) ≡ o
    → is_some (get files.extents (entry_name d.kind file (n / 128))) ≡ is_some o
entry_by image d files file n stands None none = ap is_some (extent_missing image d files file (n / 128) stands none)
entry_by image d files file n stands (Some slot) found = ap is_some ((extent_found image d files file (n / 128) slot stands found).extent)

pub entry_needed : (image : List ℕ) (d : Directory) (files : Drive) (file : FileName) (n : ℕ) → Stands image d files → needs_entry files file n ≡ lacks_entry d file n
entry_needed image d files file n stands =
    ap (λ kind. not (is_some (get files.extents (entry_name kind file (n / 128))))) (kind_of image d files stands)
    ∙ ap not (entry_by image d files file n stands (extent_slot d file (n / 128)) refl)

block_by : (image : List ℕ) (d : Directory) (files : Drive) (file : FileName) (n : ℕ) → Stands image d files → (o : Option ℕ) → extent_slot d file (n / 128) ≡ o
    → not (has_block d.kind n (get files.extents (entry_name d.kind file (n / 128)))) ≡ lacks_block_at d n o
block_by image d files file n stands None none = ap (λ x. not (has_block d.kind n x)) (extent_missing image d files file (n / 128) stands none)
block_by image d files file n stands (Some slot) found =
    let there = extent_found image d files file (n / 128) slot stands found in
    ap (λ x. not (has_block d.kind n x)) there.extent
    ∙ ap not (held_at (sectors_of image d.kind) d.kind there.file n) ∙ not-not (block_at there.file (block_place d.kind n) == 0)
    ∙ sym (ap (λ (e : Entry). number_in d.kind n e == 0) there.entry)

pub block_needed : (image : List ℕ) (d : Directory) (files : Drive) (file : FileName) (n : ℕ) → Stands image d files → needs_block files file n ≡ lacks_block d file n
block_needed image d files file n stands =
    ap (λ kind. not (has_block kind n (get files.extents (entry_name kind file (n / 128))))) (kind_of image d files stands)
    ∙ block_by image d files file n stands (extent_slot d file (n / 128)) refl

-- each entry has all its places
number_back : (kind : Kind) (k : ℕ) → entry_number kind (k * covered kind) ≡ k
number_back Ibm3740 k = omega arith
number_back Hd4 k = omega arith
number_back Hd8 k = omega arith

whole_by : (image : List ℕ) (d : Directory) (files : Drive) (file : FileName) (k : ℕ) (entry : PhysicalExtent) → Stands image d files
    → get files.extents (entry_name d.kind file (k * covered d.kind)) ≡ Some entry → (o : Option ℕ) → extent_slot d file (k * covered d.kind) ≡ o
    → length entry.blocks ≡ places d.kind
whole_by image d files file k entry stands there None none =
    absurd (true≢false (ap is_some (sym there ∙ extent_missing image d files file (k * covered d.kind) stands none)))
whole_by image d files file k entry stands there (Some slot) found =
    let found_there = extent_found image d files file (k * covered d.kind) slot stands found in
    ap (λ (o : Option PhysicalExtent). length (blocks_of o)) (sym there ∙ found_there.extent) ∙ all_places (sectors_of image d.kind) d.kind found_there.file
  where
    blocks_of : Option PhysicalExtent → List (Option (List (List ℕ)))
    blocks_of None = []
    blocks_of (Some e) = e.blocks

pub image_whole : (image : List ℕ) (d : Directory) (files : Drive) (file : FileName) → Stands image d files → IsWhole file files
image_whole image d files file stands k entry there =
    whole_by image d files file k entry stands
    (ap (λ q. get files.extents (record { user = file.user; name = file.name; number = q })) (number_back d.kind k) ∙ there) (extent_slot d file (k * covered d.kind)) refl
    ∙ ap places (sym (kind_of image d files stands))
