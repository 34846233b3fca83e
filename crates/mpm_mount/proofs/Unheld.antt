-- A sector that no entry's block has: what is written there changes neither the directory nor the drive.
use Rattle.std.proofs.Common.{◌≡◌, ◌≢◌, ℕ, ◌+◌, ◌*◌, ◌/◌, ◌%◌, ◌<◌, ◌≤◌, ◌==◌, Bool, false, List, [], ◌∷◌, map, length, refl, sym, ap, ◌∙◌, arith, eq-eqb}
use Rattle.std.specs.Prelude.{Some, None, if◌then◌else◌}
use Rattle.std.specs.List.{list_any}
use Rattle.std.specs.FinMap.{FinMap}
use Rattle.std.proofs.lemmas.Bool.{both_ways, or_parts}
use Rattle.mpm_base.specs.declared.kind.Kind.{Kind}
use Rattle.mpm_base.specs.declared.kind.Kind.TheVariants.{Ibm3740, Hd4, Hd8}
use Rattle.mpm_blocks.specs.Geometries.{geometry_of, last_block, block_records, logical_sectors, place_of}
use Rattle.mpm_blocks.specs.Sectors.{Sectors, sectors_of, SectorWritten}
use Rattle.mpm_blocks.proofs.Written.{written_size, sectors_written}
use Rattle.mpm_dirent.specs.declared.kinds.Entry.{Entry}
use Rattle.mpm_dirent.specs.declared.kinds.Entry.TheVariants.{Free, File, Xfcb, Label, Kept}
use Rattle.mpm_dirent.specs.declared.kinds.FileEntry.{FileEntry}
use Rattle.mpm_dirent.specs.Entries.{part, entry_of}
use Rattle.mpm_port.specs.Disks.{with_sector}
use Rattle.mpm_mount.specs.Drives.{entry_cmp, PhysicalExtent, Drive, places}
use Rattle.mpm_mount.specs.Faults.{name_of, block_at, has_at, holds}
use Rattle.mpm_mount.specs.Images.{slot_entry, entries_to, entries_of, contents_of, extent_in, extent_from, collected, drive_of}
use Rattle.mpm_mount.specs.Directories.{Directory, Stands}
use Rattle.mpm_mount.proofs.Ranges.{map_same, none_at}

-- the sectors of a file's blocks are after those of the directory, and no two blocks have one
pub behind_directory : (kind : Kind) (block r slot : ℕ) → (geometry_of kind).directory_blocks ≤ block → slot < (geometry_of kind).drm + 1 → slot / 4 ≢ block * block_records kind + r
behind_directory Ibm3740 block r slot h less same = omega arith
behind_directory Hd4 block r slot h less same = omega arith
behind_directory Hd8 block r slot h less same = omega arith

pub blocks_apart : (kind : Kind) (b block i r : ℕ) → b ≢ block → i < block_records kind → r < block_records kind → b * block_records kind + i ≢ block * block_records kind + r
blocks_apart Ibm3740 b block i r apart hi hr same = apart (omega arith)
blocks_apart Hd4 b block i r apart hi hr same = apart (omega arith)
blocks_apart Hd8 b block i r apart hi hr same = apart (omega arith)

pub block_sector : (kind : Kind) (block r : ℕ) → block ≤ last_block kind → r < block_records kind → block * block_records kind + r < logical_sectors kind
block_sector Ibm3740 block r h less = omega arith
block_sector Hd4 block r h less = omega arith
block_sector Hd8 block r h less = omega arith

-- the directory's entries
slot_same : (old new : Sectors) (wide : Bool) (s slot : ℕ) (bytes : List ℕ) → SectorWritten s bytes old new → slot / 4 ≢ s → slot_entry new wide slot ≡ slot_entry old wide slot
slot_same old new wide s slot bytes written apart = ap (λ sector. entry_of (part (32 * (slot % 4)) 32 sector) wide) (written.others (slot / 4) apart)

pub entries_kept : (kind : Kind) (old new : Sectors) (block r : ℕ) (bytes : List ℕ) → SectorWritten (block * block_records kind + r) bytes old new
    → (geometry_of kind).directory_blocks ≤ block → entries_of new kind ≡ entries_of old kind
unfolding entries_to
entries_kept kind old new block r bytes written h =
    map_same (slot_entry new (geometry_of kind).wide) (slot_entry old (geometry_of kind).wide) ((geometry_of kind).drm + 1) (λ slot less.
    slot_same old new (geometry_of kind).wide (block * block_records kind + r) slot bytes written (behind_directory kind block r slot h less))

-- the records of another block
pub contents_kept : (kind : Kind) (old new : Sectors) (block r b : ℕ) (bytes : List ℕ) → SectorWritten (block * block_records kind + r) bytes old new → r < block_records kind
    → b ≢ block → contents_of new kind b ≡ contents_of old kind b
unfolding contents_of
contents_kept kind old new block r b bytes written less apart =
    ap (λ records. if b == 0 then None else Some records)
    (map_same (λ i. new (b * block_records kind + i)) (λ i. old (b * block_records kind + i)) (block_records kind) (λ i h.
    written.others (b * block_records kind + i) (blocks_apart kind b block i r apart h less)))

pub not_held : (f : FileEntry) (count block i : ℕ) → has_at f count block ≡ false → i < count → block_at f i ≢ block
unfolding has_at
not_held f count block i none h same = both_ways (block_at f i == block) (none_at (λ j. block_at f j == block) count i none h) (eq-eqb (block_at f i) block same)

extent_kept : (kind : Kind) (old new : Sectors) (block r : ℕ) (bytes : List ℕ) (f : FileEntry) → SectorWritten (block * block_records kind + r) bytes old new
    → r < block_records kind → has_at f (places kind) block ≡ false → extent_in new kind f ≡ extent_in old kind f
unfolding extent_in
extent_kept kind old new block r bytes f written less none =
    ap (λ blocks. record (extent_in old kind f) { blocks = blocks })
    (map_same (λ i. contents_of new kind (block_at f i)) (λ i. contents_of old kind (block_at f i)) (places kind) (λ i h.
    contents_kept kind old new block r (block_at f i) bytes written less (not_held f (places kind) block i none h)))

pub from_kept : (kind : Kind) (old new : Sectors) (block r : ℕ) (bytes : List ℕ) (entry : Entry) → SectorWritten (block * block_records kind + r) bytes old new
    → r < block_records kind → holds kind block entry ≡ false → extent_from new kind entry ≡ extent_from old kind entry
from_kept kind old new block r bytes (File f) written less none =
    ap (λ (e : PhysicalExtent). Some (name_of kind f, e)) (extent_kept kind old new block r bytes f written less none)
from_kept kind old new block r bytes Free written less none = refl
from_kept kind old new block r bytes (Xfcb x) written less none = refl
from_kept kind old new block r bytes (Label l) written less none = refl
from_kept kind old new block r bytes (Kept kept) written less none = refl

all_kept : (kind : Kind) (old new : Sectors) (block r : ℕ) (bytes : List ℕ) (entries : List Entry) → SectorWritten (block * block_records kind + r) bytes old new
    → r < block_records kind → list_any (holds kind block) entries ≡ false → map (extent_from new kind) entries ≡ map (extent_from old kind) entries
all_kept kind old new block r bytes [] written less none = refl
all_kept kind old new block r bytes (entry ∷ entries) written less none =
    let parts = or_parts (holds kind block entry) (list_any (holds kind block) entries) none in
    ap (λ e. e ∷ map (extent_from new kind) entries) (from_kept kind old new block r bytes entry written less parts.0)
    ∙ ap (λ es. extent_from old kind entry ∷ es) (all_kept kind old new block r bytes entries written less parts.1)

pub drive_kept : (kind : Kind) (old new : Sectors) (block r : ℕ) (bytes : List ℕ) (entries : List Entry) → SectorWritten (block * block_records kind + r) bytes old new
    → r < block_records kind → list_any (holds kind block) entries ≡ false → drive_of new kind entries ≡ drive_of old kind entries
unfolding drive_of
drive_kept kind old new block r bytes entries written less none =
    ap (λ (extents : FinMap entry_cmp PhysicalExtent). record (drive_of old kind entries) { extents = extents })
    (ap (λ items. collected entry_cmp items) (all_kept kind old new block r bytes entries written less none))

-- a sector of a block that no entry holds, rewritten: the image stands for the same drive, with the same directory
pub unheld_written : (image : List ℕ) (d : Directory) (files : Drive) (block r : ℕ) (bytes : List ℕ) → Stands image d files → (geometry_of d.kind).directory_blocks ≤ block
    → block ≤ last_block d.kind → r < block_records d.kind → list_any (holds d.kind block) d.entries ≡ false → length bytes ≡ 128
    → Stands (with_sector image (place_of d.kind (block * block_records d.kind + r)) bytes) d files
unheld_written image d files block r bytes stands low high less none size =
    let s : ℕ = block * block_records d.kind + r in
    let within : s < logical_sectors d.kind = block_sector d.kind block r high less in
    let written = sectors_written d.kind image bytes s stands.size size within in
    let old = sectors_of image d.kind in
    let new = sectors_of (with_sector image (place_of d.kind s) bytes) d.kind in
    record {
      size = written_size d.kind image bytes s stands.size size within ∙ stands.size;
      entries = stands.entries ∙ sym (entries_kept d.kind old new block r bytes written low);
      faultless = stands.faultless;
      drive = stands.drive ∙ sym (drive_kept d.kind old new block r bytes d.entries written less none);
    }
