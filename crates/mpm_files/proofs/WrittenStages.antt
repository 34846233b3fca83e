-- What the unit of a record goes through, by its entry in the directory.
use Rattle.std.proofs.Common.{◌≡◌, ◌≢◌, ℕ, ◌/◌, Bool, true, false, not, cond, List, [], ◌∷◌, Option, Some, map, refl, sym, ap, ◌∙◌, ne_eqb, eq-eqb}
use Rattle.std.specs.Prelude.{if◌then◌else◌}
use Rattle.std.specs.Ordering.{eq_by_cmp}
use Rattle.std.specs.FinMap.{FinMap, get, insert, get-insert, same_map}
use Rattle.std.proofs.lemmas.Option.{same_Some}
use Rattle.mpm_base.specs.declared.kind.Kind.{Kind}
use Rattle.mpm_blocks.specs.Sectors.{Sectors, sectors_of}
use Rattle.mpm_dirent.specs.declared.kinds.FileEntry.{FileEntry}
use Rattle.mpm_mount.specs.Drives.{FileName, PhysicalExtent, Drive, entry_cmp, entry_name, block_place, with_extent}
use Rattle.mpm_mount.specs.Faults.{name_of, block_at}
use Rattle.mpm_mount.specs.Images.{extent_in}
use Rattle.mpm_mount.specs.Directories.{Directory, Stands}
use Rattle.mpm_mount.specs.Files.{where_there}
use Rattle.mpm_mount.proofs.Orders.{entry_total, entry_same}
use Rattle.mpm_mount.proofs.Sorts.{shadowed}
use Rattle.mpm_mount.proofs.LookedUp.{extent_found, kind_of}
use Rattle.mpm_mount.proofs.Still.{file_injective}
use Rattle.mpm_files.specs.Units.{WritesRecord, is_raising, raised, holds_block, fresh_records, with_fresh_block, rewritten, written_extents, with_stamp, stages}
use Rattle.mpm_files.specs.Lookups.{HasEntry}
use Rattle.mpm_files.specs.Standing.{with_record, with_taken, raises}
use Rattle.mpm_mount.proofs.ReadErrors.{held_at}
use Rattle.mpm_files.proofs.Recorded.{at_itself}
use Rattle.mpm_files.proofs.FoundEntries.{entry_named}

-- what the drive has of an entry in the directory
pub its_extent : (image : List ℕ) (d : Directory) (files : Drive) (file : FileName) (n slot : ℕ) (f : FileEntry) → Stands image d files → HasEntry d file n slot f
    → get files.extents (entry_name d.kind file (n / 128)) ≡ Some (extent_in (sectors_of image d.kind) d.kind f)
its_extent image d files file n slot f stands has =
    let there = extent_found image d files file (n / 128) slot stands has.found in
    there.extent
    ∙ ap (λ (g : FileEntry). Some (extent_in (sectors_of image d.kind) d.kind g)) (file_injective there.file f (sym there.entry ∙ has.entry))

-- the stages by the kind of the directory and the entry
by_entry : (image : List ℕ) (d : Directory) (files : Drive) (file : FileName) (n slot : ℕ) (f : FileEntry) (bytes : List ℕ) (moment : Option (List ℕ)) → Stands image d files
    → HasEntry d file n slot f → stages (WritesRecord file n bytes moment) files
    ≡ with_stamp file moment files (map (with_extent files (name_of d.kind f)) (written_extents d.kind n bytes (extent_in (sectors_of image d.kind) d.kind f)))
unfolding stages
by_entry image d files file n slot f bytes moment stands has =
    ap (λ (k : Kind). with_stamp file moment files (where_there (get files.extents (entry_name k file (n / 128)))
    (λ entry. map (with_extent files (entry_name k file (n / 128))) (written_extents k n bytes entry)))) (kind_of image d files stands)
    ∙ ap (λ (o : Option PhysicalExtent). with_stamp file moment files (where_there o (λ entry. map (with_extent files (entry_name d.kind file (n / 128))) (written_extents d.kind n bytes entry))))
    (its_extent image d files file n slot f stands has)
    ∙ ap (λ q. with_stamp file moment files (map (with_extent files q) (written_extents d.kind n bytes (extent_in (sectors_of image d.kind) d.kind f)))) (sym (entry_named d file n slot f has))

-- a key that is put twice
put_over : (files : Drive) (kind : Kind) (f : FileEntry) (one two : PhysicalExtent)
    → with_extent (with_extent files (name_of kind f) one) (name_of kind f) two ≡ with_extent files (name_of kind f) two
put_over files kind f one two =
    ap (λ (m : FinMap entry_cmp PhysicalExtent). record files { extents = m })
    (same_map entry_total entry_same (insert (insert files.extents (name_of kind f) one) (name_of kind f) two) (insert files.extents (name_of kind f) two) (λ q.
    get-insert entry_total (insert files.extents (name_of kind f) one) (name_of kind f) two q
    ∙ ap (λ v. cond (eq_by_cmp entry_cmp q (name_of kind f)) (Some two) v) (get-insert entry_total files.extents (name_of kind f) one q)
    ∙ shadowed (eq_by_cmp entry_cmp q (name_of kind f)) (Some two) (Some one) (get files.extents q)
    ∙ sym (get-insert entry_total files.extents (name_of kind f) two q)))

-- a record of a block that is held
held_by : (b : Bool) (files : Drive) (kind : Kind) (f : FileEntry) (there more : PhysicalExtent)
    → map (with_extent files (name_of kind f)) (if b then more ∷ [] else [])
    ≡ (if b then with_extent (with_extent files (name_of kind f) there) (name_of kind f) more ∷ [] else [])
held_by true files kind f there more = ap (λ (x : Drive). x ∷ []) (sym (put_over files kind f there more))
held_by false files kind f there more = refl

is_held : (sectors : Sectors) (kind : Kind) (f : FileEntry) (n : ℕ) → block_at f (block_place kind n) ≢ 0 → holds_block kind n (extent_in sectors kind f) ≡ true
is_held sectors kind f n some = held_at sectors kind f n ∙ ap not (ne_eqb (block_at f (block_place kind n)) 0 some)

not_held : (sectors : Sectors) (kind : Kind) (f : FileEntry) (n : ℕ) → block_at f (block_place kind n) ≡ 0 → holds_block kind n (extent_in sectors kind f) ≡ false
not_held sectors kind f n none = held_at sectors kind f n ∙ ap not (eq-eqb (block_at f (block_place kind n)) 0 none)

abbrev with_its_record : List ℕ → Directory → Drive → ℕ → FileEntry → List ℕ → Drive
with_its_record image d files n f bytes = with_extent files (name_of d.kind f) (with_record d.kind n bytes (extent_in (sectors_of image d.kind) d.kind f))

pub held_stages : (image : List ℕ) (d : Directory) (files : Drive) (file : FileName) (n slot : ℕ) (f : FileEntry) (bytes : List ℕ) (moment : Option (List ℕ)) → Stands image d files
    → HasEntry d file n slot f → block_at f (block_place d.kind n) ≢ 0
    → with_stamp file moment files (with_its_record image d files n f bytes
    ∷ raises d.kind n f (with_its_record image d files n f bytes) (with_record d.kind n bytes (extent_in (sectors_of image d.kind) d.kind f)))
    ≡ stages (WritesRecord file n bytes moment) files
held_stages image d files file n slot f bytes moment stands has some =
    let e : PhysicalExtent = extent_in (sectors_of image d.kind) d.kind f in
    let there : PhysicalExtent = with_record d.kind n bytes e in
    sym (by_entry image d files file n slot f bytes moment stands has
    ∙ ap (λ (b : Bool). with_stamp file moment files (map (with_extent files (name_of d.kind f)) (if b then rewritten n there else (raised n (with_fresh_block d.kind n bytes e) ∷ []))))
    (is_held (sectors_of image d.kind) d.kind f n some)
    ∙ ap (λ (l : List Drive). with_stamp file moment files (with_extent files (name_of d.kind f) there ∷ l)) (held_by (is_raising n there) files d.kind f there (raised n there)))

-- the record in a fresh block
pub fresh_stages : (image : List ℕ) (d : Directory) (files : Drive) (file : FileName) (n slot : ℕ) (f : FileEntry) (bytes : List ℕ) (moment : Option (List ℕ)) → Stands image d files
    → HasEntry d file n slot f → block_at f (block_place d.kind n) ≡ 0
    → with_stamp file moment files
    (with_extent files (name_of d.kind f) (with_taken d.kind n (Some (fresh_records d.kind n bytes)) (extent_in (sectors_of image d.kind) d.kind f)) ∷ [])
    ≡ stages (WritesRecord file n bytes moment) files
fresh_stages image d files file n slot f bytes moment stands has none =
    let e : PhysicalExtent = extent_in (sectors_of image d.kind) d.kind f in
    sym (by_entry image d files file n slot f bytes moment stands has
    ∙ ap (λ (b : Bool). with_stamp file moment files
    (map (with_extent files (name_of d.kind f)) (if b then rewritten n (with_record d.kind n bytes e) else (raised n (with_fresh_block d.kind n bytes e) ∷ []))))
    (not_held (sectors_of image d.kind) d.kind f n none))

-- an entry has the same on another image that stands for the same drive
pub same_extent : (image other : List ℕ) (d : Directory) (files : Drive) (file : FileName) (n slot : ℕ) (f : FileEntry) → Stands image d files → Stands other d files → HasEntry d file n slot f
    → extent_in (sectors_of other d.kind) d.kind f ≡ extent_in (sectors_of image d.kind) d.kind f
same_extent image other d files file n slot f one two has =
    same_Some (extent_in (sectors_of other d.kind) d.kind f) (extent_in (sectors_of image d.kind) d.kind f)
    (sym (its_extent other d files file n slot f two has) ∙ its_extent image d files file n slot f one has)

-- and on one that stands for a drive with another content of it, that
pub put_extent : (image : List ℕ) (d : Directory) (files : Drive) (file : FileName) (n slot : ℕ) (f : FileEntry) (entry : PhysicalExtent)
    → Stands image d (with_extent files (name_of d.kind f) entry) → HasEntry d file n slot f → extent_in (sectors_of image d.kind) d.kind f ≡ entry
put_extent image d files file n slot f entry stands has =
    let name = entry_named d file n slot f has in
    same_Some (extent_in (sectors_of image d.kind) d.kind f) entry
    (sym (its_extent image d (with_extent files (name_of d.kind f) entry) file n slot f stands has)
    ∙ ap (λ q. get (insert files.extents q entry) (entry_name d.kind file (n / 128))) name
    ∙ at_itself files file (entry_name d.kind file (n / 128)).number entry)
