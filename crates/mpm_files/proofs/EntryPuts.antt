-- Directory entries that are put in the place of others: what the image stands for after the write, and where it failed.
use Rattle.std.proofs.Common.{◌≡◌, ◌⊎◌, inl, inr, ℕ, ◌+◌, ◌*◌, ◌/◌, ◌%◌, ◌<◌, ◌≤◌, List, [], ◌∷◌, ◌++◌, Some, None, Result, Ok, Err, OnOk, length, refl, sym, ap, subst, ◌∙◌, arith}
use Rattle.std.specs.Prelude.{slice_set}
use Rattle.mpm_port.specs.Disks.{Disks, with_sector}
use Rattle.mpm_base.specs.declared.kind.Kind.{Kind}
use Rattle.mpm_base.specs.declared.kind.Kind.TheVariants.{Ibm3740, Hd4, Hd8}
use Rattle.mpm_blocks.specs.Geometries.{geometry_of, place_of}
use Rattle.mpm_blocks.specs.Sectors.{Sectors, sectors_of, with_slot}
use Rattle.mpm_blocks.proofs.Written.{spliced_size, sector_size}
use Rattle.mpm_dirent.specs.declared.kinds.Entry.{Entry}
use Rattle.mpm_dirent.specs.Entries.{entry_of}
use Rattle.mpm_dirent.proofs.Lengths.{part_size}
use Rattle.mpm_mount.specs.Drives.{Drive}
use Rattle.mpm_mount.specs.Faults.{cause_of}
use Rattle.mpm_mount.specs.Changes.{exchanged}
use Rattle.mpm_mount.specs.Directories.{Directory, Stands, others, entry_in}
use Rattle.mpm_mount.specs.Directories as directories
use Rattle.mpm_mount.proofs.EntryWritten.{directory_within, slot_room, entry_written, two_written}
use Rattle.mpm_sectors.specs.declared.disk.Disk.{Disk}
use Rattle.mpm_sectors.specs.Writes.{Write, written, AreWritten, Puts}
use Rattle.mpm_sectors.specs.Slots.{slot_bytes, bytes_over, with_entry, slot_write, slots_write}
use Rattle.mpm_files.specs.Units.{last_of}
use Rattle.mpm_files.specs.Standing.{StandsOn, StandsAmong, GoesThrough}
use Rattle.mpm_files.proofs.StandingLaws.{among_first, among_last}

-- a slot of the sector of a slot of the directory is one of the directory too
pub beside_within : (kind : Kind) (slot other : ℕ) → other / 4 ≡ slot / 4 → slot ≤ (geometry_of kind).drm → other ≤ (geometry_of kind).drm
beside_within Ibm3740 slot other same h = omega (arith, same, h)
beside_within Hd4 slot other same h = omega (arith, same, h)
beside_within Hd8 slot other same h = omega (arith, same, h)

-- the first ones of one sector are none or it
same_first : (v w : Write) (rest : List Write) → v ∷ rest ≡ w ∷ [] → v ≡ w
same_first v w rest is = cc

too_long : (v w u : Write) (rest : List Write) → v ∷ u ∷ rest ≡ w ∷ [] → ⊥
too_long v w u rest is = absurd (cc)

first_of_one : (w : Write) (first rest : List Write) → first ++ rest ≡ w ∷ [] → (first ≡ []) ⊎ (first ≡ w ∷ [])
first_of_one w [] rest is = inl refl
first_of_one w (v ∷ []) rest is = inr (ap (λ (x : Write). x ∷ []) (same_first v w rest is))
first_of_one w (v ∷ u ∷ more) rest is = absurd (too_long v w u (more ++ rest) is)

none_told : (disks now : Disks) (d : Directory) (kind : Kind) (image : List ℕ) → AreWritten d.drive kind [] disks now → disks.image d.drive ≡ Some image
    → now.image d.drive ≡ Some image
unfolding AreWritten written
none_told disks now d kind image are told = are image told

pub all_told : (disks now : Disks) (drive : ℕ) (kind : Kind) (ws : List Write) (image : List ℕ) → AreWritten drive kind ws disks now → disks.image drive ≡ Some image
    → now.image drive ≡ Some (written kind ws image)
unfolding AreWritten
all_told disks now drive kind ws image are told = are image told

-- it was written
one_on : (d after : Directory) (image : List ℕ) (files : Drive) (w : Write) (old new : Disks) → old.image d.drive ≡ Some image → after.drive ≡ d.drive
    → Stands (written d.kind (w ∷ []) image) after files → AreWritten d.drive d.kind (w ∷ []) old new → StandsOn new after files
one_on d after image files w old new told here stands are =
    record { image = written d.kind (w ∷ []) image; told = ap new.image here ∙ all_told old new d.drive d.kind (w ∷ []) image are told; stands = stands }

-- it was to be written, and the device failed
one_among : (d after : Directory) (image : List ℕ) (files : Drive) (later : List Drive) (w : Write) (old new : Disks) (first : List Write) → old.image d.drive ≡ Some image
    → Stands image d files → after.drive ≡ d.drive → Stands (written d.kind (w ∷ []) image) after (last_of files later) → AreWritten d.drive d.kind first old new
    → (first ≡ []) ⊎ (first ≡ w ∷ []) → StandsAmong new d.drive files later
one_among d after image files later w old new first told stands here stands_after are (inl none) = record {
  directory = d;
  here = refl;
  files = files;
  among = among_first files later;
  stands = record {
    image = image;
    told = none_told old new d d.kind image (subst (λ (ws : List Write). AreWritten d.drive d.kind ws old new) none are) told;
    stands = stands;
  };
}
one_among d after image files later w old new first told stands here stands_after are (inr all) = record {
  directory = after;
  here = here;
  files = last_of files later;
  among = among_last files later;
  stands = one_on d after image (last_of files later) w old new told here stands_after (subst (λ (ws : List Write). AreWritten d.drive d.kind ws old new) all are);
}

pub one_put : {A E : Type 0} (d after now : Directory) (image : List ℕ) (files : Drive) (later : List Drive) (w : Write) (old new : Disks) (result : Result A E)
    → old.image d.drive ≡ Some image → Stands image d files → after.drive ≡ d.drive → Stands (written d.kind (w ∷ []) image) after (last_of files later)
    → Puts d.drive d.kind (w ∷ []) old new result → OnOk result (now ≡ after) → GoesThrough new d.drive now files later result
one_put d after now image files later w old new (Ok x) told stands here stands_after puts now_is = record {
  ok = subst (λ (a : Directory). StandsOn new a (last_of files later)) (sym now_is) (one_on d after image (last_of files later) w old new told here stands_after puts.ok);
  err = tt;
}
one_put d after now image files later w old new (Err e) told stands here stands_after puts now_is = record {
  ok = tt;
  err = one_among d after image files later w old new puts.err.first told stands here stands_after puts.err.are (first_of_one w puts.err.first puts.err.rest puts.err.all);
}

-- the image with an entry written
entry_stands : (image : List ℕ) (d : Directory) (files : Drive) (slot : ℕ) (entry : Entry) → Stands image d files → slot < (geometry_of d.kind).drm + 1 → slot < length d.entries
    → cause_of d.kind (others d.entries slot) entry ≡ None
    → ((old : List ℕ) → length old ≡ 32 → entry_of (bytes_over (geometry_of d.kind).wide old entry) (geometry_of d.kind).wide ≡ entry)
    → ((old : List ℕ) → length old ≡ 32 → length (bytes_over (geometry_of d.kind).wide old entry) ≡ 32)
    → Stands (written d.kind (slot_write d.kind image slot entry ∷ []) image) (directories.with_entry d slot entry) (exchanged (sectors_of image d.kind) files (entry_in d slot) entry)
unfolding written with_entry
entry_stands image d files slot entry stands h inside none back long =
    let wide = (geometry_of d.kind).wide in
    let sector : List ℕ = sectors_of image d.kind (slot / 4) in
    let size : length sector ≡ 128 = sector_size d.kind image (slot / 4) stands.size (directory_within d.kind slot h) in
    let old : List ℕ = slot_bytes sector (slot % 4) in
    let whole : length old ≡ 32 = part_size (32 * (slot % 4)) 32 sector (slot_room slot sector size) in
    let over : List ℕ = bytes_over wide old entry in
    let is : entry_of over wide ≡ entry = back old whole in
    subst (λ (e : Entry). Stands (with_sector image (place_of d.kind (slot / 4)) (with_slot sector (slot % 4) over)) (directories.with_entry d slot e)
    (exchanged (sectors_of image d.kind) files (entry_in d slot) e)) is
    (entry_written image d files slot over stands h inside (long old whole) (ap (cause_of d.kind (others d.entries slot)) is ∙ none))

pub entry_put : {A E : Type 0} (d now : Directory) (image : List ℕ) (files : Drive) (slot : ℕ) (entry : Entry) (disk : Disk) (old new : Disks) (result : Result A E)
    → disk ≡ record { drive = d.drive; kind = d.kind } → old.image d.drive ≡ Some image → Stands image d files → length d.entries ≡ (geometry_of d.kind).drm + 1
    → slot ≤ (geometry_of d.kind).drm → cause_of d.kind (others d.entries slot) entry ≡ None
    → ((i : List ℕ) → length i ≡ 32 → entry_of (bytes_over (geometry_of disk.kind).wide i entry) (geometry_of disk.kind).wide ≡ entry)
    → ((i : List ℕ) → length i ≡ 32 → length (bytes_over (geometry_of disk.kind).wide i entry) ≡ 32)
    → ((i : List ℕ) → old.image disk.drive ≡ Some i → Puts disk.drive disk.kind (slot_write disk.kind i slot entry ∷ []) old new result)
    → OnOk result (now ≡ directories.with_entry d slot entry)
    → GoesThrough new d.drive now files (exchanged (sectors_of image d.kind) files (entry_in d slot) entry ∷ []) result
unfolding last_of
entry_put d now image files slot entry disk old new result is told stands full within none back long puts now_is =
    let k : d.kind ≡ disk.kind = sym (ap (λ (x : Disk). x.kind) is) in
    let put : Puts d.drive d.kind (slot_write d.kind image slot entry ∷ []) old new result =
    subst (λ (x : Disk). old.image x.drive ≡ Some image → Puts x.drive x.kind (slot_write x.kind image slot entry ∷ []) old new result) is (puts image) told in
    let back_too : (i : List ℕ) → length i ≡ 32 → entry_of (bytes_over (geometry_of d.kind).wide i entry) (geometry_of d.kind).wide ≡ entry =
    subst (λ (x : Kind). (i : List ℕ) → length i ≡ 32 → entry_of (bytes_over (geometry_of x).wide i entry) (geometry_of x).wide ≡ entry) (sym k) back in
    let long_too : (i : List ℕ) → length i ≡ 32 → length (bytes_over (geometry_of d.kind).wide i entry) ≡ 32 =
    subst (λ (x : Kind). (i : List ℕ) → length i ≡ 32 → length (bytes_over (geometry_of x).wide i entry) ≡ 32) (sym k) long in
    let room : slot < (geometry_of d.kind).drm + 1 = omega (arith, within) in
    let inside : slot < length d.entries = omega (arith, within, full) in
    let next : Drive = exchanged (sectors_of image d.kind) files (entry_in d slot) entry in
    one_put d (directories.with_entry d slot entry) now image files (next ∷ []) (slot_write d.kind image slot entry) old new result told stands refl
    (entry_stands image d files slot entry stands room inside none back_too long_too) put now_is

-- two entries of one sector
entries_stand : (image : List ℕ) (d : Directory) (files last : Drive) (slot other_slot : ℕ) (entry other : Entry) → Stands image d files → slot < (geometry_of d.kind).drm + 1
    → slot < length d.entries → other_slot < (geometry_of d.kind).drm + 1 → other_slot < length d.entries → other_slot / 4 ≡ slot / 4
    → cause_of d.kind (others d.entries slot) entry ≡ None → cause_of d.kind (others (slice_set d.entries slot entry) other_slot) other ≡ None
    → ((old : List ℕ) → length old ≡ 32 → entry_of (bytes_over (geometry_of d.kind).wide old entry) (geometry_of d.kind).wide ≡ entry)
    → ((old : List ℕ) → length old ≡ 32 → length (bytes_over (geometry_of d.kind).wide old entry) ≡ 32)
    → ((old : List ℕ) → length old ≡ 32 → entry_of (bytes_over (geometry_of d.kind).wide old other) (geometry_of d.kind).wide ≡ other)
    → ((old : List ℕ) → length old ≡ 32 → length (bytes_over (geometry_of d.kind).wide old other) ≡ 32)
    → ((sectors : Sectors) → exchanged sectors (exchanged (sectors_of image d.kind) files (entry_in d slot) entry) (entry_in (directories.with_entry d slot entry) other_slot) other ≡ last)
    → Stands (written d.kind (slots_write d.kind image slot entry other_slot other ∷ []) image) (directories.with_entry (directories.with_entry d slot entry) other_slot other) last
unfolding written with_entry
entries_stand image d files last slot other_slot entry other stands h inside k within same none none_more back long back_more long_more is_last =
    let wide = (geometry_of d.kind).wide in
    let s : ℕ = slot / 4 in
    let sector : List ℕ = sectors_of image d.kind s in
    let size : length sector ≡ 128 = sector_size d.kind image s stands.size (directory_within d.kind slot h) in
    let old : List ℕ = slot_bytes sector (slot % 4) in
    let whole : length old ≡ 32 = part_size (32 * (slot % 4)) 32 sector (slot_room slot sector size) in
    let over : List ℕ = bytes_over wide old entry in
    let first : List ℕ = with_slot sector (slot % 4) over in
    let first_size : length first ≡ 128 = spliced_size sector over (32 * (slot % 4)) 32 (long old whole) (slot_room slot sector size) ∙ size in
    let next : List ℕ = slot_bytes first (other_slot % 4) in
    let next_whole : length next ≡ 32 = part_size (32 * (other_slot % 4)) 32 first (slot_room other_slot first first_size) in
    let more : List ℕ = bytes_over wide next other in
    let is : entry_of over wide ≡ entry = back old whole in
    let is_more : entry_of more wide ≡ other = back_more next next_whole in
    let none_read : cause_of d.kind (others d.entries slot) (entry_of over wide) ≡ None = ap (cause_of d.kind (others d.entries slot)) is ∙ none in
    let none_more_read : cause_of d.kind (others (slice_set d.entries slot (entry_of over wide)) other_slot) (entry_of more wide) ≡ None =
    ap (λ (e : Entry). cause_of d.kind (others (slice_set d.entries slot e) other_slot) (entry_of more wide)) is
    ∙ ap (cause_of d.kind (others (slice_set d.entries slot entry) other_slot)) is_more ∙ none_more in
    let mid : List ℕ = with_sector image (place_of d.kind s) first in
    let both = two_written image d files slot other_slot over more stands h inside k within same (long old whole) (long_more next next_whole) none_read none_more_read in
    subst (λ (x : Drive). Stands (with_sector image (place_of d.kind s) (with_slot first (other_slot % 4) more)) (directories.with_entry (directories.with_entry d slot entry) other_slot other) x)
    (is_last (sectors_of mid d.kind))
    (subst (λ (o : Entry). Stands (with_sector image (place_of d.kind s) (with_slot first (other_slot % 4) more)) (directories.with_entry (directories.with_entry d slot entry) other_slot o)
    (exchanged (sectors_of mid d.kind) (exchanged (sectors_of image d.kind) files (entry_in d slot) entry) (entry_in (directories.with_entry d slot entry) other_slot) o)) is_more
    (subst (λ (e : Entry). Stands (with_sector image (place_of d.kind s) (with_slot first (other_slot % 4) more))
    (directories.with_entry (directories.with_entry d slot e) other_slot (entry_of more wide))
    (exchanged (sectors_of mid d.kind) (exchanged (sectors_of image d.kind) files (entry_in d slot) e) (entry_in (directories.with_entry d slot e) other_slot) (entry_of more wide))) is both))

pub entries_put : {A E : Type 0} (d now : Directory) (image : List ℕ) (files last : Drive) (slot other_slot : ℕ) (entry other : Entry) (disk : Disk) (old new : Disks)
    (result : Result A E) → disk ≡ record { drive = d.drive; kind = d.kind } → old.image d.drive ≡ Some image → Stands image d files
    → length d.entries ≡ (geometry_of d.kind).drm + 1 → slot ≤ (geometry_of d.kind).drm → other_slot ≤ (geometry_of d.kind).drm → other_slot / 4 ≡ slot / 4
    → cause_of d.kind (others d.entries slot) entry ≡ None → cause_of d.kind (others (slice_set d.entries slot entry) other_slot) other ≡ None
    → ((i : List ℕ) → length i ≡ 32 → entry_of (bytes_over (geometry_of disk.kind).wide i entry) (geometry_of disk.kind).wide ≡ entry)
    → ((i : List ℕ) → length i ≡ 32 → length (bytes_over (geometry_of disk.kind).wide i entry) ≡ 32)
    → ((i : List ℕ) → length i ≡ 32 → entry_of (bytes_over (geometry_of disk.kind).wide i other) (geometry_of disk.kind).wide ≡ other)
    → ((i : List ℕ) → length i ≡ 32 → length (bytes_over (geometry_of disk.kind).wide i other) ≡ 32)
    → ((i : List ℕ) → old.image disk.drive ≡ Some i → Puts disk.drive disk.kind (slots_write disk.kind i slot entry other_slot other ∷ []) old new result)
    → ((sectors : Sectors) → exchanged sectors (exchanged (sectors_of image d.kind) files (entry_in d slot) entry) (entry_in (directories.with_entry d slot entry) other_slot) other ≡ last)
    → OnOk result (now ≡ directories.with_entry (directories.with_entry d slot entry) other_slot other)
    → GoesThrough new d.drive now files (exchanged (sectors_of image d.kind) files (entry_in d slot) entry ∷ last ∷ []) result
unfolding last_of
entries_put {A = A} {E = E} d now image files last slot other_slot entry other disk old new result is told stands full h k same none none_more back long back_more long_more puts is_last now_is =
    let kind : d.kind ≡ disk.kind = sym (ap (λ (x : Disk). x.kind) is) in
    let P : Kind → Entry → Type 0 = λ x e. (i : List ℕ) → length i ≡ 32 → entry_of (bytes_over (geometry_of x).wide i e) (geometry_of x).wide ≡ e in
    let Q : Kind → Entry → Type 0 = λ x e. (i : List ℕ) → length i ≡ 32 → length (bytes_over (geometry_of x).wide i e) ≡ 32 in
    let put : Puts {A = A} {E = E} d.drive d.kind (slots_write d.kind image slot entry other_slot other ∷ []) old new result =
    subst (λ (x : Disk). old.image x.drive ≡ Some image → Puts {A = A} {E = E} x.drive x.kind (slots_write x.kind image slot entry other_slot other ∷ []) old new result) is (puts image) told in
    one_put d (directories.with_entry (directories.with_entry d slot entry) other_slot other) now image files
    (exchanged (sectors_of image d.kind) files (entry_in d slot) entry ∷ last ∷ []) (slots_write d.kind image slot entry other_slot other) old new result told stands refl
    (entries_stand image d files last slot other_slot entry other stands (omega (arith, h)) (omega (arith, h, full)) (omega (arith, k)) (omega (arith, k, full)) same none none_more
    (subst (λ x. P x entry) (sym kind) back) (subst (λ x. Q x entry) (sym kind) long) (subst (λ x. P x other) (sym kind) back_more) (subst (λ x. Q x other) (sym kind) long_more) is_last)
    put now_is
