-- What an image stands for with some slots free, and how that agrees with its list.
use Rattle.std.proofs.Common.{◌≡◌, ℕ, ◌+◌, ◌-◌, ◌*◌, ◌/◌, ◌%◌, ◌<◌, ◌≤◌, ◌==◌, Bool, List, [], ◌∷◌, ◌++◌, Option, Some, None, length, take, drop, refl, sym, ap, subst, ◌∙◌, arith, eq-eqb}
use Rattle.std.specs.Prelude.{slice_set, Result, Ok, Err, if◌then◌else◌}
use Rattle.std.proofs.lemmas.List.{length-take-le, length-drop, length-set, take-append-drop, drop-drop, set-append_left, set-append_right}
use Rattle.mpm_base.specs.declared.kind.Kind.{Kind}
use Rattle.mpm_blocks.specs.Geometries.{geometry_of, place_of, logical_sectors}
use Rattle.mpm_blocks.specs.Sectors.{Sectors, sectors_of, with_slot, SectorWritten}
use Rattle.mpm_blocks.proofs.Written.{spliced, spliced_size, place_inside, sectors_written, sector_size, from_to}
use Rattle.mpm_port.specs.Disks.{with_sector}
use Rattle.mpm_dirent.specs.declared.kinds.Entry.{Entry}
use Rattle.mpm_dirent.specs.declared.kinds.Entry.TheVariants.{Free}
use Rattle.mpm_dirent.specs.Entries.{part}
use Rattle.mpm_dirent.proofs.Sorts.{is_free}
use Rattle.mpm_mount.specs.declared.errors.ImageFault.{ImageFault}
use Rattle.mpm_mount.specs.Drives.{Drive}
use Rattle.mpm_mount.specs.Faults.{first_fault}
use Rattle.mpm_mount.specs.Images.{entries_of, drive_of, unless, files_of}
use Rattle.mpm_mount.proofs.EntryWritten.{directory_within, slot_room, entries_set, drive_behind}
use Rattle.mpm_repair.specs.FaultLists.{faults_of, first_of}
use Rattle.mpm_repair.specs.Freeing.{AllSlots, freed, byte_of, freed_image}
use Rattle.mpm_repair.proofs.Staying.{first_listed}

-- what an image of its kind's size stands for, by its list
pub files_by_list : (image : List ℕ) (kind : Kind) → length image ≡ (geometry_of kind).bytes
    → files_of image kind ≡ unless (first_of (faults_of image kind)) (drive_of (sectors_of image kind) kind (entries_of (sectors_of image kind) kind))
unfolding files_of
files_by_list image kind size =
    let entries = entries_of (sectors_of image kind) kind in
    let drive = drive_of (sectors_of image kind) kind entries in
    ap (λ (b : Bool). if b then unless (first_fault kind entries) drive else Err (record { cause = 1; place = 0 })) (eq-eqb (length image) (geometry_of kind).bytes size)
    ∙ ap (λ (fault : Option ImageFault). unless fault drive) (sym (first_listed kind entries))

-- one element of a part of a list
pub set_in_part : (xs : List ℕ) (a n i v : ℕ) → i < n → a + n ≤ length xs → slice_set xs (a + i) v ≡ spliced xs (slice_set (take n (drop a xs)) i v) a n
set_in_part xs a n i v less h =
    let front = take a xs in
    let middle = take n (drop a xs) in
    let back = drop n (drop a xs) in
    let parts : xs ≡ front ++ (middle ++ back) = sym (take-append-drop a xs) ∙ ap (λ ys. front ++ ys) (sym (take-append-drop n (drop a xs))) in
    let long : length front ≡ a = length-take-le a xs (omega arith) in
    let wide : length middle ≡ n = length-take-le n (drop a xs) (omega (arith, length-drop a xs)) in
    let place : a + i - a ≡ i = omega arith in
    ap (λ ys. slice_set ys (a + i) v) parts
    ∙ set-append_right front (middle ++ back) a (a + i) v long (omega arith)
    ∙ ap (λ (k : ℕ). front ++ slice_set (middle ++ back) k v) place
    ∙ ap (λ ys. front ++ ys) (set-append_left middle back i v (omega arith))
    ∙ ap (λ ys. front ++ (slice_set middle i v ++ ys)) (drop-drop n a xs)

set_first : (xs : List ℕ) (v : ℕ) → 0 < length xs → slice_set xs 0 v ≡ v ∷ drop 1 xs
set_first [] v h = absurd (omega arith)
set_first (x ∷ xs) v h = refl

part_long : (a : ℕ) (xs : List ℕ) → a + 32 ≤ length xs → length (part a 32 xs) ≡ 32
part_long a xs h = length-take-le 32 (drop a xs) (omega (arith, length-drop a xs))

-- the first byte of a slot, as a sector that is written
freed_bytes : Sectors → ℕ → List ℕ
freed_bytes sectors slot = 229 ∷ drop 1 (part (32 * (slot % 4)) 32 (sectors (slot / 4)))

abbrev freed_sector : Sectors → ℕ → List ℕ
freed_sector sectors slot = with_slot (sectors (slot / 4)) (slot % 4) (freed_bytes sectors slot)

in_sector : (sector : List ℕ) (q : ℕ) → length sector ≡ 128 → q < 4 → slice_set sector (32 * q) 229 ≡ with_slot sector q (229 ∷ drop 1 (part (32 * q) 32 sector))
in_sector sector q size h =
    let a : ℕ = 32 * q in
    let room : a + 32 ≤ length sector = omega arith in
    let at : a ≡ a + 0 = omega arith in
    ap (λ (k : ℕ). slice_set sector k 229) at
    ∙ set_in_part sector a 32 0 229 (omega arith) room
    ∙ ap (λ ys. spliced sector ys a 32) (set_first (part a 32 sector) 229 (omega (arith, part_long a sector room)))

one_written : (kind : Kind) (image : List ℕ) (slot : ℕ) → length image ≡ (geometry_of kind).bytes → slot < (geometry_of kind).drm + 1
    → slice_set image (byte_of kind slot) 229 ≡ with_sector image (place_of kind (slot / 4)) (freed_sector (sectors_of image kind) slot)
unfolding sectors_of freed_bytes
one_written kind image slot size h =
    let s : ℕ = slot / 4 in
    let q : ℕ = slot % 4 in
    let a : ℕ = 128 * place_of kind s in
    let within : s < logical_sectors kind = directory_within kind slot h in
    let sector = take 128 (drop a image) in
    let whole : length sector ≡ 128 = length-take-le 128 (drop a image) (omega (arith, length-drop a image, place_inside kind s within)) in
    let same : sector ≡ sectors_of image kind s = ap (λ (n : ℕ). take n (drop a image)) (sym (from_to a)) in
    set_in_part image a 128 (32 * q) 229 (omega arith) (omega (arith, place_inside kind s within))
    ∙ ap (λ bytes. spliced image bytes a 128) (in_sector sector q whole (omega arith))
    ∙ ap (λ bytes. spliced image (with_slot bytes q (229 ∷ drop 1 (part (32 * q) 32 bytes))) a 128) same

sector_long : (kind : Kind) (image : List ℕ) (slot : ℕ) → length image ≡ (geometry_of kind).bytes → slot < (geometry_of kind).drm + 1
    → length (sectors_of image kind (slot / 4)) ≡ 128
sector_long kind image slot size h = sector_size kind image (slot / 4) size (directory_within kind slot h)

bytes_long : (kind : Kind) (image : List ℕ) (slot : ℕ) → length image ≡ (geometry_of kind).bytes → slot < (geometry_of kind).drm + 1
    → length (freed_bytes (sectors_of image kind) slot) ≡ 32
unfolding freed_bytes
bytes_long kind image slot size h =
    let long = part_long (32 * (slot % 4)) (sectors_of image kind (slot / 4)) (slot_room slot (sectors_of image kind (slot / 4)) (sector_long kind image slot size h)) in
    omega (arith, long, length-drop 1 (part (32 * (slot % 4)) 32 (sectors_of image kind (slot / 4))))

one_sector : (kind : Kind) (image : List ℕ) (slot : ℕ) → length image ≡ (geometry_of kind).bytes → slot < (geometry_of kind).drm + 1
    → SectorWritten (slot / 4) (freed_sector (sectors_of image kind) slot) (sectors_of image kind) (sectors_of (slice_set image (byte_of kind slot) 229) kind)
one_sector kind image slot size h =
    let sectors = sectors_of image kind in
    let bytes = freed_sector sectors slot in
    let long : length bytes ≡ 128 =
    spliced_size (sectors (slot / 4)) (freed_bytes sectors slot) (32 * (slot % 4)) 32 (bytes_long kind image slot size h) (slot_room slot (sectors (slot / 4)) (sector_long kind image slot size h))
    ∙ sector_long kind image slot size h in
    subst (λ (new : List ℕ). SectorWritten (slot / 4) bytes sectors (sectors_of new kind)) (sym (one_written kind image slot size h))
    (sectors_written kind image bytes (slot / 4) size long (directory_within kind slot h))

one_entry : (kind : Kind) (image : List ℕ) (slot : ℕ) → length image ≡ (geometry_of kind).bytes → slot < (geometry_of kind).drm + 1
    → entries_of (sectors_of (slice_set image (byte_of kind slot) 229) kind) kind ≡ slice_set (entries_of (sectors_of image kind) kind) slot Free
unfolding freed_bytes
one_entry kind image slot size h =
    let sectors = sectors_of image kind in
    entries_set kind sectors (sectors_of (slice_set image (byte_of kind slot) 229) kind) slot (freed_bytes sectors slot) (one_sector kind image slot size h)
    (sector_long kind image slot size h) (bytes_long kind image slot size h) h
    ∙ ap (slice_set (entries_of sectors kind) slot) (is_free (freed_bytes sectors slot) (geometry_of kind).wide refl)

-- some slots, one after the other
pub freed_size : (kind : Kind) (slots image : List ℕ) → length (freed_image kind slots image) ≡ length image
unfolding freed_image
freed_size kind [] image = refl
freed_size kind (slot ∷ slots) image = freed_size kind slots (slice_set image (byte_of kind slot) 229) ∙ length-set image (byte_of kind slot) 229

one_long : (kind : Kind) (image : List ℕ) (slot : ℕ) → length image ≡ (geometry_of kind).bytes → length (slice_set image (byte_of kind slot) 229) ≡ (geometry_of kind).bytes
one_long kind image slot size = length-set image (byte_of kind slot) 229 ∙ size

pub entries_freed : (kind : Kind) (slots image : List ℕ) → length image ≡ (geometry_of kind).bytes → AllSlots kind slots
    → entries_of (sectors_of (freed_image kind slots image) kind) kind ≡ freed slots (entries_of (sectors_of image kind) kind)
unfolding freed freed_image
entries_freed kind [] image size each = refl
entries_freed kind (slot ∷ slots) image size each =
    entries_freed kind slots (slice_set image (byte_of kind slot) 229) (one_long kind image slot size) each.1
    ∙ ap (freed slots) (one_entry kind image slot size each.0)

pub drive_freed : (kind : Kind) (slots image : List ℕ) (entries : List Entry) → length image ≡ (geometry_of kind).bytes → AllSlots kind slots → first_fault kind entries ≡ None
    → drive_of (sectors_of (freed_image kind slots image) kind) kind entries ≡ drive_of (sectors_of image kind) kind entries
unfolding freed_image
drive_freed kind [] image entries size each faultless = refl
drive_freed kind (slot ∷ slots) image entries size each faultless =
    let new = slice_set image (byte_of kind slot) 229 in
    drive_freed kind slots new entries (one_long kind image slot size) each.1 faultless
    ∙ drive_behind kind (sectors_of image kind) (sectors_of new kind) slot (freed_sector (sectors_of image kind) slot) entries (one_sector kind image slot size each.0) each.0 faultless

files_if : (image : List ℕ) (kind : Kind) (entries : List Entry) → length image ≡ (geometry_of kind).bytes → entries_of (sectors_of image kind) kind ≡ entries → first_fault kind entries ≡ None
    → files_of image kind ≡ Ok (drive_of (sectors_of image kind) kind entries)
unfolding files_of
files_if image kind entries size are faultless =
    let P : List Entry → Result Drive ImageFault = λ es. if length image == (geometry_of kind).bytes then unless (first_fault kind es) (drive_of (sectors_of image kind) kind es)
    else Err (record { cause = 1; place = 0 }) in
    ap P are
    ∙ ap (λ (b : Bool). if b then unless (first_fault kind entries) (drive_of (sectors_of image kind) kind entries) else Err (record { cause = 1; place = 0 })) (eq-eqb (length image) (geometry_of kind).bytes size)
    ∙ ap (λ (fault : Option ImageFault). unless fault (drive_of (sectors_of image kind) kind entries)) faultless

-- with some slots free an image stands for the drive of the entries that are left, if these have no fault
pub files_freed : (kind : Kind) (slots image : List ℕ) → length image ≡ (geometry_of kind).bytes → AllSlots kind slots
    → first_fault kind (freed slots (entries_of (sectors_of image kind) kind)) ≡ None
    → files_of (freed_image kind slots image) kind ≡ Ok (drive_of (sectors_of image kind) kind (freed slots (entries_of (sectors_of image kind) kind)))
files_freed kind slots image size each faultless =
    let entries = freed slots (entries_of (sectors_of image kind) kind) in
    files_if (freed_image kind slots image) kind entries (freed_size kind slots image ∙ size) (entries_freed kind slots image size each) faultless
    ∙ ap (λ (drive : Drive). Ok drive) (drive_freed kind slots image entries size each faultless)

-- the fault that is left
pub fault_freed : (kind : Kind) (slots image : List ℕ) (fault : ImageFault) → length image ≡ (geometry_of kind).bytes → AllSlots kind slots
    → first_fault kind (freed slots (entries_of (sectors_of image kind) kind)) ≡ Some fault → files_of (freed_image kind slots image) kind ≡ Err fault
unfolding files_of
fault_freed kind slots image fault size each has =
    let left = freed_image kind slots image in
    let drive = drive_of (sectors_of left kind) kind (entries_of (sectors_of left kind) kind) in
    ap (λ (b : Bool). if b then unless (first_fault kind (entries_of (sectors_of left kind) kind)) drive else Err (record { cause = 1; place = 0 }))
    (eq-eqb (length left) (geometry_of kind).bytes (freed_size kind slots image ∙ size))
    ∙ ap (λ (f : Option ImageFault). unless f drive) (ap (first_fault kind) (entries_freed kind slots image size each) ∙ has)
