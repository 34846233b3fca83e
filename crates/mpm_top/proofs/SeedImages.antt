-- The image of a seed has no fault.
use Rattle.std.proofs.Common.{◌≡◌, ◌∙◌, ℕ, suc, ◌+◌, ◌-◌, ◌*◌, ◌/◌, ◌%◌, ◌<◌, ◌≤◌, true, false, List, [], ◌∷◌, ◌++◌, Ok, length, take, drop, replicate, get_or, refl, sym, ap, arith, append_assoc, length-append, take_at, take-take, drop-drop, get_or-take, get_or-drop}
use Rattle.std.specs.Prelude.{◌||◌, Bool, None, codes}
use Rattle.std.specs.List.{flat_map}
use Rattle.std.proofs.lemmas.List.{drop-take, length-replicate, get_or_append_left, get_or-append_right, get_or-replicate}
use Rattle.std.proofs.Math.Seq.{drop-append_seam}
use Rattle.mpm_base.specs.declared.kind.Kind.TheVariants.{Hd4}
use Rattle.mpm_blocks.specs.Sectors.{Sectors, sectors_of}
use Rattle.mpm_dirent.specs.declared.kinds.Entry.{Entry}
use Rattle.mpm_dirent.specs.declared.kinds.Entry.TheVariants.{Free, File}
use Rattle.mpm_dirent.specs.Entries.{part, map_of, bytes_of, entry_of}
use Rattle.mpm_base.specs.Words.{word_bytes}
use Rattle.mpm_dirent.proofs.Sorts.{is_free}
use Rattle.mpm_mount.specs.Drives.{Drive}
use Rattle.mpm_mount.specs.Directories.{Directory}
use Rattle.mpm_mount.specs.Mounting.{drive_in}
use Rattle.mpm_mount.specs.Images as mounted
use Rattle.mpm_mount.specs.Images.{slot_bytes, slot_entry, entries_to, entries_of}
use Rattle.mpm_mount.specs.Faults.{first_fault}
use Rattle.mpm_mount.proofs.Mounts.{mounted_if}
use Rattle.mpm_generator.specs.Draws.{nth_behind}
use Rattle.mpm_generator.specs.Sizes.{filled_to, records_for, blocks_for, in_blocks}
use Rattle.mpm_generator.specs.Programs.{program_behind}
use Rattle.mpm_generator.specs.Images.{numbers_from, entry_for, directory_of, files_of, image_with, image_of}
use Rattle.mpm_generator.proofs.Sizes.{size_filled}
use Rattle.mpm_generator.proofs.ProgramSizes.{program_size, in_blocks_size}
use Rattle.mpm_top.proofs.SeedFiles.{file_for, file_read, not_held, no_cause, three_files}

-- a slot's bytes stand in the image as in their sector

slot_part : (image : List ℕ) (slot : ℕ) → slot_bytes (sectors_of image Hd4) slot ≡ part (32 * slot) 32 image
unfolding sectors_of
slot_part image slot =
    let from : ℕ = 128 * (slot / 4) in
    let within : ℕ = 32 * (slot % 4) in
    let few : within ≤ 96 = omega arith in
    let sized : from + 128 - from ≡ within + (128 - within) = omega (arith, few) in
    let whole : from + within ≡ 32 * slot = omega arith in
    ap (λ n. take 32 (drop within (take n (drop from image)))) sized
    ∙ ap (take 32) (drop-take within (128 - within) (drop from image))
    ∙ take-take 32 (128 - within) (drop within (drop from image)) (omega (arith, few))
    ∙ ap (take 32) (drop-drop within from image)
    ∙ ap (λ n. take 32 (drop n image)) whole

-- parts one after another

part_at : (before here behind : List ℕ) (from count : ℕ) → length before ≡ from → length here ≡ count → part from count (before ++ (here ++ behind)) ≡ here
part_at before here behind from count place size =
    ap (λ n. take count (drop n (before ++ (here ++ behind)))) (sym place)
    ∙ ap (take count) (drop-append_seam before (here ++ behind))
    ∙ take_at here behind count size

-- the entries of a directory that begins with three of 32 bytes, and has E5h up to 16,384 bytes

record BeginsWith (image one two three rest : List ℕ) : Type 0 where
  pub is : image ≡ (one ++ (two ++ three)) ++ (replicate 16288 229 ++ rest)
  pub one_size : length one ≡ 32
  pub two_size : length two ≡ 32
  pub three_size : length three ≡ 32

first_slot : (image one two three rest : List ℕ) → BeginsWith image one two three rest → slot_bytes (sectors_of image Hd4) 0 ≡ one
first_slot image one two three rest begins =
    let behind : List ℕ = replicate 16288 229 ++ rest in
    slot_part image 0
    ∙ ap (part 0 32) (begins.is ∙ append_assoc one (two ++ three) behind)
    ∙ part_at [] one ((two ++ three) ++ behind) 0 32 refl begins.one_size

second_slot : (image one two three rest : List ℕ) → BeginsWith image one two three rest → slot_bytes (sectors_of image Hd4) 1 ≡ two
second_slot image one two three rest begins =
    let behind : List ℕ = replicate 16288 229 ++ rest in
    slot_part image 1
    ∙ ap (part 32 32) (begins.is ∙ append_assoc one (two ++ three) behind ∙ ap (λ xs. one ++ xs) (append_assoc two three behind))
    ∙ part_at one two (three ++ behind) 32 32 begins.one_size begins.two_size

third_slot : (image one two three rest : List ℕ) → BeginsWith image one two three rest → slot_bytes (sectors_of image Hd4) 2 ≡ three
third_slot image one two three rest begins =
    let behind : List ℕ = replicate 16288 229 ++ rest in
    slot_part image 2
    ∙ ap (part 64 32) (begins.is ∙ ap (λ xs. xs ++ behind) (sym (append_assoc one two three)) ∙ append_assoc (one ++ two) three behind)
    ∙ part_at (one ++ two) three behind 64 32 (omega (arith, length-append one two, begins.one_size, begins.two_size)) begins.three_size

other_slot : (image one two three rest : List ℕ) (slot : ℕ) → BeginsWith image one two three rest → 3 ≤ slot → slot < 512 → entry_of (slot_bytes (sectors_of image Hd4) slot) true ≡ Free
other_slot image one two three rest slot begins low high =
    let front : List ℕ = one ++ (two ++ three) in
    let size : length front ≡ 96 = omega (arith, length-append one (two ++ three), length-append two three, begins.one_size, begins.two_size, begins.three_size) in
    let byte : get_or (part (32 * slot) 32 image) 0 0 ≡ 229 =
    get_or-take 32 (drop (32 * slot) image) 0 0 (omega arith)
    ∙ get_or-drop (32 * slot) image 0 0
    ∙ ap (λ xs. get_or xs (32 * slot + 0) 0) begins.is
    ∙ get_or-append_right front (replicate 16288 229 ++ rest) 96 (32 * slot + 0) 0 size (omega (arith, low))
    ∙ get_or_append_left (replicate 16288 229) rest 0 (32 * slot + 0 - 96) (omega (arith, length-replicate {A = ℕ} 16288 229, low, high))
    ∙ get_or-replicate 16288 (32 * slot + 0 - 96) 229 0 (omega (arith, low, high)) in
    ap (λ bytes. entry_of bytes true) (slot_part image slot) ∙ is_free (part (32 * slot) 32 image) true byte

-- the directory of two programs and their file

entry_size : (name : List ℕ) (first count : ℕ) → length name ≡ 11 → length (entry_for name first count) ≡ 32
unfolding entry_for bytes_of map_of
entry_size name first count size =
    let behind : List ℕ = 0 ∷ 0 ∷ 0 ∷ records_for count ∷ flat_map word_bytes (take 8 (numbers_from first (blocks_for count))) in
    let twenty : length behind ≡ 20 = refl in
    let all : length (entry_for name first count) ≡ suc (length (name ++ behind)) = refl in
    omega (arith, all, size, twenty, length-append name behind)

abbrev one_for : ℕ → List ℕ
one_for first = entry_for (codes "G0      COM") 8 first

abbrev two_for : ℕ → ℕ → List ℕ
two_for first second = entry_for (codes "G1      COM") (8 + blocks_for first) second

abbrev three_for : ℕ → ℕ → List ℕ
three_for first second = entry_for (codes "DATA    DAT") (8 + blocks_for first + blocks_for second) 4096

entries_size : (first second : ℕ) → length (one_for first ++ (two_for first second ++ three_for first second)) ≡ 96
entries_size first second =
    omega (
      arith,
      length-append (one_for first) (two_for first second ++ three_for first second),
      length-append (two_for first second) (three_for first second),
      entry_size (codes "G0      COM") 8 first refl,
      entry_size (codes "G1      COM") (8 + blocks_for first) second refl,
      entry_size (codes "DATA    DAT") (8 + blocks_for first + blocks_for second) 4096 refl,
    )

directory_size : (first second : ℕ) → length (directory_of first second) ≡ 16384
unfolding directory_of
directory_size first second =
    let few = entries_size first second in
    size_filled 16384 229 (one_for first ++ (two_for first second ++ three_for first second)) (omega (arith, few))

image_size : (first second : List ℕ) → length first ≤ 9344 → length second ≤ 9344 → length (image_with first second) ≡ 4194304
unfolding image_with
image_size first second one two =
    size_filled 4194304 0 (directory_of (length first) (length second) ++ files_of first second)
    (omega (
      arith,
      length-append (directory_of (length first) (length second)) (files_of first second),
      directory_size (length first) (length second),
      length-append (in_blocks first) (in_blocks second ++ replicate 4096 46),
      length-append (in_blocks second) (replicate 4096 46),
      length-replicate {A = ℕ} 4096 46,
      in_blocks_size first,
      in_blocks_size second,
      one,
      two,
    ))

abbrev rest_of : List ℕ → List ℕ → List ℕ
rest_of first second =
    files_of first second ++ replicate (4194304 - length (directory_of (length first) (length second) ++ files_of first second)) 0

image_begins : (first second : List ℕ)
    → BeginsWith (image_with first second) (one_for (length first)) (two_for (length first) (length second)) (three_for (length first) (length second)) (rest_of first second)
unfolding image_with directory_of filled_to
image_begins first second =
    let front : List ℕ = one_for (length first) ++ (two_for (length first) (length second) ++ three_for (length first) (length second)) in
    let free : List ℕ = replicate (16384 - length front) 229 in
    let zeros : List ℕ = replicate (4194304 - length ((front ++ free) ++ files_of first second)) 0 in
    let all : 16384 - length front ≡ 16288 = omega (arith, entries_size (length first) (length second)) in
    record {
      is = append_assoc (front ++ free) (files_of first second) zeros
          ∙ append_assoc front free (files_of first second ++ zeros)
          ∙ ap (λ n. front ++ (replicate n 229 ++ (files_of first second ++ zeros))) all;
      one_size = entry_size (codes "G0      COM") 8 (length first) refl;
      two_size = entry_size (codes "G1      COM") (8 + blocks_for (length first)) (length second) refl;
      three_size = entry_size (codes "DATA    DAT") (8 + blocks_for (length first) + blocks_for (length second)) 4096 refl;
    }

-- it has no fault

faultless : (image : List ℕ) (first second : ℕ) (rest : List ℕ) → first ≤ 9344 → second ≤ 9344
    → BeginsWith image (one_for first) (two_for first second) (three_for first second) rest → first_fault Hd4 (entries_of (sectors_of image Hd4) Hd4) ≡ None
unfolding entries_to
faultless image first second rest one two begins =
    let sectors : Sectors = sectors_of image Hd4 in
    let f = file_for (codes "G0      COM") 8 first in
    let g = file_for (codes "G1      COM") (8 + blocks_for first) second in
    let h = file_for (codes "DATA    DAT") (8 + blocks_for first + blocks_for second) 4096 in
    three_files (slot_entry sectors true) f g h
    (ap (λ bytes. entry_of bytes true) (first_slot image _ _ _ rest begins) ∙ file_read (codes "G0      COM") 8 first refl one)
    (ap (λ bytes. entry_of bytes true) (second_slot image _ _ _ rest begins) ∙ file_read (codes "G1      COM") (8 + blocks_for first) second refl two)
    (ap (λ bytes. entry_of bytes true) (third_slot image _ _ _ rest begins) ∙ file_read (codes "DATA    DAT") (8 + blocks_for first + blocks_for second) 4096 refl (omega arith))
    (λ slot low high. other_slot image _ _ _ rest slot begins low high)
    (no_cause (codes "G0      COM") 8 first [] (omega arith) (omega arith) one (λ block above. refl) refl)
    (no_cause (codes "G1      COM") (8 + blocks_for first) second (File f ∷ []) (omega arith) (omega (arith, one)) two
    (λ block above. alone (not_held (codes "G0      COM") 8 first block (omega arith) above)) refl)
    (no_cause (codes "DATA    DAT") (8 + blocks_for first + blocks_for second) 4096 (File f ∷ File g ∷ []) (omega arith) (omega (arith, one, two)) (omega arith)
    (λ block above. both (not_held (codes "G0      COM") 8 first block (omega arith) (omega (arith, above)))
    (not_held (codes "G1      COM") (8 + blocks_for first) second block (omega arith) above)) refl)
  where
    alone : {b : Bool} → b ≡ false → (b || false) ≡ false
    alone is = ap (λ b. b || false) is

    both : {b c : Bool} → b ≡ false → c ≡ false → (b || (c || false)) ≡ false
    both {c = c} is also = ap (λ b. b || (c || false)) is ∙ ap (λ b. b || false) also

-- the image of each seed stands for some files

pub has_files : (seed : ℕ) → (files : Drive) × (mounted.files_of (image_of seed) Hd4 ≡ Ok files)
has_files seed =
    let first = program_behind seed in
    let second = program_behind (nth_behind 1200 seed) in
    let image = image_of seed in
    let one = program_size seed in
    let two = program_size (nth_behind 1200 seed) in
    let entries : List Entry = entries_of (sectors_of image Hd4) Hd4 in
    let d : Directory = record { drive = 0; kind = Hd4; entries = entries } in (
      drive_in image d,
      (mounted_if image Hd4 0 entries (image_size first second one two) refl
          (faultless image (length first) (length second) (rest_of first second) one two (image_begins first second))).files,
    )
