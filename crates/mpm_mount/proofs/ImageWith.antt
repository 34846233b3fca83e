-- An image with a directory's entries: each entry is read back from its bytes.
use Rattle.std.proofs.Common.{◌≡◌, ◌≢◌, ◌∙◌, refl, sym, ap, subst, ℕ, zero, suc, ◌+◌, ◌*◌, ◌/◌, ◌%◌, ◌<◌, ◌≤◌, inl, inr, Bool, true, false, List, ◌∷◌, ◌++◌, length, get_or, arith}
use Rattle.std.specs.Prelude.{replicate, slice_set}
use Rattle.std.specs.List.{All}
use Rattle.std.proofs.lemmas.Bool.{cases_eq, cases_order}
use Rattle.std.proofs.lemmas.List.{length-append, length-replicate, get_or-set_same, get_or-set_other, ext_get_or}
use Rattle.std.proofs.lemmas.List.Elements.{All-get_or}
use Rattle.mpm_base.specs.declared.kind.Kind.{Kind}
use Rattle.mpm_port.specs.Disks.{with_sector}
use Rattle.mpm_blocks.specs.Geometries.{geometry_of, place_of}
use Rattle.mpm_blocks.specs.Sectors.{sectors_of, with_slot}
use Rattle.mpm_blocks.proofs.Written.{spliced_size, written_size, sectors_written, sector_size}
use Rattle.mpm_dirent.specs.declared.kinds.Entry.{Entry}
use Rattle.mpm_dirent.specs.declared.kinds.Entry.TheVariants.{Free, File, Xfcb, Label, Kept}
use Rattle.mpm_dirent.specs.Entries.{map_of, entry_of, with_stamps, bytes_of}
use Rattle.mpm_dirent.specs.Proper.{IsProper}
use Rattle.mpm_dirent.proofs.Numbers.{spread_is}
use Rattle.mpm_dirent.proofs.Back.{read_back}
use Rattle.mpm_mount.specs.Images.{entries_of}
use Rattle.mpm_mount.specs.Directories.{IsWholeEntry}
use Rattle.mpm_mount.proofs.EntryWritten.{directory_within, slot_room, entries_set}
use Rattle.mpm_mount.proofs.FreeEntries.{all_slots}

-- an entry is read back from its 32 bytes
pub record IsReadBack (wide : Bool) (entry : Entry) : Type 0 where
  pub size : length (bytes_of entry wide) ≡ 32
  pub same : entry_of (bytes_of entry wide) wide ≡ entry

map_size : (wide : Bool) (blocks : List ℕ) → length blocks ≡ 16 → length (map_of blocks wide) ≡ 16
unfolding map_of
map_size true blocks size = subst (λ numbers. length (map_of numbers true) ≡ 16) (spread_is blocks 16 size) refl
map_size false blocks size = size

stamped_size : (sort mode decode : ℕ) (name password first second : List ℕ) → length name ≡ 11 → length password ≡ 8 → length first ≡ 4 → length second ≡ 4
    → length (with_stamps sort name mode decode password first second) ≡ 32
stamped_size sort mode decode name password first second a b c d =
    omega (arith, a, b, c, d, length-append name (mode ∷ decode ∷ 0 ∷ 0 ∷ (password ++ (first ++ second))), length-append password (first ++ second), length-append first second)

-- so is a proper one whose parts have the lengths of their arrays
pub reads_back : (entry : Entry) (wide : Bool) → IsWholeEntry entry → IsProper wide entry → IsReadBack wide entry
unfolding bytes_of
reads_back Free wide sizes proper = record { size = refl; same = read_back Free wide tt proper }
reads_back (File f) wide sizes proper =
    let blocks : length (map_of f.blocks wide) ≡ 16 = map_size wide f.blocks sizes.1 in
    record {
      size = omega (arith, sizes.0, blocks, length-append f.name (f.ex ∷ f.s1 ∷ f.s2 ∷ f.rc ∷ map_of f.blocks wide));
      same = read_back (File f) wide sizes proper;
    }
reads_back (Xfcb x) wide sizes proper = record {
  size = stamped_size (16 + x.user) x.mode x.decode x.name x.password x.first x.second sizes.0 sizes.1 sizes.2 sizes.3;
  same = read_back (Xfcb x) wide sizes proper;
}
reads_back (Label l) wide sizes proper = record {
  size = stamped_size 32 l.mode l.decode l.name l.password l.first l.second sizes.0 sizes.1 sizes.2 sizes.3;
  same = read_back (Label l) wide sizes proper;
}
reads_back (Kept bytes) wide sizes proper = record { size = sizes; same = read_back (Kept bytes) wide tt proper }

-- so is each entry of a directory
pub each_back : (kind : Kind) (entries : List Entry) → length entries ≡ (geometry_of kind).drm + 1 → All (IsProper (geometry_of kind).wide) entries → All IsWholeEntry entries
    → (slot : ℕ) → slot < (geometry_of kind).drm + 1 → IsReadBack (geometry_of kind).wide (get_or entries slot Free)
each_back kind entries full proper whole slot less =
    let wide : Bool = (geometry_of kind).wide in
    let room : slot < length entries = omega (arith, full, less) in
    reads_back (get_or entries slot Free) wide (All-get_or IsWholeEntry entries slot Free room whole) (All-get_or (IsProper wide) entries slot Free room proper)

-- an image with the first of some entries in its directory
abbrev pub with_entry_in : Kind → List ℕ → ℕ → List ℕ → List ℕ
with_entry_in kind image slot bytes = with_sector image (place_of kind (slot / 4)) (with_slot (sectors_of image kind (slot / 4)) (slot % 4) bytes)

unfoldable pub image_to : Kind → List Entry → ℕ → List ℕ
image_to kind entries zero = replicate (geometry_of kind).bytes 0
image_to kind entries (suc n) = with_entry_in kind (image_to kind entries n) n (bytes_of (get_or entries n Free) (geometry_of kind).wide)

record BeginsWith (kind : Kind) (entries : List Entry) (n : ℕ) (image : List ℕ) : Type 0 where
  pub size : length image ≡ (geometry_of kind).bytes
  pub front : (slot : ℕ) → slot < n → get_or (entries_of (sectors_of image kind) kind) slot Free ≡ get_or entries slot Free

one_more : (kind : Kind) (entries : List Entry) (n : ℕ) (image : List ℕ) → n < (geometry_of kind).drm + 1 → IsReadBack (geometry_of kind).wide (get_or entries n Free) → BeginsWith kind entries n image
    → BeginsWith kind entries (suc n) (with_entry_in kind image n (bytes_of (get_or entries n Free) (geometry_of kind).wide))
one_more kind entries n image within back begins =
    let wide : Bool = (geometry_of kind).wide in
    let bytes : List ℕ = bytes_of (get_or entries n Free) wide in
    let sector : List ℕ = sectors_of image kind (n / 4) in
    let new : List ℕ = with_slot sector (n % 4) bytes in
    let now : List ℕ = with_entry_in kind image n bytes in
    let before : List Entry = entries_of (sectors_of image kind) kind in
    let entry : Entry = entry_of bytes wide in
    let inside = directory_within kind n within in
    let whole : length sector ≡ 128 = sector_size kind image (n / 4) begins.size inside in
    let long : length new ≡ 128 = spliced_size sector bytes (32 * (n % 4)) 32 back.size (slot_room n sector whole) ∙ whole in
    let entries_are : entries_of (sectors_of now kind) kind ≡ slice_set before n entry =
    entries_set kind (sectors_of image kind) (sectors_of now kind) n bytes (sectors_written kind image new (n / 4) begins.size long inside) whole back.size within in
    let room : n < length before = omega (arith, all_slots (sectors_of image kind) kind, within) in
    record {
      size = written_size kind image new (n / 4) begins.size long inside ∙ begins.size;
      front = λ slot less. ap (λ (es : List Entry). get_or es slot Free) entries_are ∙ elim (cases_eq slot n) [
        | inl same ↦
            ap (λ (k : ℕ). get_or (slice_set before n entry) k Free) same ∙ get_or-set_same before n entry Free room ∙ back.same
            ∙ sym (ap (λ (k : ℕ). get_or entries k Free) same)
        | inr apart ↦ get_or-set_other before n slot entry Free apart ∙ begins.front slot (below slot n less apart)
      ];
    }
  where
    below : (slot m : ℕ) → slot < suc m → slot ≢ m → slot < m
    below slot m less apart = elim (cases_order slot m) [
      | inl same ↦ absurd (apart same)
      | inr other ↦ elim other [ inl smaller ↦ smaller | inr more ↦ absurd (omega (arith, less, more)) ]
    ]

all_in : (kind : Kind) (entries : List Entry) (n : ℕ) → n ≤ (geometry_of kind).drm + 1
    → ((slot : ℕ) → slot < (geometry_of kind).drm + 1 → IsReadBack (geometry_of kind).wide (get_or entries slot Free)) → BeginsWith kind entries n (image_to kind entries n)
unfolding image_to
all_in kind entries zero few each = record { size = length-replicate (geometry_of kind).bytes 0; front = λ slot less. absurd (omega (arith, less)) }
all_in kind entries (suc n) few each =
    one_more kind entries n (image_to kind entries n) (omega (arith, few)) (each n (omega (arith, few))) (all_in kind entries n (omega (arith, few)) each)

-- the image with these entries and nothing in its files
abbrev pub image_with : Kind → List Entry → List ℕ
image_with kind entries = image_to kind entries ((geometry_of kind).drm + 1)

-- it has the size of its kind, and these entries
pub record HasEntries (kind : Kind) (entries : List Entry) (image : List ℕ) : Type 0 where
  pub size : length image ≡ (geometry_of kind).bytes
  pub entries_are : entries ≡ entries_of (sectors_of image kind) kind

pub has_entries : (kind : Kind) (entries : List Entry) → length entries ≡ (geometry_of kind).drm + 1
    → ((slot : ℕ) → slot < (geometry_of kind).drm + 1 → IsReadBack (geometry_of kind).wide (get_or entries slot Free)) → HasEntries kind entries (image_with kind entries)
has_entries kind entries full each =
    let n : ℕ = (geometry_of kind).drm + 1 in
    let begins = all_in kind entries n (omega arith) each in
    let read : List Entry = entries_of (sectors_of (image_with kind entries) kind) kind in
    let slots : length read ≡ n = all_slots (sectors_of (image_with kind entries) kind) kind in
    record {
      size = begins.size;
      entries_are = sym (ext_get_or Free read entries (slots ∙ sym full) (λ slot less. begins.front slot (omega (arith, less, slots))));
    }
