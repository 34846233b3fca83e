-- Directory entries of 32 bytes, read and written. (MP/M II Programmer's Guide, "Directory Entries" and "Extended File
-- Control Blocks".)
use Rattle.std.specs.Prelude.{ℕ, ◌+◌, ◌-◌, ◌*◌, Bool, List, ◌∷◌, ◌++◌, ◌==◌, nat_lt, map, take, drop, replicate, slice_index, if◌then◌else◌}
use Rattle.std.specs.List.{range_with_len, flat_map}
use Rattle.mpm_base.specs.Words.{word_bytes}
use Rattle.mpm_dirent.specs.declared.kinds.Entry.{Entry}
use Rattle.mpm_dirent.specs.declared.kinds.Entry.TheVariants.{Free, File, Xfcb, Label, Kept}
use Rattle.mpm_dirent.specs.declared.kinds.FileEntry.{FileEntry}
use Rattle.mpm_dirent.specs.declared.kinds.XfcbEntry.{XfcbEntry}
use Rattle.mpm_dirent.specs.declared.kinds.LabelEntry.{LabelEntry}

-- some bytes from a place on
abbrev pub part : ℕ → ℕ → List ℕ → List ℕ
part from count bytes = take count (drop from bytes)

-- a word of some bytes: two bytes, the low one first
abbrev pub word_at : List ℕ → ℕ → ℕ
word_at bytes place = slice_index bytes (2 * place) + 256 * slice_index bytes (2 * place + 1)

-- the sixteen numbers of a map: its bytes, or where it is wide its eight words and eight zeros
unfoldable pub blocks_of : List ℕ → Bool → List ℕ
blocks_of map_bytes wide =
    if wide then map (word_at map_bytes) (range_with_len 0 8) ++ replicate 8 0 else map_bytes

-- the sixteen bytes of a map: its numbers, or where it is wide the first eight as words
unfoldable pub map_of : List ℕ → Bool → List ℕ
map_of blocks wide = if wide then flat_map word_bytes (take 8 blocks) else blocks

-- the parts of a file's entry
unfoldable pub file_of : List ℕ → Bool → FileEntry
file_of bytes wide = record {
  user = slice_index bytes 0;
  name = part 1 11 bytes;
  ex = slice_index bytes 12;
  s1 = slice_index bytes 13;
  s2 = slice_index bytes 14;
  rc = slice_index bytes 15;
  blocks = blocks_of (part 16 16 bytes) wide;
}

-- the parts of an XFCB
unfoldable pub xfcb_of : List ℕ → XfcbEntry
xfcb_of bytes = record {
  user = slice_index bytes 0 - 16;
  name = part 1 11 bytes;
  mode = slice_index bytes 12;
  decode = slice_index bytes 13;
  password = part 16 8 bytes;
  first = part 24 4 bytes;
  second = part 28 4 bytes;
}

-- the parts of a directory label
unfoldable pub label_of : List ℕ → LabelEntry
label_of bytes = record {
  name = part 1 11 bytes;
  mode = slice_index bytes 12;
  decode = slice_index bytes 13;
  password = part 16 8 bytes;
  first = part 24 4 bytes;
  second = part 28 4 bytes;
}

-- what the bytes mean: the first says of which sort they are
unfoldable pub entry_of : List ℕ → Bool → Entry
entry_of bytes wide =
    let sort = slice_index bytes 0 in
    if nat_lt sort 16 then File (file_of bytes wide)
    else (if nat_lt sort 32 then Xfcb (xfcb_of bytes)
    else (if sort == 32 then Label (label_of bytes)
    else (if sort == 229 then Free else (Kept bytes))))

-- the bytes of an entry that has a password and two stamps
abbrev pub with_stamps : ℕ → List ℕ → ℕ → ℕ → List ℕ → List ℕ → List ℕ → List ℕ
with_stamps sort name mode decode password first second =
    sort ∷ (name ++ (mode ∷ decode ∷ 0 ∷ 0 ∷ (password ++ (first ++ second))))

-- the bytes of an entry
unfoldable pub bytes_of : Entry → Bool → List ℕ
bytes_of Free wide = replicate 32 229
bytes_of (File f) wide = f.user ∷ (f.name ++ (f.ex ∷ f.s1 ∷ f.s2 ∷ f.rc ∷ map_of f.blocks wide))
bytes_of (Xfcb x) wide = with_stamps (16 + x.user) x.name x.mode x.decode x.password x.first x.second
bytes_of (Label l) wide = with_stamps 32 l.name l.mode l.decode l.password l.first l.second
bytes_of (Kept bytes) wide = bytes
