-- Entries that bytes can stand for.
use Rattle.std.specs.Prelude.{◌≡◌, ◌≢◌, ℕ, ◌<◌, ◌≤◌, Bool, true, false, List, length, slice_index}
use Rattle.mpm_dirent.specs.declared.kinds.Entry.{Entry}
use Rattle.mpm_dirent.specs.declared.kinds.Entry.TheVariants.{Free, File, Xfcb, Label, Kept}

-- a number that a map has room for: a byte, or in a wide map a word in the first eight places
abbrev pub NumberFits : Bool → ℕ → ℕ → Type 0
NumberFits true place number = 8 ≤ place → number ≡ 0
NumberFits false place number = number < 256

-- each of a map's sixteen numbers
abbrev pub MapFits : Bool → List ℕ → Type 0
MapFits wide blocks = (place : ℕ) → place < 16 → NumberFits wide place (slice_index blocks place)

-- a first byte of bytes that are kept unread: of no user, no XFCB, no label and no free entry
pub record IsKeptUnread (sort : ℕ) : Type 0 where
  pub other : 33 ≤ sort
  pub used : sort ≢ 229

-- users are 0 to 15, maps have room, and what is kept unread is of no sort that is read
abbrev pub IsProper : Bool → Entry → Type 0
IsProper wide Free = Unit {0}
IsProper wide (File f) = (f.user < 16) × MapFits wide f.blocks
IsProper wide (Xfcb x) = x.user < 16
IsProper wide (Label l) = Unit {0}
IsProper wide (Kept bytes) = IsKeptUnread (slice_index bytes 0)

-- the names, maps, passwords and stamps have the lengths of their arrays, as in each entry
abbrev pub HasSizes : Entry → Type 0
HasSizes Free = Unit {0}
HasSizes (File f) = (length f.name ≡ 11) × (length f.blocks ≡ 16)
HasSizes (Xfcb x) = (length x.name ≡ 11) × (length x.password ≡ 8) × (length x.first ≡ 4) × (length x.second ≡ 4)
HasSizes (Label l) = (length l.name ≡ 11) × (length l.password ≡ 8) × (length l.first ≡ 4) × (length l.second ≡ 4)
HasSizes (Kept bytes) = Unit {0}
