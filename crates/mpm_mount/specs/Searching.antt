-- The search for the entries of files, by user, name and entry number. (MP/M II Programmer's Guide, "Function 17: Search for
-- First" and "Function 18: Search for Next".)
use Rattle.std.specs.Prelude.{◌≡◌, ◌≢◌, ℕ, ◌%◌, ◌<◌, ◌==◌, ◌&&◌, Bool, true, false, List, Option, Some, None, option_map, length, slice_index, slice_index_or, if◌then◌else◌}
use Rattle.std.specs.List.{list_any}
use Rattle.std.specs.Ordering.{is_lt}
use Rattle.mpm_base.specs.declared.kind.Kind.{Kind}
use Rattle.mpm_names.specs.Matching.{does_match}
use Rattle.mpm_dirent.specs.declared.kinds.Entry.{Entry}
use Rattle.mpm_dirent.specs.declared.kinds.Entry.TheVariants.{Free, File, Xfcb, Label, Kept}
use Rattle.mpm_dirent.specs.declared.kinds.FileEntry.{FileEntry}
use Rattle.mpm_dirent.specs.Names.{plain}
use Rattle.mpm_mount.specs.declared.searching.Found.{Found}
use Rattle.mpm_mount.specs.declared.searching.Search.{Search}
use Rattle.mpm_mount.specs.declared.slots.EntryName.{EntryName}
use Rattle.mpm_mount.specs.Drives.{entry_cmp, entry_number}
use Rattle.mpm_mount.specs.Faults.{extent_of, name_of}

-- which entry was found: by its number, which stays where the last extent rises
abbrev pub found_name : Kind → ℕ → Found → EntryName
found_name kind user found = record { user = user; name = plain found.name; number = entry_number kind found.extent }

-- a user's entries of the names that fit a pattern, above the last that was found, if any was
abbrev pub search_of : Kind → ℕ → List ℕ → Option Found → Search
search_of kind user pattern last = record { user = user; pattern = pattern; last = option_map (found_name kind user) last }

abbrev pub is_above : Option EntryName → EntryName → Bool
is_above None name = true
is_above (Some last) name = is_lt (entry_cmp last name)

abbrev pub is_sought : Search → EntryName → Bool
is_sought search name = (name.user == search.user) && (does_match search.pattern name.name && is_above search.last name)

-- a directory entry that is sought
abbrev pub is_target : Kind → Search → Entry → Bool
is_target kind search (File f) = is_sought search (name_of kind f)
is_target kind search Free = false
is_target kind search (Xfcb x) = false
is_target kind search (Label l) = false
is_target kind search (Kept bytes) = false

-- one that is sought and less than an entry
abbrev pub is_target_below : Kind → Search → EntryName → Entry → Bool
is_target_below kind search name (File f) = is_sought search (name_of kind f) && is_lt (entry_cmp (name_of kind f) name)
is_target_below kind search name Free = false
is_target_below kind search name (Xfcb x) = false
is_target_below kind search name (Label l) = false
is_target_below kind search name (Kept bytes) = false

-- an entry is found: it is sought, and none that is sought is less
pub record IsLeast (kind : Kind) (search : Search) (entries : List Entry) (found : Found) : Type 0 where
  pub file : FileEntry
  pub within : found.slot < length entries
  pub entry : slice_index_or entries found.slot Free ≡ File file
  pub name : found.name ≡ plain file.name
  pub extent : found.extent ≡ extent_of file
  pub sought : is_sought search (name_of kind file) ≡ true
  pub least : list_any (is_target_below kind search (name_of kind file)) entries ≡ false

-- the answer of a search: nothing exactly where no entry is sought
abbrev pub IsNext : Kind → Search → List Entry → Option Found → Type 0
IsNext kind search entries None = list_any (is_target kind search) entries ≡ false
IsNext kind search entries (Some found) = IsLeast kind search entries found

-- a pattern that fits one name alone: none of its eleven bytes is the mark that fits each byte
pub record IsUnambiguous (pattern : List ℕ) : Type 0 where
  pub size : length pattern ≡ 11
  pub marks : (k : ℕ) → k < 11 → slice_index pattern k % 128 ≢ 63

-- of what was found and an entry the lesser, where the entry is sought
abbrev pub is_lesser : Kind → EntryName → Option Found → Bool
is_lesser kind name None = true
is_lesser kind name (Some found) = is_lt (entry_cmp name (found_name kind name.user found))

abbrev pub lesser : Kind → Search → Option Found → ℕ → Entry → Option Found
lesser kind search least slot (File f) =
    if is_sought search (name_of kind f) && is_lesser kind (name_of kind f) least then Some (record { name = plain f.name; extent = extent_of f; slot = slot }) else least
lesser kind search least slot Free = least
lesser kind search least slot (Xfcb x) = least
lesser kind search least slot (Label l) = least
lesser kind search least slot (Kept bytes) = least
