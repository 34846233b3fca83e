-- Which files a drive has, and which directory entries are theirs. (MP/M II Programmer's Guide, "File Organization", "File Control
-- Block Definition".)
use Rattle.std.specs.Prelude.{◌≡◌, ℕ, ◌==◌, ◌&&◌, Bool, true, false, List, [], Option, Some, None, bytes_eq, map}
use Rattle.std.specs.List.{list_any}
use Rattle.std.specs.FinMap.{keys}
use Rattle.mpm_names.specs.Matching.{does_match}
use Rattle.mpm_dirent.specs.declared.kinds.Entry.{Entry}
use Rattle.mpm_dirent.specs.declared.kinds.Entry.TheVariants.{Free, File, Xfcb, Label, Kept}
use Rattle.mpm_dirent.specs.declared.kinds.FileEntry.{FileEntry}
use Rattle.mpm_dirent.specs.Names.{plain}
use Rattle.mpm_mount.specs.declared.searching.Found.{Found}
use Rattle.mpm_mount.specs.declared.slots.EntryName.{EntryName}
use Rattle.mpm_mount.specs.Drives.{FileName, Drive}
use Rattle.mpm_mount.specs.Faults.{extent_of}
use Rattle.mpm_mount.specs.Directories.{Directory, entry_in}

-- one file by user and name
abbrev pub is_same_file : FileName → FileName → Bool
is_same_file a b = (a.user == b.user) && bytes_eq a.name b.name

-- the directory entries of files, each by its file and its number, in the order of users, names and numbers
unfoldable pub entries_named : Drive → List (FileName × ℕ)
entries_named drive = map (λ (name : EntryName). (record { user = name.user; name = name.name }, name.number)) (keys drive.extents)

-- a file is there where it has an entry
abbrev pub is_entry_of : FileName → (FileName × ℕ) → Bool
is_entry_of file entry = is_same_file file entry.0

unfoldable pub has_file : Drive → FileName → Bool
has_file drive file = list_any (is_entry_of file) (entries_named drive)

-- a user's file whose name fits a pattern. ("Function 17: Search for First", "Function 19: Delete File".)
abbrev pub is_fitting : ℕ → List ℕ → FileName → Bool
is_fitting user pattern file = (file.user == user) && does_match pattern file.name

-- of what is there
abbrev pub where_there : {X Y : Type 0} → Option X → (X → List Y) → List Y
where_there None f = []
where_there (Some x) f = f x

-- the file of an entry by its user and name, whose attributes don't count; the entries of a file
abbrev pub file_in : ℕ → List ℕ → FileName
file_in user name = record { user = user; name = plain name }

abbrev pub is_file : Entry → Bool
is_file (File f) = true
is_file Free = false
is_file (Xfcb x) = false
is_file (Label l) = false
is_file (Kept bytes) = false

abbrev pub is_part_of : FileName → Entry → Bool
is_part_of file (File f) = is_same_file file (file_in f.user f.name)
is_part_of file Free = false
is_part_of file (Xfcb x) = false
is_part_of file (Label l) = false
is_part_of file (Kept bytes) = false

-- what was found is a directory entry of a file
pub record IsEntryOf (d : Directory) (file : FileName) (found : Found) : Type 0 where
  pub entry : FileEntry
  pub there : entry_in d found.slot ≡ File entry
  pub its : is_part_of file (File entry) ≡ true
  pub name : found.name ≡ file.name
  pub extent : found.extent ≡ extent_of entry
