-- What is wrong with a directory: the first slot at fault, and there the least cause. Cause 1 is an image of another size.
use Rattle.std.specs.Prelude.{ℕ, ◌+◌, ◌*◌, ◌==◌, ◌&&◌, ◌||◌, not, Bool, true, false, List, [], ◌∷◌, Option, Some, None, option_map, nat_lt, bytes_eq, length, map, take, slice_index, slice_index_or, if◌then◌else◌}
use Rattle.std.specs.List.{range_with_len, list_any}
use Rattle.mpm_base.specs.declared.kind.Kind.{Kind}
use Rattle.mpm_blocks.specs.Geometries.{geometry_of, last_block}
use Rattle.mpm_dirent.specs.declared.kinds.Entry.{Entry}
use Rattle.mpm_dirent.specs.declared.kinds.Entry.TheVariants.{Free, File, Xfcb, Label, Kept}
use Rattle.mpm_dirent.specs.declared.kinds.FileEntry.{FileEntry}
use Rattle.mpm_dirent.specs.Names.{plain}
use Rattle.mpm_mount.specs.declared.errors.ImageFault.{ImageFault}
use Rattle.mpm_mount.specs.declared.slots.EntryName.{EntryName}
use Rattle.mpm_mount.specs.Drives.{entry_number, places}

-- the last extent of an entry
abbrev pub extent_of : FileEntry → ℕ
extent_of f = 32 * f.s2 + f.ex

-- which entry of which file it is
abbrev pub name_of : Kind → FileEntry → EntryName
name_of kind f = record { user = f.user; name = plain f.name; number = entry_number kind (extent_of f) }

-- block i of an entry, 0 where none is held
abbrev pub block_at : FileEntry → ℕ → ℕ
block_at f i = slice_index f.blocks i

-- a file's entry has a block's number among its first
unfoldable pub has_at : FileEntry → ℕ → ℕ → Bool
has_at f count block = list_any (λ i. block_at f i == block) (range_with_len 0 count)

abbrev pub holds : Kind → ℕ → Entry → Bool
holds kind block (File f) = has_at f (places kind) block
holds kind block Free = false
holds kind block (Xfcb x) = false
holds kind block (Label l) = false
holds kind block (Kept bytes) = false

-- cause 3: the number of no block that files have
abbrev pub is_outside : Kind → FileEntry → ℕ → Bool
is_outside kind f i =
    not (block_at f i == 0) && (nat_lt (block_at f i) (geometry_of kind).directory_blocks || nat_lt (last_block kind) (block_at f i))

-- cause 4: a block that an earlier slot, or this one before, uses
abbrev pub is_taken : Kind → List Entry → FileEntry → ℕ → Bool
is_taken kind earlier f i =
    not (block_at f i == 0)
    && (list_any (holds kind (block_at f i)) earlier || has_at f i (block_at f i))

-- at some of the places of an entry's blocks
unfoldable pub some_place : Kind → (ℕ → Bool) → Bool
some_place kind test = list_any test (range_with_len 0 (places kind))

-- cause 5: an entry of this entry number of this user's file of this name
abbrev pub is_named : Kind → EntryName → Entry → Bool
is_named kind name (File f) = (f.user == name.user) && (bytes_eq (plain f.name) name.name && (entry_number kind (extent_of f) == name.number))
is_named kind name Free = false
is_named kind name (Xfcb x) = false
is_named kind name (Label l) = false
is_named kind name (Kept bytes) = false

-- cause 7
abbrev pub is_label : Entry → Bool
is_label (Label l) = true
is_label Free = false
is_label (File f) = false
is_label (Xfcb x) = false
is_label (Kept bytes) = false

-- cause 8: an XFCB of this user's file of this name
abbrev pub is_xfcb : ℕ → List ℕ → Entry → Bool
is_xfcb user name (Xfcb x) = (x.user == user) && bytes_eq (plain x.name) name
is_xfcb user name Free = false
is_xfcb user name (File f) = false
is_xfcb user name (Label l) = false
is_xfcb user name (Kept bytes) = false

-- causes 5 and 6
abbrev pub name_cause : Kind → List Entry → FileEntry → Option ℕ
name_cause kind earlier f =
    if list_any (is_named kind (name_of kind f)) earlier then Some 5 else (if nat_lt 63 f.s2 || nat_lt 31 f.ex then Some 6 else None)

-- the least cause by which a file's entry is at fault after others
unfoldable pub file_cause : Kind → List Entry → FileEntry → Option ℕ
file_cause kind earlier f =
    if nat_lt 128 f.rc then Some 2
    else (if some_place kind (is_outside kind f) then Some 3
    else (if some_place kind (is_taken kind earlier f) then Some 4 else name_cause kind earlier f))

-- the least cause by which an entry is at fault after others
abbrev pub cause_of : Kind → List Entry → Entry → Option ℕ
cause_of kind earlier (File f) = file_cause kind earlier f
cause_of kind earlier (Label l) = if list_any is_label earlier then Some 7 else None
cause_of kind earlier (Xfcb x) = if list_any (is_xfcb x.user (plain x.name)) earlier then Some 8 else None
cause_of kind earlier Free = None
cause_of kind earlier (Kept bytes) = None

-- of the entry in a slot, over the whole directory
abbrev pub cause_at : Kind → List Entry → ℕ → Option ℕ
cause_at kind entries slot = cause_of kind (take slot entries) (slice_index_or entries slot Free)

abbrev pub fault_at : Kind → List Entry → ℕ → Option ImageFault
fault_at kind entries slot = option_map (λ cause. record { cause = cause; place = slot }) (cause_at kind entries slot)

-- the first that is there
unfoldable pub first_some : {X : Type 0} → List (Option X) → Option X
first_some [] = None
first_some (None ∷ items) = first_some items
first_some (Some item ∷ items) = Some item

-- the first slot at fault, with its least cause
unfoldable pub first_fault : Kind → List Entry → Option ImageFault
first_fault kind entries = first_some (map (fault_at kind entries) (range_with_len 0 (length entries)))
