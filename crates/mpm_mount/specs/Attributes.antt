-- The attributes of a file: bit 7 of the eleven bytes of the name of its lowest directory entry. (MP/M II Programmer's Guide,
-- "File Attributes", "Function 30: Set File Attributes".)
use Rattle.std.specs.Prelude.{ℕ, Bool, false, List, [], ◌∷◌, Option, Some, None, nat_le, unwrap_or, replicate, map}
use Rattle.mpm_dirent.specs.declared.kinds.Entry.{Entry}
use Rattle.mpm_dirent.specs.declared.kinds.Entry.TheVariants.{Free, File, Xfcb, Label, Kept}
use Rattle.mpm_mount.specs.declared.searching.Found.{Found}
use Rattle.mpm_mount.specs.Drives.{PhysicalExtent}
use Rattle.mpm_mount.specs.Directories.{Directory, entry_in}

-- F1' to F8' and T1' to T3', by the bytes of a name
abbrev pub attributes_in : List ℕ → List Bool
attributes_in name = map (nat_le 128) name

-- the first of some entries, which is the lowest where they stand in order
abbrev pub first_entry : {K : Type 0} → List (K × PhysicalExtent) → Option (K × PhysicalExtent)
first_entry [] = None
first_entry (entry ∷ entries) = Some entry

-- the attributes of a file that is there are those of its lowest entry; of one that isn't, none is set
abbrev pub first_attributes : {K : Type 0} → List (K × PhysicalExtent) → Option (List Bool)
first_attributes [] = None
first_attributes (entry ∷ entries) = Some entry.1.attributes

abbrev pub attributes_of : {K : Type 0} → List (K × PhysicalExtent) → List Bool
attributes_of entries = unwrap_or (first_attributes entries) (replicate 11 false)

-- the attributes of a file's entry in the directory, and of one that was found
abbrev pub attributes_at : Entry → Option (List Bool)
attributes_at (File f) = Some (attributes_in f.name)
attributes_at Free = None
attributes_at (Xfcb x) = None
attributes_at (Label label) = None
attributes_at (Kept bytes) = None

abbrev pub attributes_where : Directory → Option Found → Option (List Bool)
attributes_where d None = None
attributes_where d (Some found) = attributes_at (entry_in d found.slot)
