-- The size of a file by its directory entries, one after the other.
use Rattle.std.specs.Prelude.{ℕ, ◌+◌, ◌*◌, List, [], ◌∷◌}
use Rattle.mpm_dirent.specs.declared.kinds.Entry.{Entry}
use Rattle.mpm_dirent.specs.declared.kinds.Entry.TheVariants.{Free, File, Xfcb, Label, Kept}
use Rattle.mpm_mount.specs.Faults.{extent_of}
use Rattle.mpm_mount.specs.Drives.{PhysicalExtent}

-- the record after the last of an entry
abbrev pub size_at : Entry → ℕ
size_at (File f) = 128 * extent_of f + f.rc
size_at Free = 0
size_at (Xfcb x) = 0
size_at (Label label) = 0
size_at (Kept bytes) = 0

-- the size of a file: one more than its last record
unfoldable pub size_of : {K : Type 0} → List (K × PhysicalExtent) → ℕ
size_of [] = 0
size_of (entry ∷ []) = 128 * entry.1.last + entry.1.count
size_of (entry ∷ (other ∷ entries)) = size_of (other ∷ entries)
