-- The directories of the sixteen drives, where they are mounted, each in the place of its drive's number.
use Rattle.std.specs.Prelude.{◌≡◌, ℕ, List, [], ◌∷◌, Option, Some, None, IfSome, length, option_map, replicate, slice_index_or, slice_set}
use Rattle.mpm_base.specs.declared.kind.Kind.{Kind}
use Rattle.mpm_mount.specs.Directories.{Directory, IsDirectory}

-- a directory in a place, if one is there; it is of the drive with the place's number, and without a fault; and there are places
-- for sixteen drives
abbrev pub directory_at : List (Option Directory) → ℕ → Option Directory
directory_at mounted number = slice_index_or mounted number None

abbrev pub kind_at : List (Option Directory) → ℕ → Option Kind
kind_at mounted number = option_map (λ directory. directory.kind) (directory_at mounted number)

pub record AreInPlace (mounted : List (Option Directory)) : Type 0 where
  pub places : length mounted ≡ 16
  pub each : (number : ℕ) → IfSome (directory_at mounted number) (λ directory. directory.drive ≡ number)
  pub directories : (number : ℕ) → IfSome (directory_at mounted number) (λ directory. IsDirectory directory.kind directory.entries)

-- directories that come into the places of their drives, the first where there are two; and into sixteen that are free
unfoldable pub all_put : List Directory → List (Option Directory) → List (Option Directory)
all_put [] places = places
all_put (directory ∷ directories) places = slice_set (all_put directories places) directory.drive (Some directory)

abbrev pub in_places : List Directory → List (Option Directory)
in_places directories = all_put directories (replicate 16 None)
