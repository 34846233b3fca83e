-- The disk drives of a machine file.
use Rattle.std.specs.Prelude.{ℕ, Bool, true, not, ◌&&◌, ◌||◌, ◌==◌, nat_le, if◌then◌else◌, List, [], ◌∷◌, bytes_eq, codes, Option, Some, None}
use Rattle.std.specs.List.{filter, flat_map, list_any, range_with_len}
use Rattle.std.specs.Option.{option_map_or}
use Rattle.toml.specs.Data.{Data, Members, get_member, as_table, as_array}
use Rattle.mpm_base.specs.declared.kind.Kind.{Kind}
use Rattle.mpm_base.specs.declared.kind.Kind.TheVariants.{Ibm3740, Hd4, Hd8}
use Rattle.mpm_machine_file.specs.declared.lists.DriveSpec.{DriveSpec}
use Rattle.mpm_script.specs.Numbers.{◌>>=◌}
use Rattle.mpm_machine_file.specs.Fields.{only_keys, text_at, all_of, counted}

abbrev pub drive_keys : List (List ℕ)
drive_keys = codes "letter" ∷ codes "kind" ∷ codes "image" ∷ []

-- one letter, A to P
abbrev pub letter_of : List ℕ → Option ℕ
letter_of [] = None
letter_of (letter ∷ []) = if nat_le 65 letter && nat_le letter 80 then Some letter else None
letter_of (letter ∷ more ∷ rest) = None

-- the name of a kind of disks
abbrev pub kind_of : List ℕ → Option Kind
kind_of text = if bytes_eq text (codes "ibm3740") then Some Ibm3740 else if bytes_eq text (codes "hd4") then Some Hd4 else if bytes_eq text (codes "hd8") then Some Hd8 else None

-- a letter, a kind and the name of an image
unfoldable pub drive_of : Data → Option DriveSpec
drive_of value = do
  table ← as_table value
  text ← text_at (codes "letter") table
  letter ← letter_of text
  name ← text_at (codes "kind") table
  kind ← kind_of name
  image ← text_at (codes "image") table
  if only_keys drive_keys table then Some (record { letter = letter; kind = kind; image = image }) else None

-- two drives have one letter, or one image
abbrev pub does_clash : DriveSpec → DriveSpec → Bool
does_clash one other = one.letter == other.letter || bytes_eq one.image other.image

-- all letters differ, and all images
abbrev pub all_differ : List DriveSpec → Bool
all_differ [] = true
all_differ (drive ∷ rest) = not (list_any (does_clash drive) rest) && all_differ rest

-- the drives in the order of their letters: of each letter from A to P in turn those that have it
abbrev pub by_letter : List DriveSpec → List DriveSpec
by_letter drives = flat_map (λ letter. filter (λ drive. drive.letter == letter) drives) (range_with_len 65 16)

-- at most 16 drives in the order of their letters, whose letters differ and whose images differ
unfoldable pub drives_of : Data → Option (List DriveSpec)
drives_of value = do
  items ← as_array value
  read ← all_of drive_of items
  drives ← counted 0 16 (by_letter read)
  if all_differ drives then Some drives else None

-- the drives of a machine file, none where the key is missing
unfoldable pub drives_in : Members → Option (List DriveSpec)
drives_in table = option_map_or drives_of (get_member (codes "drive") table) (Some [])
