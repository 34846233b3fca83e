-- Contents under their names, and the drives that are attached by name.
use Rattle.std.specs.Prelude.{ℕ, List, [], ◌∷◌, Option, option_map, bytes_eq, Bool, ◌==◌, if◌then◌else◌}
use Rattle.std.specs.List.{find}
use Rattle.mpm_port.specs.declared.named.Named.{Named}
use Rattle.mpm_port.specs.declared.links.Link.{Link}

-- the items with one more: in the place of the first that passes, or after all where none does
unfoldable pub with_item : {X : Type 0} → (X → Bool) → List X → X → List X
with_item p [] item = item ∷ []
with_item p (x ∷ xs) item = if p x then item ∷ xs else (x ∷ with_item p xs item)

-- the item has this name
abbrev pub is_named : List ℕ → Named → Bool
is_named name item = bytes_eq item.name name

-- the contents of a name: those of the first item that has it
unfoldable pub contents_of : List Named → List ℕ → Option (List ℕ)
contents_of items name = option_map (λ item. item.contents) (find (is_named name) items)

-- the items with these contents under a name: in the place of the item that had it, or after all the others
unfoldable pub with_contents : List Named → List ℕ → List ℕ → List Named
with_contents items name contents = with_item (is_named name) items (record { name = name; contents = contents })

-- the link is the drive's
abbrev pub is_of : ℕ → Link → Bool
is_of drive link = link.drive == drive

-- the name that a drive is attached by
unfoldable pub name_of_drive : List Link → ℕ → Option (List ℕ)
name_of_drive links drive = option_map (λ link. link.name) (find (is_of drive) links)

-- the links with the drive attached by a name, in place of an earlier one
unfoldable pub with_drive : List Link → ℕ → List ℕ → List Link
with_drive links drive name = with_item (is_of drive) links (record { drive = drive; name = name })
