-- Keys of a table: the walk over a map's keys, and the members.
use Rattle.std.proofs.Common.{◌≡◌, ℕ, ◌||◌, List, [], ◌∷◌, map, string_bytes, Bor, refl, ap}
use Rattle.std.specs.Prelude.{bytes_eq}
use Rattle.std.specs.List.{list_any, list_all}
use Rattle.std.specs.Map.{keys_of}
use Rattle.toml.specs.View.{members_view}
use Rattle.toml.proofs.Views.{Entry}
use Rattle.mpm_machine_file.specs.Fields.{only_keys}

-- a name among some
pub among : (key : List ℕ) (known : List (Bor (List ℕ))) → list_any (λ name. bytes_eq name.now key) known ≡ list_any (λ name. bytes_eq name key) (map (λ name. name.now) known)
among key [] = refl
among key (name ∷ rest) = ap (λ b. bytes_eq name.now key || b) (among key rest)

-- the keys of a map, and those of its members
pub only_keys_all : (known : List (Bor (List ℕ))) (es : List Entry) → list_all (λ key. list_any (λ name. bytes_eq name.now (string_bytes key)) known) (keys_of es) ≡ only_keys (map (λ name. name.now) known) (members_view es)
only_keys_all known [] = refl
only_keys_all known (e ∷ es) = rw (among (string_bytes e.0) known, only_keys_all known es)
