-- What stands at the keys of a table. (TOML v1.0.0, "Keys", "Integer", "String".)
use Rattle.std.specs.Prelude.{ℕ, ℤ, pos, negsuc, Bool, true, ◌&&◌, ◌==◌, nat_le, if◌then◌else◌, List, [], ◌∷◌, length, bytes_eq, Option, Some, None, option_map}
use Rattle.std.specs.List.{list_any}
use Rattle.std.specs.Option.{option_map_or}
use Rattle.toml.specs.Data.{Data, Members, no_members, member, Items, no_items, item, get_member, as_integer, as_str}
use Rattle.mpm_script.specs.Numbers.{◌>>=◌}

-- a table has no keys but these
abbrev pub only_keys : List (List ℕ) → Members → Bool
only_keys known no_members = true
only_keys known (member key value rest) = list_any (λ name. bytes_eq name key) known && only_keys known rest

-- a whole number between two limits
abbrev pub within : ℕ → ℕ → ℤ → Option ℕ
within least greatest (pos n) = if nat_le least n && nat_le n greatest then Some n else None
within least greatest (negsuc n) = None

abbrev pub number_of : ℕ → ℕ → Data → Option ℕ
number_of least greatest value = as_integer value >>= within least greatest

-- a text that isn't empty
abbrev pub named : List ℕ → Option (List ℕ)
named text = if length text == 0 then None else Some text

abbrev pub text_of : Data → Option (List ℕ)
text_of value = as_str value >>= named

-- the number at a key that must be there
unfoldable pub number_at : List ℕ → ℕ → ℕ → Members → Option ℕ
number_at key least greatest table = get_member key table >>= number_of least greatest

-- the number at a key, and another where the key is missing
unfoldable pub number_or : List ℕ → ℕ → ℕ → ℕ → Members → Option ℕ
number_or key missing least greatest table = option_map_or (number_of least greatest) (get_member key table) (Some missing)

-- the text at a key that must be there
unfoldable pub text_at : List ℕ → Members → Option (List ℕ)
text_at key table = get_member key table >>= text_of

-- the text at a key, which may be missing
unfoldable pub text_if : List ℕ → Members → Option (Option (List ℕ))
text_if key table = option_map_or (λ value. option_map Some (text_of value)) (get_member key table) (Some None)

-- what each of some values is read as, where all of them are
abbrev pub all_of : {A : Type 0} → (Data → Option A) → Items → Option (List A)
all_of read no_items = Some []
all_of read (item value rest) = do
  first ← read value
  others ← all_of read rest
  Some (first ∷ others)

-- a list of no fewer and no more items
abbrev pub counted : {A : Type 0} → ℕ → ℕ → List A → Option (List A)
counted least greatest items = if nat_le least (length items) && nat_le (length items) greatest then Some items else None
