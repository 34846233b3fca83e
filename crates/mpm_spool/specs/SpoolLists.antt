-- The files that a message of the spooler's queue names: 1 to 8 names parted by commas, of which each may ask for the file's
-- deletion. (MP/M II User's Guide, "SPOOL"; Programmer's Guide, "Function 152: Parse Filename".)
use Rattle.std.specs.Prelude.{ℕ, ◌-◌, Bool, false, not, ◌==◌, ◌&&◌, ◌||◌, nat_le, if◌then◌else◌, List, [], ◌∷◌, ◌++◌, length, take, drop, replicate, bytes_eq, codes, Option, Some, None, is_none, option_map}
use Rattle.std.specs.List.{slice_split, list_any}
use Rattle.mpm_base.specs.Lists.{zeros}
use Rattle.mpm_names.specs.Spellings.{parsed}
use Rattle.mpm_names.specs.declared.file_name.Parsed.{Parsed}
use Rattle.mpm_messages.specs.Texts.{text_in, stripped}
use Rattle.mpm_spool.specs.declared.list.SpoolItem.{SpoolItem}
use Rattle.mpm_spool.specs.declared.list.SpoolList.{SpoolList}

abbrev pub is_comma : ℕ → Bool
is_comma byte = byte == 44

-- `[D]`, in either case, after a name asks for the file's deletion
abbrev pub is_mark : List ℕ → Bool
is_mark text = bytes_eq text (codes "[D]") || bytes_eq text (codes "[d]")

abbrev pub asks_deletion : List ℕ → Bool
asks_deletion text = nat_le 3 (length text) && is_mark (drop (length text - 3) text)

abbrev pub name_part : List ℕ → List ℕ
name_part text = if asks_deletion text then take (length text - 3) text else text

-- a name without `*` and `?`, in place of which it has a `?`, that goes on to the end of its text
unfoldable pub is_ambiguous : List ℕ → Bool
is_ambiguous name = list_any (λ byte. byte == 63) name

abbrev pub is_item : Parsed → Bool
is_item name = is_none name.next && not (is_ambiguous name.name)

abbrev pub item_named : Bool → Parsed → SpoolItem
item_named delete name = record { drive = name.drive; name = name.name; password = name.password; delete = delete }

abbrev pub item_or_none : Bool → Option Parsed → Option SpoolItem
item_or_none delete None = None
item_or_none delete (Some name) = if is_item name then Some (item_named delete name) else None

unfoldable pub item_of : List ℕ → Option SpoolItem
item_of text = item_or_none (asks_deletion text) (parsed (name_part text))

-- an item before others, where both are there
abbrev pub before : Option SpoolItem → Option (List SpoolItem) → Option (List SpoolItem)
before None others = None
before (Some item) others = option_map (λ (items : List SpoolItem). item ∷ items) others

-- each of some texts as an item, where each is one
unfoldable pub items_of : List (List ℕ) → Option (List SpoolItem)
items_of [] = Some []
items_of (text ∷ texts) = before (item_of text) (items_of texts)

-- the items of a message
unfoldable pub parts_of : List ℕ → List (List ℕ)
parts_of text = slice_split is_comma text

abbrev pub listed : List (List ℕ) → Option (List SpoolItem)
listed parts = if nat_le (length parts) 8 then items_of parts else None

unfoldable pub list_of : List ℕ → Option (List SpoolItem)
list_of message = listed (parts_of (stripped (text_in message)))

-- no item, as it follows the last one of a list
abbrev pub no_item : SpoolItem
no_item = record { drive = 0; name = zeros 11; password = zeros 8; delete = false }

unfoldable pub list_with : List SpoolItem → SpoolList
list_with items = record { count = length items; items = items ++ replicate (8 - length items) no_item }
