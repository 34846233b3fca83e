-- The files that are open: places, each free or with an item, which is known by the number of its place. (MP/M II
-- Programmer's Guide, "Function 15: Open File", "Function 16: Close File".)
use Rattle.std.specs.Prelude.{ℕ, ◌+◌, ◌-◌, ◌==◌, ◌&&◌, ◌||◌, not, Bool, true, false, List, [], Option, Some, None, Result, Ok, Err, is_none, unwrap_or, map, replicate, count_by, nat_le, if◌then◌else◌, position, bytes_eq, slice_index_or, slice_set}
use Rattle.std.specs.List.{list_any}
use Rattle.mpm_opens.specs.declared.kinds.FileKey.{FileKey}
use Rattle.mpm_opens.specs.declared.kinds.Mode.{Mode}
use Rattle.mpm_opens.specs.declared.kinds.Mode.TheVariants.{Locked}
use Rattle.mpm_opens.specs.declared.kinds.Item.{Item}
use Rattle.mpm_opens.specs.declared.kinds.OpenRefused.{OpenRefused}
use Rattle.mpm_opens.specs.declared.kinds.OpenRefused.TheVariants.{Incompatible, ProcessLimit, NoRoom}
use Rattle.mpm_opens.specs.declared.limits.TheConstants.{ITEMS, ITEMS_OF_PROCESS, OPENINGS}
use Rattle.mpm_opens.specs.Kinds.{is_same_file, is_same_mode, do_modes_go_together}

-- no file is open
unfoldable pub no_items : List (Option Item)
no_items = replicate ITEMS None

-- what stands at a place has an item that passes a test
abbrev pub has_item : (Item → Bool) → Option Item → Bool
has_item test None = false
has_item test (Some item) = test item

-- the item by its number; where there is none, one that stands for nothing
abbrev pub place_at : List (Option Item) → ℕ → Option Item
place_at items number = slice_index_or items number None

abbrev pub blank_item : Item
blank_item = record { process = 0; file = record { drive = 0; user = 0; name = [] }; mode = Locked; count = 0; has_written = false }

abbrev pub item_at : List (Option Item) → ℕ → Item
item_at items number = unwrap_or (place_at items number) blank_item

-- a process's item of a file
abbrev pub is_item_of : ℕ → FileKey → Item → Bool
is_item_of p file item = (item.process == p) && is_same_file item.file file

abbrev pub has_item_of : ℕ → FileKey → Option Item → Bool
has_item_of p file place = has_item (is_item_of p file) place

-- its number, if there is one
unfoldable pub number_of : List (Option Item) → ℕ → FileKey → Option ℕ
number_of items p file = position (has_item_of p file) items

-- the file of an item that a process names by number, drive and name; the user isn't looked at
abbrev pub is_named : ℕ → ℕ → List ℕ → Item → Bool
is_named p drive name item = (item.process == p) && ((item.file.drive == drive) && bytes_eq item.file.name name)

abbrev pub file_where : (Item → Bool) → Option Item → Option FileKey
file_where test None = None
file_where test (Some item) = if test item then Some item.file else None

unfoldable pub file_named : List (Option Item) → ℕ → ℕ → ℕ → List ℕ → Option FileKey
file_named items p number drive name = file_where (is_named p drive name) (place_at items number)

-- another process's item of a file, or on a drive
abbrev pub is_anothers_of : ℕ → FileKey → Item → Bool
is_anothers_of p file item = not (item.process == p) && is_same_file item.file file

abbrev pub is_anothers_on : ℕ → ℕ → Item → Bool
is_anothers_on p drive item = not (item.process == p) && (item.file.drive == drive)

unfoldable pub have_others : List (Option Item) → ℕ → FileKey → Bool
have_others items p file = list_any (has_item (is_anothers_of p file)) items

unfoldable pub have_others_on : List (Option Item) → ℕ → ℕ → Bool
have_others_on items p drive = list_any (has_item (is_anothers_on p drive)) items

-- beside an item of the file another one can't be: of the same process in another mode, or of another process in a mode
-- that doesn't go with it
abbrev pub excludes : ℕ → FileKey → Mode → Item → Bool
excludes p file mode item =
    is_same_file item.file file && not (if item.process == p then is_same_mode item.mode mode else (do_modes_go_together item.mode mode))

unfoldable pub is_excluded : List (Option Item) → ℕ → FileKey → Mode → Bool
is_excluded items p file mode = list_any (has_item (excludes p file mode)) items

-- how many items a process has
abbrev pub is_of : ℕ → Item → Bool
is_of p item = item.process == p

unfoldable pub items_of : List (Option Item) → ℕ → ℕ
items_of items p = count_by (has_item (is_of p)) items

-- a process opened a file as often as it may
abbrev pub is_counted_out : ℕ → FileKey → Item → Bool
is_counted_out p file item = is_item_of p file item && (item.count == OPENINGS)

unfoldable pub has_counted_out : List (Option Item) → ℕ → FileKey → Bool
has_counted_out items p file = list_any (has_item (is_counted_out p file)) items

-- no place is free
unfoldable pub are_full : List (Option Item) → Bool
are_full items = is_none (position is_none items)

-- an item changed, by its number
abbrev pub with_changed : (Item → Item) → List (Option Item) → ℕ → List (Option Item)
with_changed change items number = slice_set items number (Some (change (item_at items number)))

-- it was opened once more, or closed once; a record was written by way of it
abbrev pub opened_again : Item → Item
opened_again item = record item { count = item.count + 1 }

abbrev pub closed_once : Item → Item
closed_once item = record item { count = item.count - 1 }

abbrev pub that_wrote : Item → Item
that_wrote item = record item { has_written = true }

-- an item as a file is opened first
abbrev pub new_item : ℕ → FileKey → Mode → Item
new_item p file mode = record { process = p; file = file; mode = mode; count = 1; has_written = false }

-- the place that a new item takes: the first that is free
unfoldable pub first_free : List (Option Item) → ℕ
first_free items = unwrap_or (position is_none items) 0

-- why a file isn't opened: the first of these that is so
unfoldable pub refusal_of : List (Option Item) → ℕ → FileKey → Mode → Option OpenRefused
refusal_of items p file mode =
    if is_excluded items p file mode then Some Incompatible
    else (if nat_le ITEMS_OF_PROCESS (items_of items p) || has_counted_out items p file then Some ProcessLimit
    else (if are_full items then Some NoRoom else None))

-- a file is opened: once more where the process has an item of it, else by a new item in the first free place
abbrev pub opened_at : List (Option Item) → ℕ → FileKey → Mode → Option ℕ → List (Option Item)
opened_at items p file mode (Some number) = with_changed opened_again items number
opened_at items p file mode None = slice_set items (first_free items) (Some (new_item p file mode))

unfoldable pub opened : List (Option Item) → ℕ → FileKey → Mode → List (Option Item)
opened items p file mode = opened_at items p file mode (number_of items p file)

unfoldable pub opened_number : List (Option Item) → ℕ → FileKey → ℕ
opened_number items p file = unwrap_or (number_of items p file) (first_free items)

-- what an attempt to open it makes, and what it answers
abbrev pub where_granted : Option OpenRefused → List (Option Item) → List (Option Item) → List (Option Item)
where_granted None new old = new
where_granted (Some refusal) new old = old

abbrev pub granted : Option OpenRefused → ℕ → Result ℕ OpenRefused
granted None number = Ok number
granted (Some refusal) number = Err refusal

unfoldable pub items_added : List (Option Item) → ℕ → FileKey → Mode → List (Option Item)
items_added items p file mode = where_granted (refusal_of items p file mode) (opened items p file mode) items

unfoldable pub add_answer : List (Option Item) → ℕ → FileKey → Mode → Result ℕ OpenRefused
add_answer items p file mode = granted (refusal_of items p file mode) (opened_number items p file)

-- a process's items of the files that pass a test are given back
abbrev pub is_given_back : ℕ → (FileKey → Bool) → Item → Bool
is_given_back p among item = (item.process == p) && among item.file

abbrev pub left_in : ℕ → (FileKey → Bool) → Option Item → Option Item
left_in p among place = if has_item (is_given_back p among) place then None else place

unfoldable pub items_without : List (Option Item) → ℕ → (FileKey → Bool) → List (Option Item)
items_without items p among = map (left_in p among) items
