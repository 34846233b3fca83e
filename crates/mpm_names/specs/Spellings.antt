-- How file names are spelled: blanks, a drive, a name, a type, a password, and a delimiter that ends them. After a
-- text's end stands 00h. (MP/M II Programmer's Guide, "Function 152: Parse Filename".)
use Rattle.std.specs.Prelude.{ℕ, ◌+◌, ◌-◌, Bool, List, [], ◌++◌, Option, Some, None, ◌==◌, ◌&&◌, ◌||◌, not, nat_le, nat_lt, length, drop, map, replicate, slice_index, if◌then◌else◌, take_while}
use Rattle.std.specs.List.{range_with_len, prefix_len, position_or_len}
use Rattle.mpm_names.specs.Characters.{is_blank, is_delimiter, is_character, upper}
use Rattle.mpm_names.specs.declared.file_name.Parsed.{Parsed}

-- the characters at the front of a text
abbrev pub field_of : List ℕ → List ℕ
field_of text = take_while is_character text

-- what follows the blanks
abbrev pub behind_blanks : List ℕ → List ℕ
behind_blanks text = drop (prefix_len is_blank text) text

-- the drive that a text begins with, a letter A to P and `:`, from 1 to 16; 0 where there is none
unfoldable pub drive_of : List ℕ → ℕ
drive_of text =
    let letter = upper (slice_index text 0) in
    if slice_index text 1 == 58 && nat_le 65 letter && nat_le letter 80 then letter - 64 else 0

-- what follows the drive
abbrev pub behind_drive : List ℕ → List ℕ
behind_drive text = if drive_of text == 0 then text else drop 2 text

-- the characters after a mark, where the text begins with it
unfoldable pub marked : ℕ → List ℕ → List ℕ
marked mark text = if slice_index text 0 == mark then field_of (drop 1 text) else []

-- what follows `.` and a type
abbrev pub behind_type : List ℕ → List ℕ
behind_type text = if slice_index text 0 == 46 then drop (1 + length (marked 46 text)) text else text

-- what follows `;` and a password; `;` alone is none
abbrev pub behind_password : List ℕ → List ℕ
behind_password text = if length (marked 59 text) == 0 then text else drop (1 + length (marked 59 text)) text

-- the parts of a text, and what follows them
pub record Spelling : Type 0 where
  pub drive : ℕ
  pub name : List ℕ
  pub kind : List ℕ
  pub password : List ℕ
  pub rest : List ℕ

-- each part is taken as long as it goes
unfoldable pub spelling : List ℕ → Spelling
spelling text =
    let start = behind_blanks text in
    let named = behind_drive start in
    let typed = drop (length (field_of named)) named in
    let locked = behind_type typed in
    record {
      drive = drive_of start;
      name = field_of named;
      kind = marked 46 typed;
      password = marked 59 locked;
      rest = behind_password locked;
    }

-- what may follow a name: a delimiter but `.`, `:` and `;`
abbrev pub is_end : ℕ → Bool
is_end byte = is_delimiter byte && not (byte == 46 || byte == 58 || byte == 59)

-- a name of 1 to 8 characters, a type of at most 3, a password of at most 8, and what may follow them
abbrev pub is_form : Spelling → Bool
is_form s =
    nat_le 1 (length s.name) && nat_le (length s.name) 8 && nat_le (length s.kind) 3 && nat_le (length s.password) 8
    && is_end (slice_index s.rest 0)

-- where a field's `*` is; its length where it has none
abbrev pub star_of : List ℕ → ℕ
star_of field = position_or_len (λ byte. byte == 42) field

-- a byte of a field as it is kept: a letter in upper case, `?` from the `*` on, a space after the last character
unfoldable pub kept_at : List ℕ → ℕ → ℕ → ℕ
kept_at field star place =
    if nat_lt place star then upper (slice_index field place) else (if star == length field then 32 else 63)

-- a field as it is kept in its width
unfoldable pub filled : ℕ → ℕ → List ℕ → List ℕ
filled width star field = map (kept_at field star) (range_with_len 0 width)

-- a name and a type, eleven bytes
abbrev pub full_name : List ℕ → List ℕ → List ℕ
full_name name kind = filled 8 (star_of name) name ++ filled 3 (star_of kind) kind

-- a password, in which `*` is a character like the others; zeros where there is none
abbrev pub kept_password : List ℕ → List ℕ
kept_password password =
    if length password == 0 then replicate 8 0 else (filled 8 (length password) password)

-- the place of what follows a name, counted from the text's start; none where that is 00h or CR
unfoldable pub next_of : ℕ → List ℕ → Option ℕ
next_of size rest =
    if slice_index rest 0 == 0 || slice_index rest 0 == 13 then None else (Some (size - length rest))

-- what a spelling means, in a text of a size
abbrev pub meaning : ℕ → Spelling → Parsed
meaning size s = record {
  drive = s.drive;
  name = full_name s.name s.kind;
  password = kept_password s.password;
  password_length = length s.password;
  next = next_of size s.rest;
}

-- what a text means, where it is a file name
unfoldable pub parsed : List ℕ → Option Parsed
parsed text =
    let s = spelling text in
    if is_form s then Some (meaning (length text) s) else None
