-- What a line means that is typed at a terminal. (MP/M II User's Guide, "Terminal Message Processor"; Programmer's Guide,
-- "Function 150: Send CLI Command".)
use Rattle.std.specs.Prelude.{ℕ, ◌-◌, ◌<◌, Bool, ◌==◌, ◌&&◌, if◌then◌else◌, List, length, take, drop, map, slice_index, position, bytes_eq, codes, decimal, Option, Some, None}
use Rattle.std.specs.Char.{is_ascii_alphabetic, to_ascii_uppercase, to_ascii_lowercase}
use Rattle.std.specs.List.{range_with_len}
use Rattle.mpm_messages.specs.Texts.{text_in, without_front, stripped}
use Rattle.mpm_residents.specs.declared.tmp.line.LineForm.{LineForm}
use Rattle.mpm_residents.specs.declared.tmp.line.LineForm.TheVariants.{Empty, Drive, User, Command}

-- a letter in either case, and `:`
abbrev pub is_drive : List ℕ → Bool
is_drive text = length text == 2 && (is_ascii_alphabetic (slice_index text 0) && slice_index text 1 == 58)

-- the drive of a letter, 0 for A
abbrev pub drive_of : ℕ → ℕ
drive_of letter = to_ascii_uppercase letter - 65

-- the user whose decimal number some digits are, 0 to 15
unfoldable pub user_number : List ℕ → Option ℕ
user_number digits = position (λ user. bytes_eq (decimal user) digits) (range_with_len 0 16)

-- `USER` in either case and a space
abbrev pub begins_user : List ℕ → Bool
begins_user text = bytes_eq (map to_ascii_lowercase (take 5 text)) (codes "user ")

-- the user that a text asks for: `USER`, one space or more, and the user's number
unfoldable pub user_of : List ℕ → Option ℕ
user_of text = if begins_user text then user_number (without_front (drop 5 text)) else None

-- where a text names no user, it is a command
abbrev pub user_or_command : Option ℕ → LineForm
user_or_command None = Command
user_or_command (Some user) = User user

-- a line by what stands between the spaces around it
unfoldable pub text_form : List ℕ → LineForm
text_form text =
    if length text == 0 then Empty
    else if is_drive text then Drive (drive_of (slice_index text 0))
    else user_or_command (user_of text)

abbrev pub form_of : List ℕ → LineForm
form_of line = text_form (stripped line)

-- the drives of letters are 0 to 25, and users 0 to 15
abbrev pub IsForm : LineForm → Type 0
IsForm (Drive drive) = drive < 26
IsForm (User user) = user < 16
IsForm _ = Unit {0}

-- the text of a command, between the spaces around it
unfoldable pub command_text : List ℕ → List ℕ
command_text line = text_in (stripped line)
