-- A command with the date and the time at which it is sent: `MM/DD/YY HH:MM C COMMAND`. (MP/M II User's Guide, "SCHED"; the digit of
-- the console is this project's own.)
use Rattle.std.specs.Prelude.{◌≡◌, ◌<◌, ℕ, ◌+◌, ◌-◌, ◌*◌, ◌/◌, ◌%◌, Bool, true, ◌==◌, ◌&&◌, nat_le, nat_lt, if◌then◌else◌, List, [], ◌∷◌, ◌++◌, length, drop, slice_index, Option, Some, None}
use Rattle.std.specs.List.{AllPass}
use Rattle.mpm_base.specs.Lists.{in_width}
use Rattle.mpm_messages.specs.Texts.{text_in, is_space, without_front}
use Rattle.mpm_sched.specs.Dates.{year_of, is_date, date_number, date_of}
use Rattle.mpm_sched.specs.declared.entry.SchedEntry.{SchedEntry}

-- an entry as it is written, by its numbers
pub record Written : Type 0 where
  pub month : ℕ
  pub day : ℕ
  pub year : ℕ
  pub hour : ℕ
  pub minute : ℕ
  pub console : ℕ
  pub command : List ℕ

-- a number of two digits
abbrev pub two : ℕ → List ℕ
two n = (48 + n / 10) ∷ (48 + n % 10) ∷ []

-- parts are parted by one space, numbers of a date by `/`, and those of a time by `:`
abbrev pub spelled : Written → List ℕ
spelled w =
    two w.month ++ 47 ∷ (two w.day ++ 47 ∷ (two w.year ++ 32 ∷ (two w.hour ++ 58 ∷ (two w.minute ++ 32 ∷ (48 + w.console) ∷ 32 ∷ w.command))))

-- a text in the form: spaces or none, the entry as it is written, whose numbers have two digits each, of a console 0 to 7, and with a command
pub record HasEntryForm (text : List ℕ) (w : Written) : Type 0 where
  pub spaces : List ℕ
  pub parts : text ≡ spaces ++ spelled w
  pub before : AllPass is_space spaces
  pub month : w.month < 100
  pub day : w.day < 100
  pub year : w.year < 100
  pub hour : w.hour < 100
  pub minute : w.minute < 100
  pub console : w.console < 8
  pub some : 0 < length w.command

-- the day has a time
abbrev pub is_time : ℕ → ℕ → Bool
is_time hour minute = nat_lt hour 24 && nat_lt minute 60

-- the calendar has its day, and the day its time
abbrev pub is_moment : Written → Bool
is_moment w = is_date (year_of w.year) w.month w.day && is_time w.hour w.minute

-- the number of its day, if the calendar has it
abbrev pub date_written : Written → Option ℕ
date_written w = date_of (year_of w.year) w.month w.day

-- what it means: the date by its number, and the command with zeros after it
abbrev pub entry_of_parts : ℕ → ℕ → ℕ → Written → SchedEntry
entry_of_parts date hour minute w =
    record { date = date; hour = hour; minute = minute; console = w.console; length = length w.command; command = in_width 128 w.command }

abbrev pub meaning : Written → SchedEntry
meaning w = entry_of_parts (date_number (year_of w.year) w.month w.day) w.hour w.minute w

-- the same by places, as a text is read: two digits
abbrev pub is_digit : ℕ → Bool
is_digit byte = nat_le 48 byte && nat_le byte 57

abbrev pub has_two : List ℕ → ℕ → Bool
has_two text place = is_digit (slice_index text place) && is_digit (slice_index text (place + 1))

abbrev pub two_at : List ℕ → ℕ → ℕ
two_at text place = 10 * (slice_index text place - 48) + (slice_index text (place + 1) - 48)

-- all digits and marks are at their places, and after them stands a command
abbrev pub has_date : List ℕ → Bool
has_date text = has_two text 0 && (slice_index text 2 == 47 && (has_two text 3 && (slice_index text 5 == 47 && has_two text 6)))

abbrev pub has_time : List ℕ → Bool
has_time text = slice_index text 8 == 32 && (has_two text 9 && (slice_index text 11 == 58 && has_two text 12))

abbrev pub has_console : List ℕ → Bool
has_console text = slice_index text 14 == 32 && (nat_le 48 (slice_index text 15) && (nat_le (slice_index text 15) 55 && slice_index text 16 == 32))

abbrev pub is_form : List ℕ → Bool
is_form text = has_date text && (has_time text && (has_console text && nat_lt 17 (length text)))

abbrev pub written : List ℕ → Written
written text = record {
  month = two_at text 0;
  day = two_at text 3;
  year = two_at text 6;
  hour = two_at text 9;
  minute = two_at text 12;
  console = slice_index text 15 - 48;
  command = drop 17 text;
}

abbrev pub entry_in : List ℕ → Option SchedEntry
entry_in text = if is_form text && is_moment (written text) then Some (meaning (written text)) else None

unfoldable pub entry_of : List ℕ → Option SchedEntry
entry_of message = entry_in (without_front (text_in message))

-- parts of the message are in the form, at a moment that there is, and mean that entry
unfoldable pub SpellsEntry : List ℕ → SchedEntry → Type 0
SpellsEntry message entry = (w : Written) × HasEntryForm (text_in message) w × (is_moment w ≡ true) × (entry ≡ meaning w)

-- no parts of it are
unfoldable pub HasNoEntryForm : List ℕ → Type 0
HasNoEntryForm message = (w : Written) → HasEntryForm (text_in message) w → is_moment w ≡ true → ⊥
